-- Behind a freeze the pool has its form.
use Rattle.std.proofs.Common.{◌≡◌, ◌⊎◌, inl, inr, ⊎_elim, ℕ, suc, ◌+◌, ◌<◌, ◌≤◌, ◌^◌, ◌||◌, ◌&&◌, not, cond, Bool, true, false, List, [], ◌∷◌, length, All, Contains, Option, Some, None, refl, sym, ap, ◌∙◌, subst, arith}
use Rattle.std.specs.Prelude.{is_some, sum}
use Rattle.std.specs.List.{AllByRecursion}
use Rattle.std.proofs.lemmas.List.{get_or-map, length-map}
use Rattle.std.proofs.lemmas.List.Elements.{All-nil, Contains-append_cases}
use Rattle.mp_base.specs.declared.place.Key.{Key}
use Rattle.mp_base.specs.declared.place.Place.{Place}
use Rattle.mp_base.specs.declared.place.Pointer.{Pointer}
use Rattle.sha2.specs.Sha256.{sha256}
use Rattle.block_map.specs.Keys.{IsKey, root}
use Rattle.block_map.specs.Map.{pointer_at, is_free, is_pinned}
use Rattle.block_map.specs.Places.{IsPlace}
use Rattle.block_map.specs.Pointers.{IsPointer}
use Rattle.pool_codec.specs.Pointers.{sum_in}
use Rattle.pool_config.specs.Validity.{IsValid}
use Rattle.vdev_tree.specs.declared.top.Top.{Top}
use Rattle.txg_engine.specs.declared.item.Item.{Item}
use Rattle.txg_engine.specs.declared.seat.Numbers.{Numbers}
use Rattle.txg_engine.specs.declared.write.Write.{Write}
use Rattle.txg_engine.specs.Boards.{has_seat, seats_of}
use Rattle.txg_engine.specs.Freezing.{IsSigned}
use Rattle.txg_engine.specs.Frozen.{FrozenGroup, KeysRise}
use Rattle.txg_engine.specs.Items.{cell_of, place_of, places_of}
use Rattle.txg_engine.specs.Logs.{IsReady}
use Rattle.txg_engine.specs.Writes.{is_written}
use Rattle.txg_engine.proofs.Places.{cases_among, only_one, same_key_self, same_place}
use Rattle.txg_history.specs.Pages.{Sum, sum_of}
use Rattle.txg_history.specs.Records.{Cell, key}
use Rattle.pool_moves.specs.FreezeRow.{IsAtPlace}
use Rattle.pool_moves.specs.Refusing.{count_below}
use Rattle.pool_moves.specs.States.{sums}
use Rattle.txg_engine.proofs.TopsServed.{each_seated}
use Rattle.open_pool.specs.Form.{IsPool, ArePlacesApart, HasPlaces, HasBoard, HasGroup, HasOpen, IsRecordable, all_leaves, config_of, is_dirty}
use Rattle.open_pool.specs.Freezing.{FreezeParts, FreezesParts, group_at}
use Rattle.open_pool.specs.Parts.{PoolParts}
use Rattle.open_pool.specs.State.{cells_of, sums_of}
use Rattle.open_pool.proofs.BoardKept.{AreSameLeaves, board_frozen}
use Rattle.open_pool.proofs.CountsBelow.{count_same}
use Rattle.open_pool.proofs.TurnSteps.{sectors_are}
use Rattle.open_pool.proofs.FreezeBegins.{begun_parts, form}
use Rattle.open_pool.proofs.FreezeSteps as freeze_steps
use Rattle.open_pool.proofs.TurnLeaves.{AreInForm}
use Rattle.open_pool.proofs.FreezeRefused.{idle_parts}
use Rattle.open_pool.proofs.GroupBlocks.{has_block}
use Rattle.open_pool.proofs.KeysFound.{found_item}
use Rattle.open_pool.proofs.LeavesInForm.{leaves_are, leaves_numbered, on_leaves}
use Rattle.open_pool.proofs.LeavesKept.{AreKept, leaves_kept}
use Rattle.open_pool.proofs.LogsWidened.{IsWithin}
use Rattle.open_pool.proofs.NumbersApart.{AreNumbered}
use Rattle.open_pool.proofs.PlacesGiven.{are_given, behind_first, cells_apart, differ, keys_rise_on, rises_to}
use Rattle.open_pool.proofs.RecordStill.{valid_still, placed_still}
use Rattle.open_pool.proofs.TreesBuilt.{built_sizes}

-- The places of the keys.
abbrev sum_seen : Item → Sum
sum_seen item = record {
  birth = item.pointer.birth.0;
  top = item.pointer.place.top + 1;
  sector = item.pointer.place.sector;
  sum = sha256 item.block;
}

unwrapped : (x y : Sum) → Some x ≡ Some y → x ≡ y
unwrapped x y same = cc

or_none : (b : Bool) → b ≡ (b || false)
or_none true = refl
or_none false = refl

mapped : (items : List Item) (item : Item) → Contains items item → Contains (places_of items) (place_of item)
mapped items item (k, lt, is) = (
  k,
  rw (length-map items place_of) lt,
  get_or-map place_of items k item (place_of item) lt ∙ ap place_of is,
)

at_behind : (item : Item) (items : List Item) → KeysRise (item ∷ items) → (top sector : ℕ) → IsAtPlace (sums (cells_of items)) top sector
    → IsAtPlace (sums (cells_of (item ∷ items))) top sector
at_behind item items rise top sector at = by (cells_of items at.k) refl at.sum_is
  where
    by : (o : Option Cell) → cells_of items at.k ≡ o → sum_of o ≡ Some at.sum → IsAtPlace (sums (cells_of (item ∷ items))) top sector
    by None is none = absurd (let no : None ≡ Some at.sum = none in cc)
    by (Some cell) is some = record {
      k = at.k;
      sum = at.sum;
      sum_is = ap sum_of (behind_first item items at.k cell (differ item.key at.k (rises_to items item rise at.k cell is)) is) ∙ some;
      top_is = at.top_is;
      sector_is = at.sector_is;
    }

at_place : (items : List Item) → KeysRise items → (place : Place) → Contains (places_of items) place
    → IsAtPlace (sums (cells_of items)) (suc place.top) place.sector
at_place [] rise place among = absurd (omega (arith, among.1))
at_place (item ∷ items) rise place among =
    ⊎_elim (λ one. subst (λ (p : Place). IsAtPlace (sums (cells_of (item ∷ items))) (suc p.top) p.sector) (sym (only_one (place_of item) place one)) here)
    (λ later. at_behind item items rise (suc place.top) place.sector (at_place items (keys_rise_on item items rise) place later))
    (Contains-append_cases (place_of item ∷ []) (places_of items) place among)
  where
    next : item.pointer.place.top + 1 ≡ suc item.pointer.place.top
    next = omega arith

    here : IsAtPlace (sums (cells_of (item ∷ items))) (suc item.pointer.place.top) item.pointer.place.sector
    here = record {
      k = item.key;
      sum = sum_seen item;
      sum_is = ap (λ b. sum_of (cond b (Some (cell_of item)) (cells_of items item.key))) (same_key_self item.key item.key refl);
      top_is = next;
      sector_is = refl;
    }

-- back: the place of a key is one of theirs
place_at : (items : List Item) (place : Place) → IsAtPlace (sums (cells_of items)) (suc place.top) place.sector
    → Contains (places_of items) place
place_at items place at = by (cells_of items at.k) refl at.sum_is
  where
    by : (o : Option Cell) → cells_of items at.k ≡ o → sum_of o ≡ Some at.sum → Contains (places_of items) place
    by None is none = absurd (let no : None ≡ Some at.sum = none in cc)
    by (Some cell) is some =
        let found = found_item items at.k cell is in
        let told : sum_seen found.item ≡ at.sum = unwrapped (sum_seen found.item) at.sum (ap (λ c. sum_of (Some c)) found.cell_is ∙ some) in
        let top : found.item.pointer.place.top + 1 ≡ suc place.top = ap (λ (s : Sum). s.top) told ∙ at.top_is in
        let sector : found.item.pointer.place.sector ≡ place.sector = ap (λ (s : Sum). s.sector) told ∙ at.sector_is in
        subst (Contains (places_of items)) (same_place found.item.pointer.place place (omega (arith, top)) sector)
        (mapped items found.item found.among)

abbrev top_of_sum : Option Sum → ℕ
top_of_sum None = 0
top_of_sum (Some sum) = sum.top

abbrev sector_of_sum : Option Sum → ℕ
sector_of_sum None = 0
sector_of_sum (Some sum) = sum.sector

module _ (r : PoolParts) (old new : FreezeParts) (group : FrozenGroup) (f : FreezesParts (group_at (r.highest + 1)) old new group)
    (pool : IsPool (idle_parts r old)) (more : r.highest + 1 ≤ 2 ^ 62) (keys : KeysRise group.items) where
  abbrev p : PoolParts
  p = idle_parts r old

  abbrev q : PoolParts
  q = begun_parts r new group

  abbrev shape : AreInForm p
  shape = form r old new group f pool more

  all_same : AreSameLeaves (all_leaves p) (all_leaves q)
  all_same = on_leaves AreSameLeaves old.trees new.trees p q refl refl (freeze_steps.same_leaves_then r old new group f shape more)

  free_or : (place : Place) → is_free old.map place ≡ false → is_free new.map place ≡ false
  free_or place shut = ⊎_elim (λ among. f.begins.freeze.takes.taken place among)
      (λ other. f.begins.freeze.takes.others place other ∙ shut) (cases_among (places_of group.items) place)

  shut_by : (place : Place) → IsPlace old.map.sectors place → is_free new.map place ≡ false
      → IsAtPlace (sums_of old.map) (suc place.top) place.sector ⊎ IsAtPlace (sums (cells_of group.items)) (suc place.top) place.sector
  shut_by place inside shut =
      ⊎_elim (λ among. inr (at_place group.items keys place among))
      (λ other. ⊎_elim (λ at. inl at) (λ at. absurd (let no : None ≡ Some at.sum = at.sum_is in cc))
      (pool.places.taken place inside (sym (f.begins.freeze.takes.others place other) ∙ shut)))
      (cases_among (places_of group.items) place)

  same_sums : (k : Key) → sums_of new.map k ≡ sums_of old.map k
  same_sums k = ap sum_in (f.begins.freeze.takes.keys k)

  at_new : (top sector : ℕ) → IsAtPlace (sums_of old.map) top sector → IsAtPlace (sums_of new.map) top sector
  at_new top sector at = record { k = at.k; sum = at.sum; sum_is = same_sums at.k ∙ at.sum_is; top_is = at.top_is; sector_is = at.sector_is }

  at_old : (top sector : ℕ) → IsAtPlace (sums_of new.map) top sector → IsAtPlace (sums_of old.map) top sector
  at_old top sector at = record { k = at.k; sum = at.sum; sum_is = sym (same_sums at.k) ∙ at.sum_is; top_is = at.top_is; sector_is = at.sector_is }

  places_then : HasPlaces q
  places_then =
      let t = f.begins.freeze.takes in
      let sectors = t.volume.sectors in
      record {
        taken = λ place inside shut. ⊎_elim (λ at. inl (at_new (suc place.top) place.sector at)) (λ at. inr at)
            (shut_by place (subst (λ s. IsPlace s place) sectors inside) shut);
        committed = λ place at. free_or place (pool.places.committed place (at_old (suc place.top) place.sector at));
        frozen = λ place at. t.taken place (place_at group.items place at);
        listed = λ place is. subst (λ ps. Contains ps place) (sym f.pins) (pool.places.listed place (sym (t.pinned place) ∙ is));
        inside = subst (λ ps. All (IsPlace new.map.sectors) ps) (sym f.pins)
            (subst (λ s. All (IsPlace s) old.pins.places) (sym sectors) pool.places.inside);
      }

  not_given : (top sector : ℕ) → IsAtPlace (sums_of old.map) top sector → IsAtPlace (sums (cells_of group.items)) top sector → ⊥
  not_given top sector was given = one (cells_of group.items given.k) refl given.sum_is
    where
      one : (o : Option Cell) → cells_of group.items given.k ≡ o → sum_of o ≡ Some given.sum → ⊥
      one None is e = absurd (let no : None ≡ Some given.sum = e in cc)
      one (Some cell) is e =
          let g = are_given old.map [] group.items f.begins.freeze.places given.k cell is in
          let tops : suc g.place.top ≡ top = sym g.top_is ∙ ap top_of_sum e ∙ given.top_is in
          let sectors : g.place.sector ≡ sector = sym g.sector_is ∙ ap sector_of_sum e ∙ given.sector_is in
          let shut = pool.places.committed g.place
          (subst (λ t. IsAtPlace (sums_of old.map) t g.place.sector) (sym tops) (subst (IsAtPlace (sums_of old.map) top) (sym sectors) was)) in
          absurd (let no : false ≡ true = subst (λ (b : Bool). (b && not (is_pinned old.map g.place)) ≡ true) shut g.passes in cc)

  apart_then : ArePlacesApart q
  apart_then = record {
    committed = λ j k a b is_a is_b. pool.apart.committed j k a b (sym (same_sums j) ∙ is_a) (sym (same_sums k) ∙ is_b);
    frozen = cells_apart old.map [] group.items f.begins.freeze.places;
    between = λ top sector was given. not_given top sector (at_old top sector was) given;
  }

  group_then : HasGroup q group
  group_then =
      let b = f.begins in
      let t = b.freeze.takes in
      let first : group.numbers.first.0 ≡ r.highest + 1 = ap (λ (n : Numbers). n.first.0) b.numbers in
      let last : group.numbers.last.0 ≡ r.highest + 1 = ap (λ (n : Numbers). n.last.0) b.numbers in
      record {
        unacked = b.unacked;
        after = (let read = pool.read in omega (arith, read, first));
        last = last;
        keys = subst (λ n. All (λ item. IsKey n item.key) group.items) (sym t.volume.blocks) b.freeze.inside;
        pointers = subst (λ s. All (λ item. IsPointer s item.pointer) group.items) (sym t.volume.sectors) b.freeze.pointers;
        signed = subst (λ n. All (IsSigned n) group.items) (sym first) b.freeze.signed;
        ready = subst (λ n. All (IsReady group.board n) (all_leaves q)) (sym last)
            (subst (All (IsReady group.board (r.highest + 1))) (sym (leaves_are new.trees q refl)) f.ready);
        pins_room = f.pins_room;
        tops = λ top inside. subst (λ seats. has_seat top seats ≡ true) (sym b.board) (each_seated (length old.trees) (seats_of 0 old.trees) b.everywhere top
            (let same = ap length t.volume.sectors in let tops = ap length pool.tops in let trees = ap length (sectors_are old.trees) in
            let many = length-map old.trees (λ (tree : Top). tree.sectors) in omega (arith, inside, same, tops, trees, many)));
      }

  dirty_still : (x : ℕ) → is_dirty q x ≡ is_dirty p x
  dirty_still x =
      ap (λ ws. is_written ws x || is_some (cells_of group.items (key 0 x))) f.empty
      ∙ has_block group.items x ∙ ap is_some (f.begins.freeze.blocks x) ∙ or_none (is_written old.unfrozen.writes x)

  open_then : HasOpen q
  open_then = record {
    inside = subst (All (λ write. write.addr < new.map.blocks)) (sym f.empty) (All-nil (λ (write : Write). write.addr < new.map.blocks));
    room = f.room;
    count = ap (λ n. count_below n (is_dirty q)) f.begins.freeze.takes.volume.blocks
        ∙ count_same old.map.blocks (is_dirty q) (is_dirty p) (λ x lt. dirty_still x) ∙ pool.unfrozen.count;
    few = pool.unfrozen.few;
  }

  recordable_then : IsRecordable q
  recordable_then =
      let same = freeze_steps.same_leaves_then r old new group f shape more in
      let c = config_of p (record { 0 = r.highest }) (pointer_at old.map root) in
      let valid = valid_still old.trees new.trees f.built f.sectors same (freeze_steps.kept_then r old new group f shape more) c (group_at (r.highest + 1)) (pointer_at old.map root) refl
      pool.recordable (omega arith) more
      (subst (AllByRecursion (IsWithin (r.highest + 1))) (leaves_are new.trees q refl) (freeze_steps.within_then r old new group f shape more)) (freeze_steps.few_then r old new group f shape more)
      (placed_still old.trees new.trees (record { 0 = r.highest }) (group_at (r.highest + 1)) (pointer_at old.map root) f.sectors (omega arith)
      pool.recordable.root) in
      subst (λ blocks. IsValid (record (config_of q (group_at (r.highest + 1)) (pointer_at new.map root)) { blocks = blocks }))
      (sym f.begins.freeze.takes.volume.blocks)
      (subst (λ pointer. IsValid (record (config_of q (group_at (r.highest + 1)) pointer) { blocks = old.map.blocks }))
      (sym (f.begins.freeze.takes.keys root)) valid)

  board_then : HasBoard group.board q
  board_then = subst (λ seats. HasBoard seats q) (sym f.begins.board)
      (board_frozen old.trees p q refl (built_sizes old.trees new.trees f.built) all_same
      (subst AreNumbered (leaves_are old.trees p refl) (leaves_numbered old.trees p refl pool.recordable)))

  pub pool_then : IsPool q
  pool_then = record {
    recordable = recordable_then;
    tops = f.begins.freeze.takes.volume.sectors ∙ pool.tops ∙ freeze_steps.sectors_same r old new group f shape more;
    read = (let read = pool.read in omega (arith, read));
    births = λ k. subst (λ (pointer : Pointer). pointer.birth.0 ≤ r.read) (sym (f.begins.freeze.takes.keys k)) (pool.births k);
    places = places_then;
    apart = apart_then;
    leaves = leaves_kept p q all_same (on_leaves AreKept old.trees new.trees p q refl refl (freeze_steps.kept_then r old new group f shape more)) (freeze_steps.within_then r old new group f shape more) (omega arith) pool.leaves;
    board = board_then;
    group = group_then;
    unfrozen = open_then;
  }
