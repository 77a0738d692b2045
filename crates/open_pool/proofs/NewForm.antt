-- A new pool, before its first commit, has the form of an open one whose group is frozen.
use Rattle.std.proofs.Common.{true≢false, ◌≡◌, inl, ℕ, suc, ◌<◌, ◌≤◌, ◌||◌, ◌^◌, true, false, List, [], ◌∷◌, length, map, Some, None, refl, sym, ap, ◌∙◌, subst, arith, Contains}
use Rattle.std.specs.Prelude.{All, IsTrue, is_some, sum}
use Rattle.std.specs.List.{AllByRecursion}
use Rattle.std.proofs.lemmas.List.{length-map}
use Rattle.std.proofs.lemmas.List.Elements.{All-nil, All-from_recursion, recursion_from_All}
use Rattle.mp_base.specs.Block.{zeros}
use Rattle.mp_base.specs.Name.{is_name}
use Rattle.mp_base.specs.declared.number.Guid.{Guid}
use Rattle.mp_base.specs.declared.place.Key.{Key}
use Rattle.mp_base.specs.declared.place.Place.{Place}
use Rattle.mp_base.specs.declared.place.Pointer.{Pointer}
use Rattle.block_map.specs.Dirty.{pages_above, pages_from}
use Rattle.block_map.specs.Keys.{IsKey, root}
use Rattle.block_map.specs.Map.{IsEmpty, pointer_at, is_free}
use Rattle.block_map.specs.Places.{IsPlace}
use Rattle.block_map.specs.Pointers.{IsPointer}
use Rattle.block_map.proofs.PlaceNumbers.{is_place_of}
use Rattle.vdev_tree.specs.declared.top.Top.{Top}
use Rattle.vdev_tree.specs.declared.vdev.LeafVdev.{LeafVdev}
use Rattle.dtl_rules.specs.Widening.{leaves_of, sectors_of}
use Rattle.pool_codec.specs.Pointers.{sum_in}
use Rattle.pool_config.specs.Validity.{IsHole, IsValid, log_length}
use Rattle.pool_config.specs.Seen.{leaf_seen}
use Rattle.txg_engine.specs.declared.item.Item.{Item}
use Rattle.txg_engine.specs.declared.seat.Numbers.{Numbers}
use Rattle.txg_engine.specs.Boards.{has_seat, seats_of}
use Rattle.txg_engine.specs.Freezing.{IsSigned, dirty_keys}
use Rattle.txg_engine.specs.Frozen.{FrozenGroup}
use Rattle.txg_engine.specs.Items.{keys_of, places_of}
use Rattle.txg_engine.specs.Logs.{IsReady}
use Rattle.txg_engine.specs.declared.write.Write.{Write}
use Rattle.txg_engine.specs.Writes.{is_written}
use Rattle.txg_engine.proofs.TopsServed.{each_seated}
use Rattle.txg_history.specs.Pages.{sum_of}
use Rattle.txg_history.specs.Records.{key}
use Rattle.pool_moves.specs.FreezeRow.{IsAtPlace}
use Rattle.pool_moves.specs.Refusing.{count_below}
use Rattle.pool_moves.specs.StampRow.{NewMember, new_leaves, next_from}
use Rattle.pool_moves.specs.States.{sums}
use Rattle.open_pool.specs.Creating.{AreNewTops, IsAsked}
use Rattle.open_pool.specs.Form.{IsPool, HasBoard, HasGroup, HasLeaves, IsRecordable, all_leaves, config_of}
use Rattle.open_pool.specs.Freezing.{FreezeParts, FreezesParts, group_at}
use Rattle.open_pool.specs.Pages.{HaveOwnDevices}
use Rattle.open_pool.specs.Parts.{PoolParts, all_parts}
use Rattle.open_pool.specs.State.{cells_of, sums_of}
use Rattle.open_pool.proofs.BoardKept.{AreSameLeaves, board_frozen}
use Rattle.open_pool.proofs.CountsBelow.{none_pass}
use Rattle.open_pool.proofs.FreezeRefused.{idle_parts, sectors_are}
use Rattle.open_pool.proofs.FreezeSteps as freeze_steps
use Rattle.open_pool.proofs.FreezeSteps.{begun_parts}
use Rattle.open_pool.proofs.LeavesInForm.{leaves_are, leaves_numbered, on_leaves}
use Rattle.open_pool.proofs.LeavesKept.{AreKept, leaves_kept}
use Rattle.open_pool.proofs.LogsWidened.{IsWithin}
use Rattle.open_pool.proofs.NewLeavesMade as made
use Rattle.open_pool.proofs.NewRecord.{first_config, first_valid}
use Rattle.open_pool.proofs.NumbersApart.{AreNumbered}
use Rattle.open_pool.proofs.RecordStill.{valid_still}
use Rattle.open_pool.proofs.TreesBuilt.{built_sizes}
use Rattle.open_pool.proofs.TurnLeaves.{AreInForm}
use Rattle.open_pool.proofs.TurnSteps.{going}

-- The pool that a create begins, before its group is frozen.
abbrev pub new_parts : (name : List ℕ) (pool : Guid) (next : ℕ) → FreezeParts → PoolParts
new_parts name pool next parts = record {
  name = name;
  pool = pool;
  next = next;
  highest = 0;
  read = 0;
  opened = false;
  map = parts.map;
  pins = parts.pins;
  tops = all_parts parts.trees;
  spares = [];
  unfrozen = parts.unfrozen;
  frozen = None;
  scan = None;
  dirty = 0;
}

no_pages : dirty_keys [] ≡ []
unfolding pages_above pages_from
no_pages = refl

module _ (size : ℕ → ℕ) (name : List ℕ) (pool : Guid) (blocks : ℕ) (asked : List (List NewMember)) (old new : FreezeParts) (group : FrozenGroup)
    (is : IsAsked size blocks asked) (tops : AreNewTops size 1 asked old.trees) (empty_map : IsEmpty blocks (sectors_of old.trees) old.map)
    (unwritten : old.unfrozen.writes ≡ []) (unpinned : old.pins.places ≡ []) (f : FreezesParts (group_at 1) old new group)
    (named : IsTrue (is_name name)) (in_range : pool.0 < 2 ^ 64) where
  abbrev pub before : PoolParts
  before = new_parts name pool (next_from 1 asked) old

  leaves_made : made.AreLeavesOf (new_leaves asked) (leaves_of old.trees)
  leaves_made = made.trees_made size 1 1 asked old.trees tops

  there : all_leaves before ≡ leaves_of old.trees
  there = leaves_are old.trees before refl

  hole : IsHole (pointer_at old.map root)
  unfolding zeros
  hole = subst IsHole (sym (empty_map.keys root)) (record { birth = refl; top = refl; sector = refl; sum = refl })

  -- its first record, from the tops as they were before the freeze
  was_valid : IsValid (first_config name pool blocks (next_from 1 asked) (pointer_at old.map root) old.trees)
  was_valid = first_valid size name pool blocks asked old.trees (pointer_at old.map root) is tops named in_range hole

  recordable : IsRecordable (record before { highest = 1 })
  recordable = subst (λ n. IsValid (record (first_config name pool blocks (next_from 1 asked) (pointer_at old.map root) old.trees) { blocks = n }))
      (sym empty_map.volume) was_valid

  numbered : AreNumbered (all_leaves before)
  numbered = leaves_numbered old.trees (record before { highest = 1 }) refl recordable

  were : (n : ℕ) → HasLeaves (record before { highest = n })
  were n = record {
    within = subst (All (IsWithin n)) (sym there) (All-from_recursion (IsWithin n) (leaves_of old.trees)
        (made.within_all n (new_leaves asked) (leaves_of old.trees) leaves_made));
    apart = subst HaveOwnDevices (sym there) (made.devices_apart (new_leaves asked) (leaves_of old.trees) leaves_made is.is_new.apart);
    writable = subst (All made.IsWritable) (sym there) (All-from_recursion made.IsWritable (leaves_of old.trees)
        (made.writable_all (new_leaves asked) (leaves_of old.trees) leaves_made));
    settled = subst (All (made.IsUnsettled n)) (sym there) (All-from_recursion (made.IsUnsettled n) (leaves_of old.trees)
        (made.settled_none n (new_leaves asked) (leaves_of old.trees) leaves_made));
  }

  pub form : AreInForm (idle_parts before old)
  form = record {
    numbers = numbered;
    devices = (were 0).apart;
    within = recursion_from_All (IsWithin 0) (all_leaves before) (were 0).within;
    few = (let few = is.is_new.few_leaves in let many = made.as_many (new_leaves asked) (leaves_of old.trees) leaves_made in let all = ap length there in
        omega (arith, few, many, all));
    high = omega arith;
  }

  -- The group has no keys, and the map stays empty.
  no_keys : group.items ≡ []
  no_keys = by group.items (f.begins.freeze.keys ∙ ap dirty_keys unwritten)
    where
      by : (items : List Item) → keys_of items ≡ dirty_keys [] → items ≡ []
      by [] is = refl
      by (item ∷ items) is = absurd (let no = ap length (is ∙ no_pages) in omega (arith, no))

  pub itemless : group.items ≡ []
  itemless = no_keys

  abbrev pub flushed : FrozenGroup
  flushed = record group { flushed = true }

  abbrev pub begun : PoolParts
  begun = going (new_parts name pool (next_from 1 asked) new) flushed new.trees

  last_is : group.numbers.last.0 ≡ 1
  last_is = ap (λ (n : Numbers). n.last.0) f.begins.numbers

  first_is : group.numbers.first.0 ≡ 1
  first_is = ap (λ (n : Numbers). n.first.0) f.begins.numbers

  holes : (k : Key) → pointer_at new.map k ≡ pointer_at old.map k
  holes = f.begins.freeze.takes.keys

  no_sum : (k : Key) → sums_of new.map k ≡ None
  no_sum k = ap sum_in (holes k ∙ empty_map.keys k)

  no_cell : (k : Key) → cells_of group.items k ≡ None
  no_cell k = ap (λ items. cells_of items k) no_keys

  none_at : (top sector : ℕ) → IsAtPlace (sums_of new.map) top sector → ⊥
  none_at top sector at = absurd (let no : None ≡ Some at.sum = sym (no_sum at.k) ∙ at.sum_is in cc)

  none_given : (top sector : ℕ) → IsAtPlace (sums (cells_of group.items)) top sector → ⊥
  none_given top sector at = absurd (let no : None ≡ Some at.sum = sym (ap sum_of (no_cell at.k)) ∙ at.sum_is in cc)

  same : AreSameLeaves (leaves_of old.trees) (leaves_of new.trees)
  same = freeze_steps.same_leaves_then before old new group f form (omega arith)

  abbrev of_all : (R : List LeafVdev → List LeafVdev → Type 0) → R (leaves_of old.trees) (leaves_of new.trees)
      → R (all_leaves before) (all_leaves begun)
  of_all R holds = on_leaves R old.trees new.trees before begun refl refl holds

  none_taken : (place : Place) → Contains (places_of group.items) place → ⊥
  none_taken place among = absurd (let inside = among.1 in let none = ap length (ap places_of no_keys) in omega (arith, inside, none))

  unfree : (place : Place) → IsPlace new.map.sectors place → is_free new.map place ≡ false → ⊥
  unfree place inside shut =
      let sectors = f.begins.freeze.takes.volume.sectors ∙ empty_map.tops in
      true≢false (sym (f.begins.freeze.takes.others place (none_taken place) ∙ empty_map.free place
      ∙ is_place_of (sectors_of old.trees) place (subst (λ s. IsPlace s place) sectors inside)) ∙ shut)

  pub is_pool : IsPool begun
  is_pool = record {
    recordable = recordable_then;
    tops = f.begins.freeze.takes.volume.sectors ∙ empty_map.tops ∙ sym f.sectors ∙ sym (sectors_are new.trees);
    read = omega arith;
    births = λ k. subst (λ (p : Pointer). p.birth.0 ≤ 0) (sym (holes k ∙ empty_map.keys k)) (omega arith);
    places = record {
      taken = λ place inside shut. absurd (unfree place inside shut);
      committed = λ place at. absurd (none_at (suc place.top) place.sector at);
      frozen = λ place at. absurd (none_given (suc place.top) place.sector at);
      listed = λ place pin. absurd (true≢false (sym pin ∙ f.begins.freeze.takes.pinned place ∙ empty_map.pinned place));
      inside = subst (All (IsPlace new.map.sectors)) (sym (f.pins ∙ unpinned)) (All-nil (IsPlace new.map.sectors));
    };
    apart = record {
      committed = λ j k a b at_j at_k tops sectors. absurd (let no : None ≡ Some a = sym (no_sum j) ∙ at_j in cc);
      frozen = λ j k a b at_j at_k one. absurd (let no : None ≡ Some a = sym (no_cell j) ∙ at_j in cc);
      between = λ top sector at given. none_at top sector at;
    };
    leaves = leaves_kept (record before { highest = 1 }) begun (of_all AreSameLeaves same) (of_all AreKept kept) within_then (omega (arith, last_is)) (were 1);
    board = subst (λ seats. HasBoard seats begun) (sym f.begins.board)
        (board_frozen old.trees before begun refl (built_sizes old.trees new.trees f.built) (of_all AreSameLeaves same)
        (subst AreNumbered there numbered));
    group = group_then;
    unfrozen = record {
      inside = subst (All (λ write. write.addr < new.map.blocks)) (sym f.empty) (All-nil (λ (write : Write). write.addr < new.map.blocks));
      room = f.room;
      count = ap (λ writes. count_below new.map.blocks (λ x. is_written writes x || is_some (cells_of group.items (key 0 x)))) f.empty
          ∙ ap (λ items. count_below new.map.blocks (λ x. is_written [] x || is_some (cells_of items (key 0 x)))) no_keys
          ∙ none_pass new.map.blocks;
      few = omega arith;
    };
  }
    where
      kept : AreKept (leaves_of old.trees) (leaves_of new.trees)
      kept = freeze_steps.kept_then before old new group f form (omega arith)

      within_1 : AllByRecursion (IsWithin 1) (all_leaves begun)
      within_1 = freeze_steps.within_then before old new group f form (omega arith)

      within_then : AllByRecursion (IsWithin group.numbers.last.0) (all_leaves begun)
      within_then = subst (λ n. AllByRecursion (IsWithin n) (all_leaves begun)) (sym last_is) within_1

      few : sum (map log_length (map leaf_seen (leaves_of new.trees))) ≤ 4096
      few = freeze_steps.few_then before old new group f form (omega arith)

      recordable_then : IsRecordable begun
      recordable_then =
          let valid = valid_still old.trees new.trees f.built f.sectors same kept
          (first_config name pool blocks (next_from 1 asked) (pointer_at old.map root) old.trees) (group_at 1) (pointer_at old.map root) refl
          was_valid (omega arith) (omega arith) (subst (AllByRecursion (IsWithin 1)) (leaves_are new.trees begun refl) within_1) few (inl hole) in
          subst (λ n. IsValid (config_of begun (record { 0 = n }) (pointer_at new.map root))) (sym last_is)
          (subst (λ n. IsValid (record (config_of begun (group_at 1) (pointer_at new.map root)) { blocks = n }))
          (sym (f.begins.freeze.takes.volume.blocks ∙ empty_map.volume))
          (subst (λ p. IsValid (record (config_of begun (group_at 1) p) { blocks = blocks })) (sym (holes root)) valid))

      group_then : HasGroup begun flushed
      group_then =
          let b = f.begins in
          let t = b.freeze.takes in
          record {
            unacked = b.unacked;
            after = omega (arith, first_is);
            last = refl;
            keys = subst (λ n. All (λ item. IsKey n item.key) group.items) (sym t.volume.blocks) b.freeze.inside;
            pointers = subst (λ s. All (λ item. IsPointer s item.pointer) group.items) (sym t.volume.sectors) b.freeze.pointers;
            signed = subst (λ n. All (IsSigned n) group.items) (sym first_is) b.freeze.signed;
            ready = subst (λ n. All (IsReady group.board n) (all_leaves begun)) (sym last_is)
                (subst (All (IsReady group.board 1)) (sym (leaves_are new.trees begun refl)) f.ready);
            pins_room = f.pins_room;
            tops = λ top inside. subst (λ seats. has_seat top seats ≡ true) (sym b.board)
                (each_seated (length old.trees) (seats_of 0 old.trees) b.everywhere top
                (let same = ap length t.volume.sectors in let were = ap length empty_map.tops in
                let many = length-map old.trees (λ (tree : Top). tree.sectors) in omega (arith, inside, same, were, many)));
          }
