-- The places of a group that ends: its record's keys have theirs from then on, or they are free again.
use Rattle.std.proofs.Common.{◌≡◌, ◌⊎◌, inl, inr, ⊎_elim, ℕ, suc, ◌+◌, ◌≤◌, ◌==◌, cond, Bool, true, false, List, [], ◌∷◌, length, Option, Some, None, Contains, refl, sym, ap, ◌∙◌, subst, arith}
use Rattle.sha2.specs.Sha256.{sha256}
use Rattle.std.specs.Prelude.{All}
use Rattle.std.specs.Option.{option_map}
use Rattle.std.proofs.lemmas.Bool.{true≢false}
use Rattle.std.proofs.lemmas.List.Elements.{Contains-append_left, Contains-append_right, Contains-append_cases, All-nil, All-append}
use Rattle.mp_base.specs.declared.place.Key.{Key}
use Rattle.mp_base.specs.declared.place.Place.{Place}
use Rattle.mp_base.specs.declared.place.Pointer.{Pointer}
use Rattle.vdev_tree.specs.declared.top.Top.{Top}
use Rattle.block_map.specs.Keys.{IsBefore}
use Rattle.block_map.specs.Map.{Map, pointer_at, is_free, is_pinned}
use Rattle.block_map.specs.Places.{IsPlace}
use Rattle.block_map.specs.Pointers.{written}
use Rattle.pool_codec.specs.Pointers.{sum_in, told}
use Rattle.txg_history.specs.Groups.{same_key}
use Rattle.txg_history.specs.Pages.{Sum, sum_of}
use Rattle.txg_history.specs.Records.{Cell}
use Rattle.txg_history.proofs.Listing.{one_key}
use Rattle.txg_engine.specs.declared.item.Item.{Item}
use Rattle.txg_engine.specs.Ending.{GivesBack, IsAdopted, IsPlaceOf, pins_after}
use Rattle.txg_engine.specs.Freezing.{IsSigned}
use Rattle.txg_engine.specs.Frozen.{FrozenGroup, KeysRise}
use Rattle.txg_engine.specs.Items.{cell_of, place_of, places_of}
use Rattle.txg_engine.specs.Pins.{PinsSeen}
use Rattle.txg_engine.specs.Writes.{OpenGroup}
use Rattle.txg_engine.proofs.Places.{cases_among, only_one, same_key_self, same_place}
use Rattle.pool_moves.specs.FreezeRow.{IsAtPlace, IsAtPinned}
use Rattle.pool_moves.specs.Moves.{sum_over}
use Rattle.pool_moves.specs.States.{Sums, sums}
use Rattle.open_pool.specs.Form.{HasPlaces, ArePlacesApart}
use Rattle.open_pool.specs.Parts.{PoolParts, all_parts}
use Rattle.open_pool.specs.State.{ArePinned, cells_of, sums_of}
use Rattle.open_pool.proofs.KeysDirty.{mapped, of_mapped}
use Rattle.open_pool.proofs.KeysFound.{found_item, laid_sums}
use Rattle.open_pool.proofs.TurnSteps.{going}
use Rattle.open_pool.proofs.PlacesGiven.{rises_to, keys_rise_on}

-- each item is found by its key
not_itself : (j k : Key) → IsBefore j k → same_key j k ≡ true → ⊥
not_itself j k (inl less) same = omega (arith, less, ap (λ (i : Key). i.level) (one_key j k same))
not_itself j k (inr less) same = omega (arith, less.1, ap (λ (i : Key). i.index) (one_key j k same))

pub item_found : (items : List Item) (item : Item) → KeysRise items → Contains items item → cells_of items item.key ≡ Some (cell_of item)
item_found [] item rise among = absurd (omega (arith, among.1))
item_found (first ∷ items) item rise among =
    ⊎_elim (λ one. here (sym (only_one first item one))) (λ more. there (item_found items item (keys_rise_on first items rise) more))
    (Contains-append_cases (first ∷ []) items item among)
  where
    here : first ≡ item → cells_of (first ∷ items) item.key ≡ Some (cell_of item)
    here same = ap (λ t. cond t (Some (cell_of first)) (cells_of items item.key)) (same_key_self first.key item.key (ap (λ (i : Item). i.key) same))
        ∙ ap (λ i. Some (cell_of i)) same

    by : (t : Bool) → same_key first.key item.key ≡ t → cells_of items item.key ≡ Some (cell_of item)
        → cond t (Some (cell_of first)) (cells_of items item.key) ≡ Some (cell_of item)
    by true same is = absurd (not_itself first.key item.key (rises_to items first rise item.key (cell_of item) is) same)
    by false other is = is

    there : cells_of items item.key ≡ Some (cell_of item) → cells_of (first ∷ items) item.key ≡ Some (cell_of item)
    there is = by (same_key first.key item.key) refl is

-- The places of a group's keys, as the state has them and as the code has.
one_more : (t : ℕ) → t + 1 ≡ suc t
one_more t = omega arith

unwrap : {A : Type 0} (x y : A) → Some x ≡ Some y → x ≡ y
unwrap x y same = cc

pub given_of : (items : List Item) (place : Place) → IsAtPlace (sums (cells_of items)) (suc place.top) place.sector
    → Contains (places_of items) place
given_of items place at = by (cells_of items at.k) refl
  where
    by : (o : Option Cell) → cells_of items at.k ≡ o → Contains (places_of items) place
    by None is = absurd (let no : None ≡ Some at.sum = ap sum_of (sym is) ∙ at.sum_is in cc)
    by (Some cell) is =
        let found = found_item items at.k cell is in
        let sum : sum_of (Some cell) ≡ Some at.sum = ap sum_of (sym is) ∙ at.sum_is in
        let tops : cell.top ≡ suc place.top = (let same : cell.top ≡ at.sum.top = cc in same ∙ at.top_is) in
        let sectors : cell.sector ≡ place.sector = (let same : cell.sector ≡ at.sum.sector = cc in same ∙ at.sector_is) in
        let top : found.item.pointer.place.top + 1 ≡ suc place.top = ap (λ (c : Cell). c.top) found.cell_is ∙ tops in
        subst (Contains (places_of items))
        (same_place (place_of found.item) place (omega (arith, top)) (ap (λ (c : Cell). c.sector) found.cell_is ∙ sectors))
        (mapped place_of items found.item found.among)

pub of_given : (items : List Item) (place : Place) → KeysRise items → Contains (places_of items) place
    → IsAtPlace (sums (cells_of items)) (suc place.top) place.sector
of_given items place rise among =
    let found = of_mapped place_of items place among in
    record {
      k = found.from.key;
      sum = record { birth = found.from.pointer.birth.0; top = found.from.pointer.place.top + 1; sector = found.from.pointer.place.sector; sum = sha256 found.from.block };
      sum_is = ap sum_of (item_found items found.from rise found.among);
      top_is = one_more found.from.pointer.place.top ∙ ap (λ (p : Place). suc p.top) (sym found.is);
      sector_is = ap (λ (p : Place). p.sector) (sym found.is);
    }

-- a written pointer is a sum
sum_written : (pointer : Pointer) → sum_in pointer ≡ option_map told (written pointer)
unfolding written
sum_written pointer = by (pointer.birth.0 == 0)
  where
    by : (t : Bool) → cond t None (Some (told pointer)) ≡ option_map told (cond t None (Some pointer))
    by true = refl
    by false = refl

-- an overwritten key's place is one of the record's
pub old_place : (m : Map) (items : List Item) (place : Place) → IsPlaceOf m items place → IsAtPlace (sums_of m) (suc place.top) place.sector
old_place m items place is = record {
  k = is.item.key;
  sum = told is.pointer;
  sum_is = sum_written (pointer_at m is.item.key) ∙ ap (option_map told) is.pointer_is;
  top_is = one_more is.pointer.place.top ∙ ap (λ (p : Place). suc p.top) is.is;
  sector_is = ap (λ (p : Place). p.sector) is.is;
}

-- and a key of the group whose old pointer has a place overwrites it
place_old : (m : Map) (items : List Item) (place : Place) (k : Key) (cell : Cell) (sum : Sum) → cells_of items k ≡ Some cell
    → sums_of m k ≡ Some sum → sum.top ≡ suc place.top → sum.sector ≡ place.sector → IsPlaceOf m items place
place_old m items place k cell sum is at top sector = by (written (pointer_at m k)) refl
  where
    by : (o : Option Pointer) → written (pointer_at m k) ≡ o → IsPlaceOf m items place
    by None none = absurd (let no : None ≡ Some sum = ap (option_map told) (sym none) ∙ sym (sum_written (pointer_at m k)) ∙ at in cc)
    by (Some pointer) some =
        let found = found_item items k cell is in
        let same : told pointer ≡ sum = unwrap (told pointer) sum
        (ap (option_map told) (sym some) ∙ sym (sum_written (pointer_at m k)) ∙ at) in
        let tops : pointer.place.top + 1 ≡ suc place.top = ap (λ (s : Sum). s.top) same ∙ top in
        record {
          item = found.item;
          among = found.among;
          pointer = pointer;
          pointer_is = ap (λ j. written (pointer_at m j)) found.key_is ∙ some;
          is = same_place pointer.place place (omega (arith, tops)) (ap (λ (s : Sum). s.sector) same ∙ sector);
        }

nowhere : (top sector : ℕ) → IsAtPlace (sums (λ k. None)) top sector → ⊥
nowhere top sector at = let no : None ≡ Some at.sum = at.sum_is in absurd (cc)

-- The pool behind an acknowledged round, and behind a suspended group.
abbrev pub acknowledged : PoolParts → FrozenGroup → Map → PinsSeen → List Top → PoolParts
acknowledged b group m pins trees = record b {
  highest = group.numbers.last.0;
  read = group.numbers.last.0;
  opened = true;
  map = m;
  pins = pins;
  tops = all_parts trees;
  frozen = None;
  dirty = length b.unfrozen.writes;
}

abbrev pub burned_pool : PoolParts → FrozenGroup → Map → PinsSeen → OpenGroup → List Top → PoolParts
burned_pool b group m pins writes trees = record b {
  highest = group.numbers.last.0;
  map = m;
  pins = pins;
  tops = all_parts trees;
  unfrozen = writes;
  frozen = None;
  dirty = length writes.writes;
}

module _ (b : PoolParts) (group : FrozenGroup) (trees : List Top) (has : HasPlaces (going b group trees))
    (apart : ArePlacesApart (going b group trees)) (rise : KeysRise group.items) (m : Map) (pins : PinsSeen) (new : List Top) where
  module _ (low : 1 ≤ group.numbers.first.0) (signed : All (IsSigned group.numbers.first.0) group.items)
      (adopted : IsAdopted group.items b.pins.places b.map m) (none : pins.places ≡ []) where
    -- the new record has the group's keys over those of the old one
    pub adopted_sums : (k : Key) → sums_of m k ≡ sum_over (cells_of group.items k) (sums_of b.map k)
    adopted_sums k = ap sum_in (adopted.keys k)
        ∙ laid_sums group.numbers.first.0 group.items (pointer_at b.map) k low signed rise

    of_cell : (k : Key) (cell : Cell) → cells_of group.items k ≡ Some cell → sums_of m k ≡ sum_of (Some cell)
    of_cell k cell is = adopted_sums k ∙ ap (λ o. sum_over o (sums_of b.map k)) is

    of_old : (k : Key) → cells_of group.items k ≡ None → sums_of m k ≡ sums_of b.map k
    of_old k is = adopted_sums k ∙ ap (λ o. sum_over o (sums_of b.map k)) is

    kept_free : (place : Place) → is_free b.map place ≡ false → (IsPlaceOf b.map group.items place → ⊥) → is_free m place ≡ false
    kept_free place taken not_old = adopted.others place not_old ∙ taken

    -- a key of the new record has its place there
    there : (k : Key) (o : Option Cell) → cells_of group.items k ≡ o → (sum : Sum) → sum_over o (sums_of b.map k) ≡ Some sum
        → (place : Place) → sum.top ≡ suc place.top → sum.sector ≡ place.sector → is_free m place ≡ false
    unfolding old_place
    there k None is sum at place top sector =
        kept_free place (has.committed place (record { k = k; sum = sum; sum_is = at; top_is = top; sector_is = sector })) (λ old.
        let place_is = old_place b.map group.items place old in
        let same : place_is.k ≡ k = apart.committed place_is.k k place_is.sum sum place_is.sum_is at
        (place_is.top_is ∙ sym top) (place_is.sector_is ∙ sym sector) in
        let some : cells_of group.items k ≡ Some (cell_of old.item) = subst (λ j. cells_of group.items j ≡ Some (cell_of old.item)) same
        (item_found group.items old.item rise old.among) in
        let no : None ≡ Some (cell_of old.item) = sym is ∙ some in absurd (cc))
    there k (Some cell) is sum at place top sector =
        let at_place : IsAtPlace (sums (cells_of group.items)) (suc place.top) place.sector =
        record { k = k; sum = sum; sum_is = ap sum_of is ∙ at; top_is = top; sector_is = sector } in
        kept_free place (has.frozen place at_place)
        (λ old. apart.between (suc place.top) place.sector (old_place b.map group.items place old) at_place)

    taken_by : (place : Place) → is_free m place ≡ false → (IsPlaceOf b.map group.items place → ⊥)
        → IsAtPlace (sums_of b.map) (suc place.top) place.sector → IsAtPlace (sums_of m) (suc place.top) place.sector
    taken_by place shut not_old at = by (cells_of group.items at.k) refl
      where
        by : (o : Option Cell) → cells_of group.items at.k ≡ o → IsAtPlace (sums_of m) (suc place.top) place.sector
        by None is = record { k = at.k; sum = at.sum; sum_is = of_old at.k is ∙ at.sum_is; top_is = at.top_is; sector_is = at.sector_is }
        by (Some cell) is = absurd (not_old (place_old b.map group.items place at.k cell at.sum is at.sum_is at.top_is at.sector_is))

    taken_there : (place : Place) → is_free m place ≡ false → IsAtPlace (sums (cells_of group.items)) (suc place.top) place.sector
        → IsAtPlace (sums_of m) (suc place.top) place.sector
    taken_there place shut at = by (cells_of group.items at.k) refl
      where
        by : (o : Option Cell) → cells_of group.items at.k ≡ o → IsAtPlace (sums_of m) (suc place.top) place.sector
        by None is = absurd (let no : None ≡ Some at.sum = ap sum_of (sym is) ∙ at.sum_is in cc)
        by (Some cell) is = record { k = at.k; sum = at.sum; sum_is = of_cell at.k cell is ∙ ap sum_of (sym is) ∙ at.sum_is; top_is = at.top_is; sector_is = at.sector_is }

    unpinned_all : (place : Place) → is_pinned m place ≡ true → ⊥
    unpinned_all place pin =
        let not_listed : Contains b.pins.places place → ⊥ = λ listed. true≢false (sym pin ∙ adopted.unpinned place listed) in
        not_listed (has.listed place (sym (adopted.pinned place not_listed) ∙ pin))

    pub adopted_places : HasPlaces (acknowledged b group m pins new)
    adopted_places = record {
      taken = λ place inside shut.
          let not_old : IsPlaceOf b.map group.items place → ⊥ = λ old. true≢false (sym (adopted.freed place old) ∙ shut) in
          inl (⊎_elim (taken_by place shut not_old) (taken_there place shut)
          (has.taken place (subst (λ s. IsPlace s place) adopted.volume.sectors inside) (sym (adopted.others place not_old) ∙ shut)));
      committed = λ place at. there at.k (cells_of group.items at.k) refl at.sum (sym (adopted_sums at.k) ∙ at.sum_is) place at.top_is at.sector_is;
      frozen = λ place at. absurd (nowhere (suc place.top) place.sector at);
      listed = λ place pin. absurd (unpinned_all place pin);
      inside = subst (λ l. All (IsPlace m.sectors) l) (sym none) (All-nil (IsPlace m.sectors));
    }

    pub adopted_pins : ArePinned [] (acknowledged b group m pins new)
    adopted_pins = record {
      pinned = λ place pin. absurd (unpinned_all place pin);
      held_places = λ place at. absurd at;
    }

    -- no two keys of it have one place
    apart_by : (j k : Key) (x y : Option Cell) → cells_of group.items j ≡ x → cells_of group.items k ≡ y → (a c : Sum)
        → sum_over x (sums_of b.map j) ≡ Some a → sum_over y (sums_of b.map k) ≡ Some c → a.top ≡ c.top → a.sector ≡ c.sector → j ≡ k
    apart_by j k None None is_j is_k a c at_j at_k top sector = apart.committed j k a c at_j at_k top sector
    apart_by j k None (Some y) is_j is_k a c at_j at_k top sector = absurd (apart.between a.top a.sector
        (record { k = j; sum = a; sum_is = at_j; top_is = refl; sector_is = refl })
        (record { k = k; sum = c; sum_is = ap sum_of is_k ∙ at_k; top_is = sym top; sector_is = sym sector }))
    apart_by j k (Some x) None is_j is_k a c at_j at_k top sector = absurd (apart.between c.top c.sector
        (record { k = k; sum = c; sum_is = at_k; top_is = refl; sector_is = refl })
        (record { k = j; sum = a; sum_is = ap sum_of is_j ∙ at_j; top_is = top; sector_is = sector }))
    apart_by j k (Some x) (Some y) is_j is_k a c at_j at_k top sector =
        let tops : x.top ≡ y.top = (let e : x.top ≡ a.top = cc in let f : y.top ≡ c.top = cc in e ∙ top ∙ sym f) in
        let sectors : x.sector ≡ y.sector = (let e : x.sector ≡ a.sector = cc in let f : y.sector ≡ c.sector = cc in e ∙ sector ∙ sym f) in
        apart.frozen j k x y is_j is_k (tops, sectors)

    pub adopted_apart : ArePlacesApart (acknowledged b group m pins new)
    adopted_apart = record {
      committed = λ j k a c at_j at_k top sector. apart_by j k (cells_of group.items j) (cells_of group.items k) refl refl a c
          (sym (adopted_sums j) ∙ at_j) (sym (adopted_sums k) ∙ at_k) top sector;
      frozen = λ j k x y is_j is_k at. absurd (let no : None ≡ Some x = is_j in cc);
      between = λ top sector at in_group. nowhere top sector in_group;
    }

  module _ (gives : GivesBack group.begun (places_of group.items) b.map m)
      (pins_are : pins.places ≡ pins_after group.begun (places_of group.items) b.pins.places)
      (places : All (IsPlace b.map.sectors) (places_of group.items)) (writes : OpenGroup) where
    same_sums : (k : Key) → sums_of m k ≡ sums_of b.map k
    same_sums k = ap sum_in (gives.keys k)

    at_same : (top sector : ℕ) → IsAtPlace (sums_of m) top sector → IsAtPlace (sums_of b.map) top sector
    at_same top sector at = record { k = at.k; sum = at.sum; sum_is = sym (same_sums at.k) ∙ at.sum_is; top_is = at.top_is; sector_is = at.sector_is }

    same_at : (top sector : ℕ) → IsAtPlace (sums_of b.map) top sector → IsAtPlace (sums_of m) top sector
    same_at top sector at = record { k = at.k; sum = at.sum; sum_is = same_sums at.k ∙ at.sum_is; top_is = at.top_is; sector_is = at.sector_is }

    listed_by : (begun : Bool) (place : Place) → GivesBack begun (places_of group.items) b.map m → is_pinned m place ≡ true
        → Contains (places_of group.items) place ⊎ (Contains (places_of group.items) place → ⊥)
        → Contains (pins_after begun (places_of group.items) b.pins.places) place
    listed_by true place back pin (inl given) = Contains-append_right b.pins.places (places_of group.items) place given
    listed_by true place back pin (inr other) = Contains-append_left b.pins.places (places_of group.items) place
        (has.listed place (sym (back.not_pinned place other) ∙ pin))
    listed_by false place back pin (inl given) = has.listed place (sym (back.pinned place given) ∙ pin)
    listed_by false place back pin (inr other) = has.listed place (sym (back.not_pinned place other) ∙ pin)

    inside_by : (begun : Bool) → All (IsPlace b.map.sectors) (pins_after begun (places_of group.items) b.pins.places)
    inside_by true = All-append (IsPlace b.map.sectors) b.pins.places (places_of group.items) has.inside places
    inside_by false = has.inside

    pub burned_places : HasPlaces (burned_pool b group m pins writes new)
    burned_places = record {
      taken = λ place inside shut.
          let other : Contains (places_of group.items) place → ⊥ = λ given. true≢false (sym (gives.given place given) ∙ shut) in
          inl (⊎_elim (same_at (suc place.top) place.sector) (λ at. absurd (other (given_of group.items place at)))
          (has.taken place (subst (λ s. IsPlace s place) gives.volume.sectors inside) (sym (gives.others place other) ∙ shut)));
      committed = λ place at.
          let was = at_same (suc place.top) place.sector at in
          gives.others place (λ given. apart.between (suc place.top) place.sector was (of_given group.items place rise given))
          ∙ has.committed place was;
      frozen = λ place at. absurd (nowhere (suc place.top) place.sector at);
      listed = λ place pin. subst (λ l. Contains l place) (sym pins_are)
          (listed_by group.begun place gives pin (cases_among (places_of group.items) place));
      inside = subst (All (IsPlace m.sectors)) (sym pins_are)
          (subst (λ s. All (IsPlace s) (pins_after group.begun (places_of group.items) b.pins.places)) (sym gives.volume.sectors) (inside_by group.begun));
    }

    pub burned_apart : ArePlacesApart (burned_pool b group m pins writes new)
    burned_apart = record {
      committed = λ j k a c at_j at_k top sector. apart.committed j k a c (sym (same_sums j) ∙ at_j) (sym (same_sums k) ∙ at_k) top sector;
      frozen = λ j k x y is_j is_k at. absurd (let no : None ≡ Some x = is_j in cc);
      between = λ top sector at in_group. nowhere top sector in_group;
    }

    -- the suspended group's places stay pinned where a round of it had begun
    pinned_by : (begun : Bool) (held : List Sums) (place : Place) → GivesBack begun (places_of group.items) b.map m
        → ArePinned held (going b group trees) → is_pinned m place ≡ true
        → Contains (places_of group.items) place ⊎ (Contains (places_of group.items) place → ⊥)
        → IsAtPinned (cond begun (sums (cells_of group.items) ∷ held) held) (suc place.top) place.sector
    pinned_by true held place back were pin (inl given) = inl (of_given group.items place rise given)
    pinned_by true held place back were pin (inr other) = inr (were.pinned place (sym (back.not_pinned place other) ∙ pin))
    pinned_by false held place back were pin (inl given) = were.pinned place (sym (back.pinned place given) ∙ pin)
    pinned_by false held place back were pin (inr other) = were.pinned place (sym (back.not_pinned place other) ∙ pin)

    held_was : (begun : Bool) (held : List Sums) (place : Place) → GivesBack begun (places_of group.items) b.map m
        → is_pinned b.map place ≡ true → Contains (places_of group.items) place ⊎ (Contains (places_of group.items) place → ⊥)
        → is_pinned m place ≡ true
    held_was true held place back was (inl given) = back.pinned place given
    held_was false held place back was (inl given) = back.pinned place given ∙ was
    held_was begun held place back was (inr other) = back.not_pinned place other ∙ was

    held_by : (begun : Bool) (held : List Sums) (place : Place) → GivesBack begun (places_of group.items) b.map m
        → ArePinned held (going b group trees)
        → IsAtPinned (cond begun (sums (cells_of group.items) ∷ held) held) (suc place.top) place.sector → is_pinned m place ≡ true
    held_by true held place back were (inl at) = back.pinned place (given_of group.items place at)
    held_by true held place back were (inr at) = held_was true held place back (were.held_places place at) (cases_among (places_of group.items) place)
    held_by false held place back were at = held_was false held place back (were.held_places place at) (cases_among (places_of group.items) place)

    pub burned_pins : (held : List Sums) → ArePinned held (going b group trees)
        → ArePinned (cond group.begun (sums (cells_of group.items) ∷ held) held) (burned_pool b group m pins writes new)
    burned_pins held were = record {
      pinned = λ place pin. pinned_by group.begun held place gives were pin (cases_among (places_of group.items) place);
      held_places = λ place at. held_by group.begun held place gives were at;
    }
