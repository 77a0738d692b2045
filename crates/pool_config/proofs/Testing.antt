-- The test of validity tells what is valid.
use Rattle.std.proofs.Common.{◌≡◌, ◌≢◌, ◌⊎◌, inl, inr, ℕ, zero, suc, ◌+◌, ◌-◌, ◌^◌, ◌<◌, ◌≤◌, Bool, true, false, not}
use Rattle.std.proofs.Common.{◌||◌, List, [], ◌∷◌, map, length, refl, sym, ap, ◌∙◌, arith, Option, Some, None, All}
use Rattle.std.proofs.Common.{AllPairs}
use Rattle.std.specs.Prelude.{nat_le, nat_lt, ◌==◌, slice_get, sum}
use Rattle.std.specs.List.{list_all, list_any, flat_map}
use Rattle.std.specs.Str.{bytes_eq}
use Rattle.std.proofs.lemmas.Bool.{leb-true, ltb-true, eqb-true, le-leb, lt-ltb, eq-eqb, and_parts, and_from, not-true}
use Rattle.std.proofs.lemmas.Bool.{not_from_false, true≢false, false≢true, false_from_ne_true}
use Rattle.std.proofs.lemmas.Slice.Eq.{bytes_eq-Decides}
use Rattle.std.proofs.lemmas.List.{length-map}
use Rattle.std.proofs.lemmas.List.Folds.{list_all-append}
use Rattle.std.proofs.lemmas.List.Elements.{All-nil, All-cons, All-head, All-tail}
use Rattle.mp_base.specs.Block.{zeros}
use Rattle.mp_base.specs.Name.{is_name}
use Rattle.mp_base.specs.Ranges.{Rises}
use Rattle.mp_base.specs.declared.number.Group.{Group}
use Rattle.mp_base.specs.declared.place.Pointer.{Pointer}
use Rattle.mp_base.specs.declared.range.GroupRange.{GroupRange}
use Rattle.group_set.proofs.Among.{or_cases, or_true, or_true_right}
use Rattle.pool_config.specs.Flags.{is_recorded}
use Rattle.pool_config.specs.Seen.{LeafSeen, VdevSeen, leaf_vdev, inner_vdev, TopSeen, ConfigSeen, all_vdevs, top_vdevs}
use Rattle.pool_config.specs.Seen.{leaves_among, number_of_vdev, leaf_name}
use Rattle.pool_config.specs.Trees.{is_tree}
use Rattle.pool_config.specs.Validity.{IsIn, IsHole, IsPlaced, IsDrawn, IsLeaf, IsTop, IsValid, log_length, is_in}
use Rattle.pool_config.specs.Validity.{rises, all_differ, is_leaf_of, is_vdev_of, is_top_of, are_parts, is_hole}
use Rattle.pool_config.specs.Validity.{has_sector, is_placed, are_sized, is_drawn, are_drawn, are_devices, are_bounds}
use Rattle.pool_config.specs.Validity.{is_root, are_together, is_whole, is_valid}

-- ---- lists

all_from : {X : Type 0} (p : X → Bool) (P : X → Type 0) → ((x : X) → p x ≡ true → P x) → (xs : List X)
    → list_all p xs ≡ true → All P xs
all_from p P from [] t = All-nil P
all_from p P from (x ∷ xs) t =
    let both = and_parts (p x) _ t in
    All-cons P x xs (from x both.0) (all_from p P from xs both.1)

all_test : {X : Type 0} (p : X → Bool) (P : X → Type 0) → ((x : X) → P x → p x ≡ true) → (xs : List X) → All P xs
    → list_all p xs ≡ true
all_test p P test [] all = refl
all_test p P test (x ∷ xs) all =
    and_from (p x) _ (test x (All-head P x xs all)) (all_test p P test xs (All-tail P x xs all))

pairs_cons : {X : Type 0} (R : X → X → Type 0) (x : X) (xs : List X) → All (R x) xs → AllPairs R xs
    → AllPairs R (x ∷ xs)
pairs_cons R x xs first rest zero zero d lt within = absurd (omega arith)
pairs_cons R x xs first rest zero (suc j) d lt within = first j d (omega arith)
pairs_cons R x xs first rest (suc i) zero d lt within = absurd (omega arith)
pairs_cons R x xs first rest (suc i) (suc j) d lt within = rest i j d (omega arith) (omega arith)

pairs_head : {X : Type 0} (R : X → X → Type 0) (x : X) (xs : List X) → AllPairs R (x ∷ xs) → All (R x) xs
pairs_head R x xs all k d lt = all zero (suc k) d (omega arith) (omega arith)

pairs_tail : {X : Type 0} (R : X → X → Type 0) (x : X) (xs : List X) → AllPairs R (x ∷ xs) → AllPairs R xs
pairs_tail R x xs all i j d lt within = all (suc i) (suc j) d (omega arith) (omega arith)

-- a test that tells whether two are equal
record Tells {X : Type 0} (eq : X → X → Bool) : Type 0 where
  same : (a b : X) → a ≡ b → eq a b ≡ true
  is : (a b : X) → eq a b ≡ true → a ≡ b

not_or : (a b : Bool) → not (a || b) ≡ true → (not a ≡ true) × (not b ≡ true)
not_or true b t = absurd (false≢true t)
not_or false b t = (refl, t)

or_not : (a b : Bool) → not a ≡ true → not b ≡ true → not (a || b) ≡ true
or_not true b t u = absurd (false≢true t)
or_not false b t u = u

none_from : {X : Type 0} (eq : X → X → Bool) → Tells eq → (x : X) (xs : List X) → not (list_any (λ y. eq x y) xs) ≡ true
    → All (λ y. x ≢ y) xs
none_from eq tells x [] t = All-nil (λ y. x ≢ y)
none_from eq tells x (y ∷ xs) t =
    let both = not_or (eq x y) _ t in
    All-cons (λ y. x ≢ y) y xs (λ e. true≢false (sym (tells.same x y e) ∙ not-true (eq x y) both.0))
    (none_from eq tells x xs both.1)

none_test : {X : Type 0} (eq : X → X → Bool) → Tells eq → (x : X) (xs : List X) → All (λ y. x ≢ y) xs
    → not (list_any (λ y. eq x y) xs) ≡ true
none_test eq tells x [] all = refl
none_test eq tells x (y ∷ xs) all =
    or_not (eq x y) _ (not_from_false (eq x y)
    (false_from_ne_true (eq x y) (λ t. All-head (λ z. x ≢ z) y xs all (tells.is x y t))))
    (none_test eq tells x xs (All-tail (λ z. x ≢ z) y xs all))

differ_from : {X : Type 0} (eq : X → X → Bool) → Tells eq → (xs : List X) → all_differ eq xs ≡ true
    → AllPairs (λ a b. a ≢ b) xs
differ_from eq tells [] t = λ i j d lt within. absurd (omega arith)
differ_from eq tells (x ∷ xs) t =
    let both = and_parts (not (list_any (λ y. eq x y) xs)) _ t in
    pairs_cons (λ a b. a ≢ b) x xs (none_from eq tells x xs both.0) (differ_from eq tells xs both.1)

differ_test : {X : Type 0} (eq : X → X → Bool) → Tells eq → (xs : List X) → AllPairs (λ a b. a ≢ b) xs
    → all_differ eq xs ≡ true
differ_test eq tells [] all = refl
differ_test eq tells (x ∷ xs) all =
    and_from (not (list_any (λ y. eq x y) xs)) _ (none_test eq tells x xs (pairs_head (λ a b. a ≢ b) x xs all))
    (differ_test eq tells xs (pairs_tail (λ a b. a ≢ b) x xs all))

numbers_tell : Tells (λ a b. a == b)
numbers_tell = record { same = λ a b e. eq-eqb a b e; is = λ a b t. eqb-true a b t }

names_tell : Tells bytes_eq
names_tell = record { same = λ a b e. (bytes_eq-Decides a b).1 e; is = λ a b t. (bytes_eq-Decides a b).0 t }

-- ---- parts

in_from : (least most n : ℕ) → is_in least most n ≡ true → IsIn least most n
in_from least most n t =
    let p = and_parts (nat_le least n) (nat_le n most) t in
    (leb-true least n p.0, leb-true n most p.1)

in_test : (least most n : ℕ) → IsIn least most n → is_in least most n ≡ true
in_test least most n i = and_from (nat_le least n) (nat_le n most) (le-leb least n i.0) (le-leb n most i.1)

drawn_from : (next m : ℕ) → is_drawn next m ≡ true → IsDrawn next m
drawn_from next m t =
    let p = and_parts (nat_le 1 m) (nat_lt m next) t in
    (leb-true 1 m p.0, ltb-true m next p.1)

drawn_test : (next m : ℕ) → IsDrawn next m → is_drawn next m ≡ true
drawn_test next m i = and_from (nat_le 1 m) (nat_lt m next) (le-leb 1 m i.0) (lt-ltb m next i.1)

pub rises_from : (least most : ℕ) (ranges : List GroupRange) → rises least most ranges ≡ true → Rises least most ranges
rises_from least most [] t = tt
rises_from least most (r ∷ ranges) t =
    let low = and_parts (nat_le least r.low.0) _ t in
    let some = and_parts (nat_le r.low.0 r.high.0) _ low.1 in
    let high = and_parts (nat_le r.high.0 most) _ some.1 in
    (leb-true _ _ low.0, leb-true _ _ some.0, leb-true _ _ high.0, rises_from (r.high.0 + 2) most ranges high.1)

rises_test : (least most : ℕ) (ranges : List GroupRange) → Rises least most ranges → rises least most ranges ≡ true
rises_test least most [] rise = refl
rises_test least most (r ∷ ranges) rise =
    and_from (nat_le least r.low.0) _ (le-leb _ _ rise.0)
    (and_from (nat_le r.low.0 r.high.0) _ (le-leb _ _ rise.1)
    (and_from (nat_le r.high.0 most) _ (le-leb _ _ rise.2) (rises_test (r.high.0 + 2) most ranges rise.3)))

leaf_from : (number : Group) (leaf : LeafSeen) → is_leaf_of number leaf ≡ true → IsLeaf number leaf
leaf_from number leaf t =
    let name = and_parts (is_name leaf.name) _ t in
    let state = and_parts (is_recorded leaf.state) _ name.1 in
    let few = and_parts (nat_le (length leaf.log) 4096) _ state.1 in
    record { name = name.0; state = state.0; few = leb-true _ _ few.0; log = rises_from 1 number.0 leaf.log few.1 }

leaf_test : (number : Group) (leaf : LeafSeen) → IsLeaf number leaf → is_leaf_of number leaf ≡ true
leaf_test number leaf is =
    and_from (is_name leaf.name) _ is.name (and_from (is_recorded leaf.state) _ is.state
    (and_from (nat_le (length leaf.log) 4096) _ (le-leb _ _ is.few) (rises_test 1 number.0 leaf.log is.log)))

leaves_from : (number : Group) (vdevs : List VdevSeen) → list_all (is_vdev_of number) vdevs ≡ true
    → All (IsLeaf number) (leaves_among vdevs)
unfolding leaves_among
leaves_from number [] t = All-nil (IsLeaf number)
leaves_from number (leaf_vdev leaf ∷ vdevs) t =
    let both = and_parts (is_leaf_of number leaf) _ t in
    All-cons (IsLeaf number) leaf (leaves_among vdevs) (leaf_from number leaf both.0) (leaves_from number vdevs both.1)
leaves_from number (inner_vdev guid kind count ∷ vdevs) t = leaves_from number vdevs t

leaves_test : (number : Group) (vdevs : List VdevSeen) → All (IsLeaf number) (leaves_among vdevs)
    → list_all (is_vdev_of number) vdevs ≡ true
unfolding leaves_among
leaves_test number [] all = refl
leaves_test number (leaf_vdev leaf ∷ vdevs) all =
    and_from (is_leaf_of number leaf) _ (leaf_test number leaf (All-head (IsLeaf number) leaf (leaves_among vdevs) all))
    (leaves_test number vdevs (All-tail (IsLeaf number) leaf (leaves_among vdevs) all))
leaves_test number (inner_vdev guid kind count ∷ vdevs) all = leaves_test number vdevs all

vdevs_from : (number : Group) (tops : List TopSeen) → list_all (is_top_of number) tops ≡ true
    → list_all (is_vdev_of number) (flat_map top_vdevs tops) ≡ true
vdevs_from number [] t = refl
vdevs_from number (top ∷ tops) t =
    let both = and_parts (is_top_of number top) _ t in
    list_all-append (is_vdev_of number) top.vdevs (flat_map top_vdevs tops)
    ∙ and_from (list_all (is_vdev_of number) top.vdevs) _ (and_parts (is_tree top.vdevs) _ both.0).1
    (vdevs_from number tops both.1)

tops_from : (number : Group) (tops : List TopSeen) → list_all (is_top_of number) tops ≡ true
    → list_all (λ top. is_in 64 1048320 top.sectors) tops ≡ true → All IsTop tops
tops_from number [] t u = All-nil IsTop
tops_from number (top ∷ tops) t u =
    let one = and_parts (is_top_of number top) _ t in
    let size = and_parts (is_in 64 1048320 top.sectors) _ u in
    All-cons IsTop top tops (record {
      sectors = in_from 64 1048320 top.sectors size.0;
      tree = (and_parts (is_tree top.vdevs) _ one.0).0;
    }) (tops_from number tops one.1 size.1)

tops_test : (number : Group) (tops : List TopSeen) → All IsTop tops
    → list_all (is_vdev_of number) (flat_map top_vdevs tops) ≡ true → list_all (is_top_of number) tops ≡ true
tops_test number [] all t = refl
tops_test number (top ∷ tops) all t =
    let both = and_parts (list_all (is_vdev_of number) top.vdevs) _
    (sym (list_all-append (is_vdev_of number) top.vdevs (flat_map top_vdevs tops)) ∙ t) in
    and_from (is_top_of number top) _ (and_from (is_tree top.vdevs) _ (All-head IsTop top tops all).tree both.0)
    (tops_test number tops (All-tail IsTop top tops all) both.1)

-- ---- the root pointer

hole_from : (p : Pointer) → is_hole p ≡ true → IsHole p
hole_from p t =
    let birth = and_parts (p.birth.0 == 0) _ t in
    let top = and_parts (p.place.top == 0) _ birth.1 in
    let sector = and_parts (p.place.sector == 0) _ top.1 in
    record {
      birth = eqb-true _ _ birth.0;
      top = eqb-true _ _ top.0;
      sector = eqb-true _ _ sector.0;
      sum = (bytes_eq-Decides p.sum (zeros 32)).0 sector.1;
    }

hole_test : (p : Pointer) → IsHole p → is_hole p ≡ true
hole_test p is =
    and_from (p.birth.0 == 0) _ (eq-eqb _ _ is.birth) (and_from (p.place.top == 0) _ (eq-eqb _ _ is.top)
    (and_from (p.place.sector == 0) _ (eq-eqb _ _ is.sector) ((bytes_eq-Decides p.sum (zeros 32)).1 is.sum)))

sector_from : (o : Option TopSeen) (sector : ℕ) → has_sector o sector ≡ true
    → (top : TopSeen) × (o ≡ Some top) × (sector < top.sectors)
sector_from None sector t = absurd (false≢true t)
sector_from (Some top) sector t = (top, refl, ltb-true _ _ t)

placed_from : (number : Group) (tops : List TopSeen) (p : Pointer) → is_placed number tops p ≡ true
    → IsPlaced number tops p
placed_from number tops p t =
    let birth = and_parts (is_in 1 number.0 p.birth.0) _ t in
    let place = and_parts (has_sector (slice_get tops p.place.top) p.place.sector) _ birth.1 in
    record {
      birth = in_from 1 number.0 p.birth.0 birth.0;
      place = sector_from (slice_get tops p.place.top) p.place.sector place.0;
      sum = eqb-true _ _ place.1;
    }

placed_test : (number : Group) (tops : List TopSeen) (p : Pointer) → IsPlaced number tops p
    → is_placed number tops p ≡ true
placed_test number tops p is =
    and_from (is_in 1 number.0 p.birth.0) _ (in_test 1 number.0 p.birth.0 is.birth)
    (and_from (has_sector (slice_get tops p.place.top) p.place.sector) _
    (ap (λ o. has_sector o p.place.sector) is.place.1 ∙ lt-ltb _ _ is.place.2) (eq-eqb _ _ is.sum))

root_from : (number : Group) (tops : List TopSeen) (p : Pointer) → (is_hole p || is_placed number tops p) ≡ true
    → IsHole p ⊎ IsPlaced number tops p
root_from number tops p t = elim (or_cases (is_hole p) (is_placed number tops p) t) [
  | inl hole ↦ inl (hole_from p hole)
  | inr placed ↦ inr (placed_from number tops p placed)
]

root_test : (number : Group) (tops : List TopSeen) (p : Pointer) → IsHole p ⊎ IsPlaced number tops p
    → (is_hole p || is_placed number tops p) ≡ true
root_test number tops p is = elim is [
  | inl hole ↦ or_true (is_hole p) _ (hole_test p hole)
  | inr placed ↦ or_true_right (is_hole p) _ (placed_test number tops p placed)
]

-- ---- the whole

parts_from : (c : ConfigSeen) → are_parts c ≡ true
    → (is_in 1 (2 ^ 62) c.number.0 ≡ true) × (is_name c.name ≡ true) × (list_all (is_top_of c.number) c.tops ≡ true)
    × (list_all is_name c.spares ≡ true)
unfolding are_parts
parts_from c t =
    let number = and_parts (is_in 1 (2 ^ 62) c.number.0) _ t in
    let name = and_parts (is_name c.name) _ number.1 in
    let tops = and_parts (list_all (is_top_of c.number) c.tops) _ name.1 in
    (number.0, name.0, tops.0, tops.1)

bounds_from : (c : ConfigSeen) → are_bounds c ≡ true
    → (c.pool.0 < 2 ^ 64) × (IsIn 1 262144 c.blocks) × (c.next_guid ≤ 2 ^ 62)
unfolding are_bounds
bounds_from c t =
    let pool = and_parts (is_in 0 (2 ^ 64 - 1) c.pool.0) _ t in
    let blocks = and_parts (is_in 1 262144 c.blocks) _ pool.1 in (
      omega (arith, (in_from 0 (2 ^ 64 - 1) c.pool.0 pool.0).1),
      in_from 1 262144 c.blocks blocks.0,
      leb-true _ _ blocks.1,
    )

sound_root : (c : ConfigSeen) → is_root c ≡ true → IsHole c.root ⊎ IsPlaced c.number c.tops c.root
unfolding is_root
sound_root c t = root_from c.number c.tops c.root t

-- what is asked of all vdevs together
record AreApart (c : ConfigSeen) : Type 0 where
  few_leaves : length (leaves_among (all_vdevs c)) ≤ 32
  devices : AllPairs (λ a b. a ≢ b) (map leaf_name (leaves_among (all_vdevs c)))
  drawn : All (IsDrawn c.next_guid) (map number_of_vdev (all_vdevs c))
  apart : AllPairs (λ a b. a ≢ b) (map number_of_vdev (all_vdevs c))
  few_ranges : sum (map log_length (leaves_among (all_vdevs c))) ≤ 4096

apart_from : (c : ConfigSeen) → are_together c ≡ true → AreApart c
unfolding are_together
apart_from c t =
    let names = map leaf_name (leaves_among (all_vdevs c)) in
    let numbers = map number_of_vdev (all_vdevs c) in
    let devices = and_parts (are_devices names) _ t in
    let leaves = and_parts (nat_le (length names) 32) _ devices.0 in
    let drawn = and_parts (are_drawn c.next_guid numbers) _ devices.1 in
    let apart = and_parts (list_all (is_drawn c.next_guid) numbers) _ drawn.0 in
    record {
      few_leaves = omega (arith, leb-true _ _ leaves.0, length-map (leaves_among (all_vdevs c)) leaf_name);
      devices = differ_from bytes_eq names_tell names leaves.1;
      drawn = all_from (is_drawn c.next_guid) (IsDrawn c.next_guid) (drawn_from c.next_guid) numbers apart.0;
      apart = differ_from (λ a b. a == b) numbers_tell numbers apart.1;
      few_ranges = leb-true _ _ drawn.1;
    }

pub valid_from : (c : ConfigSeen) → is_valid c ≡ true → IsValid c
unfolding is_valid is_whole
valid_from c t =
    let both = and_parts (are_parts c) _ t in
    let parts = parts_from c both.0 in
    let bounds = and_parts (are_bounds c) _ both.1 in
    let root = and_parts (is_root c) _ bounds.1 in
    let sized = and_parts (are_sized c.tops) _ root.1 in
    let sizes = and_parts (is_in 1 8 (length c.tops)) _ sized.0 in
    let together = and_parts (are_together c) _ sized.1 in
    let spares = and_parts (nat_le (length c.spares) 16) _ together.1 in
    let bound = bounds_from c bounds.0 in
    let apart = apart_from c together.0 in
    record {
      pool = bound.0;
      name = parts.1;
      blocks = bound.1;
      number = in_from 1 (2 ^ 62) c.number.0 parts.0;
      next_guid = bound.2;
      root = sound_root c root.0;
      few_tops = in_from 1 8 (length c.tops) sizes.0;
      tops = tops_from c.number c.tops parts.2 sizes.1;
      few_leaves = apart.few_leaves;
      leaves = leaves_from c.number (all_vdevs c) (vdevs_from c.number c.tops parts.2);
      devices = apart.devices;
      drawn = apart.drawn;
      apart = apart.apart;
      few_ranges = apart.few_ranges;
      few_spares = leb-true _ _ spares.0;
      spares = all_from is_name (λ name. is_name name ≡ true) (λ name t. t) c.spares parts.3;
      spares_differ = differ_from bytes_eq names_tell c.spares spares.1;
    }

parts_test : (c : ConfigSeen) → IsValid c → are_parts c ≡ true
unfolding are_parts
parts_test c v =
    and_from (is_in 1 (2 ^ 62) c.number.0) _ (in_test 1 (2 ^ 62) c.number.0 v.number)
    (and_from (is_name c.name) _ v.name
    (and_from (list_all (is_top_of c.number) c.tops) _
    (tops_test c.number c.tops v.tops (leaves_test c.number (all_vdevs c) v.leaves))
    (all_test is_name (λ name. is_name name ≡ true) (λ name t. t) c.spares v.spares)))

sizes_test : (tops : List TopSeen) → All IsTop tops → list_all (λ top. is_in 64 1048320 top.sectors) tops ≡ true
sizes_test tops all =
    all_test (λ top. is_in 64 1048320 top.sectors) IsTop (λ top is. in_test 64 1048320 top.sectors is.sectors) tops all

bounds_test : (c : ConfigSeen) → IsValid c → are_bounds c ≡ true
unfolding are_bounds
bounds_test c v =
    and_from (is_in 0 (2 ^ 64 - 1) c.pool.0) _ (in_test 0 (2 ^ 64 - 1) c.pool.0 (omega arith, omega (arith, v.pool)))
    (and_from (is_in 1 262144 c.blocks) _ (in_test 1 262144 c.blocks v.blocks) (le-leb _ _ v.next_guid))

sound_test : (c : ConfigSeen) → IsValid c → is_root c ≡ true
unfolding is_root
sound_test c v = root_test c.number c.tops c.root v.root

together_test : (c : ConfigSeen) → IsValid c → are_together c ≡ true
unfolding are_together
together_test c v =
    let names = map leaf_name (leaves_among (all_vdevs c)) in
    let numbers = map number_of_vdev (all_vdevs c) in
    and_from (are_devices names) _
    (and_from (nat_le (length names) 32) _ (le-leb _ _
    (omega (arith, v.few_leaves, length-map (leaves_among (all_vdevs c)) leaf_name)))
    (differ_test bytes_eq names_tell names v.devices))
    (and_from (are_drawn c.next_guid numbers) _
    (and_from (list_all (is_drawn c.next_guid) numbers) _
    (all_test (is_drawn c.next_guid) (IsDrawn c.next_guid) (drawn_test c.next_guid) numbers v.drawn)
    (differ_test (λ a b. a == b) numbers_tell numbers v.apart))
    (le-leb _ _ v.few_ranges))

whole_test : (c : ConfigSeen) → IsValid c → is_whole c ≡ true
unfolding is_whole
whole_test c v =
    and_from (are_bounds c) _ (bounds_test c v) (and_from (is_root c) _ (sound_test c v)
    (and_from (are_sized c.tops) _ (and_from (is_in 1 8 (length c.tops)) _ (in_test 1 8 (length c.tops) v.few_tops)
    (sizes_test c.tops v.tops))
    (and_from (are_together c) _ (together_test c v)
    (and_from (nat_le (length c.spares) 16) _ (le-leb _ _ v.few_spares)
    (differ_test bytes_eq names_tell c.spares v.spares_differ)))))

pub valid_test : (c : ConfigSeen) → IsValid c → is_valid c ≡ true
unfolding is_valid
valid_test c v = and_from (are_parts c) _ (parts_test c v) (whole_test c v)
