-- How many vdevs a valid tree has, and how many bytes are put of them.
use Rattle.std.proofs.Common.{◌≡◌, ℕ, ◌+◌, ◌*◌, ◌≤◌, Bool, true, false, cond, List, [], ◌∷◌, ◌++◌, map, length, take}
use Rattle.std.proofs.Common.{drop, refl, ap, sym, ◌∙◌, arith, length-append}
use Rattle.std.specs.Prelude.{nat_le, fold, sum, All}
use Rattle.std.specs.List.{flat_map, list_all}
use Rattle.std.proofs.lemmas.Bool.{and_parts, and_from, leb-true, le-leb, eqb-true, false≢true}
use Rattle.std.proofs.lemmas.List.{take-append-drop, length-take-le}
use Rattle.std.proofs.lemmas.List.Folds.{list_all-append}
use Rattle.std.proofs.lemmas.List.Elements.{All-head, All-tail}
use Rattle.std.proofs.lemmas.List.Concat.{flat_map-append}
use Rattle.vdev_tree.specs.declared.vdev.Kind.{Kind}
use Rattle.vdev_tree.specs.declared.vdev.Kind.TheVariants.{Mirror, Replacing, Spare}
use Rattle.vdev_tree.specs.Tree.{Form, a_leaf, a_replacing, a_spare, a_mirror, no_form, form_over, is_leaf, is_mirror}
use Rattle.vdev_tree.specs.Tree.{may_be_spared, may_be_mirrored}
use Rattle.mp_base.specs.declared.number.Group.{Group}
use Rattle.mp_base.specs.declared.number.Guid.{Guid}
use Rattle.pool_config.specs.Seen.{VdevSeen, leaf_vdev, inner_vdev, TopSeen, ConfigSeen, leaves_among, top_vdevs}
use Rattle.pool_config.specs.Seen.{all_vdevs, room, fits}
use Rattle.pool_config.specs.Trees.{forms, is_one_mirror, is_tree}
use Rattle.pool_config.specs.Validity.{IsLeaf, IsTop, IsValid, log_length}

-- how many of these vdevs are inner ones
abbrev pub inners : List VdevSeen → ℕ
inners [] = 0
inners (leaf_vdev leaf ∷ vdevs) = inners vdevs
inners (inner_vdev guid kind count ∷ vdevs) = 1 + inners vdevs

-- an inner vdev has at most 8 children
abbrev pub is_counted : VdevSeen → Bool
is_counted (leaf_vdev leaf) = true
is_counted (inner_vdev guid kind count) = nat_le count 8

-- ---- forms

leaves_mirrored : (fs : List Form) → list_all is_leaf fs ≡ true → list_all may_be_mirrored fs ≡ true
leaves_mirrored [] all = refl
leaves_mirrored (a_leaf ∷ fs) all = leaves_mirrored fs all
leaves_mirrored (a_replacing ∷ fs) all = absurd (false≢true all)
leaves_mirrored (a_spare ∷ fs) all = absurd (false≢true all)
leaves_mirrored (a_mirror ∷ fs) all = absurd (false≢true all)
leaves_mirrored (no_form ∷ fs) all = absurd (false≢true all)

spared_mirrored : (f : Form) → may_be_spared f ≡ true → may_be_mirrored f ≡ true
spared_mirrored a_leaf is = refl
spared_mirrored a_replacing is = refl
spared_mirrored a_spare is = absurd (false≢true is)
spared_mirrored a_mirror is = absurd (false≢true is)
spared_mirrored no_form is = absurd (false≢true is)

kept : (p : Form → Bool) (b : Bool) (f : Form) → p no_form ≡ false → p (cond b f no_form) ≡ true → b ≡ true
kept p true f none is = refl
kept p false f none is = absurd (false≢true (sym none ∙ is))

other : (p : Form → Bool) (b : Bool) (f : Form) → p no_form ≡ false → p f ≡ false → p (cond b f no_form) ≡ false
other p true f none not = not
other p false f none not = none

-- what is over trees that may stand under it
pub record AreUnder (fs : List Form) (least most : ℕ) : Type 0 where
  pub all : list_all may_be_mirrored fs ≡ true
  pub some : least ≤ length fs
  pub few : length fs ≤ most

spare_under : (fs : List Form) → may_be_mirrored (form_over Spare fs) ≡ true → AreUnder fs 2 3
spare_under [] is = absurd (false≢true is)
spare_under (f ∷ fs) is =
    let parts = and_parts (may_be_spared f) _ (kept may_be_mirrored _ a_spare refl is) in
    let rest = and_parts (list_all is_leaf fs) _ parts.1 in
    let count = and_parts (nat_le 1 (length fs)) _ rest.1 in
    record {
      all = and_from (may_be_mirrored f) _ (spared_mirrored f parts.0) (leaves_mirrored fs rest.0);
      some = omega (arith, leb-true _ _ count.0);
      few = omega (arith, leb-true _ _ count.1);
    }

under : (kind : Kind) (fs : List Form) → may_be_mirrored (form_over kind fs) ≡ true → AreUnder fs 2 3
under Mirror fs is = absurd (false≢true (sym (other may_be_mirrored _ a_mirror refl refl) ∙ is))
under Replacing fs is =
    let parts = and_parts (list_all is_leaf fs) _ (kept may_be_mirrored _ a_replacing refl is) in
    record {
      all = leaves_mirrored fs parts.0;
      some = omega (arith, eqb-true _ _ parts.1);
      few = omega (arith, eqb-true _ _ parts.1);
    }
under Spare fs is = spare_under fs is

no_mirror : (fs : List Form) → is_mirror (form_over Spare fs) ≡ false
no_mirror [] = refl
no_mirror (f ∷ fs) = other is_mirror _ a_spare refl refl

pub under_mirror : (kind : Kind) (fs : List Form) → is_mirror (form_over kind fs) ≡ true → AreUnder fs 1 8
under_mirror Mirror fs is =
    let parts = and_parts (list_all may_be_mirrored fs) _ (kept is_mirror _ a_mirror refl is) in
    let count = and_parts (nat_le 1 (length fs)) _ parts.1 in
    record { all = parts.0; some = leb-true _ _ count.0; few = leb-true _ _ count.1 }
under_mirror Replacing fs is = absurd (false≢true (sym (other is_mirror _ a_replacing refl refl) ∙ is))
under_mirror Spare fs is = absurd (false≢true (sym (no_mirror fs) ∙ is))

-- ---- vdevs

whole : (b : Bool) (f : Form) (fs : List Form) → list_all may_be_mirrored (cond b (f ∷ fs) (no_form ∷ [])) ≡ true
    → (b ≡ true) × ((may_be_mirrored f ≡ true) × (list_all may_be_mirrored fs ≡ true))
whole true f fs all = (refl, and_parts (may_be_mirrored f) _ all)
whole false f fs all = absurd (false≢true all)

all_back : (n : ℕ) (fs : List Form) → list_all may_be_mirrored (take n fs) ≡ true
    → list_all may_be_mirrored (drop n fs) ≡ true → list_all may_be_mirrored fs ≡ true
all_back n fs front rest =
    ap (list_all may_be_mirrored) (sym (take-append-drop n fs))
    ∙ list_all-append may_be_mirrored (take n fs) (drop n fs) ∙ and_from _ _ front rest

length_split : (n : ℕ) (fs : List Form) → length fs ≡ length (take n fs) + length (drop n fs)
length_split n fs = ap length (sym (take-append-drop n fs)) ∙ length-append (take n fs) (drop n fs)

pub record AreFew (vdevs : List VdevSeen) (trees : ℕ) : Type 0 where
  pub few : inners vdevs + trees ≤ length (leaves_among vdevs)
  pub counted : list_all is_counted vdevs ≡ true

-- Trees that may stand under a mirror have no more inner vdevs than leaves, even when each tree counts for one more.
few_under : (vdevs : List VdevSeen) → list_all may_be_mirrored (forms vdevs) ≡ true
    → AreFew vdevs (length (forms vdevs))
unfolding forms leaves_among
few_under [] all = record { few = omega arith; counted = refl }
few_under (leaf_vdev leaf ∷ vdevs) all =
    let rest = few_under vdevs all in
    record { few = omega (arith, rest.few); counted = rest.counted }
few_under (inner_vdev guid kind count ∷ vdevs) all =
    let fs = forms vdevs in
    let parts = whole (nat_le count (length fs)) (form_over kind (take count fs)) (drop count fs) all in
    let inside : count ≤ length fs = leb-true _ _ parts.0 in
    let are = under kind (take count fs) parts.1.0 in
    let rest = few_under vdevs (all_back count fs are.all parts.1.1) in
    let here : forms (inner_vdev guid kind count ∷ vdevs) ≡ form_over kind (take count fs) ∷ drop count fs =
    ap (λ b. cond b (form_over kind (take count fs) ∷ drop count fs) (no_form ∷ [])) parts.0 in
    record {
      few = omega (arith, rest.few, ap length here, length_split count fs, length-take-le count fs inside, are.some);
      counted = and_from (nat_le count 8) _ (le-leb _ _ (omega (arith, length-take-le count fs inside, are.few)))
          rest.counted;
    }

one : (b : Bool) (f : Form) (fs : List Form) → is_one_mirror (cond b (f ∷ fs) (no_form ∷ [])) ≡ true
    → (b ≡ true) × ((is_mirror f ≡ true) × (fs ≡ []))
one true f [] is = (refl, (is, refl))
one true f (g ∷ fs) is = absurd (false≢true is)
one false f fs is = absurd (false≢true is)

no_leaf : (fs : List Form) → is_one_mirror (a_leaf ∷ fs) ≡ false
no_leaf [] = refl
no_leaf (f ∷ fs) = refl

-- the vdevs of a tree of a top: a mirror, and what stands under it
pub record IsOver (vdevs : List VdevSeen) (kind : Kind) (count : ℕ) : Type 0 where
  pub inside : nat_le count (length (forms vdevs)) ≡ true
  pub under : AreUnder (take count (forms vdevs)) 1 8
  pub all : drop count (forms vdevs) ≡ []

pub over_tree : (guid : Guid) (kind : Kind) (count : ℕ) (vdevs : List VdevSeen)
    → is_tree (inner_vdev guid kind count ∷ vdevs) ≡ true → IsOver vdevs kind count
unfolding is_tree forms
over_tree guid kind count vdevs is =
    let parts = one (nat_le count (length (forms vdevs))) (form_over kind (take count (forms vdevs)))
    (drop count (forms vdevs)) is in
    record { inside = parts.0; under = under_mirror kind (take count (forms vdevs)) parts.1.0; all = parts.1.1 }

-- the tree of a top has no more inner vdevs than leaves
pub few_tree : (vdevs : List VdevSeen) → is_tree vdevs ≡ true → AreFew vdevs 0
unfolding is_tree forms leaves_among
few_tree [] is = absurd (false≢true is)
few_tree (leaf_vdev leaf ∷ vdevs) is = absurd (false≢true (sym (no_leaf (forms vdevs)) ∙ is))
few_tree (inner_vdev guid kind count ∷ vdevs) is =
    let fs = forms vdevs in
    let over = over_tree guid kind count vdevs is in
    let inside : count ≤ length fs = leb-true _ _ over.inside in
    let rest = few_under vdevs (all_back count fs over.under.all (ap (list_all may_be_mirrored) over.all)) in
    record {
      few = omega (arith, rest.few, length_split count fs, length-take-le count fs inside, over.under.some);
      counted = and_from (nat_le count 8) _ (le-leb _ _ (omega (arith, length-take-le count fs inside, over.under.few)))
          rest.counted;
    }

pub inners-append : (xs ys : List VdevSeen) → inners (xs ++ ys) ≡ inners xs + inners ys
inners-append [] ys = omega arith
inners-append (leaf_vdev leaf ∷ xs) ys = inners-append xs ys
inners-append (inner_vdev guid kind count ∷ xs) ys = omega (arith, inners-append xs ys)

pub leaves-append : (xs ys : List VdevSeen) → leaves_among (xs ++ ys) ≡ leaves_among xs ++ leaves_among ys
unfolding leaves_among
leaves-append xs ys = flat_map-append _ xs ys

-- of all tops
pub few_trees : (tops : List TopSeen) → All IsTop tops → AreFew (flat_map top_vdevs tops) 0
unfolding leaves_among
few_trees [] all = record { few = omega arith; counted = refl }
few_trees (top ∷ tops) all =
    let first = few_tree top.vdevs (All-head IsTop top tops all).tree in
    let rest = few_trees tops (All-tail IsTop top tops all) in
    record {
      few = omega (
        arith,
        first.few,
        rest.few,
        inners-append top.vdevs (flat_map top_vdevs tops),
        ap length (leaves-append top.vdevs (flat_map top_vdevs tops)),
        length-append (leaves_among top.vdevs) (leaves_among (flat_map top_vdevs tops)),
      );
      counted = list_all-append is_counted top.vdevs (flat_map top_vdevs tops)
          ∙ and_from _ _ first.counted rest.counted;
    }

-- ---- how many bytes are put

pub sum_from : (n : ℕ) (xs : List ℕ) → fold (λ a x. a + x) n xs ≡ n + sum xs
sum_from n [] = omega arith
sum_from n (x ∷ xs) = omega (arith, sum_from (n + x) xs, sum_from (0 + x) xs)

pub sum_cons : (x : ℕ) (xs : List ℕ) → sum (x ∷ xs) ≡ x + sum xs
sum_cons x xs = omega (arith, sum_from (0 + x) xs)

pub room_is : (vdevs : List VdevSeen) → room vdevs ≡ 79 * length (leaves_among vdevs) + 16 * sum (map log_length
    (leaves_among vdevs)) + 10 * inners vdevs
unfolding room leaves_among
room_is [] = omega arith
room_is (leaf_vdev leaf ∷ vdevs) =
    omega (arith, room_is vdevs, sum_cons (length leaf.log) (map log_length (leaves_among vdevs)))
room_is (inner_vdev guid kind count ∷ vdevs) = omega (arith, room_is vdevs)

pub valid_room : (c : ConfigSeen) → IsValid c → room (all_vdevs c) ≤ 68384
valid_room c v = omega (arith, room_is (all_vdevs c), v.few_leaves, v.few_ranges, (few_trees c.tops v.tops).few)

-- what is put of each vdev is counted in the bytes that there are for it
pub all_fit : (number : Group) (vdevs : List VdevSeen) → list_all is_counted vdevs ≡ true
    → All (IsLeaf number) (leaves_among vdevs) → list_all fits vdevs ≡ true
unfolding leaves_among
all_fit number [] counted leaves = refl
all_fit number (leaf_vdev leaf ∷ vdevs) counted leaves =
    and_from (nat_le (length leaf.log) 4096) _
    (le-leb _ _ (All-head (IsLeaf number) leaf (leaves_among vdevs) leaves).few)
    (all_fit number vdevs counted (All-tail (IsLeaf number) leaf (leaves_among vdevs) leaves))
all_fit number (inner_vdev guid kind count ∷ vdevs) counted leaves =
    let both = and_parts (nat_le count 8) _ counted in
    and_from (nat_le count 255) _ (le-leb _ _ (omega (arith, leb-true _ _ both.0))) (all_fit number vdevs both.1 leaves)

pub valid_fit : (c : ConfigSeen) → IsValid c → list_all fits (all_vdevs c) ≡ true
valid_fit c v = all_fit c.number (all_vdevs c) (few_trees c.tops v.tops).counted v.leaves
