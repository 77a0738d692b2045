-- How many leaves a valid tree has: 32 at most.
use Rattle.std.proofs.Common.{◌≡◌, ℕ, ◌*◌, ◌≤◌, Bool, true, false, ◌&&◌, ◌||◌, ◌==◌, nat_le, ◌⊎◌, inl, inr, List, [], ◌∷◌, map, length, refl, ap, sym, ◌∙◌, arith, length-append}
use Rattle.std.specs.List.{list_all, flat_map}
use Rattle.std.proofs.lemmas.Bool.{false≢true, eqb-true}
use Rattle.std.proofs.lemmas.Bool.Decides.{nat_tests}
use Rattle.vdev_tree.specs.declared.vdev.Vdev.{Vdev}
use Rattle.vdev_tree.specs.declared.vdev.InnerVdev.{InnerVdev}
use Rattle.vdev_tree.specs.declared.vdev.LeafVdev.{LeafVdev}
use Rattle.vdev_tree.specs.declared.vdev.Vdev.TheVariants.{Leaf, Inner}
use Rattle.vdev_tree.specs.declared.vdev.Vdev.TheOpen as F
use Rattle.vdev_tree.specs.declared.vdev.Vdev.TheOpen.{Vdev-F}
use Rattle.vdev_tree.specs.declared.vdev.Vdev.TheViews.{out-Vdev, roll-Vdev, roll-out-Vdev, rolls-Leaf, rolls-Inner}
use Rattle.vdev_tree.specs.Tree.{leaves, form_of, is_leaf, is_replacing, is_spare, is_top, may_be_spared, may_be_mirrored, form_of_spare}
use Rattle.vdev_tree.proofs.Folds.{leaves_leaf, leaves_inner}
use Rattle.vdev_tree.proofs.Forms.{inner_is_no_leaf, leaf_replaces, inner_replaces, two_leaves, leaf_spares, inner_spares, spared_children, spared_forms, mirrored_forms, leaf_mirrors, inner_mirrors, mirrored_children}

made : (vdev : Vdev) (f : Vdev-F Vdev InnerVdev) → vdev ≡ roll-Vdev f → ((leaf : LeafVdev) × (vdev ≡ Leaf leaf)) ⊎ ((inner : InnerVdev) × (vdev ≡ Inner inner))
made vdev (F.Leaf leaf) is = inl (leaf, is ∙ rolls-Leaf leaf)
made vdev (F.Inner inner) is = inr (inner, is ∙ rolls-Inner inner)

-- a vdev is a leaf or an inner one
pub leaf_or_inner : (vdev : Vdev) → ((leaf : LeafVdev) × (vdev ≡ Leaf leaf)) ⊎ ((inner : InnerVdev) × (vdev ≡ Inner inner))
leaf_or_inner vdev = made vdev (out-Vdev vdev) (sym (roll-out-Vdev vdev))

pub first_of : (a b : Bool) → (a && b) ≡ true → a ≡ true
first_of true b h = refl
first_of false b h = h

pub second_of : (a b : Bool) → (a && b) ≡ true → b ≡ true
second_of true b h = h
second_of false b h = absurd (false≢true h)

pub either_of : (a b : Bool) → (a || b) ≡ true → (a ≡ true) ⊎ (b ≡ true)
either_of true b h = inl refl
either_of false b h = inr h

one_leaf : (leaf : LeafVdev) → length (leaves (Leaf leaf)) ≡ 1
one_leaf leaf = ap length (leaves_leaf leaf)

leaf_size : (vdev : Vdev) → is_leaf (form_of vdev) ≡ true → length (leaves vdev) ≤ 1
leaf_size vdev form = elim (leaf_or_inner vdev) [
  | inl l ↦ omega (arith, ap length (ap leaves l.1), one_leaf l.0)
  | inr i ↦ absurd (false≢true (sym (ap (λ v. is_leaf (form_of v)) i.1 ∙ inner_is_no_leaf i.0) ∙ form))
]

leaves_size : (vdevs : List Vdev) → list_all (λ vdev. is_leaf (form_of vdev)) vdevs ≡ true → length (flat_map leaves vdevs) ≤ length vdevs
leaves_size [] forms = omega arith
leaves_size (v ∷ vdevs) forms =
    omega (
      arith,
      length-append (leaves v) (flat_map leaves vdevs),
      leaf_size v (first_of (is_leaf (form_of v)) (list_all (λ vdev. is_leaf (form_of vdev)) vdevs) forms),
      leaves_size vdevs (second_of (is_leaf (form_of v)) (list_all (λ vdev. is_leaf (form_of vdev)) vdevs) forms),
    )

replacing_size : (vdev : Vdev) → is_replacing (form_of vdev) ≡ true → length (leaves vdev) ≤ 2
replacing_size vdev form = elim (leaf_or_inner vdev) [
  | inl l ↦ absurd (false≢true (sym (ap (λ v. is_replacing (form_of v)) l.1 ∙ leaf_replaces l.0) ∙ form))
  | inr i ↦ (let vdevs = i.0.children.items in
      let both = sym (two_leaves vdevs) ∙ second_of _ _ (sym (inner_replaces i.0) ∙ sym (ap (λ v. is_replacing (form_of v)) i.1) ∙ form) in
      let forms = first_of (list_all (λ vdev. is_leaf (form_of vdev)) vdevs) (length vdevs == 2) both in
      let count = eqb-true (length vdevs) 2 (second_of (list_all (λ vdev. is_leaf (form_of vdev)) vdevs) (length vdevs == 2) both) in
      omega (arith, ap length (ap leaves i.1 ∙ leaves_inner i.0), leaves_size vdevs forms, count))
]

spared_size : (vdev : Vdev) → may_be_spared (form_of vdev) ≡ true → length (leaves vdev) ≤ 2
spared_size vdev form = elim (either_of (is_leaf (form_of vdev)) (is_replacing (form_of vdev)) (sym (spared_forms (form_of vdev)) ∙ form)) [
  | inl l ↦ omega (arith, leaf_size vdev l)
  | inr r ↦ replacing_size vdev r
]

pub below : (a b : ℕ) → nat_le a b ≡ true → a ≤ b
below a b h = grind (arith, nat_tests)

spares_size : (vdevs : List Vdev) → is_spare (form_of_spare (map form_of vdevs)) ≡ true → length (flat_map leaves vdevs) ≤ 4
spares_size [] form = absurd (false≢true form)
spares_size (first ∷ spares) form =
    let all = sym (spared_children first spares) ∙ form in
    let tail = second_of (may_be_spared (form_of first)) _ all in
    let forms = first_of (list_all (λ vdev. is_leaf (form_of vdev)) spares) _ tail in
    let count = below (length spares) 2 (second_of (nat_le 1 (length spares)) (nat_le (length spares) 2) (second_of (list_all (λ vdev. is_leaf (form_of vdev)) spares) _ tail)) in
    omega (arith, length-append (leaves first) (flat_map leaves spares), spared_size first (first_of (may_be_spared (form_of first)) _ all), leaves_size spares forms, count)

spare_size : (vdev : Vdev) → is_spare (form_of vdev) ≡ true → length (leaves vdev) ≤ 4
spare_size vdev form = elim (leaf_or_inner vdev) [
  | inl l ↦ absurd (false≢true (sym (ap (λ v. is_spare (form_of v)) l.1 ∙ leaf_spares l.0) ∙ form))
  | inr i ↦ omega (
    arith,
    ap length (ap leaves i.1 ∙ leaves_inner i.0),
    spares_size i.0.children.items (second_of _ _ (sym (inner_spares i.0) ∙ sym (ap (λ v. is_spare (form_of v)) i.1) ∙ form)),
  )
]

mirrored_size : (vdev : Vdev) → may_be_mirrored (form_of vdev) ≡ true → length (leaves vdev) ≤ 4
mirrored_size vdev form = elim (either_of (is_leaf (form_of vdev)) (is_replacing (form_of vdev) || is_spare (form_of vdev)) (sym (mirrored_forms (form_of vdev)) ∙ form)) [
  | inl l ↦ omega (arith, leaf_size vdev l)
  | inr o ↦ elim (either_of (is_replacing (form_of vdev)) (is_spare (form_of vdev)) o) [
    | inl r ↦ omega (arith, replacing_size vdev r)
    | inr s ↦ spare_size vdev s
  ]
]

children_size : (vdevs : List Vdev) → list_all (λ vdev. may_be_mirrored (form_of vdev)) vdevs ≡ true → length (flat_map leaves vdevs) ≤ 4 * length vdevs
children_size [] forms = omega arith
children_size (v ∷ vdevs) forms =
    omega (
      arith,
      length-append (leaves v) (flat_map leaves vdevs),
      mirrored_size v (first_of (may_be_mirrored (form_of v)) (list_all (λ vdev. may_be_mirrored (form_of vdev)) vdevs) forms),
      children_size vdevs (second_of (may_be_mirrored (form_of v)) (list_all (λ vdev. may_be_mirrored (form_of vdev)) vdevs) forms),
    )

-- a top has at most 32 leaves
pub top_size : (vdev : Vdev) → is_top vdev ≡ true → length (leaves vdev) ≤ 32
top_size vdev top = elim (leaf_or_inner vdev) [
  | inl l ↦ absurd (false≢true (sym (ap is_top l.1 ∙ leaf_mirrors l.0) ∙ top))
  | inr i ↦ (let vdevs = i.0.children.items in
      let all = sym (mirrored_children vdevs) ∙ second_of _ _ (sym (inner_mirrors i.0) ∙ sym (ap is_top i.1) ∙ top) in
      let forms = first_of (list_all (λ vdev. may_be_mirrored (form_of vdev)) vdevs) _ all in
      let count = below (length vdevs) 8 (second_of (nat_le 1 (length vdevs)) (nat_le (length vdevs) 8) (second_of (list_all (λ vdev. may_be_mirrored (form_of vdev)) vdevs) _ all)) in
      omega (arith, ap length (ap leaves i.1 ∙ leaves_inner i.0), children_size vdevs forms, count))
]
