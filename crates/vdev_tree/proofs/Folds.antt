-- The equations of what is folded over a tree.
use Rattle.std.proofs.Common.{◌≡◌, List, [], ◌∷◌, ◌++◌, map, refl, ap, ◌∙◌}
use Rattle.std.specs.List.{flat_map}
use Rattle.vdev_tree.specs.declared.vdev.Vdev.{Vdev}
use Rattle.vdev_tree.specs.declared.vdev.InnerVdev.{InnerVdev, outs-InnerVdev'}
use Rattle.vdev_tree.specs.declared.vdev.LeafVdev.{LeafVdev}
use Rattle.vdev_tree.specs.declared.vdev.Vdev.TheVariants.{Leaf, Inner, outs-Leaf, outs-Inner}
use Rattle.vdev_tree.specs.declared.vdev.Vdev.TheOpen.{Vdev-F, InnerVdev-F}
use Rattle.vdev_tree.specs.declared.vdev.Vdev.TheFolds.{fold-Vdev, fold_out-Vdev, fold-InnerVdev, fold_out-InnerVdev, map-Vdev, map-InnerVdev}
use Rattle.mp_base.specs.declared.number.Guid.{Guid}
use Rattle.vdev_tree.specs.declared.vdev.State.{State}
use Rattle.vdev_tree.specs.Tree.{joined, leaves, leaves_of_vdev, leaves_of_inner, state_of, state_over, state_of_vdev, state_of_inner, Form, form_of, form_over, form_of_vdev, form_of_inner, a_leaf, guid_of, guid_of_vdev, Mark, marks, leaf_mark, opening, closing, marks_of_vdev, marks_of_inner}
use Rattle.vdev_tree.specs.Children.{only, alone, Part, a_child, part_of, part_over, part_of_vdev, part_of_inner}

-- at a leaf
pub fold_leaf : (A : Type 0) (at_vdev : Vdev-F A A → A) (at_inner : InnerVdev-F A A → A) (leaf : LeafVdev)
    → fold-Vdev A A at_vdev at_inner (Leaf leaf) ≡ at_vdev (Vdev-F.Leaf leaf)
fold_leaf A at_vdev at_inner leaf =
    fold_out-Vdev A A at_vdev at_inner (Leaf leaf)
    ∙ ap (λ x. at_vdev (map-Vdev Vdev InnerVdev A A (fold-Vdev A A at_vdev at_inner) (fold-InnerVdev A A at_vdev at_inner) x)) (outs-Leaf leaf)

-- at an inner vdev
pub fold_inner : (A : Type 0) (at_vdev : Vdev-F A A → A) (at_inner : InnerVdev-F A A → A) (inner : InnerVdev)
    → fold-Vdev A A at_vdev at_inner (Inner inner)
    ≡ at_vdev (Vdev-F.Inner (at_inner (map-InnerVdev Vdev InnerVdev A A (fold-Vdev A A at_vdev at_inner) (fold-InnerVdev A A at_vdev at_inner)
    (record { guid = inner.guid; kind = inner.kind; children = inner.children }))))
fold_inner A at_vdev at_inner inner =
    let on_vdev = fold-Vdev A A at_vdev at_inner in
    let on_inner = fold-InnerVdev A A at_vdev at_inner in
    fold_out-Vdev A A at_vdev at_inner (Inner inner)
    ∙ ap (λ x. at_vdev (map-Vdev Vdev InnerVdev A A on_vdev on_inner x)) (outs-Inner inner)
    ∙ ap (λ y. at_vdev (Vdev-F.Inner y)) (fold_out-InnerVdev A A at_vdev at_inner inner)
    ∙ ap (λ z. at_vdev (Vdev-F.Inner (at_inner (map-InnerVdev Vdev InnerVdev A A on_vdev on_inner z)))) (outs-InnerVdev' inner)

joined-map : (vdevs : List Vdev) → joined (map leaves vdevs) ≡ flat_map leaves vdevs
joined-map [] = refl
joined-map (v ∷ vdevs) = ap (λ rest. leaves v ++ rest) (joined-map vdevs)

pub leaves_leaf : (leaf : LeafVdev) → leaves (Leaf leaf) ≡ leaf ∷ []
unfolding leaves
leaves_leaf leaf = fold_leaf (List LeafVdev) leaves_of_vdev leaves_of_inner leaf

pub leaves_inner : (inner : InnerVdev) → leaves (Inner inner) ≡ flat_map leaves inner.children.items
unfolding leaves
leaves_inner inner = fold_inner (List LeafVdev) leaves_of_vdev leaves_of_inner inner ∙ joined-map inner.children.items

pub state_leaf : (leaf : LeafVdev) → state_of (Leaf leaf) ≡ leaf.state
unfolding state_of
state_leaf leaf = fold_leaf State state_of_vdev state_of_inner leaf

pub state_inner : (inner : InnerVdev) → state_of (Inner inner) ≡ state_over (map state_of inner.children.items)
unfolding state_of
state_inner inner = fold_inner State state_of_vdev state_of_inner inner

pub form_leaf : (leaf : LeafVdev) → form_of (Leaf leaf) ≡ a_leaf
unfolding form_of
form_leaf leaf = fold_leaf Form form_of_vdev form_of_inner leaf

pub form_inner : (inner : InnerVdev) → form_of (Inner inner) ≡ form_over inner.kind (map form_of inner.children.items)
unfolding form_of
form_inner inner = fold_inner Form form_of_vdev form_of_inner inner

pub guid_leaf : (leaf : LeafVdev) → guid_of (Leaf leaf) ≡ leaf.guid
unfolding guid_of
guid_leaf leaf = fold_leaf Guid guid_of_vdev (λ inner. inner.guid) leaf

pub guid_inner : (inner : InnerVdev) → guid_of (Inner inner) ≡ inner.guid
unfolding guid_of
guid_inner inner = fold_inner Guid guid_of_vdev (λ inner. inner.guid) inner

joined-marks : (vdevs : List Vdev) → joined (map marks vdevs) ≡ flat_map marks vdevs
joined-marks [] = refl
joined-marks (v ∷ vdevs) = ap (λ rest. marks v ++ rest) (joined-marks vdevs)

pub marks_at_leaf : (leaf : LeafVdev) → marks (Leaf leaf) ≡ leaf_mark ∷ []
unfolding marks
marks_at_leaf leaf = fold_leaf (List Mark) marks_of_vdev marks_of_inner leaf

pub marks_inner : (inner : InnerVdev) → marks (Inner inner) ≡ opening inner.guid inner.kind ∷ (flat_map marks inner.children.items ++ closing ∷ [])
unfolding marks
marks_inner inner =
    fold_inner (List Mark) marks_of_vdev marks_of_inner inner
    ∙ ap (λ ms. opening inner.guid inner.kind ∷ (ms ++ closing ∷ [])) (joined-marks inner.children.items)

pub part_leaf : (leaf : LeafVdev) → part_of (Leaf leaf) ≡ a_child (alone (only leaf))
unfolding part_of
part_leaf leaf = fold_leaf Part part_of_vdev part_of_inner leaf

pub part_inner : (inner : InnerVdev) → part_of (Inner inner) ≡ part_over inner.kind inner.guid (map part_of inner.children.items)
unfolding part_of
part_inner inner = fold_inner Part part_of_vdev part_of_inner inner

-- the equations at a leaf and at an inner vdev
pub ruleset at_vdev = (leaves_leaf, leaves_inner, state_leaf, state_inner, form_leaf, form_inner, guid_leaf, guid_inner, marks_at_leaf, marks_inner)
