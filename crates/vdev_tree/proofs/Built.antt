-- Trees that are built alike.
use Rattle.std.proofs.Common.{◌≡◌, true, List, [], ◌∷◌, ◌++◌, map, refl, ap, sym, ◌∙◌}
use Rattle.std.specs.List.{flat_map}
use Rattle.vdev_tree.specs.declared.vdev.Vdev.{Vdev}
use Rattle.vdev_tree.specs.declared.vdev.InnerVdev.{InnerVdev}
use Rattle.vdev_tree.specs.declared.vdev.LeafVdev.{LeafVdev}
use Rattle.vdev_tree.specs.declared.vdev.Vdev.TheVariants.{Leaf, Inner}
use Rattle.vdev_tree.specs.declared.vdev.Kind.TheVariants.{Mirror}
use Rattle.vdev_tree.specs.declared.vdev.Vdev.TheOpen as F
use Rattle.vdev_tree.specs.declared.vdev.Vdev.TheOpen.{Vdev-F}
use Rattle.vdev_tree.specs.declared.vdev.Vdev.TheViews.{out-Vdev, roll-Vdev, roll-out-Vdev, rolls-Leaf, rolls-Inner}
use Rattle.mp_base.specs.declared.number.Guid.{Guid}
use Rattle.vdev_tree.specs.Tree.{leaves, is_top, is_mirror, form_of, form_over, form_of_mirror, a_leaf, guid_of, marks, leaf_mark, opening, closing, pair_marks}
use Rattle.vdev_tree.specs.Changes.{form_alone}
use Rattle.vdev_tree.proofs.Folds.{leaves_leaf, leaves_inner, form_leaf, form_inner, guid_inner, marks_at_leaf, marks_inner}

pub leaf_built : (old new : LeafVdev) → marks (Leaf new) ≡ marks (Leaf old)
leaf_built old new = marks_at_leaf new ∙ sym (marks_at_leaf old)

pub leaf_form : (old new : LeafVdev) → form_of (Leaf new) ≡ form_of (Leaf old)
leaf_form old new = form_leaf new ∙ sym (form_leaf old)

pub inner_built : (old new : InnerVdev) → new.guid ≡ old.guid → new.kind ≡ old.kind → flat_map marks new.children.items ≡ flat_map marks old.children.items
    → marks (Inner new) ≡ marks (Inner old)
inner_built old new guid kind built =
    marks_inner new ∙ ap (λ g. opening g new.kind ∷ (flat_map marks new.children.items ++ closing ∷ [])) guid
    ∙ ap (λ k. opening old.guid k ∷ (flat_map marks new.children.items ++ closing ∷ [])) kind
    ∙ ap (λ ms. opening old.guid old.kind ∷ (ms ++ closing ∷ [])) built ∙ sym (marks_inner old)

forms_alone : (vdevs : List Vdev) → flat_map form_alone vdevs ≡ map form_of vdevs
forms_alone [] = refl
forms_alone (v ∷ vdevs) = ap (λ fs. form_of v ∷ fs) (forms_alone vdevs)

pub inner_form : (old new : InnerVdev) → new.kind ≡ old.kind → flat_map form_alone new.children.items ≡ flat_map form_alone old.children.items
    → form_of (Inner new) ≡ form_of (Inner old)
inner_form old new kind forms =
    form_inner new ∙ ap (λ k. form_over k (map form_of new.children.items)) kind
    ∙ ap (form_over old.kind) (sym (forms_alone new.children.items) ∙ forms ∙ forms_alone old.children.items) ∙ sym (form_inner old)

-- a tree of the same form is as valid
pub is_top_form : (new old : Vdev) → form_of new ≡ form_of old → is_top old ≡ true → is_top new ≡ true
unfolding is_top
is_top_form new old form top = ap is_mirror form ∙ top

-- a mirror of two leaves
pub pair_leaves : (inner : InnerVdev) (first second : LeafVdev) → inner.children.items ≡ Leaf first ∷ Leaf second ∷ [] → leaves (Inner inner) ≡ first ∷ second ∷ []
pair_leaves inner first second is =
    leaves_inner inner ∙ ap (flat_map leaves) is ∙ ap (λ ls. ls ++ (leaves (Leaf second) ++ [])) (leaves_leaf first) ∙ ap (λ ls. first ∷ (ls ++ [])) (leaves_leaf second)

pub pair_built : (inner : InnerVdev) (first second : LeafVdev) → inner.kind ≡ Mirror → inner.children.items ≡ Leaf first ∷ Leaf second ∷ []
    → marks (Inner inner) ≡ pair_marks inner.guid
pair_built inner first second kind is =
    marks_inner inner ∙ ap (λ k. opening inner.guid k ∷ (flat_map marks inner.children.items ++ closing ∷ [])) kind
    ∙ ap (λ vs. opening inner.guid Mirror ∷ (flat_map marks vs ++ closing ∷ [])) is
    ∙ ap (λ ms. opening inner.guid Mirror ∷ ((ms ++ (marks (Leaf second) ++ [])) ++ closing ∷ [])) (marks_at_leaf first)
    ∙ ap (λ ms. opening inner.guid Mirror ∷ leaf_mark ∷ ((ms ++ []) ++ closing ∷ [])) (marks_at_leaf second)

pub pair_is_top : (inner : InnerVdev) (first second : LeafVdev) → inner.kind ≡ Mirror → inner.children.items ≡ Leaf first ∷ Leaf second ∷ [] → is_top (Inner inner) ≡ true
unfolding is_top
pair_is_top inner first second kind is =
    ap is_mirror (form_inner inner ∙ ap (λ k. form_over k (map form_of inner.children.items)) kind ∙ ap (λ vs. form_of_mirror (map form_of vs)) is
    ∙ ap (λ form. form_of_mirror (form ∷ form_of (Leaf second) ∷ [])) (form_leaf first) ∙ ap (λ form. form_of_mirror (a_leaf ∷ form ∷ [])) (form_leaf second))

made_guid : (vdev : Vdev) (made : Vdev-F Vdev InnerVdev) (guid : Guid) → vdev ≡ roll-Vdev made → marks vdev ≡ pair_marks guid → guid_of vdev ≡ guid
made_guid vdev (F.Leaf leaf) guid is built =
    let e : leaf_mark ∷ [] ≡ pair_marks guid = sym (ap marks (is ∙ rolls-Leaf leaf) ∙ marks_at_leaf leaf) ∙ built in cc
made_guid vdev (F.Inner inner) guid is built =
    let inner_is : vdev ≡ Inner inner = is ∙ rolls-Inner inner in
    let e : opening inner.guid inner.kind ∷ (flat_map marks inner.children.items ++ closing ∷ []) ≡ pair_marks guid = sym (ap marks inner_is ∙ marks_inner inner) ∙ built in
    let same : inner.guid ≡ guid = cc in
    ap guid_of inner_is ∙ guid_inner inner ∙ same

-- its number is the one that its marks begin with
pub pair_guid : (vdev : Vdev) (guid : Guid) → marks vdev ≡ pair_marks guid → guid_of vdev ≡ guid
pair_guid vdev guid built = made_guid vdev (out-Vdev vdev) guid (sym (roll-out-Vdev vdev)) built
