-- The forms of vdevs, kind by kind.
use Rattle.std.proofs.Common.{◌≡◌, Bool, true, false, cond, ◌&&◌, ◌||◌, ◌==◌, nat_le, List, [], ◌∷◌, map, length, refl, ap, ◌∙◌}
use Rattle.std.specs.List.{list_all}
use Rattle.std.proofs.lemmas.List.{length-map}
use Rattle.vdev_tree.specs.declared.vdev.Kind.{Kind}
use Rattle.vdev_tree.specs.declared.vdev.Kind.TheVariants.{Mirror, Replacing, Spare}
use Rattle.vdev_tree.specs.declared.vdev.Vdev.{Vdev}
use Rattle.vdev_tree.specs.declared.vdev.InnerVdev.{InnerVdev}
use Rattle.vdev_tree.specs.declared.vdev.LeafVdev.{LeafVdev}
use Rattle.vdev_tree.specs.declared.vdev.Vdev.TheVariants.{Leaf, Inner}
use Rattle.vdev_tree.specs.Tree.{is_mirror_kind, is_replacing_kind, is_spare_kind, Form, a_leaf, a_replacing, a_spare, a_mirror, no_form, form_of, form_over, form_of_replacing, form_of_spare, form_of_mirror, is_leaf, is_replacing, is_spare, is_mirror, is_top, may_be_spared, may_be_mirrored}
use Rattle.vdev_tree.proofs.Folds.{form_leaf, form_inner}

-- a test of the two forms that a kind can give
chosen : (p : Form → Bool) (b : Bool) (form : Form) → p no_form ≡ false → p form ≡ true → p (cond b form no_form) ≡ b
chosen p true form none some = some
chosen p false form none some = none

refused : (p : Form → Bool) (b : Bool) (form : Form) → p no_form ≡ false → p form ≡ false → p (cond b form no_form) ≡ false
refused p true form none other = other
refused p false form none other = none

refused_spare : (p : Form → Bool) (forms : List Form) → p no_form ≡ false → p a_spare ≡ false → p (form_of_spare forms) ≡ false
refused_spare p [] none other = none
refused_spare p (first ∷ spares) none other = refused p _ a_spare none other

no_leaf_over : (kind : Kind) (forms : List Form) → is_leaf (form_over kind forms) ≡ false
no_leaf_over Mirror forms = refused is_leaf _ a_mirror refl refl
no_leaf_over Replacing forms = refused is_leaf _ a_replacing refl refl
no_leaf_over Spare forms = refused_spare is_leaf forms refl refl

pub leaf_is : (leaf : LeafVdev) → is_leaf (form_of (Leaf leaf)) ≡ true
leaf_is leaf = ap is_leaf (form_leaf leaf)

pub inner_is_no_leaf : (inner : InnerVdev) → is_leaf (form_of (Inner inner)) ≡ false
inner_is_no_leaf inner = ap is_leaf (form_inner inner) ∙ no_leaf_over inner.kind (map form_of inner.children.items)

replacing_over : (kind : Kind) (forms : List Form) → is_replacing (form_over kind forms) ≡ (is_replacing_kind kind && is_replacing (form_of_replacing forms))
replacing_over Mirror forms = refused is_replacing _ a_mirror refl refl
replacing_over Replacing forms = refl
replacing_over Spare forms = refused_spare is_replacing forms refl refl

spare_over : (kind : Kind) (forms : List Form) → is_spare (form_over kind forms) ≡ (is_spare_kind kind && is_spare (form_of_spare forms))
spare_over Mirror forms = refused is_spare _ a_mirror refl refl
spare_over Replacing forms = refused is_spare _ a_replacing refl refl
spare_over Spare forms = refl

mirror_over : (kind : Kind) (forms : List Form) → is_mirror (form_over kind forms) ≡ (is_mirror_kind kind && is_mirror (form_of_mirror forms))
mirror_over Mirror forms = refl
mirror_over Replacing forms = refused is_mirror _ a_replacing refl refl
mirror_over Spare forms = refused_spare is_mirror forms refl refl

pub leaf_replaces : (leaf : LeafVdev) → is_replacing (form_of (Leaf leaf)) ≡ false
leaf_replaces leaf = ap is_replacing (form_leaf leaf)

pub leaf_spares : (leaf : LeafVdev) → is_spare (form_of (Leaf leaf)) ≡ false
leaf_spares leaf = ap is_spare (form_leaf leaf)

pub leaf_mirrors : (leaf : LeafVdev) → is_top (Leaf leaf) ≡ false
unfolding is_top
leaf_mirrors leaf = ap is_mirror (form_leaf leaf)

pub inner_replaces : (inner : InnerVdev) → is_replacing (form_of (Inner inner)) ≡ (is_replacing_kind inner.kind && is_replacing (form_of_replacing (map form_of inner.children.items)))
inner_replaces inner = ap is_replacing (form_inner inner) ∙ replacing_over inner.kind (map form_of inner.children.items)

pub inner_spares : (inner : InnerVdev) → is_spare (form_of (Inner inner)) ≡ (is_spare_kind inner.kind && is_spare (form_of_spare (map form_of inner.children.items)))
inner_spares inner = ap is_spare (form_inner inner) ∙ spare_over inner.kind (map form_of inner.children.items)

pub inner_mirrors : (inner : InnerVdev) → is_top (Inner inner) ≡ (is_mirror_kind inner.kind && is_mirror (form_of_mirror (map form_of inner.children.items)))
unfolding is_top
inner_mirrors inner = ap is_mirror (form_inner inner) ∙ mirror_over inner.kind (map form_of inner.children.items)

pub spared_forms : (form : Form) → may_be_spared form ≡ (is_leaf form || is_replacing form)
spared_forms a_leaf = refl
spared_forms a_replacing = refl
spared_forms a_spare = refl
spared_forms a_mirror = refl
spared_forms no_form = refl

pub mirrored_forms : (form : Form) → may_be_mirrored form ≡ (is_leaf form || (is_replacing form || is_spare form))
mirrored_forms a_leaf = refl
mirrored_forms a_replacing = refl
mirrored_forms a_spare = refl
mirrored_forms a_mirror = refl
mirrored_forms no_form = refl

pub all_mapped : (p : Form → Bool) (vdevs : List Vdev) → list_all p (map form_of vdevs) ≡ list_all (λ vdev. p (form_of vdev)) vdevs
all_mapped p [] = refl
all_mapped p (v ∷ vdevs) = ap (λ b. p (form_of v) && b) (all_mapped p vdevs)

pub two_leaves : (vdevs : List Vdev) → is_replacing (form_of_replacing (map form_of vdevs)) ≡ (list_all (λ vdev. is_leaf (form_of vdev)) vdevs && length vdevs == 2)
two_leaves vdevs =
    chosen is_replacing _ a_replacing refl refl ∙ ap (λ b. b && length (map form_of vdevs) == 2) (all_mapped is_leaf vdevs)
    ∙ ap (λ n. list_all (λ vdev. is_leaf (form_of vdev)) vdevs && n == 2) (length-map vdevs form_of)

pub spared_children : (first : Vdev) (vdevs : List Vdev) → is_spare (form_of_spare (map form_of (first ∷ vdevs)))
    ≡ (may_be_spared (form_of first) && (list_all (λ vdev. is_leaf (form_of vdev)) vdevs && (nat_le 1 (length vdevs) && nat_le (length vdevs) 2)))
spared_children first vdevs =
    chosen is_spare _ a_spare refl refl
    ∙ ap (λ b. may_be_spared (form_of first) && (b && (nat_le 1 (length (map form_of vdevs)) && nat_le (length (map form_of vdevs)) 2))) (all_mapped is_leaf vdevs)
    ∙ ap (λ n. may_be_spared (form_of first) && (list_all (λ vdev. is_leaf (form_of vdev)) vdevs && (nat_le 1 n && nat_le n 2))) (length-map vdevs form_of)

pub mirrored_children : (vdevs : List Vdev) → is_mirror (form_of_mirror (map form_of vdevs))
    ≡ (list_all (λ vdev. may_be_mirrored (form_of vdev)) vdevs && (nat_le 1 (length vdevs) && nat_le (length vdevs) 8))
mirrored_children vdevs =
    chosen is_mirror _ a_mirror refl refl
    ∙ ap (λ b. b && (nat_le 1 (length (map form_of vdevs)) && nat_le (length (map form_of vdevs)) 8)) (all_mapped may_be_mirrored vdevs)
    ∙ ap (λ n. list_all (λ vdev. may_be_mirrored (form_of vdev)) vdevs && (nat_le 1 n && nat_le n 8)) (length-map vdevs form_of)

pub ruleset forms = (two_leaves, spared_children, mirrored_children, leaf_is, inner_is_no_leaf, leaf_replaces, leaf_spares, leaf_mirrors, inner_replaces, inner_spares, inner_mirrors, spared_forms, mirrored_forms)
