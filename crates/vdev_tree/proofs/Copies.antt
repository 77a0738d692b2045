-- Copies of trees.
use Rattle.std.proofs.Common.{◌≡◌, ℕ, ◌≤◌, List, [], ◌∷◌, ◌++◌, ◌+◌, ◌<◌, length, get_or, take, take_all, refl, ap, sym, ◌∙◌, subst}
use Rattle.std.specs.List.{flat_map, AllZip}
use Rattle.std.proofs.lemmas.List.{take_more}
use Rattle.std.proofs.lemmas.List.Elements.{AllZip-push}
use Rattle.vdev_tree.specs.declared.vdev.Vdev.{Vdev}
use Rattle.vdev_tree.specs.declared.vdev.InnerVdev.{InnerVdev}
use Rattle.vdev_tree.specs.declared.vdev.LeafVdev.{LeafVdev}
use Rattle.vdev_tree.specs.declared.vdev.Vdev.TheVariants.{Leaf, Inner}
use Rattle.vdev_tree.specs.Leaf.{SameLeaf}
use Rattle.vdev_tree.specs.Tree.{leaves, form_of, marks, IsCopy}
use Rattle.vdev_tree.specs.Changes.{form_alone}
use Rattle.vdev_tree.proofs.Folds.{leaves_leaf, leaves_inner}
use Rattle.vdev_tree.proofs.Built.{leaf_built, leaf_form, inner_built, inner_form}
use Rattle.vdev_tree.proofs.Lists.{AllZip-append}

pub IsCopy-leaf : (new old : LeafVdev) → SameLeaf new old → IsCopy (Leaf new) (Leaf old)
IsCopy-leaf new old same = record {
  built = leaf_built old new;
  form = leaf_form old new;
  leaves = subst (λ ls. AllZip SameLeaf ls (leaves (Leaf old))) (sym (leaves_leaf new)) (subst (λ ls. AllZip SameLeaf (new ∷ []) ls) (sym (leaves_leaf old)) (same, tt));
}

forms_of : (new old : List Vdev) → AllZip IsCopy new old → flat_map form_alone new ≡ flat_map form_alone old
forms_of [] [] copies = refl
forms_of [] (y ∷ ys) copies = absurd copies
forms_of (x ∷ xs) [] copies = absurd copies
forms_of (x ∷ xs) (y ∷ ys) copies = ap (λ f. f ∷ flat_map form_alone xs) copies.0.form ∙ ap (λ fs. form_of y ∷ fs) (forms_of xs ys copies.1)

marks_of_all : (new old : List Vdev) → AllZip IsCopy new old → flat_map marks new ≡ flat_map marks old
marks_of_all [] [] copies = refl
marks_of_all [] (y ∷ ys) copies = absurd copies
marks_of_all (x ∷ xs) [] copies = absurd copies
marks_of_all (x ∷ xs) (y ∷ ys) copies = ap (λ m. m ++ flat_map marks xs) copies.0.built ∙ ap (λ ms. marks y ++ ms) (marks_of_all xs ys copies.1)

leaves_of_all : (new old : List Vdev) → AllZip IsCopy new old → AllZip SameLeaf (flat_map leaves new) (flat_map leaves old)
leaves_of_all [] [] copies = tt
leaves_of_all [] (y ∷ ys) copies = absurd copies
leaves_of_all (x ∷ xs) [] copies = absurd copies
leaves_of_all (x ∷ xs) (y ∷ ys) copies = AllZip-append LeafVdev SameLeaf (leaves x) (leaves y) (flat_map leaves xs) (flat_map leaves ys) copies.0.leaves (leaves_of_all xs ys copies.1)

pub IsCopy-inner : (new old : InnerVdev) → new.guid ≡ old.guid → new.kind ≡ old.kind → AllZip IsCopy new.children.items old.children.items → IsCopy (Inner new) (Inner old)
IsCopy-inner new old guid kind copies = record {
  built = inner_built old new guid kind (marks_of_all new.children.items old.children.items copies);
  form = inner_form old new kind (forms_of new.children.items old.children.items copies);
  leaves = subst (λ ls. AllZip SameLeaf ls (leaves (Inner old))) (sym (leaves_inner new))
      (subst (λ ls. AllZip SameLeaf (flat_map leaves new.children.items) ls) (sym (leaves_inner old))
      (leaves_of_all new.children.items old.children.items copies));
}

-- one child more is copied
pub copied_more : (new next vdevs : List Vdev) (i : ℕ) (child copy : Vdev) → i < length vdevs → child ≡ get_or vdevs i child → AllZip IsCopy new (take i vdevs)
    → IsCopy copy child → next ≡ new ++ copy ∷ [] → AllZip IsCopy next (take (i + 1) vdevs)
copied_more new next vdevs i child copy inside at copies is pushed =
    subst (λ vs. AllZip IsCopy vs (take (i + 1) vdevs)) (sym pushed)
    (subst (AllZip IsCopy (new ++ copy ∷ [])) (sym (take_more vdevs i child inside))
    (AllZip-push IsCopy new (take i vdevs) copy (get_or vdevs i child) copies (subst (IsCopy copy) at is)))

-- at the end of the loop that copies the children
pub copied_all : (vdev : Vdev) (new old : InnerVdev) (vdevs : List Vdev) (i : ℕ) → vdev ≡ Inner old → vdevs ≡ old.children.items → length vdevs ≤ i
    → new.guid ≡ old.guid → new.kind ≡ old.kind → AllZip IsCopy new.children.items (take i vdevs) → IsCopy (Inner new) vdev
copied_all vdev new old vdevs i is same all guid kind copies =
    subst (IsCopy (Inner new)) (sym is) (IsCopy-inner new old guid kind (subst (AllZip IsCopy new.children.items) (take_all i vdevs all ∙ same) copies))
