-- What each top gives.
use Rattle.std.proofs.Common.{◌≡◌, ℕ, List, [], ◌∷◌, get_or, refl, ap, ◌∙◌, subst}
use Rattle.std.specs.List.{flat_map}
use Rattle.std.proofs.lemmas.List.{append-nil}
use Rattle.vdev_tree.specs.Tree.{leaves, marks, Mark}
use Rattle.vdev_tree.specs.declared.top.Top.{Top}
use Rattle.vdev_tree.specs.declared.vdev.LeafVdev.{LeafVdev}
use Rattle.dtl_rules.specs.Widening.{leaves_of, marks_of, sectors_of, Widenings}

abbrev pub top_leaves : Top → List LeafVdev
top_leaves top = leaves top.mirror

abbrev pub top_marks : Top → List (List Mark)
top_marks top = marks top.mirror ∷ []

abbrev pub top_sectors : Top → List ℕ
top_sectors top = top.sectors ∷ []

pub all_marks : (tops : List Top) → flat_map top_marks tops ≡ marks_of tops
all_marks [] = refl
all_marks (top ∷ tops) = ap (λ ms. marks top.mirror ∷ ms) (all_marks tops)

pub all_sectors : (tops : List Top) → flat_map top_sectors tops ≡ sectors_of tops
all_sectors [] = refl
all_sectors (top ∷ tops) = ap (λ ns. top.sectors ∷ ns) (all_sectors tops)

-- A list of one top.

pub one_top : (tops : List Top) (d : Top) (built : List Mark) → marks_of tops ≡ built ∷ [] → tops ≡ get_or tops 0 d ∷ []
one_top [] d built is = cc
one_top (top ∷ []) d built is = refl
one_top (top ∷ (other ∷ tops)) d built is = cc

pub leaves_of_one : (tops : List Top) (top : Top) → tops ≡ top ∷ [] → leaves_of tops ≡ leaves top.mirror
leaves_of_one tops top is = ap leaves_of is ∙ append-nil (leaves top.mirror)

pub widened_one : (before after : List Top) (old new : Top) → before ≡ old ∷ [] → after ≡ new ∷ [] → Widenings (leaves_of before) (leaves_of after)
    → Widenings (leaves old.mirror) (leaves new.mirror)
widened_one before after old new was is widened =
    subst (λ ls. Widenings ls (leaves new.mirror)) (leaves_of_one before old was) (subst (Widenings (leaves_of before)) (leaves_of_one after new is) widened)
