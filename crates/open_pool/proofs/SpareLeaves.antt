-- The spare leaves of a tree are those that the history has of it.
use Rattle.std.proofs.Common.{◌≡◌, ℕ, zero, suc, Bool, true, false, ◌||◌, Some, None, List, [], ◌∷◌, map, drop, refl, sym, ap, ◌∙◌}
use Rattle.std.specs.Prelude.{slice_get}
use Rattle.std.specs.List.{list_any}
use Rattle.mp_base.specs.declared.number.Guid.{Guid}
use Rattle.vdev_tree.specs.declared.vdev.Kind.TheVariants.{Replacing, Spare}
use Rattle.vdev_tree.specs.declared.vdev.LeafVdev.{LeafVdev}
use Rattle.vdev_tree.specs.declared.vdev.InnerVdev.{InnerVdev}
use Rattle.vdev_tree.specs.declared.vdev.Vdev.{Vdev}
use Rattle.vdev_tree.specs.declared.vdev.Vdev.TheVariants.{Leaf, Inner}
use Rattle.vdev_tree.specs.declared.top.Top.{Top}
use Rattle.vdev_tree.specs.Tree.{guid_of}
use Rattle.vdev_tree.specs.Children.{Child, only, replacing, alone, spared, IsChild, children_of as children_under}
use Rattle.vdev_tree.proofs.Edited.{leaf_no_inner, inner_facts}
use Rattle.vdev_tree.proofs.Folds.{guid_leaf}
use Rattle.pool_codec.specs.Numbered.{by_numbers}
use Rattle.pool_codec.specs.Tops.{children_of}
use Rattle.pool_codec.proofs.TreesTold.{children_are_told}
use Rattle.pool_moves.specs.Trees.{same_number, is_spare_of, is_spare_leaf}
use Rattle.open_pool.specs.Parts.{all_parts}
use Rattle.open_pool.specs.State.{vdevs_in}

-- the vdev has this number
abbrev pub is_vdev_at : Guid → Vdev → Bool
is_vdev_at at vdev = same_number at (guid_of vdev)

-- it is the number of a spare leaf of this child
abbrev pub stands_in : Guid → Child → Bool
stands_in at child = is_spare_of at (by_numbers child)

or_false : (b : Bool) → (b || false) ≡ b
or_false true = refl
or_false false = refl

leaf_at : (at : Guid) (leaf : LeafVdev) → is_vdev_at at (Leaf leaf) ≡ same_number at leaf.guid
leaf_at at leaf = ap (same_number at) (guid_leaf leaf)

-- Behind the first child of a spare vdev stand its spare leaves.
pub behind_first : (at : Guid) (vdev : Vdev) (inner : InnerVdev) (vdevs : List Vdev) (child : Child) → vdev ≡ Inner inner
    → inner.kind ≡ Spare → vdevs ≡ inner.children.items → IsChild vdev child
    → list_any (is_vdev_at at) (drop 1 vdevs) ≡ stands_in at child
behind_first at vdev inner vdevs (alone (only leaf)) is kind items child = absurd (leaf_no_inner leaf inner (sym child ∙ is))
behind_first at vdev inner vdevs (alone (replacing guid old new)) is kind items child =
    absurd (let no : Replacing ≡ Spare = sym (inner_facts vdev guid Replacing _ inner child is).1 ∙ kind in cc)
behind_first at vdev inner vdevs (spared guid first spare None) is kind items child =
    ap (λ vs. list_any (is_vdev_at at) (drop 1 vs)) (items ∙ (inner_facts vdev guid Spare _ inner child.2 is).2)
    ∙ or_false (is_vdev_at at (Leaf spare)) ∙ leaf_at at spare
behind_first at vdev inner vdevs (spared guid first spare (Some second)) is kind items child =
    ap (λ vs. list_any (is_vdev_at at) (drop 1 vs)) (items ∙ (inner_facts vdev guid Spare _ inner child.2 is).2)
    ∙ ap (λ b. b || (is_vdev_at at (Leaf second) || false)) (leaf_at at spare)
    ∙ ap (λ b. same_number at spare.guid || b) (or_false (is_vdev_at at (Leaf second)) ∙ leaf_at at second)

any_mapped : (at : Guid) (children : List Child) → list_any (stands_in at) children ≡ is_spare_leaf at (map by_numbers children)
any_mapped at [] = refl
any_mapped at (child ∷ children) = ap (λ b. stands_in at child || b) (any_mapped at children)

-- The tree that is read of a top of the pool has its children.
pub told_at : (place : ℕ) (tops : List Top) (top : Top) → slice_get tops place ≡ Some top
    → children_of (vdevs_in (all_parts tops)) (suc place) ≡ map by_numbers (children_under top.mirror)
told_at place [] top at = absurd (let no : None ≡ Some top = at in cc)
told_at zero (t ∷ tops) top at =
    let same : t ≡ top = cc in
    children_are_told t.mirror ∙ ap (λ (x : Top). map by_numbers (children_under x.mirror)) same
told_at (suc place) (t ∷ tops) top at = told_at place tops top at

pub spares_told : (at : Guid) (place : ℕ) (tops : List Top) (top : Top) → slice_get tops place ≡ Some top
    → list_any (stands_in at) (children_under top.mirror) ≡ is_spare_leaf at (children_of (vdevs_in (all_parts tops)) (suc place))
spares_told at place tops top here =
    any_mapped at (children_under top.mirror) ∙ ap (is_spare_leaf at) (sym (told_at place tops top here))
