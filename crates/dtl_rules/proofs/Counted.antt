-- Logs whose ranges are their maximal runs.
use Rattle.std.proofs.Common.{◌≡◌, ℕ, ◌+◌, ◌<◌, List, [], ◌++◌, All, length, get_or, take, ap, sym, ◌∙◌, subst}
use Rattle.std.specs.List.{flat_map}
use Rattle.std.proofs.lemmas.List.Elements.{All-nil, All-cons, All-append}
use Rattle.group_set.specs.Groups.{CountsRuns}
use Rattle.vdev_tree.specs.declared.top.Top.{Top}
use Rattle.vdev_tree.specs.declared.vdev.Vdev.{Vdev}
use Rattle.vdev_tree.specs.declared.vdev.LeafVdev.{LeafVdev}
use Rattle.vdev_tree.specs.declared.vdev.Vdev.TheVariants.{Leaf}
use Rattle.vdev_tree.specs.Tree.{leaves}
use Rattle.vdev_tree.proofs.Folds.{leaves_leaf}
use Rattle.vdev_tree.proofs.Steps.{leaves_more}
use Rattle.dtl_rules.specs.Widening.{leaves_of, ranges_of, IsCounted}
use Rattle.dtl_rules.proofs.Totals.{tops_more}

pub counted_leaf : (vdev : Vdev) (leaf : LeafVdev) (n : ℕ) → vdev ≡ Leaf leaf → CountsRuns leaf.log n → n ≡ ranges_of leaf → All IsCounted (leaves vdev)
counted_leaf vdev leaf n is counts same =
    subst (All IsCounted) (sym (ap leaves is ∙ leaves_leaf leaf)) (All-cons IsCounted leaf [] (subst (CountsRuns leaf.log) same counts) (All-nil IsCounted))

-- the leaves under one child more
pub counted_more : (vdevs : List Vdev) (i : ℕ) (child : Vdev) → i < length vdevs → child ≡ get_or vdevs i child → All IsCounted (flat_map leaves (take i vdevs))
    → All IsCounted (leaves child) → All IsCounted (flat_map leaves (take (i + 1) vdevs))
counted_more vdevs i child inside at so_far here =
    subst (All IsCounted) (ap (λ v. flat_map leaves (take i vdevs) ++ leaves v) at ∙ sym (leaves_more vdevs i child inside))
    (All-append IsCounted (flat_map leaves (take i vdevs)) (leaves child) so_far here)

-- the leaves of one top more
pub counted_tops : (tops : List Top) (i : ℕ) (top : Top) → i < length tops → top ≡ get_or tops i top → All IsCounted (leaves_of (take i tops))
    → All IsCounted (leaves top.mirror) → All IsCounted (leaves_of (take (i + 1) tops))
counted_tops tops i top inside at so_far here =
    subst (All IsCounted) (ap (λ (t : Top). leaves_of (take i tops) ++ leaves t.mirror) at ∙ sym (tops_more tops i top inside))
    (All-append IsCounted (leaves_of (take i tops)) (leaves top.mirror) so_far here)
