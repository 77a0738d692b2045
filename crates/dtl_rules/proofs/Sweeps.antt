-- The leaves under a vdev, child by child.
use Rattle.std.proofs.Common.{◌≡◌, ℕ, ◌+◌, ◌<◌, Bool, ◌&&◌, ◌||◌, List, length, get_or, take, ap, sym, ◌∙◌}
use Rattle.std.specs.List.{list_any, list_all, flat_map}
use Rattle.vdev_tree.specs.declared.vdev.Vdev.{Vdev}
use Rattle.vdev_tree.specs.declared.vdev.LeafVdev.{LeafVdev}
use Rattle.vdev_tree.specs.Tree.{leaves}
use Rattle.std.proofs.lemmas.List.Folds.{list_any-append, list_all-append}
use Rattle.vdev_tree.proofs.Steps.{leaves_more}
use Rattle.vdev_tree.proofs.Folds.{leaves_leaf, leaves_inner, fold_leaf, fold_inner}

-- what some leaf under the children so far owes, and under one more
pub some_more : (p : LeafVdev → Bool) (vdevs : List Vdev) (i : ℕ) (child : Vdev) → i < length vdevs → child ≡ get_or vdevs i child
    → (list_any p (flat_map leaves (take i vdevs)) || list_any p (leaves child)) ≡ list_any p (flat_map leaves (take (i + 1) vdevs))
some_more p vdevs i child inside at =
    ap (λ v. list_any p (flat_map leaves (take i vdevs)) || list_any p (leaves v)) at
    ∙ sym (ap (list_any p) (leaves_more vdevs i child inside) ∙ list_any-append p (flat_map leaves (take i vdevs)) (leaves (get_or vdevs i child)))

-- the same of all leaves
pub all_more : (p : LeafVdev → Bool) (vdevs : List Vdev) (i : ℕ) (child : Vdev) → i < length vdevs → child ≡ get_or vdevs i child
    → (list_all p (flat_map leaves (take i vdevs)) && list_all p (leaves child)) ≡ list_all p (flat_map leaves (take (i + 1) vdevs))
all_more p vdevs i child inside at =
    ap (λ v. list_all p (flat_map leaves (take i vdevs)) && list_all p (leaves v)) at
    ∙ sym (ap (list_all p) (leaves_more vdevs i child inside) ∙ list_all-append p (flat_map leaves (take i vdevs)) (leaves (get_or vdevs i child)))

-- the equations at a leaf and at an inner vdev
pub ruleset at_vdev = (leaves_leaf, leaves_inner)
