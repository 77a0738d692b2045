use Rattle.std.proofs.Common.{◌≡◌, ◌+◌, length, take}
use Rattle.std.specs.List.{flat_map}
use Rattle.vdev_tree.specs.Tree.{leaves}
use Rattle.vdev_tree.proofs.vdev.Vdev.+leaf_or_rest.Given as goal

abbrev pub invariant-loop-child : goal.invariant-loop-child
invariant-loop-child l = l.fn.place ≡ length (flat_map leaves (take l.child-index l.child-items)) + l.rest
