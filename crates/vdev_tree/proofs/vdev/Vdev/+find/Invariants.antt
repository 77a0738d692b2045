use Rattle.std.proofs.Common.{◌≡◌, None, take}
use Rattle.std.specs.List.{find, flat_map}
use Rattle.vdev_tree.specs.Tree.{leaves, is_named}
use Rattle.vdev_tree.proofs.vdev.Vdev.+find.Given as goal

abbrev pub invariant-loop-child : goal.invariant-loop-child
invariant-loop-child l = find (is_named l.name) (flat_map leaves (take l.child-index l.child-items)) ≡ None
