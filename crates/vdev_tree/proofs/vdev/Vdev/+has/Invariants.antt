use Rattle.std.proofs.Common.{◌≡◌, take}
use Rattle.std.specs.List.{flat_map, list_any}
use Rattle.vdev_tree.specs.Tree.{leaves}
use Rattle.vdev_tree.specs.Edits.{is_at}
use Rattle.vdev_tree.proofs.vdev.Vdev.+has.Given as goal

abbrev pub invariant-loop-child : goal.invariant-loop-child
invariant-loop-child l = l.some ≡ list_any (is_at l.at) (flat_map leaves (take l.child-index l.child-items))
