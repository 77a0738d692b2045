use Rattle.std.proofs.Common.{◌≡◌, map, take}
use Rattle.std.specs.List.{list_any, list_all}
use Rattle.vdev_tree.specs.Leaf.{is_up, is_online}
use Rattle.vdev_tree.specs.Tree.{state_of}
use Rattle.vdev_tree.proofs.vdev.Vdev.+state.Given as goal

abbrev pub invariant-loop-child : goal.invariant-loop-child
invariant-loop-child l = record {
  some_up : l.some_up ≡ list_any is_up (map state_of (take l.child-index l.child-items));
  all_online : l.all_online ≡ list_all is_online (map state_of (take l.child-index l.child-items));
}
