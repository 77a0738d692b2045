use Rattle.std.proofs.Common.{take}
use Rattle.std.specs.List.{AllZip}
use Rattle.vdev_tree.specs.Tree.{IsCopy}
use Rattle.vdev_tree.proofs.vdev.Vdev.+copy.Given as goal

abbrev pub invariant-loop-child : goal.invariant-loop-child
invariant-loop-child l = AllZip IsCopy l.children.items (take l.child-index l.child-items)
