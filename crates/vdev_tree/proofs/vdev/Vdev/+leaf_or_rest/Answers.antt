use Rattle.std.proofs.Common.{arith, ap, length}
use Rattle.vdev_tree.proofs.Steps.{leaf_of_child, leaves_all}
use Rattle.vdev_tree.proofs.vdev.Vdev.+leaf_or_rest.Goals as goal

pub returns-in-Ok-clause-leaf : goal.returns-in-Ok-clause-leaf
returns-in-Ok-clause-leaf t c =
    leaf_of_child c.args.self.now c.in-Inner.inner c.deref-child-items.result.now c.loop-child.child-index c.child-item.result c.args.place c.loop-child.rest c.in-Ok.leaf.now
    c.in-Inner.is c.deref-child-items.ensures.value (omega arith) c.child-item.is c.loop-child.invariant c.in-Ok.ensures.leaf

pub returns-after-loop-child-clause-rest : goal.returns-after-loop-child-clause-rest
returns-after-loop-child-clause-rest t c =
    omega (
      arith,
      c.loop-child.invariant,
      ap length (leaves_all c.args.self.now c.in-Inner.inner c.deref-child-items.result.now c.loop-child.child-index c.in-Inner.is c.deref-child-items.ensures.value (omega arith)),
    )
