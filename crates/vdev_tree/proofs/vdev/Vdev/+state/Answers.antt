use Rattle.std.proofs.Common.{arith, ◌∙◌}
use Rattle.vdev_tree.proofs.Steps.{state_all}
use Rattle.vdev_tree.proofs.vdev.Vdev.+state.Goals as goal

pub returns-after-loop-child : goal.returns-after-loop-child
returns-after-loop-child t c =
    c.state_over.ensures
    ∙ state_all c.args.self.now c.in-Inner.inner c.deref-child-items.result.now c.loop-child.child-index c.loop-child.some_up c.loop-child.all_online
    c.in-Inner.is c.deref-child-items.ensures.value (omega arith) c.loop-child.invariant.some_up c.loop-child.invariant.all_online
