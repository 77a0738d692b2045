use Rattle.std.proofs.Common.{arith, ap, ◌∙◌}
use Rattle.std.specs.List.{list_any}
use Rattle.vdev_tree.specs.Edits.{is_at}
use Rattle.vdev_tree.proofs.Steps.{leaves_all}
use Rattle.vdev_tree.proofs.vdev.Vdev.+has.Goals as goal

pub returns-after-loop-child : goal.returns-after-loop-child
returns-after-loop-child t c =
    c.loop-child.invariant
    ∙ ap (list_any (is_at c.args.at)) (leaves_all c.args.self.now c.in-Inner.inner c.deref-child-items.result.now c.loop-child.child-index c.in-Inner.is c.deref-child-items.ensures.value (omega arith))
