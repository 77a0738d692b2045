use Rattle.std.proofs.Common.{arith, refl}
use Rattle.vdev_tree.proofs.Copies.{copied_more, copied_all}
use Rattle.vdev_tree.proofs.vdev.Vdev.+copy.Goals as goal

pub loop-child-preserved : goal.loop-child-preserved
loop-child-preserved t c =
    copied_more c.loop-child.children.items c.push.new.self.items c.deref-child-items.result.now c.loop-child.child-index c.child-item.result _
    (omega arith) c.child-item.is c.loop-child.invariant c.in_ok-copy-in-Inner.ensures c.in_ok-push-in-Inner.ensures.items

pub returns-after-loop-child : goal.returns-after-loop-child
returns-after-loop-child t c =
    copied_all c.args.self.now _ c.in-Inner.inner c.deref-child-items.result.now c.loop-child.child-index
    c.in-Inner.is c.deref-child-items.ensures.value (omega arith) refl refl c.loop-child.invariant
