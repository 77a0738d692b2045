use Rattle.std.proofs.Common.{arith, sym, ◌∙◌}
use Rattle.vdev_tree.proofs.Steps.{found_child, passed_child, none_named}
use Rattle.vdev_tree.proofs.vdev.Vdev.+find.Goals as goal

pub returns-then-is_some : goal.returns-then-is_some
returns-then-is_some t c =
    found_child c.args.name.now c.args.self.now c.in-Inner.inner c.deref-child-items.result.now c.loop-child.child-index c.child-item.result c.find-found.result
    c.in-Inner.is c.deref-child-items.ensures.value (omega arith) c.child-item.is c.loop-child.invariant c.find-found.ensures (sym c.is_some.ensures ∙ c.if-is_some.true)

pub loop-child-preserved : goal.loop-child-preserved
loop-child-preserved t c =
    passed_child c.args.name.now c.deref-child-items.result.now c.loop-child.child-index c.child-item.result c.find-found.result
    (omega arith) c.child-item.is c.loop-child.invariant c.find-found.ensures (sym c.is_some.ensures ∙ c.if-is_some.false)

pub returns-after-loop-child : goal.returns-after-loop-child
returns-after-loop-child t c =
    none_named c.args.name.now c.args.self.now c.in-Inner.inner c.deref-child-items.result.now c.loop-child.child-index
    c.in-Inner.is c.deref-child-items.ensures.value (omega arith) c.loop-child.invariant
