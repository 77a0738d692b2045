use Rattle.std.proofs.Common.{◌||◌, take, arith, ap, ◌∙◌}
use Rattle.std.specs.List.{list_any, flat_map}
use Rattle.group_set.specs.Groups.{holds}
use Rattle.vdev_tree.specs.Tree.{leaves}
use Rattle.dtl_rules.specs.Rules.{owes}
use Rattle.dtl_rules.proofs.Sweeps.{some_more}
use Rattle.vdev_tree.proofs.Steps.{leaves_all}
use Rattle.dtl_rules.proofs.logs.+partial.Goals as goal

pub loop-child-preserved : goal.loop-child-preserved
loop-child-preserved t c = λ g.
    c.in_ok-union-in-Inner.ensures.ok g ∙ ap (λ b. b || holds c.in_ok-log-in-Inner.log g) (c.loop-child.invariant g)
    ∙ ap (λ b. list_any (λ leaf. owes leaf g) (flat_map leaves (take c.loop-child.child-index c.deref-child-items.result.now)) || b) (c.in_ok-log-in-Inner.ensures g)
    ∙ some_more (λ leaf. owes leaf g) c.deref-child-items.result.now c.loop-child.child-index c.child-item.result (omega arith) c.child-item.is

pub returns-after-loop-child : goal.returns-after-loop-child
returns-after-loop-child t c = λ g.
    c.loop-child.invariant g
    ∙ ap (λ ls. list_any (λ leaf. owes leaf g) ls) (leaves_all c.args.vdev.now c.in-Inner.inner c.deref-child-items.result.now c.loop-child.child-index c.in-Inner.is c.deref-child-items.ensures.value (omega arith))
