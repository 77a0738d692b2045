use Rattle.std.proofs.Common.{◌&&◌, take, arith, ap, ◌∙◌}
use Rattle.std.specs.List.{flat_map}
use Rattle.vdev_tree.specs.Tree.{leaves}
use Rattle.dtl_rules.specs.Rules.{is_out, outage_of}
use Rattle.dtl_rules.specs.Logs.{in_extent}
use Rattle.dtl_rules.proofs.Sweeps.{all_more}
use Rattle.vdev_tree.proofs.Steps.{leaves_all}
use Rattle.dtl_rules.proofs.logs.+outage.Goals as goal

pub loop-child-preserved : goal.loop-child-preserved
loop-child-preserved t c = λ g.
    c.in_ok-narrow-in-Inner.ensures g ∙ ap (λ b. b && in_extent c.in_ok-outage-in-Inner.field-0 g) (c.loop-child.invariant g)
    ∙ ap (λ b. outage_of (flat_map leaves (take c.loop-child.child-index c.deref-child-items.result.now)) g && b) (c.in_ok-outage-in-Inner.ensures g)
    ∙ all_more (λ leaf. is_out leaf g) c.deref-child-items.result.now c.loop-child.child-index c.child-item.result (omega arith) c.child-item.is

pub returns-after-loop-child : goal.returns-after-loop-child
returns-after-loop-child t c = λ g.
    c.loop-child.invariant g
    ∙ ap (λ ls. outage_of ls g) (leaves_all c.args.vdev.now c.in-Inner.inner c.deref-child-items.result.now c.loop-child.child-index c.in-Inner.is c.deref-child-items.ensures.value (omega arith))
