use Rattle.std.proofs.Common.{arith}
use Rattle.group_set.proofs.Among.{wider_more, wider_all}
use Rattle.group_set.proofs.choice.hull.Goals as goal

pub loop-run-preserved : goal.loop-run-preserved
loop-run-preserved c =
    wider_more c.args.runs.now c.loop-run.run-index _ c.loop-run.hull c.wider-hull.result (omega arith) c.requires c.loop-run.invariant c.wider-hull.ensures

pub returns : goal.returns
returns c = wider_all c.args.runs.now c.loop-run.run-index c.loop-run.hull (omega arith) c.loop-run.invariant
