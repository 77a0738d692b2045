use Rattle.std.proofs.Common.{arith}
use Rattle.group_set.proofs.Among.{sooner_more, sooner_all}
use Rattle.group_set.proofs.choice.first_from.Goals as goal

pub loop-run-preserved : goal.loop-run-preserved
loop-run-preserved c =
    sooner_more c.args.runs.now c.loop-run.run-index _ c.args.from c.loop-run.first c.sooner-first.result (omega arith) c.loop-run.invariant c.sooner-first.ensures

pub returns : goal.returns
returns c = sooner_all c.args.runs.now c.loop-run.run-index c.args.from c.loop-run.first (omega arith) c.loop-run.invariant
