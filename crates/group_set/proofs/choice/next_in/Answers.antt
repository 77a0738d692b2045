use Rattle.std.proofs.Common.{arith}
use Rattle.group_set.specs.Choice.{IsLeastFrom}
use Rattle.group_set.specs.Runs.{in_runs}
use Rattle.group_set.proofs.Among.{nearest_more, nearest_all}
use Rattle.group_set.proofs.Sets.{least_range}
use Rattle.group_set.proofs.choice.next_in.Goals as goal
use Rattle.group_set.proofs.choice.next_in.Goals.{After-loop-run}

found : (c : After-loop-run) → IsLeastFrom (in_runs c.args.runs.now) c.args.from c.loop-run.next
found c = nearest_all c.args.runs.now c.loop-run.run-index c.args.from c.loop-run.next (omega arith) c.loop-run.invariant

pub loop-run-preserved : goal.loop-run-preserved
loop-run-preserved c =
    nearest_more c.args.runs.now c.loop-run.run-index _ c.args.from c.loop-run.next c.nearest-next.result (omega arith) c.requires c.loop-run.invariant c.nearest-next.ensures

pub returns-clause-least : goal.returns-clause-least
returns-clause-least c = found c

pub returns-clause-in_range : goal.returns-clause-in_range
returns-clause-in_range c = least_range c.args.runs.now c.args.from c.loop-run.next c.requires (found c)
