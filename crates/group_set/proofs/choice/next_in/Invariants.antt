use Rattle.std.proofs.Common.{take}
use Rattle.group_set.specs.Runs.{in_runs}
use Rattle.group_set.specs.Choice.{IsLeastFrom}
use Rattle.group_set.proofs.choice.next_in.Given as goal

abbrev pub invariant-loop-run : goal.invariant-loop-run
invariant-loop-run l = IsLeastFrom (in_runs (take l.run-index l.runs)) l.from l.next
