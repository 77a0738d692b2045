use Rattle.std.proofs.Common.{take}
use Rattle.group_set.specs.Choice.{IsFirstFrom}
use Rattle.group_set.proofs.choice.first_from.Given as goal

abbrev pub invariant-loop-run : goal.invariant-loop-run
invariant-loop-run l = IsFirstFrom (take l.run-index l.runs) l.from l.first
