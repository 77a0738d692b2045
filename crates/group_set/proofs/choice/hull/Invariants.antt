use Rattle.std.proofs.Common.{take}
use Rattle.group_set.specs.Choice.{IsHull}
use Rattle.group_set.proofs.choice.hull.Given as goal

abbrev pub invariant-loop-run : goal.invariant-loop-run
invariant-loop-run l = IsHull (take l.run-index l.runs) l.hull
