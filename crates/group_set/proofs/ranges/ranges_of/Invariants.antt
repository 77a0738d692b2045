use Rattle.std.proofs.Common.{◌+◌, ◌-◌, ◌^◌}
use Rattle.group_set.proofs.Listed.{AreListed}
use Rattle.group_set.proofs.ranges.ranges_of.Given as goal

abbrev pub invariant-loop-run : goal.invariant-loop-run
invariant-loop-run l = AreListed l.from l.runs l.ranges

abbrev pub decreases-loop-run : goal.decreases-loop-run
decreases-loop-run l = 2 ^ 62 + 2 - l.from
