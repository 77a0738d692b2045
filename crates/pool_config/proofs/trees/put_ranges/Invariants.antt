use Rattle.std.proofs.Common.{◌+◌, ◌-◌, ◌^◌}
use Rattle.pool_config.proofs.Walking.{ArePut}
use Rattle.pool_config.proofs.trees.put_ranges.Given as goal

abbrev pub invariant-loop-low : goal.invariant-loop-low
invariant-loop-low l = ArePut l.log l.initial.out l.at l.out l.stop l.from.0

abbrev pub decreases-loop-low : goal.decreases-loop-low
decreases-loop-low l = 2 ^ 62 + 2 - l.from.0
