use Rattle.std.proofs.Common.{◌-◌}
use Rattle.pool_config.specs.Reading.{range_in}
use Rattle.pool_config.proofs.Taking.{AreRead}
use Rattle.pool_config.proofs.reading.read_ranges.Given as goal

abbrev pub invariant-loop : goal.invariant-loop
invariant-loop l = AreRead range_in (l.count - l.counter) l.count l.ranges l.cursor l.initial.cursor
