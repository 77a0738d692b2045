use Rattle.std.proofs.Common.{◌-◌}
use Rattle.pool_config.proofs.TakingWhole.{AreSpares}
use Rattle.pool_config.proofs.reading.read_spares.Given as goal

abbrev pub invariant-loop : goal.invariant-loop
invariant-loop l = AreSpares (l.count - l.counter) l.count l.initial.cursor l.cursor l.spares.items
