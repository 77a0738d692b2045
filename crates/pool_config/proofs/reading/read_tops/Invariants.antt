use Rattle.std.proofs.Common.{◌-◌}
use Rattle.pool_config.proofs.TakingTrees.{AreTops}
use Rattle.pool_config.proofs.reading.read_tops.Given as goal

abbrev pub invariant-loop : goal.invariant-loop
invariant-loop l =
    AreTops l.number (l.count - l.counter) l.count l.initial.cursor l.cursor l.initial.members l.members l.tops.items
