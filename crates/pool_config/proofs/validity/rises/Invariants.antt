use Rattle.std.proofs.Common.{◌≡◌, drop}
use Rattle.pool_config.specs.Validity.{rises}
use Rattle.pool_config.proofs.validity.rises.Given as goal

abbrev pub invariant-loop-range : goal.invariant-loop-range
invariant-loop-range l = rises 1 l.most.0 l.log ≡ rises l.least l.most.0 (drop l.range-index l.log)
