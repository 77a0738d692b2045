use Rattle.std.proofs.Common.{◌≡◌, drop}
use Rattle.config_codec.specs.Ranges.{rises}
use Rattle.config_codec.proofs.validity.rises.Given as goal

abbrev pub invariant-loop-range : goal.invariant-loop-range
invariant-loop-range l = rises 1 l.most.0 l.log ≡ rises l.least l.most.0 (drop l.range-index l.log)
