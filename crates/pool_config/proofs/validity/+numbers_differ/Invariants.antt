use Rattle.std.proofs.Common.{length}
use Rattle.pool_config.proofs.validity.+numbers_differ.Given as goal

abbrev pub decreases-numbers_differ : goal.decreases-numbers_differ
decreases-numbers_differ l = length l.numbers.now
