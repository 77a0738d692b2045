use Rattle.std.proofs.Common.{arith}
use Rattle.block_map.specs.Numbers.{slots}
use Rattle.block_map.proofs.numbers.slots.Goals as goal

pub returns-clause-value : goal.returns-clause-value
unfolding slots
returns-clause-value c = omega (arith, c.start.ensures.value)
