use Rattle.std.proofs.Common.{◌/◌}
use Rattle.block_map.proofs.Bitmaps.{holds_none, zero_of_zeros}
use Rattle.block_map.proofs.bits.Bits.new.Goals as goal

pub returns-clause-none : goal.returns-clause-none
returns-clause-none c = λ at. holds_none _ at (zero_of_zeros _ _ (at / 64) (c.in_ok-vec.ensures.items_if_clones_equal (λ y e. e)))
