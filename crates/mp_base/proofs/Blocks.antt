-- Blocks filled up with zeros.
use Rattle.std.proofs.Common.{◌≡◌, ℕ, ◌-◌, ◌≤◌, List, ◌++◌, length, take, replicate, refl, take_all}
use Rattle.mp_base.specs.Block.{padded, zeros, block_bytes}

-- bytes that were cut to a block's length, which changes nothing, and filled up are the padded block
pub filled : (bytes copied all : List ℕ) (len : ℕ) → length bytes ≤ 4096 → copied ≡ bytes → len ≡ length bytes
    → all ≡ take 4096 copied ++ replicate (4096 - len) 0 → all ≡ padded bytes
unfolding padded zeros block_bytes
filled bytes copied all len short copied_is len_is all_is = rw (all_is, copied_is, len_is, take_all 4096 bytes short) refl
