use Rattle.std.proofs.Common.{◌≡◌, ℕ, ◌<◌, ◌≤◌, false}
use Rattle.block_map.specs.Bits.{holds_some}
use Rattle.block_map.proofs.bits.Bits.least_word.Given as goal

abbrev pub invariant-loop-word : goal.invariant-loop-word
invariant-loop-word l = (w : ℕ) → l.fn.from ≤ w → w < l.word → holds_some l.self w ≡ false
