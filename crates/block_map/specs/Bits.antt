-- Sets of numbers as words of 64 bits.
use Rattle.std.specs.Prelude.{◌≡◌, ℕ, ◌*◌, ◌/◌, ◌%◌, ◌<◌, ◌≤◌, ◌==◌, Bool, true, false, nat_lt, List, length, slice_index}
use Rattle.std.specs.Int.{bit_at}

-- the set has this number
unfoldable pub holds : List ℕ → ℕ → Bool
holds words at = bit_at (slice_index words (at / 64)) (at % 64) == 1

-- the word has a number
unfoldable pub holds_some : List ℕ → ℕ → Bool
holds_some words w = nat_lt 0 (slice_index words w)

-- this number is the least that the word has
pub record IsLeastIn (words : List ℕ) (w at : ℕ) : Type 0 where
  pub word : at / 64 ≡ w
  pub there : holds words at ≡ true
  pub least : (i : ℕ) → 64 * w ≤ i → i < at → holds words i ≡ false

-- this word is the first from there on that has a number
pub record IsLeastWord (words : List ℕ) (from w : ℕ) : Type 0 where
  pub inside : w < length words
  pub behind : from ≤ w
  pub some : holds_some words w ≡ true
  pub first : (v : ℕ) → from ≤ v → v < w → holds_some words v ≡ false
