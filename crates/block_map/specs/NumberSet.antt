-- Sets of numbers below a limit.
use Rattle.std.specs.Prelude.{◌≡◌, ◌≢◌, ℕ, suc, zero, ◌+◌, ◌*◌, ◌<◌, ◌≤◌, ◌^◌, Bool, true, false, List, length, if◌then◌else◌}
use Rattle.block_map.specs.Bits.{holds, holds_some}

-- the numbers, and how many they are
pub record Numbers : Type 0 where
  pub members : List ℕ
  pub count : ℕ

unfoldable pub has : Numbers → ℕ → Bool
has set at = holds set.members at

-- the set may have the numbers below this one
unfoldable pub room : Numbers → ℕ
room set = 64 * length set.members

-- the least number that passes
pub record IsLeast (test : ℕ → Bool) (at : ℕ) : Type 0 where
  pub passes : test at ≡ true
  pub least : (i : ℕ) → i < at → test i ≡ false

-- the new set has this number besides
pub record HasMore (old new : Numbers) (at : ℕ) : Type 0 where
  pub there : has new at ≡ true
  pub others : (i : ℕ) → i ≢ at → has new i ≡ has old i
  pub count : new.count ≡ old.count + 1
  pub room : room new ≡ room old

-- the new set has this number no more
pub record HasLess (old new : Numbers) (at : ℕ) : Type 0 where
  pub gone : has new at ≡ false
  pub others : (i : ℕ) → i ≢ at → has new i ≡ has old i
  pub count : new.count + 1 ≡ old.count
  pub room : room new ≡ room old

-- a test as a number
abbrev pub one_if : Bool → ℕ
one_if test = if test then 1 else 0

-- the new set has this number or not, and the others as before
pub record HasNow (there : Bool) (old new : Numbers) (at : ℕ) : Type 0 where
  pub now : has new at ≡ there
  pub others : (i : ℕ) → i ≢ at → has new i ≡ has old i
  pub count : new.count + one_if (has old at) ≡ old.count + one_if there
  pub room : room new ≡ room old

-- how many of the numbers below `n` pass
abbrev pub count_below : (ℕ → Bool) → ℕ → ℕ
count_below test zero = 0
count_below test (suc n) = one_if (test n) + count_below test n

-- How a set is kept: `words` has the words that have a number, none of them is below 64 times `low`, and `count`
-- is how many numbers there are.
pub record AreCounted (members words : List ℕ) (low count : ℕ) : Type 0 where
  pub some : (w : ℕ) → holds words w ≡ holds_some members w
  pub none_below : (w : ℕ) → w < 64 * low → holds words w ≡ false
  pub counted : count ≡ count_below (holds members) (64 * length members)
  pub room : length members ≤ 64 * length words
  pub small : length members ≤ 2 ^ 40
  pub small_words : length words ≤ 2 ^ 40
