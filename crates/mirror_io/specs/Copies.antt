-- The copies of a block, and the order in which they are read.
use Rattle.std.specs.Prelude.{◌≡◌, ◌≢◌, ℕ, ◌<◌, Bool, true, false, ◌&&◌, not, List, ◌++◌}
use Rattle.std.specs.List.{All, AllPairs, filter}
use Rattle.mirror_io.specs.declared.copies.CopyOf.{CopyOf}

-- a readable copy whose leaf has the block, and one whose leaf owes it
abbrev pub is_due : (owing : Bool) → CopyOf → Bool
is_due false copy = copy.readable && not copy.lacks
is_due true copy = copy.readable && copy.lacks

-- The copies in the order in which they are read: those whose leaves have the block, and behind them those whose
-- leaves owe it, each in tree order. One that isn't readable is not read.
abbrev pub tries : List CopyOf → List CopyOf
tries copies = filter (is_due false) copies ++ filter (is_due true) copies

-- the devices of readable copies have the sector
abbrev pub AreWithin : (size : ℕ → ℕ) → List CopyOf → (at : ℕ) → Type 0
AreWithin size copies at = All (λ copy. copy.readable ≡ true → at < size copy.dev) copies

-- no two readable copies have one device
abbrev pub AreApart : List CopyOf → Type 0
AreApart copies = AllPairs (λ one other. one.readable ≡ true → other.readable ≡ true → one.dev ≢ other.dev) copies
