-- A set of groups as callers see it. They speak of the groups that it has, of how many runs these make, and of
-- the room for further runs, and never of the order in which it keeps its runs.
use Rattle.std.specs.Prelude.{◌≡◌, ◌≢◌, ℕ, ◌+◌, ◌-◌, ◌≤◌, Bool, true, false, ◌&&◌, not, List, length, AllPairs, Contains}
use Rattle.group_set.specs.declared.run.Run.{Run}
use Rattle.group_set.specs.Runs.{in_runs}

-- the runs, and for how many more there is room
pub record Groups : Type 0 where
  pub runs : List Run
  pub spare : ℕ

-- the set has this group
unfoldable pub holds : Groups → ℕ → Bool
holds set g = in_runs set.runs g

-- how many maximal runs its groups make (`CountsRuns` says so of the groups alone)
unfoldable pub run_count : Groups → ℕ
run_count set = length set.runs

-- two sets have the same groups
abbrev pub SameGroups : Groups → Groups → Type 0
SameGroups a b = (g : ℕ) → holds a g ≡ holds b g

-- a run of the set begins at this group: it is there, and the one before it isn't
abbrev pub begins : Groups → ℕ → Bool
begins set g = holds set g && not (holds set (g - 1))

-- the groups from `low` to `high` are a run of the set that no further group makes longer
pub record IsMaximalRun (set : Groups) (low high : ℕ) : Type 0 where
  pub some : low ≤ high
  pub inside : (g : ℕ) → low ≤ g → g ≤ high → holds set g ≡ true
  pub before : holds set (low - 1) ≡ false
  pub behind : holds set (high + 1) ≡ false

-- the set has so many maximal runs: this many groups, all different, and no others begin one
pub record CountsRuns (set : Groups) (n : ℕ) : Type 0 where
  pub lows : List ℕ
  pub count : length lows ≡ n
  pub differ : AllPairs (λ a b. a ≢ b) lows
  pub all : (g : ℕ) → begins set g ≡ true → Contains lows g
  pub only : (g : ℕ) → Contains lows g → begins set g ≡ true

-- the room together with the runs didn't fall
abbrev pub KeepsRoom : Groups → Groups → Type 0
KeepsRoom old new = old.spare + run_count old ≤ new.spare + run_count new

-- the new set has all from the least to the greatest group of the old one
pub record IsWidened (old new : Groups) : Type 0 where
  pub between : (a g b : ℕ) → holds old a ≡ true → holds old b ≡ true → a ≤ g → g ≤ b → holds new g ≡ true
  pub only : (g : ℕ) → holds new g ≡ true → (a : ℕ) × (b : ℕ) × (holds old a ≡ true) × (holds old b ≡ true) × (a ≤ g) × (g ≤ b)
