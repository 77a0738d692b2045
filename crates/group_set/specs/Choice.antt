-- What is looked for among runs.
use Rattle.std.specs.Prelude.{◌≡◌, ℕ, ◌<◌, ◌≤◌, min, max, Bool, true, false, cond, nat_le, nat_lt, List, [], ◌∷◌, Option, Some, None, MatchOption, ◌⊎◌}
use Rattle.group_set.specs.declared.run.Run.{Run}
use Rattle.group_set.specs.Runs.{in_runs, joined, IsRun}

-- the group is the least from `from` on of those that pass
pub record LeastFrom (has : ℕ → Bool) (from group : ℕ) : Type 0 where
  pub holds : has group ≡ true
  pub late : from ≤ group
  pub least : (g : ℕ) → from ≤ g → g < group → has g ≡ false

-- the least of them, where there is one
abbrev pub IsLeastFrom : (ℕ → Bool) → ℕ → Option ℕ → Type 0
IsLeastFrom has from found = MatchOption found ((g : ℕ) → from ≤ g → has g ≡ false) (LeastFrom has from)

-- the run is one of these
abbrev pub IsAmong : Run → List Run → Type 0
IsAmong run [] = ⊥
IsAmong run (r ∷ runs) = (r ≡ run) ⊎ IsAmong run runs

-- the run begins at or behind `from`, and none of these that does so begins before it
pub record FirstFrom (runs : List Run) (from : ℕ) (run : Run) : Type 0 where
  pub among : IsAmong run runs
  pub late : from ≤ run.low
  pub first : (r : Run) → IsAmong r runs → from ≤ r.low → run.low ≤ r.low

abbrev pub IsFirstFrom : List Run → ℕ → Option Run → Type 0
IsFirstFrom runs from found = MatchOption found ((r : Run) → IsAmong r runs → r.low < from) (FirstFrom runs from)

-- the run goes from the least to the greatest group of these
pub record HullOf (runs : List Run) (run : Run) : Type 0 where
  pub is_run : IsRun run
  pub low : in_runs runs run.low ≡ true
  pub high : in_runs runs run.high ≡ true
  pub above : (g : ℕ) → in_runs runs g ≡ true → run.low ≤ g
  pub below : (g : ℕ) → in_runs runs g ≡ true → g ≤ run.high

abbrev pub IsHull : List Run → Option Run → Type 0
IsHull runs found = MatchOption found (runs ≡ []) (HullOf runs)

-- one run more to look at
abbrev pub nearest : ℕ → Option ℕ → Run → Option ℕ
nearest from None run = cond (nat_lt run.high from) None (Some (max run.low from))
nearest from (Some next) run = cond (nat_lt run.high from) (Some next) (Some (min next (max run.low from)))

abbrev pub sooner : ℕ → Option Run → Run → Option Run
sooner from None run = cond (nat_lt run.low from) None (Some run)
sooner from (Some first) run = cond (nat_lt run.low from) (Some first) (cond (nat_le first.low run.low) (Some first) (Some run))

abbrev pub wider : Option Run → Run → Option Run
wider None run = Some run
wider (Some hull) run = Some (joined hull run)
