-- Runs of groups, and lists of them that neither overlap nor touch.
use Rattle.std.specs.Prelude.{◌≡◌, ℕ, ◌+◌, ◌^◌, ◌≤◌, min, max, Bool, false, ◌&&◌, not, nat_le, nat_lt, List, [], ◌∷◌, Option, Some, None, if◌then◌else◌}
use Rattle.std.specs.List.{list_any, filter_map, flat_map}
use Rattle.group_set.specs.declared.run.Run.{Run}

-- the group lies in the run
abbrev pub spans : Run → ℕ → Bool
spans run g = nat_le run.low g && nat_le g run.high

-- the group lies between two others, or is one of them
abbrev pub between : ℕ → ℕ → ℕ → Bool
between low high g = nat_le low g && nat_le g high

-- the group lies in one of the runs
abbrev pub in_runs : List Run → ℕ → Bool
in_runs runs g = list_any (λ run. spans run g) runs

-- a run ends before another begins, with a group between them
abbrev pub lies_before : Run → Run → Bool
lies_before a b = nat_lt (a.high + 1) b.low

-- two runs share a group, or one goes on where the other ends
abbrev pub touches : Run → Run → Bool
touches a b = not (lies_before a b) && not (lies_before b a)

-- the run from the lesser low end to the greater high end
abbrev pub joined : Run → Run → Run
joined a b = record { low = min a.low b.low; high = max a.high b.high }

-- the part of a run between two groups, if there is one
abbrev pub part : ℕ → ℕ → Run → Option Run
part low high run =
    if nat_le (max run.low low) (min run.high high) then Some (record { low = max run.low low; high = min run.high high }) else None

-- what each two runs of two lists have in common
abbrev pub common : List Run → List Run → List Run
common a b = flat_map (λ run. filter_map (part run.low run.high) a) b

-- a run of at least one group, from 1 to 2^62
pub record IsRun (run : Run) : Type 0 where
  pub first : 1 ≤ run.low
  pub some : run.low ≤ run.high
  pub last : run.high ≤ 2 ^ 62

-- a run touches none of these
abbrev pub StandsApart : Run → List Run → Type 0
StandsApart run [] = Unit {0}
StandsApart run (r ∷ runs) = (touches run r ≡ false) × StandsApart run runs

-- runs of which no two touch
abbrev pub AreRuns : List Run → Type 0
AreRuns [] = Unit {0}
AreRuns (run ∷ runs) = IsRun run × StandsApart run runs × AreRuns runs
