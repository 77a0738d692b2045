-- What lies outside: counts of faults, and what streams and clocks tell.
use Rattle.std.specs.Prelude.{◌≡◌, ℕ, ◌-◌, ◌^◌, ◌<◌, min, List, ◌++◌, Option, Some}

-- A count of faults rose, or stands at the end of its type, where it can rise no more.
abbrev pub Rose : ℕ → ℕ → Type 0
Rose before after = min before (2 ^ 64 - 2) < after

-- A source that tells what it has left has given these bytes of it. One that tells nothing at the
-- end, because it never did or because it stopped, claims nothing.
pub record Given (old new : Option (List ℕ)) (bytes : List ℕ) : Type 0 where
  pub by : (rest : List ℕ) → new ≡ Some rest → old ≡ Some (bytes ++ rest)

-- A sink that tells what it has taken has taken these bytes behind it.
pub record Taken (old new : Option (List ℕ)) (bytes : List ℕ) : Type 0 where
  pub by : (now : List ℕ) → new ≡ Some now → (before : List ℕ) × (old ≡ Some before) × (now ≡ before ++ bytes)
