-- What a bank tells: the sectors that it began with, and each call since.
use Rattle.std.specs.Prelude.{◌≡◌, ℕ, Bool, List, [], ◌∷◌, ◌++◌, take, Option, Some, None, Result, Ok, Err}
use Rattle.bank_core.specs.declared.bank.Fault.{Fault}
use Rattle.bank_core.specs.Disk.{Sectors, Call, Noted, run, AllAnswer, CrashImages, after_crash}

pub record Story : Type 0 where
  pub start : Sectors
  pub calls : List Noted

-- A moment is a place between two calls: the sectors after the first k calls. What was before stays so,
-- since a story only grows at its end.
abbrev pub at_moment : Story → ℕ → Sectors
at_moment story k = run (take k story.calls) story.start

abbrev pub now : Story → Sectors
now story = run story.calls story.start

abbrev pub goes_on : Story → List Noted → Story
goes_on story made = record { start = story.start; calls = story.calls ++ made }

-- what a call's result is in the list of calls
abbrev pub fault_in : {A : Type 0} → Result A Fault → Option Fault
fault_in (Ok x) = None
fault_in (Err fault) = Some fault

-- The story that a bank tells now is the one that it told before, with these calls since.
pub record Continues (old : Option Story) (made : List Noted) (story' : Story) : Type 0 where
  pub story : Story
  pub before : old ≡ Some story
  pub after : story' ≡ goes_on story made
  pub answers : AllAnswer (now story) made

-- A bank that tells at the end told before, and made this one call since, with some damage. A bank may
-- stop telling, and then tells nothing for good.
pub record Tells (old new : Option Story) (call : Call) : Type 0 where
  pub by : (story' : Story) → new ≡ Some story'
      → (damage : ℕ → ℕ → Bool) × Continues old (record { call = call; damage = damage } ∷ []) story'

-- After a crash at this moment a bank tells a story that begins with what the crash left, with no calls.
pub record IsCrashed (story : Story) (moment : ℕ) (new : Option Story) : Type 0 where
  pub images : ℕ → ℕ → List ℕ
  pub are : CrashImages (at_moment story moment) images
  pub told : new ≡ Some (record { start = after_crash (at_moment story moment) images; calls = [] })
