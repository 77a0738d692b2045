-- What is said of a bank, and what calls on its devices leave of it.
use Rattle.std.specs.Prelude.{◌≡◌, ℕ, ◌≤◌, Bool, true, List, Option, is_some}
use Rattle.mp_base.specs.Outside.{Rose}
use Rattle.bank_core.specs.Story.{Story}

-- A bank as its clauses see it: how many sectors the device of a number has, 0 where there is none; the number of
-- the device of a name, once it was found; the names of its devices, where it tells them; how often a call on a
-- device failed, and how often a look-up; and what it tells of its devices, where it does.
pub record BankView : Type 0 where
  pub size : ℕ → ℕ
  pub number_of : List ℕ → Option ℕ
  pub names : Option (List (List ℕ))
  pub faults : ℕ → ℕ
  pub lookup_faults : ℕ
  pub told : Option Story

-- the bank tells its story
abbrev pub tells : BankView → Bool
tells bank = is_some bank.told

-- No device's count rose. A count at the end of its type says neither.
abbrev pub NoneRose : (old new : BankView) → Type 0
NoneRose old new = (d : ℕ) → ¬ (Rose (old.faults d) (new.faults d))

-- The same devices with the same names and numbers: what calls on devices leave as it is. No count falls, and
-- where none rose, a bank that told before tells still.
pub record SameBank (old new : BankView) : Type 0 where
  pub sizes : (d : ℕ) → new.size d ≡ old.size d
  pub numbers : (name : List ℕ) → new.number_of name ≡ old.number_of name
  pub names : new.names ≡ old.names
  pub lookups : new.lookup_faults ≡ old.lookup_faults
  pub counts : (d : ℕ) → old.faults d ≤ new.faults d
  pub telling : NoneRose old new → tells old ≡ true → tells new ≡ true
