-- What a function did with a bank: the calls that it made, with their answers and causes.
use Rattle.std.specs.Prelude.{◌≡◌, ◌≢◌, ℕ, ◌≤◌, List, [], ◌∷◌, Option, Some, None, IfSome, IfNone}
use Rattle.mp_base.specs.Outside.{Rose}
use Rattle.bank_core.specs.declared.bank.Fault.{Fault}
use Rattle.bank_core.specs.Disk.{Call, Read, Write, Flush, Admit, Eject, Noted}
use Rattle.bank_core.specs.Story.{Story, Continues, Tells}
use Rattle.bank_core.specs.BankView.{BankView, SameBank}

abbrev pub device_of : Call → ℕ
device_of (Read dev at bytes fault) = dev
device_of (Write dev at bytes fault) = dev
device_of (Flush dev fault) = dev
device_of (Admit dev holds) = dev
device_of (Eject dev) = dev

abbrev pub fault_of : Call → Option Fault
fault_of (Read dev at bytes fault) = fault
fault_of (Write dev at bytes fault) = fault
fault_of (Flush dev fault) = fault
fault_of (Admit dev holds) = None
fault_of (Eject dev) = None

-- A count tells of failed calls and of nothing else: the count of a failed call's device rose, and every
-- other count stayed. Where the call answered Ok, each count stayed.
pub record IsCaused (call : Call) (before after : ℕ → ℕ) : Type 0 where
  pub counts : (d : ℕ) → before d ≤ after d
  pub cause : (fault : Fault) → fault_of call ≡ Some fault → Rose (before (device_of call)) (after (device_of call))
  pub still : fault_of call ≡ None → (d : ℕ) → after d ≡ before d
  pub others : (d : ℕ) → d ≢ device_of call → after d ≡ before d

-- so each of these calls, one after another, and no count moved otherwise
abbrev pub AllCaused : List Noted → (before after : ℕ → ℕ) → Type 0
AllCaused [] before after = (d : ℕ) → after d ≡ before d
AllCaused (noted ∷ more) before after = (between : ℕ → ℕ) × IsCaused noted.call before between × AllCaused more between after

-- These calls were made, and no other: a count rose only where one of them failed, and where the bank tells at the
-- end, its story goes on by just them.
pub record Made (old new : Option Story) (before after : ℕ → ℕ) (made : List Noted) : Type 0 where
  pub caused : AllCaused made before after
  pub told : (story' : Story) → new ≡ Some story' → Continues old made story'

-- One call was made, and the bank is the same but for this: the count of the call's device rose where it failed, and
-- every other count stayed; where it answered Ok, each count stayed; and what the bank tells goes on by this call.
pub record Called (call : Call) (old new : BankView) : Type 0 where
  pub frame : SameBank old new
  pub cause : IfSome (fault_of call) (λ fault. Rose (old.faults (device_of call)) (new.faults (device_of call)))
  pub still : IfNone (fault_of call) ((d : ℕ) → new.faults d ≡ old.faults d)
  pub others : (d : ℕ) → d ≢ device_of call → new.faults d ≡ old.faults d
  pub told : Tells old.told new.told call

-- Just these calls were made, on any devices, and else the bank is the same.
pub record Makes (made : List Noted) (old new : BankView) : Type 0 where
  pub frame : SameBank old new
  pub calls : Made old.told new.told old.faults new.faults made
