-- What a function asked of a bank, up to its first failed call.
use Rattle.std.specs.Prelude.{◌≡◌, ◌≢◌, ℕ, List, Option, IfSome, IfNone}
use Rattle.mp_base.specs.Outside.{Rose}
use Rattle.bank_core.specs.declared.bank.Fault.{Fault}
use Rattle.bank_core.specs.BankView.{BankView, SameBank}
use Rattle.bank_core.specs.Disk.{Noted}
use Rattle.bank_core.specs.Story.{Story}
use Rattle.bank_core.specs.Calls.{Made}
use Rattle.bank_core.specs.Asks.{Ask, IsPart}

-- Calls on this device for these asks were made, in order, up to the first that failed, which is the outcome, and
-- else the bank is the same. The device's count rose where one failed, and stayed where none did. Every other
-- count stayed.
pub record Part (dev : ℕ) (asks : List Ask) (old new : BankView) (outcome : Option Fault) : Type 0 where
  pub frame : SameBank old new
  pub made : List Noted
  pub calls : Made old.told new.told old.faults new.faults made
  pub part : IsPart asks made outcome
  pub cause : IfSome outcome (λ fault. Rose (old.faults dev) (new.faults dev))
  pub still : IfNone outcome ((d : ℕ) → new.faults d ≡ old.faults d)
  pub others : (d : ℕ) → d ≢ dev → new.faults d ≡ old.faults d

-- The calls alone, where they go to several devices.
pub record MakesPart (asks : List Ask) (old new : Option Story) (before after : ℕ → ℕ) (outcome : Option Fault) : Type 0 where
  pub made : List Noted
  pub calls : Made old new before after made
  pub part : IsPart asks made outcome
