-- What calls ask, apart from their answers.
use Rattle.std.specs.Prelude.{◌≡◌, ℕ, List, [], ◌∷◌, ◌⊎◌, map, Option, Some, None}
use Rattle.bank_core.specs.declared.bank.Fault.{Fault}
use Rattle.bank_core.specs.Disk.{Call, Read, Write, Flush, Admit, Eject, Noted, sectors_in}
use Rattle.bank_core.specs.Calls.{fault_of}

pub data Ask : Type 0 where
  Reads : (dev at sectors : ℕ) → Ask
  Writes : (dev at : ℕ) (bytes : List ℕ) → Ask
  Flushes : (dev : ℕ) → Ask
  Admits : (dev : ℕ) → Ask
  Ejects : (dev : ℕ) → Ask

abbrev pub ask_of : Call → Ask
ask_of (Read dev at bytes fault) = Reads dev at (sectors_in bytes)
ask_of (Write dev at bytes fault) = Writes dev at bytes
ask_of (Flush dev fault) = Flushes dev
ask_of (Admit dev holds) = Admits dev
ask_of (Eject dev) = Ejects dev

abbrev pub asks_of : List Noted → List Ask
asks_of calls = map (λ noted. ask_of noted.call) calls

-- These asks were made in order up to the first that failed, which is the outcome, and all of them where none did.
abbrev pub IsPart : List Ask → List Noted → Option Fault → Type 0
IsPart [] [] outcome = outcome ≡ None
IsPart [] (noted ∷ more) outcome = ⊥
IsPart (ask ∷ asks) [] outcome = ⊥
IsPart (ask ∷ asks) (noted ∷ more) outcome = (ask_of noted.call ≡ ask)
    × (((fault_of noted.call ≡ None) × IsPart asks more outcome)
    ⊎ ((fault : Fault) × (fault_of noted.call ≡ Some fault) × (more ≡ []) × (outcome ≡ Some fault)))
