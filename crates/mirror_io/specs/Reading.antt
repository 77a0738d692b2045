-- What the reads of a block, copy by copy, did with a bank.
use Rattle.std.specs.Prelude.{◌≡◌, ◌↔◌, ◌⊎◌, ℕ, Bool, true, false, List, [], ◌∷◌, ◌++◌, map, length, Option, Some, None}
use Rattle.std.specs.List.{AllByRecursion, filter}
use Rattle.bank_core.specs.declared.bank.Fault.{Fault}
use Rattle.bank_core.specs.BankView.{BankView}
use Rattle.bank_core.specs.Calls.{Makes, device_of}
use Rattle.bank_core.specs.Disk.{Call, Read, Write, Flush, Admit, Eject, Noted}
use Rattle.mirror_io.specs.declared.copies.CopyOf.{CopyOf}
use Rattle.mirror_io.specs.declared.copies.CopySeen.{CopySeen}
use Rattle.mirror_io.specs.declared.copies.CopySeen.TheVariants as seen
use Rattle.mirror_io.specs.Copies.{is_due}
use Rattle.mirror_io.specs.Reads.{AreTried}
use Rattle.mirror_io.specs.Seen.{seen_after, copy_shown}

-- A block on a mirror: its copies, the sector at which each of them has it, and its sum.
pub record MirrorBlock : Type 0 where
  pub copies : List CopyOf
  pub at : ℕ
  pub sum : List ℕ

-- these calls are on this device
abbrev pub AreOn : ℕ → List Noted → Type 0
AreOn dev made = AllByRecursion (λ noted. device_of noted.call ≡ dev) made

-- Where a call is a read that answered Ok, the test says of its bytes whether they are good.
abbrev pub Tells : (test : List ℕ → Bool) → (Good : List ℕ → Type 0) → Call → Type 0
Tells test Good (Read dev at bytes None) = (test bytes ≡ true) ↔ Good bytes
Tells test Good (Read dev at bytes (Some fault)) = Unit {0}
Tells test Good (Write dev at bytes fault) = Unit {0}
Tells test Good (Flush dev fault) = Unit {0}
Tells test Good (Admit dev holds) = Unit {0}
Tells test Good (Eject dev) = Unit {0}

abbrev pub AllTold : (test : List ℕ → Bool) → (Good : List ℕ → Type 0) → List Noted → Type 0
AllTold test Good made = AllByRecursion (λ noted. Tells test Good noted.call) made

-- what was known of the copies, and is behind these calls
abbrev pub Shows : (test : List ℕ → Bool) → List CopyOf → List Noted → (known known' : List CopySeen) → Type 0
Shows test copies made known known' =
    (before : List Noted) → known ≡ map (copy_shown test before) copies
    → known' ≡ map (copy_shown test (before ++ made)) copies

-- the bytes that a read gave, where it was good
abbrev pub outcome_of : Bool → List ℕ → Option (List ℕ)
outcome_of true bytes = Some bytes
outcome_of false bytes = None

-- what a read shows, by whether it failed
abbrev pub IsShown : (Good : List ℕ → Type 0) → List ℕ → Option Fault → CopySeen → Type 0
IsShown Good bytes (Some fault) shown = shown ≡ seen.Failed
IsShown Good bytes None shown = (Good bytes × (shown ≡ seen.Good)) ⊎ ((Good bytes → ⊥) × (shown ≡ seen.Mismatch))

-- One read of a copy, and what it shows of it.
pub record ReadsCopy (Good : List ℕ → Type 0) (dev at : ℕ) (bytes : List ℕ) (shown : CopySeen) (old new : BankView)
    : Type 0 where
  pub fault : Option Fault
  pub damage : ℕ → ℕ → Bool
  pub bank : Makes (record { call = Read dev at bytes fault; damage = damage } ∷ []) old new
  pub whole : length bytes ≡ 4096
  pub is : IsShown Good bytes fault shown

-- A copy that is due was read, and another one wasn't.
pub record TriesCopy (Good : List ℕ → Type 0) (copy : CopyOf) (owing : Bool) (at : ℕ) (outcome : Option (List ℕ))
    (known known' : CopySeen) (old new : BankView) : Type 0 where
  pub made : List Noted
  pub wrong : List CopyOf
  pub bank : Makes made old new
  pub is_tried : AreTried at Good (filter (is_due owing) (copy ∷ [])) made wrong outcome
  pub shown : (test : List ℕ → Bool) → AllTold test Good made → known' ≡ seen_after test copy.dev known made
  pub on : AreOn copy.dev made
  pub idle : is_due owing copy ≡ false → made ≡ []

-- These of the copies were read.
pub record Tries (Good : List ℕ → Type 0) (copies : List CopyOf) (at : ℕ) (due : List CopyOf)
    (outcome : Option (List ℕ)) (known known' : List CopySeen) (old new : BankView) : Type 0 where
  pub made : List Noted
  pub wrong : List CopyOf
  pub bank : Makes made old new
  pub is_tried : AreTried at Good due made wrong outcome
  pub shown : (test : List ℕ → Bool) → AllTold test Good made → Shows test copies made known known'
