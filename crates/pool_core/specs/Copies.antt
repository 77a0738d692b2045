-- A copy that was tried.
use Rattle.std.specs.Prelude.{◌≡◌, ◌≢◌, ℕ, Bool, List, [], ◌∷◌, length, Option, Some, None, Result, Ok, Err}
use Rattle.sha2.specs.Sha256.{sha256}
use Rattle.mp_base.specs.declared.refusal.Seen.{Seen}
use Rattle.mp_base.specs.declared.refusal.Seen.TheVariants as seen
use Rattle.bank_core.specs.declared.bank.Fault.{Fault}
use Rattle.bank_core.specs.Disk.{Read}
use Rattle.bank_core.specs.Story.{Story}
use Rattle.bank_core.specs.Calls.{Made}

-- what is said of a copy: its read failed, or its bytes have another sum, or have this sum
abbrev pub IsSeen : Option Fault → List ℕ → List ℕ → Result (Unit {0}) Seen → Type 0
IsSeen None bytes sum (Ok done) = sha256 bytes ≡ sum
IsSeen None bytes sum (Err seen.Mismatch) = sha256 bytes ≢ sum
IsSeen None bytes sum (Err seen.Failed) = ⊥
IsSeen None bytes sum (Err seen.Unreadable) = ⊥
IsSeen (Some fault) bytes sum (Ok done) = ⊥
IsSeen (Some fault) bytes sum (Err seen.Mismatch) = ⊥
IsSeen (Some fault) bytes sum (Err seen.Failed) = Unit {0}
IsSeen (Some fault) bytes sum (Err seen.Unreadable) = ⊥

-- One read of a copy.
pub record TriesCopy (dev at : ℕ) (sum : List ℕ) (old new : Option Story) (before after : ℕ → ℕ) (bytes : List ℕ) (result : Result (Unit {0}) Seen) : Type 0 where
  pub whole : length bytes ≡ 4096
  pub fault : Option Fault
  pub damage : ℕ → ℕ → Bool
  pub calls : Made old new before after (record { call = Read dev at bytes fault; damage = damage } ∷ [])
  pub is_seen : IsSeen fault bytes sum result
