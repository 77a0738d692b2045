-- Reads of copies, one after another, up to the first that is good.
use Rattle.std.specs.Prelude.{◌≡◌, ◌≢◌, ℕ, List, [], ◌∷◌, ◌⊎◌, length, map, not, Option, Some, None}
use Rattle.std.specs.List.{filter}
use Rattle.sha2.specs.Sha256.{sha256}
use Rattle.bank_core.specs.declared.bank.Fault.{Fault}
use Rattle.bank_core.specs.Asks.{Ask, Writes}
use Rattle.bank_core.specs.Disk.{Call, Read, Noted}
use Rattle.mirror_io.specs.declared.copies.CopyOf.{CopyOf}

-- A read of this copy gave these bytes, of one sector.
pub record Gives (copy : CopyOf) (at : ℕ) (fault : Option Fault) (bytes : List ℕ) (call : Call) : Type 0 where
  pub whole : length bytes ≡ 4096
  pub is : call ≡ Read copy.dev at bytes fault

-- the read failed
pub record Fails (copy : CopyOf) (at : ℕ) (call : Call) : Type 0 where
  pub fault : Fault
  pub bytes : List ℕ
  pub gives : Gives copy at (Some fault) bytes call

-- it gave bytes of another sum
pub record Differs (copy : CopyOf) (at : ℕ) (sum : List ℕ) (call : Call) : Type 0 where
  pub bytes : List ℕ
  pub gives : Gives copy at None bytes call
  pub other : sha256 bytes ≢ sum

-- it gave these bytes, which have the sum
pub record Serves (copy : CopyOf) (at : ℕ) (sum : List ℕ) (bytes : List ℕ) (call : Call) : Type 0 where
  pub gives : Gives copy at None bytes call
  pub same : sha256 bytes ≡ sum

-- A read gave bytes of this kind.
pub record GivesSome (copy : CopyOf) (at : ℕ) (Kind : List ℕ → Type 0) (bytes : List ℕ) (call : Call) : Type 0 where
  pub gives : Gives copy at None bytes call
  pub is : Kind bytes

-- Each copy is read once, in order. One whose read failed is passed by; one that gave bytes that aren't good is wrong; the first
-- that gave good ones is the last that is read, and its bytes are the outcome.
abbrev pub AreTried : (at : ℕ) → (Good : List ℕ → Type 0) → List CopyOf → List Noted → (wrong : List CopyOf)
    → (outcome : Option (List ℕ)) → Type 0
AreTried at Good [] made wrong outcome = (made ≡ []) × (wrong ≡ []) × (outcome ≡ None)
AreTried at Good (copy ∷ more) [] wrong outcome = ⊥
AreTried at Good (copy ∷ more) (noted ∷ made) wrong outcome =
    (Fails copy at noted.call × AreTried at Good more made wrong outcome)
    ⊎ (((others : List CopyOf) × (bytes : List ℕ) × GivesSome copy at (λ bytes. Good bytes → ⊥) bytes noted.call
    × (wrong ≡ copy ∷ others) × AreTried at Good more made others outcome)
    ⊎ ((bytes : List ℕ) × GivesSome copy at Good bytes noted.call × (made ≡ []) × (wrong ≡ []) × (outcome ≡ Some bytes)))

-- bytes have this sum
abbrev pub HasSum : (sum : List ℕ) → List ℕ → Type 0
HasSum sum bytes = sha256 bytes ≡ sum

-- The same where the bytes of this sum are the good ones.
abbrev pub IsReads : (at : ℕ) → (sum : List ℕ) → List CopyOf → List Noted → (wrong : List CopyOf)
    → (outcome : Option (List ℕ)) → Type 0
IsReads at sum [] made wrong outcome = (made ≡ []) × (wrong ≡ []) × (outcome ≡ None)
IsReads at sum (copy ∷ more) [] wrong outcome = ⊥
IsReads at sum (copy ∷ more) (noted ∷ made) wrong outcome =
    (Fails copy at noted.call × IsReads at sum more made wrong outcome)
    ⊎ (((others : List CopyOf) × Differs copy at sum noted.call × (wrong ≡ copy ∷ others)
    × IsReads at sum more made others outcome)
    ⊎ ((bytes : List ℕ) × Serves copy at sum bytes noted.call × (made ≡ []) × (wrong ≡ []) × (outcome ≡ Some bytes)))

-- these copies are written with the block
abbrev pub rewrites : (at : ℕ) → List ℕ → List CopyOf → List Ask
rewrites at block copies = map (λ copy. Writes copy.dev at block) copies

-- Of the wrong copies those whose leaves have the block are. One whose leaf owes it is written by scans alone.
abbrev pub heals : (at : ℕ) → List ℕ → (wrong : List CopyOf) → List Ask
heals at block wrong = rewrites at block (filter (λ copy. not copy.lacks) wrong)
