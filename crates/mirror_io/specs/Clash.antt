-- Two different byte strings with one sum: the only way in which wrong bytes may pass for a block.
use Rattle.std.specs.Prelude.{◌≡◌, ◌≢◌, ℕ, List, [], ◌∷◌, ◌⊎◌, Some, None}
use Rattle.sha2.specs.Sha256.{sha256}
use Rattle.bank_core.specs.Disk.{Call, Read, Write, Flush, Admit, Eject, Noted}

-- the call is a read that answered Ok with these bytes
abbrev pub Gave : Call → List ℕ → Type 0
Gave (Read dev at bytes None) found = found ≡ bytes
Gave (Read dev at bytes (Some fault)) found = ⊥
Gave (Write dev at bytes fault) found = ⊥
Gave (Flush dev fault) found = ⊥
Gave (Admit dev holds) found = ⊥
Gave (Eject dev) found = ⊥

-- one of these calls is
abbrev pub IsFound : List Noted → List ℕ → Type 0
IsFound [] found = ⊥
IsFound (noted ∷ more) found = Gave noted.call found ⊎ IsFound more found

-- These bytes, which a read gave, aren't the block, and have its sum.
pub record Clashes (calls : List Noted) (found block : List ℕ) : Type 0 where
  pub read : IsFound calls found
  pub differs : found ≢ block
  pub same_sum : sha256 found ≡ sha256 block
