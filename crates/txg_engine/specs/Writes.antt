-- Writes of a group, each at an address of its own.
use Rattle.std.specs.Prelude.{◌≡◌, ℕ, ◌+◌, ◌<◌, ◌≤◌, ◌==◌, Bool, List, [], ◌∷◌, length, All}
use Rattle.std.specs.Prelude.{Option, Some, None, is_some, Result, Ok, Err, slice_get, if◌then◌else◌}
use Rattle.txg_engine.specs.declared.write.Write.{Write}

-- the writes, and how many there is room for
pub record OpenGroup : Type 0 where
  pub writes : List Write
  pub room : ℕ

-- the addresses rise, from this one on
abbrev pub RiseFrom : ℕ → List Write → Type 0
RiseFrom low [] = Unit {0}
RiseFrom low (write ∷ writes) = (low ≤ write.addr) × RiseFrom (write.addr + 1) writes

-- What holds of each open group.
pub record IsOpen (group : OpenGroup) : Type 0 where
  pub rise : RiseFrom 0 group.writes
  pub blocks : All (λ write. length write.block ≡ 4096) group.writes
  pub room : length group.writes ≤ group.room

-- the block of an address, where it was written
abbrev pub block_at : List Write → ℕ → Option (List ℕ)
block_at [] a = None
block_at (write ∷ writes) a = if write.addr == a then Some write.block else block_at writes a

abbrev pub is_written : List Write → ℕ → Bool
is_written writes a = is_some (block_at writes a)

-- the place of an address among writes: where its write is, or the first one behind it would be
pub record IsGap (writes : List Write) (addr at : ℕ) : Type 0 where
  pub inside : at ≤ length writes
  pub before : (i : ℕ) (write : Write) → i < at → slice_get writes i ≡ Some write → write.addr < addr
  pub behind : (i : ℕ) (write : Write) → at ≤ i → slice_get writes i ≡ Some write → addr < write.addr

pub record IsThere (writes : List Write) (addr at : ℕ) : Type 0 where
  pub inside : at < length writes
  pub is : (write : Write) → slice_get writes at ≡ Some write → write.addr ≡ addr

abbrev pub IsFound : List Write → (addr : ℕ) → Result ℕ ℕ → Type 0
IsFound writes addr (Ok at) = IsThere writes addr at
IsFound writes addr (Err at) = IsGap writes addr at
