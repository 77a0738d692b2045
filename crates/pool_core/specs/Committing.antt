-- How a pool's pointers become those of the next commit, address by address.
use Rattle.std.specs.Prelude.{◌≡◌, ℕ, ◌<◌, ◌≤◌, List, length, Option, Some, None, slice_get, slice_set}
use Rattle.std.specs.Option.{option_map}
use Rattle.sha2.specs.Sha256.{sha256}
use Rattle.mp_base.specs.declared.number.Group.{Group}
use Rattle.config_codec.specs.declared.config.Pointer.{Pointer}
use Rattle.pool_core.specs.declared.pool.Pool.{Pool}
use Rattle.pool_core.specs.Opening.{version_of}
use Rattle.pool_core.specs.State.{other_sector}

-- the data sector that the committed block isn't on, by its pointer
abbrev pub free_sector : ℕ → Option Pointer → ℕ
free_sector a pointer = other_sector a (option_map version_of pointer)

-- the pointer of what was written, else the one that is there
abbrev pub next_pointer : Group → ℕ → Option Pointer → Option (List ℕ) → Option Pointer
next_pointer number a pointer None = pointer
next_pointer number a pointer (Some block) = Some (record { birth = number; sector = free_sector a pointer; sum = sha256 block })

-- the pointer that an address has next, by the one that it has and what was written there
pub record IsNext (pool : Pool) (a : ℕ) (next : Option Pointer) : Type 0 where
  pub pointer : Option Pointer
  pub block : Option (List ℕ)
  pub pointer_is : slice_get pool.pointers.items a ≡ Some pointer
  pub block_is : slice_get pool.writes.items a ≡ Some block
  pub is : next ≡ next_pointer pool.number a pointer block

-- All but the pointers and the writes stays.
pub record SameOtherwise (old new : Pool) : Type 0 where
  pub name : new.name ≡ old.name
  pub pool_is : new.pool ≡ old.pool
  pub blocks : new.blocks ≡ old.blocks
  pub number : new.number ≡ old.number
  pub next_member : new.next_member ≡ old.next_member
  pub pair : new.pair ≡ old.pair

-- One address was committed.
pub record CommitsAt (old : Pool) (a : ℕ) (new : Pool) : Type 0 where
  pub next : Option Pointer
  pub is_next : IsNext old a next
  pub pointers : new.pointers.items ≡ slice_set old.pointers.items a next
  pub writes : new.writes.items ≡ slice_set old.writes.items a None
  pub same : SameOtherwise old new

-- The addresses below n were committed.
pub record CommitsBelow (old : Pool) (n : ℕ) (new : Pool) : Type 0 where
  pub next : (a : ℕ) (pointer : Option Pointer) → a < n → slice_get new.pointers.items a ≡ Some pointer → IsNext old a pointer
  pub cleared : (a : ℕ) (block : Option (List ℕ)) → a < n → slice_get new.writes.items a ≡ Some block → block ≡ None
  pub pointers : (a : ℕ) → n ≤ a → slice_get new.pointers.items a ≡ slice_get old.pointers.items a
  pub writes : (a : ℕ) → n ≤ a → slice_get new.writes.items a ≡ slice_get old.writes.items a
  pub pointers_length : length new.pointers.items ≡ length old.pointers.items
  pub writes_length : length new.writes.items ≡ length old.writes.items
  pub same : SameOtherwise old new
