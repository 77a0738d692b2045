-- How a pool is made.
use Rattle.std.specs.Prelude.{◌≡◌, ℕ, ◌-◌, min, List, [], Option, Some, None, Result, Ok, Err}
use Rattle.std.specs.Int.{to_be_bytes, from_be_bytes, w64}
use Rattle.std.specs.Prelude.{◌++◌, ◌==◌, cond, take}
use Rattle.sha2.specs.Sha256.{sha256}
use Rattle.mp_base.specs.declared.number.Guid.{Guid}
use Rattle.bank_core.specs.Calls.{Made}
use Rattle.bank_core.specs.Disk.{Noted}
use Rattle.bank_core.specs.Story.{Story}
use Rattle.pool_core.specs.declared.create.CreateFault.{CreateFault}
use Rattle.pool_core.specs.declared.create.CreateFault.TheVariants as faults
use Rattle.pool_core.specs.declared.pool.Pool.{Pool}
use Rattle.pool_core.specs.Commits.{AreMade}
use Rattle.pool_core.specs.Keeping.{Represents}
use Rattle.pool_core.specs.State.{LeafState, PoolState, created}

-- the number of a pool: the first eight bytes of the sum of its name and of the second at which it is made
unfoldable pub pool_sum : (name : List ℕ) → (second : ℕ) → ℕ
pool_sum name second = from_be_bytes w64 (take 8 (sha256 (name ++ to_be_bytes w64 second)))

-- but never 0
abbrev pub pool_number : (name : List ℕ) → (second : ℕ) → Guid
pool_number name second = record { 0 = cond (pool_sum name second == 0) 1 (pool_sum name second) }

-- the data sectors of a top of two members: those of the smaller one behind its labels
abbrev pub top_sectors : ℕ → ℕ → ℕ
top_sectors a b = min (min a b - 256) 1048320

-- the state of the new pool
abbrev pub made_state : (size : ℕ → ℕ) → (name : List ℕ) → Guid → (blocks : ℕ) → (first second : List ℕ × ℕ) → PoolState
made_state size name pool blocks first second = created name pool blocks (top_sectors (size first.1) (size second.1)) first second

-- The pool was made, or this leaf failed, the first in tree order.
pub record Creates (size : ℕ → ℕ) (s : PoolState) (seats : ℕ × ℕ) (old new : Option Story) (before after : ℕ → ℕ) (failed : Option LeafState) : Type 0 where
  pub made : List Noted
  pub calls : Made old new before after made
  pub are_made : AreMade size s seats made failed

-- so, or there was no memory and no call was made
abbrev pub CreatesIf : (size : ℕ → ℕ) → (name : List ℕ) → Guid → (blocks : ℕ) → (first second : List ℕ × ℕ) → (old new : Option Story) → (before after : ℕ → ℕ) → Result Pool CreateFault → Type 0
CreatesIf size name number blocks first second old new before after (Ok pool) =
    Creates size (made_state size name number blocks first second) (first.1, second.1) old new before after None × Represents pool (made_state size name number blocks first second)
CreatesIf size name number blocks first second old new before after (Err (faults.Device device)) =
    (leaf : LeafState) × (leaf.name ≡ device) × Creates size (made_state size name number blocks first second) (first.1, second.1) old new before after (Some leaf)
CreatesIf size name number blocks first second old new before after (Err faults.Memory) = Made old new before after []
