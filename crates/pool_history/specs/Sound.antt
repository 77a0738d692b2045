-- Soundness of a pool at a moment.
use Rattle.std.specs.Prelude.{◌≡◌, ◌≢◌, ◌⊎◌, ℕ, ◌+◌, true, false, List, Some}
use Rattle.bank_core.specs.Disk.{Sector, Pending, Nothing, Written, Failing}
use Rattle.pool_history.specs.Pools.{Pool}
use Rattle.pool_history.specs.Records.{Rec, Cell, IsIn, data_start}

-- what is on the way there, if anything, is this block
abbrev pub IsOnTheWay : Pending → List ℕ → Type 0
IsOnTheWay Nothing block = Unit {0}
IsOnTheWay (Written bytes) block = bytes ≡ block
IsOnTheWay (Failing bytes) block = bytes ≡ block

-- The block stands there and nothing is on the way; or the sector is damaged, and nothing else is on the way.
abbrev pub Keeps : Sector → List ℕ → Type 0
Keeps x block = ((x.stable ≡ block) × (x.pending ≡ Nothing)) ⊎ ((x.damaged ≡ true) × IsOnTheWay x.pending block)

-- a member's device keeps each block of the record that was born in a group which its log lacks
abbrev pub IsWhole : Pool → Rec → (d : ℕ) → Type 0
IsWhole p r d = (a : ℕ) (cell : Cell) → r.cells a ≡ Some cell → r.owes (p.guid d) cell.birth ≡ false → Keeps (p.sectors d (data_start + cell.sector)) cell.block

-- the next group may get this place: no block of the record that the pool reads stands there
abbrev pub IsFree : Pool → (sector : ℕ) → Type 0
IsFree p sector = (a : ℕ) (cell : Cell) → p.reads.cells a ≡ Some cell → cell.sector ≢ sector

pub record IsSound (p : Pool) : Type 0 where
  -- each member keeps all that it has of each live record
  pub records_whole : (r : Rec) (d : ℕ) → IsIn r p.live → p.member d ≡ true → IsWhole p r d
  -- and of the record that the pool reads
  pub current_whole : (d : ℕ) → p.member d ≡ true → IsWhole p p.reads d
  -- while the pool is open, and neither a round nor an opening is under way, no place of a live record is free
  pub places_safe : p.idle ≡ true → (r : Rec) (a : ℕ) (cell : Cell) → IsIn r p.live → r.cells a ≡ Some cell → IsFree p cell.sector → ⊥
