-- Soundness of a pool at a moment, in five parts.
use Rattle.std.specs.Prelude.{◌≡◌, ℕ, ◌+◌, ◌≤◌, true, false, Some}
use Rattle.mp_base.specs.declared.place.Key.{Key}
use Rattle.txg_history.specs.Needs.{Held, Keeps, Copied}
use Rattle.txg_history.specs.Places.{IsFree}
use Rattle.txg_history.specs.Pools.{Pool}
use Rattle.txg_history.specs.Records.{Rec, Cell, IsIn, data_start}

-- the leaf on this device keeps each key of its top that was born in group g
abbrev pub IsWhole : Pool → Rec → (d g : ℕ) → (top : ℕ) → Type 0
IsWhole p r d g top = (k : Key) (cell : Cell) → r.cells k ≡ Some cell → cell.birth ≡ g → cell.top ≡ top → Keeps
    (p.sectors d (data_start + cell.sector)) cell.block

pub record IsSound (p : Pool) : Type 0 where
  -- each leaf of a live record has each group that its log there lacks
  pub records_whole : (r : Rec) (d g : ℕ) → IsIn r p.live → p.member d ≡ true → r.owes (p.guid d) g ≡ false → IsWhole p r d g (r.tops (p.guid d))
  -- so it does of the record that the pool reads, by the tree and the logs of now
  pub current_whole : (d g : ℕ) → p.member d ≡ true → p.owes d g ≡ false → IsWhole p p.reads d g (p.in_top d)
  -- while the pool is open, no place of a live record is free
  pub places_safe : (r : Rec) (k : Key) (cell : Cell) → IsIn r p.live → r.cells k ≡ Some cell → IsFree p cell.top cell.sector → ⊥
  -- from the end of the flush turn until the group ends, each of its keys is held on each leaf of its top that is still on the board
  pub flushed_group : p.group.frozen ≡ true → p.group.flushed ≡ true → (d : ℕ) (k : Key) (cell : Cell) → p.member d ≡ true → p.group.board d ≡ true
      → p.in_top d ≡ cell.top → p.group.cells k ≡ Some cell → Held (p.sectors d (data_start + cell.sector)) cell.block
  -- while a scan runs, each eligible leaf has each key of its top, born up to hi, that the scan came past and could bring,
  -- or it was copied there by a call that answered Ok
  pub scanned_copies : p.scan.running ≡ true → (d : ℕ) (k : Key) (cell : Cell) → p.member d ≡ true → p.scan.eligible d ≡ true → p.reads.cells k ≡ Some cell
      → p.in_top d ≡ cell.top → p.scan.passed k ≡ true → cell.birth ≤ p.scan.hi → p.scan.scrub d cell.birth ≡ false
      → Copied (p.sectors d (data_start + cell.sector)) cell.block
