-- What a scan brought to a leaf, told by the history: which groups were copied.
use Rattle.std.specs.Prelude.{◌≡◌, ◌⊎◌, ℕ, ◌+◌, ◌≤◌, true, false, List, ◌∷◌, ◌++◌, Some}
use Rattle.std.specs.List.{AllByRecursion}
use Rattle.mp_base.specs.declared.place.Key.{Key}
use Rattle.txg_history.specs.Events.{Event, Burns, Opens, Joins, Scans, Passes, Clears}
use Rattle.txg_history.specs.Groups.{Logs}
use Rattle.txg_history.specs.Moves.{WasCopied}
use Rattle.txg_history.specs.Needs.{Keeps}
use Rattle.txg_history.specs.Pools.{Pool, pool_after}
use Rattle.txg_history.specs.Records.{Cell, IsIn, data_start}

-- no scan starts with this event
abbrev pub NeverScans : Event → Type 0
NeverScans (Scans hi eligible) = ⊥
NeverScans v = Unit {0}

-- Among these events a scan came past the key, and none started since: the leaf on this device was eligible, and then it
-- didn't owe the key, or the key was written to it in that step by a call that answered Ok.
pub record WasBrought (p : Pool) (vs : List Event) (d : ℕ) (k : Key) (cell : Cell) : Type 0 where
  pub before : List Event
  pub scrub : Logs
  pub later : List Event
  pub all : vs ≡ before ++ (Passes k scrub ∷ later)
  pub same_scan : AllByRecursion NeverScans later
  pub was_key : (pool_after before p).reads.cells k ≡ Some cell
  pub was_eligible : (pool_after before p).scan.eligible d ≡ true
  pub brought : ((pool_after before p).owes d cell.birth ≡ false) ⊎ WasCopied (pool_after before p) d cell

-- The scan that runs behind these events copied this group to the leaf on this device: the group isn't above its last
-- number, nor in the leaf's SCRUB log, and each of its keys on the leaf's top that the pool still reads was brought to the
-- leaf, which has it, or its sector is damaged.
pub record IsCopiedGroup (p : Pool) (vs : List Event) (d g : ℕ) : Type 0 where
  pub low : g ≤ (pool_after vs p).scan.hi
  pub not_scrubbed : (pool_after vs p).scan.scrub d g ≡ false
  pub is_eligible : (pool_after vs p).scan.eligible d ≡ true
  pub brought : (k : Key) (cell : Cell) → (pool_after vs p).reads.cells k ≡ Some cell → cell.birth ≡ g
      → (pool_after vs p).in_top d ≡ cell.top → WasBrought p vs d k cell
  pub kept : (k : Key) (cell : Cell) → (pool_after vs p).reads.cells k ≡ Some cell → cell.birth ≡ g
      → (pool_after vs p).in_top d ≡ cell.top → Keeps ((pool_after vs p).sectors d (data_start + cell.sector)) cell.block

-- The event may take group g from the log of the leaf on this device: a scan's end there, the end of a suspended group
-- that had the number, an opening, which takes the log of the record that it found, and another leaf in its place.
abbrev pub MayTakeGroup : Pool → Event → (d g : ℕ) → Type 0
MayTakeGroup p (Clears e) d g = e ≡ d
MayTakeGroup p Burns d g = (p.group.first ≤ g) × (g ≤ p.highest)
MayTakeGroup p (Opens r) d g = IsIn r p.live × (r.owes (p.guid d) g ≡ false)
MayTakeGroup p (Joins e m top) d g = e ≡ d
MayTakeGroup p v d g = ⊥
