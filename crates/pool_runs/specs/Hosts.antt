-- A host: its devices, its open pools, and whose each device is.
use Rattle.std.specs.Prelude.{◌≡◌, ◌⊎◌, ℕ, ◌==◌, ◌||◌, Bool, not, cond, List, [], ◌∷◌, map, Option, Some, None}
use Rattle.std.specs.List.{filter, find, list_any}
use Rattle.std.specs.Option.{is_some}
use Rattle.std.specs.Str.{bytes_eq}
use Rattle.bank_core.specs.Disk.{Sectors, run}
use Rattle.txg_history.specs.Groups.{at_device}
use Rattle.pool_moves.specs.FreezeRow.{is_dev}
use Rattle.pool_moves.specs.Moves.{Move, state_step}
use Rattle.pool_moves.specs.ReadRow.{made_in}
use Rattle.pool_moves.specs.States.{PoolState}
use Rattle.pool_runs.specs.Acts.{Act, Hears, Bare, Does, Shows, Enters, Takes, Bears, Closes}
use Rattle.pool_runs.specs.Devices.{Device, number_in}

-- A host: its devices by name, the open pools, of each device the number of the pool whose identity was last read or stamped there
-- in this run, the last second, and what the disk model says of the devices.
pub record Host : Type 0 where
  pub table : List Device
  pub pools : List PoolState
  pub owner : ℕ → Option ℕ
  pub second : ℕ
  pub disk : Sectors

-- an open pool is one of these
abbrev pub IsOpen : PoolState → List PoolState → Type 0
IsOpen s [] = ⊥
IsOpen s (u ∷ pools) = (s ≡ u) ⊎ IsOpen s pools

-- an open pool has this number
abbrev pub is_of : (g : ℕ) → PoolState → Bool
is_of g s = s.core.pool.0 == g

-- the open pool of this name
abbrev pub named : List ℕ → List PoolState → Option PoolState
named name pools = find (λ s. bytes_eq s.core.name name) pools

-- the pool has a leaf on this device, or one of this name
abbrev pub has_leaf : (name : List ℕ) → (d : ℕ) → PoolState → Bool
has_leaf name d s = list_any (λ leaf. is_dev d leaf.dev || bytes_eq leaf.own.name name) s.core.leaves

-- Whose the device of this name and number is: of the open pools that have such a leaf the one that was open first, whether it found its leaf there or not.
abbrev pub first_open : Option PoolState → Option PoolState → Option PoolState
first_open (Some s) later = Some s
first_open None later = later

abbrev pub holder : (name : List ℕ) → (d : ℕ) → List PoolState → Option PoolState
holder name d [] = None
holder name d (s ∷ pools) = first_open (holder name d pools) (cond (has_leaf name d s) (Some s) None)

-- the number of the device of this name, where it was found and is no open pool's
abbrev pub free_by : (name : List ℕ) → (number : Option ℕ) → List PoolState → Option ℕ
free_by name None pools = None
free_by name (Some d) pools = cond (is_some (holder name d pools)) None (Some d)

abbrev pub free_in : Host → (name : List ℕ) → Option ℕ
free_in h name = free_by name (number_in name h.table) h.pools

-- the open pool of this number makes a move
abbrev pub moved : (g : ℕ) → Move → PoolState → PoolState
moved g v s = cond (is_of g s) (state_step v s) s

abbrev pub host_by : Act → Host → Host
host_by (Hears second) h = record h { second = second }
host_by (Bare noted) h = record h { disk = run (noted ∷ []) h.disk }
host_by (Does g v) h = record h { disk = run (made_in (v ∷ [])) h.disk; pools = map (moved g v) h.pools }
host_by (Shows g d known) h = record h { owner = at_device d (Some g) h.owner }
host_by (Enters s) h = record h { pools = s ∷ h.pools }
host_by (Takes g d) h = record h { owner = at_device d (Some g) h.owner }
host_by (Bears birth) h = record h { pools = birth.state ∷ h.pools }
host_by (Closes g) h = record h { pools = filter (λ s. not (is_of g s)) h.pools }
host_by act h = h

abbrev pub host_along : List Act → Host → Host
host_along [] h = h
host_along (act ∷ acts) h = host_along acts (host_by act h)
