-- What an open pool's state is by its history, and which acts are a pool's own.
use Rattle.std.specs.Prelude.{◌≡◌, ◌≢◌, ℕ, ◌≤◌, ◌<◌, false, List, [], ◌∷◌, Option, Some}
use Rattle.std.specs.List.{AllByRecursion}
use Rattle.bank_core.specs.Disk.{Call, Read, Write, Flush, Admit, Eject}
use Rattle.label_store.specs.Records.{place_at}
use Rattle.label_store.specs.Uberblock.{IsUberblock}
use Rattle.label_store.specs.declared.uberblock.Uberblock.{Uberblock}
use Rattle.txg_history.specs.Events.{Known}
use Rattle.txg_history.specs.Moves.{ReadsTrue}
use Rattle.txg_history.specs.Pages.{Codec}
use Rattle.txg_history.specs.Pools.{Pool}
use Rattle.pool_moves.specs.FreezeRow.{is_dev}
use Rattle.pool_moves.specs.Keeping.{Kept}
use Rattle.pool_moves.specs.Leaves.{Seat}
use Rattle.pool_moves.specs.Moves.{Move, Makes, Comes}
use Rattle.pool_moves.specs.Rosters.{IsRoster}
use Rattle.pool_moves.specs.States.{PoolState}
use Rattle.pool_runs.specs.Acts.{Act, Hears, Bare, Does, Marks, Looked, Shows, Reads_as, Enters, Names, Takes, Bears, Closes}
use Rattle.pool_runs.specs.Devices.{Device, size_in}
use Rattle.pool_runs.specs.Hosts.{Host, host_by, IsOpen}

-- the state is what the pool's history says, at some seats of its leaves
abbrev pub HasSeats : Codec → PoolState → Pool → Type 0
HasSeats c s p = (seats : List Seat) × Kept c s (record { pool = p; seats = seats })

-- the members stand on a list, no two under one number
abbrev pub HasRoster : Pool → Type 0
HasRoster p = (devs : List ℕ) × IsRoster p devs

-- a call writes to a device of the pool of this number alone
abbrev pub IsOwnCall : (g : ℕ) → (owner : ℕ → Option ℕ) → Call → Type 0
IsOwnCall g owner (Read dev at bytes fault) = Unit {0}
IsOwnCall g owner (Write dev at bytes fault) = owner dev ≡ Some g
IsOwnCall g owner (Flush dev fault) = Unit {0}
IsOwnCall g owner (Admit dev holds) = ⊥
IsOwnCall g owner (Eject dev) = ⊥

-- so does a move, and a leaf comes in on such a device
abbrev pub IsOwnMove : (g : ℕ) → (owner : ℕ → Option ℕ) → Move → Type 0
IsOwnMove g owner (Makes noted) = IsOwnCall g owner noted.call
IsOwnMove g owner (Comes i d m top own) = owner d ≡ Some g
IsOwnMove g owner v = Unit {0}

-- By what was read of its rings, the device has an identity of the pool of this number.
pub record IsShown (table : List Device) (g d : ℕ) (known : Known) : Type 0 where
  pub here : 1 ≤ size_in table d
  pub place : ℕ
  pub inside : place < 128
  pub bytes : List ℕ
  pub is_read : known d (place_at (size_in table d) place) ≡ Some bytes
  pub u : Uberblock
  pub correct : IsUberblock u bytes
  pub pool_is : u.pool.0 ≡ g

-- What was read is of devices that the run has, and is true to them.
pub record IsTrueLook (h : Host) (known : Known) : Type 0 where
  pub here : (d s : ℕ) (bytes : List ℕ) → known d s ≡ Some bytes → 1 ≤ size_in h.table d
  pub reads : ReadsTrue h.disk known

-- no leaf of the open pool has this device
abbrev pub HasNoLeafAt : (d : ℕ) → PoolState → Type 0
HasNoLeafAt d s = AllByRecursion (λ leaf. is_dev d leaf.dev ≡ false) s.core.leaves

-- An act of the pool of this number, as far as other pools have to know it: it writes to devices of its own alone, it stamps none of another
-- open pool's leaves, and a device is its own where it has the pool's identity or was stamped.
abbrev pub IsOwnAct : (g : ℕ) → Host → Act → Type 0
IsOwnAct g h (Hears second) = Unit {0}
IsOwnAct g h (Bare noted) = IsOwnCall g h.owner noted.call
IsOwnAct g h (Does k v) = (k ≡ g) × IsOwnMove g h.owner v
IsOwnAct g h (Marks k mark) = k ≡ g
IsOwnAct g h (Looked name known) = IsTrueLook h known
IsOwnAct g h (Shows k d known) = (k ≡ g) × IsShown h.table g d known
IsOwnAct g h (Reads_as opening) = opening.found.pool.0 ≡ g
IsOwnAct g h (Enters s) = s.core.pool.0 ≡ g
IsOwnAct g h (Names k) = k ≡ g
IsOwnAct g h (Takes k d) = (k ≡ g) × ((s : PoolState) → IsOpen s h.pools → s.core.pool.0 ≢ g → HasNoLeafAt d s)
IsOwnAct g h (Bears birth) = birth.state.core.pool.0 ≡ g
IsOwnAct g h (Closes k) = k ≡ g

abbrev pub AreOwnActs : (g : ℕ) → Host → List Act → Type 0
AreOwnActs g h [] = Unit {0}
AreOwnActs g h (act ∷ acts) = IsOwnAct g h act × AreOwnActs g (host_by act h) acts
