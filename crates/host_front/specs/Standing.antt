-- What a host keeps of its abstract state.
use Rattle.std.specs.Prelude.{◌≡◌, ◌⊎◌, ℕ, ◌<◌, ◌≤◌, List, [], ◌∷◌, Bool, Option, Some, None, slice_get}
use Rattle.mp_base.specs.Outside.{Rose}
use Rattle.bank_core.specs.Absent.{IsAbsent}
use Rattle.pool_core.specs.declared.pool.Pool.{Pool}
use Rattle.pool_core.specs.Keeping.{Represents}
use Rattle.pool_core.specs.State.{PoolState}
use Rattle.host_machine.specs.declared.device.HostDevice.{HostDevice}
use Rattle.host_machine.specs.Fitness.{IsFit}
use Rattle.host_machine.specs.Machine.{HostState}
use Rattle.host_front.specs.declared.host.Host.{Host}
use Rattle.host_front.specs.FixedHost.{host_devices}

-- the pool, so far as one is open
abbrev pub PoolStands : Option Pool → Option PoolState → Type 0
PoolStands None None = Unit {0}
PoolStands (Some pool) (Some s) = Represents pool s
PoolStands None (Some s) = ⊥
PoolStands (Some pool) None = ⊥

-- The host, over a bank of these sizes, has this abstract state.
pub record Keeps (size : ℕ → ℕ) (host : Host) (h : HostState) : Type 0 where
  pub table : h.table ≡ host.table.items
  pub sizes : (d : ℕ) → h.size d ≡ size d
  pub pool : PoolStands host.pool h.pool

-- So it has, and the state is one that a run may reach.
pub record Stands (size : ℕ → ℕ) (host : Host) (h : HostState) : Type 0 where
  pub keeps : Keeps size host h
  pub fit : IsFit h

-- The host has a state that a run may reach.
pub record HostIsSeated (size : ℕ → ℕ) (host : Host) : Type 0 where
  pub state : HostState
  pub stands : Stands size host state

-- A device of the table was looked up: it has this number and size, or its look-up found nothing, or failed.
pub record IsLookedUp (number_of : List ℕ → Option ℕ) (size : ℕ → ℕ) (names : Option (List (List ℕ))) (before after : ℕ)
    (named : List ℕ × Bool) (device : HostDevice) : Type 0 where
  pub name : device.name ≡ named.0
  pub spare : device.spare ≡ named.1
  pub found : (dev : ℕ) → device.dev ≡ Some dev → (number_of named.0 ≡ Some dev) × (size dev ≡ device.sectors) × (0 < size dev)
  pub absent : device.dev ≡ None → IsAbsent names named.0 ⊎ Rose before after

-- The table has just these devices, each as its own look-up in this run found it.
abbrev pub AreLookedUp : (List ℕ → Option ℕ) → (ℕ → ℕ) → Option (List (List ℕ)) → (before after : ℕ) → List (List ℕ × Bool) → List HostDevice → Type 0
AreLookedUp number_of size names before after [] table = (table ≡ []) × (before ≤ after)
AreLookedUp number_of size names before after (named ∷ more) [] = ⊥
AreLookedUp number_of size names before after (named ∷ more) (device ∷ table) = (between : ℕ) × (before ≤ between)
    × IsLookedUp number_of size names before between named device × AreLookedUp number_of size names between after more table

-- one of the host's devices was looked up
pub record LooksUp (number_of : List ℕ → Option ℕ) (size : ℕ → ℕ) (names : Option (List (List ℕ))) (before after : ℕ) (i : ℕ) (device : HostDevice) : Type 0 where
  pub named : List ℕ × Bool
  pub is_named : slice_get host_devices i ≡ Some named
  pub looked_up : IsLookedUp number_of size names before after named device
