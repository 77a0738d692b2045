-- What a host's code and its bank keep of a host of the runs.
use Rattle.std.specs.Prelude.{◌≡◌, ◌≢◌, ℕ, ◌+◌, ◌≤◌, List, [], ◌∷◌, length, Option, Some}
use Rattle.std.specs.List.{AllByRecursion, AllZip}
use Rattle.bank_core.specs.BankView.{BankView}
use Rattle.bank_core.specs.Story.{Story, now}
use Rattle.open_pool.specs.State.{Stands}
use Rattle.pool_moves.specs.States.{PoolState}
use Rattle.pool_runs.specs.Devices.{Device, size_in}
use Rattle.pool_runs.specs.Hosts.{Host}
use Rattle.host_core.specs.Parts.{HostParts}

-- No two devices have one name, nor one number.
pub record AreTwo (one other : Device) : Type 0 where
  pub names : one.name ≢ other.name
  pub numbers : (d : ℕ) → one.number ≡ Some d → other.number ≡ Some d → ⊥

abbrev pub AreApart : List Device → Type 0
AreApart [] = Unit {0}
AreApart (device ∷ table) = AllByRecursion (AreTwo device) table × AreApart table

-- No two open pools have one number.
abbrev pub HasOtherNumber : PoolState → PoolState → Type 0
HasOtherNumber s u = s.core.pool.0 ≢ u.core.pool.0

abbrev pub AreNumbered : List PoolState → Type 0
AreNumbered [] = Unit {0}
AreNumbered (s ∷ pools) = AllByRecursion (HasOtherNumber s) pools × AreNumbered pools

-- The device is owned by the pool of this number, and has so many sectors at least.
pub record IsOwnDevice (owner : ℕ → Option ℕ) (table : List Device) (g need d : ℕ) : Type 0 where
  pub owned : owner d ≡ Some g
  pub room : need ≤ size_in table d

-- Each leaf's device is owned by its pool, and has room for the labels and for the data sectors of the leaf's top.
abbrev pub HasOwnDevices : Host → PoolState → Type 0
HasOwnDevices h s = AllByRecursion (λ leaf. (d : ℕ) → leaf.dev ≡ Some d → IsOwnDevice h.owner h.table s.core.pool.0 (s.core.room leaf.top + 256) d) s.core.leaves

-- The host has these devices and these open pools, in one order; the bank has each device of the table with its sectors, and where it tells its story,
-- the sectors are what the story says. So no device is a leaf's of two pools: it has one owner.
pub record HostStands (host : HostParts) (bank : BankView) (h : Host) : Type 0 where
  pub table : h.table ≡ host.table
  pub apart : AreApart host.table
  pub few : length host.pools ≤ 16
  pub pools : AllZip Stands host.pools h.pools
  pub numbers : AreNumbered h.pools
  pub owned : AllByRecursion (HasOwnDevices h) h.pools
  pub sizes : (d : ℕ) → 1 ≤ size_in host.table d → bank.size d ≡ size_in host.table d
  pub disk : (story : Story) → bank.told ≡ Some story → h.disk ≡ now story

-- The host stands for some host of the runs.
pub record IsSeated (host : HostParts) (bank : BankView) : Type 0 where
  pub h : Host
  pub stands : HostStands host bank h

-- A run begins with these devices, each of which the bank has with its sectors, and no pool is open.
pub record BeginsWith (table : List Device) (bank : BankView) (h : Host) : Type 0 where
  pub table_is : h.table ≡ table
  pub closed : h.pools ≡ []
  pub apart : AreApart table
  pub sizes : (d : ℕ) → 1 ≤ size_in table d → bank.size d ≡ size_in table d
  pub disk : (story : Story) → bank.told ≡ Some story → h.disk ≡ now story
