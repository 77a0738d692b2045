-- What holds of each host that a run reaches.
use Rattle.std.specs.Prelude.{◌≡◌, ℕ, ◌+◌, ◌<◌, ◌≤◌, true, is_some, IsTrue, List, [], ◌∷◌, length, Option, Some, None}
use Rattle.mp_base.specs.Name.{is_name}
use Rattle.config_codec.specs.Validity.{IsValid}
use Rattle.pool_wire.specs.declared.request.Request.{Request}
use Rattle.pool_wire.specs.declared.request.Request.TheVariants as requests
use Rattle.pool_core.specs.Recorded.{fields_in}
use Rattle.pool_core.specs.State.{LeafState, Version, Known, PoolState, is_readable}
use Rattle.host_machine.specs.declared.device.HostDevice.{HostDevice}
use Rattle.host_machine.specs.Devices.{AreApart, number_in}
use Rattle.host_machine.specs.Machine.{HostState, Entry}
use Rattle.host_machine.specs.Records.{AreDrawn}

-- each device that was found has the size that the table has
abbrev pub AreSized : (ℕ → ℕ) → List HostDevice → Type 0
AreSized size [] = Unit {0}
AreSized size (device ∷ table) = ((dev : ℕ) → device.dev ≡ Some dev → size dev ≡ device.sectors) × AreSized size table

-- A leaf of an open pool: it has a device where it is readable; its device has room for so many data sectors; and its
-- log has groups up to this number.
pub record IsFitLeaf (size : ℕ → ℕ) (sectors number : ℕ) (leaf : LeafState) : Type 0 where
  pub seated : is_readable leaf ≡ true → is_some leaf.dev ≡ true
  pub room : (d : ℕ) → leaf.dev ≡ Some d → sectors + 256 ≤ size d
  pub logged : (g : ℕ) → leaf.owes g ≡ true → (1 ≤ g) × (g ≤ number)

-- An open pool: its configuration is valid, its leaves are on two devices, and its blocks are whole and within
-- the volume.
pub record IsFitPool (size : ℕ → ℕ) (s : PoolState) : Type 0 where
  pub valid : IsValid (fields_in s)
  pub first : IsFitLeaf size s.sectors s.number s.first
  pub second : IsFitLeaf size s.sectors s.number s.second
  pub apart : (d : ℕ) → s.first.dev ≡ Some d → s.second.dev ≡ Some d → ⊥
  pub inside : (a : ℕ) (block : List ℕ) → s.writes a ≡ Some block → a < s.blocks
  pub whole : (a : ℕ) (block : List ℕ) → s.writes a ≡ Some block → length block ≡ 4096
  pub beyond : (a : ℕ) → s.blocks ≤ a → s.committed a ≡ None
  pub known_whole : (a : ℕ) (version : Version) (block : List ℕ) → s.committed a ≡ Some version → version.content ≡ Known block → length block ≡ 4096

abbrev pub PoolIsFit : (ℕ → ℕ) → Option PoolState → Type 0
PoolIsFit size None = Unit {0}
PoolIsFit size (Some s) = IsFitPool size s

-- a leaf's device is the one of its name
abbrev pub IsNamed : List HostDevice → LeafState → Type 0
IsNamed table leaf = (d : ℕ) → leaf.dev ≡ Some d → number_in leaf.name table ≡ Some d

abbrev pub PoolIsNamed : List HostDevice → Option PoolState → Type 0
PoolIsNamed table None = Unit {0}
PoolIsNamed table (Some s) = IsNamed table s.first × IsNamed table s.second

pub record IsFit (h : HostState) : Type 0 where
  pub apart : AreApart h.table
  pub sized : AreSized h.size h.table
  pub drawn : AreDrawn h.records
  pub pool : PoolIsFit h.size h.pool
  pub named : PoolIsNamed h.table h.pool

-- a write is of a whole block, and what a create names is spelled as a name
abbrev pub IsWhole : Option Request → Type 0
IsWhole None = Unit {0}
IsWhole (Some requests.Nothing) = Unit {0}
IsWhole (Some (requests.Create pool blocks first second)) = IsTrue (is_name pool) × IsTrue (is_name first) × IsTrue (is_name second)
IsWhole (Some (requests.Import pool)) = Unit {0}
IsWhole (Some (requests.Write pool a block)) = length block ≡ 4096
IsWhole (Some (requests.Read pool a)) = Unit {0}
IsWhole (Some (requests.Sync pool)) = Unit {0}
IsWhole (Some (requests.Offline pool device temporary)) = Unit {0}
IsWhole (Some (requests.Online pool device)) = Unit {0}
IsWhole (Some (requests.Logs pool)) = Unit {0}

abbrev pub AreWhole : List Entry → Type 0
AreWhole [] = Unit {0}
AreWhole (entry ∷ entries) = IsWhole entry.asked × AreWhole entries
