-- An opening: the state of the record that was found, which is committed again under the next number.
use Rattle.std.specs.Prelude.{◌≡◌, ◌≢◌, ℕ, ◌<◌, Bool, true, false, List, [], ◌++◌, length, Option, Some, None, Result, Ok, slice_get}
use Rattle.std.specs.Option.{option_map}
use Rattle.bank_core.specs.declared.bank.Fault.{Fault}
use Rattle.bank_core.specs.Disk.{Noted}
use Rattle.label_store.specs.Identities.{IsSearch}
use Rattle.config_codec.specs.declared.config.Pointer.{Pointer}
use Rattle.config_codec.specs.declared.config.KeptState.{KeptState}
use Rattle.config_codec.specs.declared.config.KeptState.TheVariants as kept
use Rattle.config_codec.specs.declared.config.LeafConfig.{LeafConfig}
use Rattle.config_codec.specs.Fields.{Fields}
use Rattle.group_set.specs.Ranges.{in_ranges}
use Rattle.pool_core.specs.Recorded.{pointer_of}
use Rattle.pool_core.specs.State.{LeafState, Known, Summed, Version, PoolState}
use Rattle.vdev_tree.specs.declared.vdev.State.{State}
use Rattle.vdev_tree.specs.declared.vdev.State.TheVariants as states

-- what a pointer says of a block, apart from the block
abbrev pub version_of : Pointer → Version
version_of p = record { birth = p.birth.0; sector = p.sector; content = Summed p.sum }

-- the state of a leaf at an opening that found its identity: the one that the record keeps
abbrev pub state_from : KeptState → State
state_from kept.Online = states.Online
state_from kept.Offline = states.Offline
state_from kept.Faulted = states.Faulted
state_from kept.Degraded = states.Degraded

-- a leaf whose identity wasn't found is UNAVAIL
abbrev pub found_as : Option ℕ → KeptState → State
found_as None keeps = states.Unavail
found_as (Some dev) keeps = state_from keeps

-- a leaf of the record that was found, on the device that has its identity
abbrev pub leaf_on : LeafConfig → Option ℕ → LeafState
leaf_on leaf dev = record {
  member = leaf.member;
  name = leaf.name;
  dev = dev;
  state = found_as dev leaf.kept;
  temporary = false;
  marked = leaf.marked;
  owes = in_ranges leaf.log;
}

-- the state of a pool of this configuration, with its leaves on these devices, where they were found
abbrev pub found_state : Fields → (ℕ → Option Version) → (first second : Option ℕ) → PoolState
found_state c committed first second = record {
  name = c.name;
  pool = c.pool;
  blocks = c.blocks;
  next_member = c.next_member;
  sectors = c.sectors;
  mirror = c.mirror;
  first = leaf_on c.first first;
  second = leaf_on c.second second;
  committed = committed;
  writes = λ a. None;
  number = c.number.0;
}

-- The calls that look for a leaf's identity on this device, and the device, where it has the identity. A leaf
-- without a device is not looked for.
abbrev pub IsLooked : Fields → LeafConfig → (seat : Option ℕ) → (size : ℕ → ℕ) → List Noted → (found : Option ℕ) → Type 0
IsLooked c leaf None size made found = (made ≡ []) × (found ≡ None)
IsLooked c leaf (Some dev) size made (Some found) = (found ≡ dev) × IsSearch c.pool leaf.member dev (size dev) made (Ok true)
IsLooked c leaf (Some dev) size made None = (r : Result Bool Fault) × (r ≢ Ok true) × IsSearch c.pool leaf.member dev (size dev) made r

-- the same for both leaves, in tree order
abbrev pub IsIdentified : (size : ℕ → ℕ) → Fields → (seats found : Option ℕ × Option ℕ) → List Noted → Type 0
IsIdentified size c seats found made = (one : List Noted) × (more : List Noted) × (made ≡ one ++ more)
    × IsLooked c c.first seats.0 size one found.0 × IsLooked c c.second seats.1 size more found.1

-- These versions are what a configuration commits.
pub record IsCommitted (c : Fields) (committed : ℕ → Option Version) : Type 0 where
  pub pointers : (a : ℕ) → a < c.blocks → slice_get c.pointers a ≡ Some (option_map pointer_of (committed a))
  pub whole : (a : ℕ) (version : Version) (block : List ℕ) → committed a ≡ Some version → version.content ≡ Known block → length block ≡ 4096
