-- What a pool's record says: the configuration of its state, and what a round of it writes.
use Rattle.std.specs.Prelude.{ℕ, zero, suc, ◌-◌, ◌%◌, Bool, true, false, List, [], ◌∷◌, ◌++◌, length, map, Option}
use Rattle.std.specs.Option.{option_map}
use Rattle.mp_base.specs.Block.{zeros}
use Rattle.config_codec.specs.declared.config.Pointer.{Pointer}
use Rattle.config_codec.specs.declared.config.KeptState.{KeptState}
use Rattle.config_codec.specs.declared.config.KeptState.TheVariants as kept
use Rattle.config_codec.specs.declared.config.LeafConfig.{LeafConfig}
use Rattle.config_codec.specs.Fields.{Fields}
use Rattle.config_codec.specs.Spelling.{config_bytes}
use Rattle.group_set.specs.Ranges.{ranges_upto}
use Rattle.label_store.specs.Rounds.{Commit}
use Rattle.pool_core.specs.State.{LeafState, Version, PoolState, sum_of}
use Rattle.vdev_tree.specs.declared.vdev.State.{State}
use Rattle.vdev_tree.specs.declared.vdev.State.TheVariants as states

-- the addresses below n, in order
abbrev pub addresses : ℕ → List ℕ
addresses zero = []
addresses (suc n) = addresses n ++ n ∷ []

abbrev pub pointer_of : Version → Pointer
pointer_of version = record { birth = record { 0 = version.birth }; sector = version.sector; sum = sum_of version.content }

abbrev pub pointers_of : (ℕ → Option Version) → ℕ → List (Option Pointer)
pointers_of committed blocks = map (λ a. option_map pointer_of (committed a)) (addresses blocks)

-- The state that a record keeps of a leaf. One that is away for another reason than these, or only until
-- the next opening, is recorded as ONLINE.
abbrev pub kept_of : State → (temporary : Bool) → KeptState
kept_of states.Online temporary = kept.Online
kept_of states.Degraded temporary = kept.Degraded
kept_of states.Faulted temporary = kept.Faulted
kept_of states.Offline true = kept.Online
kept_of states.Offline false = kept.Offline
kept_of states.Removed temporary = kept.Online
kept_of states.Unavail temporary = kept.Online

-- a leaf's log is that of the groups up to the record's number
abbrev pub leaf_config : (number : ℕ) → LeafState → LeafConfig
leaf_config number leaf = record {
  member = leaf.member;
  name = leaf.name;
  kept = kept_of leaf.state leaf.temporary;
  marked = leaf.marked;
  log = ranges_upto leaf.owes number;
}

-- the configuration of the pool as it stands
abbrev pub fields_in : PoolState → Fields
fields_in s = record {
  pool = s.pool;
  name = s.name;
  blocks = s.blocks;
  number = record { 0 = s.number };
  next_member = s.next_member;
  pointers = pointers_of s.committed s.blocks;
  sectors = s.sectors;
  mirror = s.mirror;
  first = leaf_config s.number s.first;
  second = leaf_config s.number s.second;
}

-- how many zeros fill the last sector of so many bytes
abbrev pub padding : ℕ → ℕ
padding length = (4096 - length % 4096) % 4096

-- whole sectors that begin with the configuration
abbrev pub sealed : List ℕ → List ℕ
sealed config = config ++ zeros (padding (length config))

-- what a round of this configuration's record writes
abbrev pub commit_for : Fields → Commit
commit_for c = record {
  pool = c.pool;
  number = c.number;
  blob = sealed (config_bytes c);
  length = length (config_bytes c);
}

-- and of the pool's as it stands
abbrev pub commit_of : PoolState → Commit
commit_of s = commit_for (fields_in s)
