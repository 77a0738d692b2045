-- The records that a history drew up, and what the machine knows of a record that an opening found.
use Rattle.std.specs.Prelude.{◌≡◌, ℕ, ◌<◌, ◌≤◌, ◌==◌, Bool, true, false, cond, List, [], ◌∷◌, length, Option, Some, None, slice_get}
use Rattle.std.specs.List.{list_all}
use Rattle.std.specs.Option.{option_map}
use Rattle.std.specs.Str.{bytes_eq}
use Rattle.mp_base.specs.declared.number.Guid.{Guid}
use Rattle.group_set.specs.Ranges.{in_ranges}
use Rattle.label_store.specs.Rounds.{config_of}
use Rattle.config_codec.specs.declared.config.Pointer.{Pointer}
use Rattle.config_codec.specs.Fields.{Fields}
use Rattle.config_codec.specs.Reading.{config_in}
use Rattle.pool_history.specs.Records.{Rec, Cell, IsIn}
use Rattle.pool_core.specs.Recorded.{addresses, pointer_of, sealed, commit_of}
use Rattle.pool_core.specs.State.{Content, Known, Summed, Version, PoolState}

-- a committed block as the machine sees it
abbrev pub version_of : Cell → Version
version_of cell = record { birth = cell.birth; sector = cell.sector; content = Known cell.block }

abbrev pub versions_of : Rec → ℕ → Option Version
versions_of r a = option_map version_of (r.cells a)

abbrev pub cell_with : (birth sector : ℕ) → Content → Option Cell
cell_with birth sector (Known block) = Some (record { birth = birth; sector = sector; block = block })
cell_with birth sector (Summed sum) = None

abbrev pub cell_of : Option Version → Option Cell
cell_of None = None
cell_of (Some version) = cell_with version.birth version.sector version.content

abbrev pub is_known_content : Content → Bool
is_known_content (Known block) = true
is_known_content (Summed sum) = false

abbrev pub is_known_version : Option Version → Bool
is_known_version None = true
is_known_version (Some version) = is_known_content version.content

-- each committed block is known
abbrev pub is_known : PoolState → Bool
is_known s = list_all (λ a. is_known_version (s.committed a)) (addresses s.blocks)

-- which groups the leaf of a member number owes
abbrev pub owed_by : PoolState → Guid → ℕ → Bool
owed_by s member g = cond (s.first.member.0 == member.0) (s.first.owes g) (cond (s.second.member.0 == member.0) (s.second.owes g) false)

-- the record of a pool as it stands
abbrev pub record_of : PoolState → Rec
record_of s = record { commit = commit_of s; cells = λ a. cell_of (s.committed a); owes = owed_by s }

-- the records drawn up so far, with this one where its blocks are known
abbrev pub with_record : PoolState → List Rec → List Rec
with_record s records = cond (is_known s) (record_of s ∷ records) records

-- what a pointer says of a block, apart from the block
abbrev pub summed : Pointer → Version
summed p = record { birth = p.birth.0; sector = p.sector; content = Summed p.sum }

abbrev pub slot_at : Option (Option Pointer) → Option Version
slot_at None = None
slot_at (Some None) = None
slot_at (Some (Some p)) = Some (summed p)

-- What the record of this configuration commits: the blocks, where the history drew it up; else their sums alone.
abbrev pub committed_in : List Rec → List ℕ → Fields → ℕ → Option Version
committed_in [] config c = λ a. slot_at (slice_get c.pointers a)
committed_in (r ∷ records) config c = cond (bytes_eq (config_of r.commit) config) (versions_of r) (committed_in records config c)

-- A record as it is drawn up: its configuration, sealed into whole sectors, has a pointer for each of its blocks, and
-- the log of each member.
pub record IsDrawn (r : Rec) (c : Fields) : Type 0 where
  pub config : config_in (config_of r.commit) ≡ Some c
  pub length_is : r.commit.length ≡ length (config_of r.commit)
  pub blob : r.commit.blob ≡ sealed (config_of r.commit)
  pub pool : r.commit.pool ≡ c.pool
  pub number : r.commit.number ≡ c.number
  pub pointers : (a : ℕ) → a < c.blocks → slice_get c.pointers a ≡ Some (option_map (λ cell. pointer_of (version_of cell)) (r.cells a))
  pub beyond : (a : ℕ) → c.blocks ≤ a → r.cells a ≡ None
  pub first_log : (g : ℕ) → r.owes c.first.member g ≡ in_ranges c.first.log g
  pub second_log : (g : ℕ) → r.owes c.second.member g ≡ in_ranges c.second.log g
  pub whole : (a : ℕ) (cell : Cell) → r.cells a ≡ Some cell → length cell.block ≡ 4096

-- so each of these
abbrev pub AreDrawn : List Rec → Type 0
AreDrawn records = (r : Rec) → IsIn r records → (c : Fields) × IsDrawn r c
