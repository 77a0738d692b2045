-- Records: a configuration with the uberblock that names it, and when one is verified on a device.
use Rattle.std.specs.Prelude.{◌≡◌, ◌≢◌, ◌⊎◌, ℕ, ◌+◌, ◌/◌, ◌%◌, ◌<◌, ◌≤◌, false, List, length, take, Option, Some, slice_index}
use Rattle.sha2.specs.Sha256.{sha256}
use Rattle.mp_base.specs.declared.number.Group.{Group}
use Rattle.mp_base.specs.declared.number.Guid.{Guid}
use Rattle.bank_core.specs.Disk.{Sector, sector_size, sectors_in, sector_of, IsImage}
use Rattle.bank_core.specs.Standing.{Stands, StandFrom}
use Rattle.label_store.specs.declared.rule.Head.{Head}
use Rattle.label_store.specs.declared.uberblock.Uberblock.{Uberblock}
use Rattle.label_store.specs.Layout.{labels_of, config_offset, config_sectors, ring_offset, slot_of}
use Rattle.label_store.specs.Uberblock.{uberblock_bytes, IsInRange}

-- the first sector of the configuration part of label 0, 1, 2 or 3
abbrev pub config_at : (size label : ℕ) → ℕ
config_at size label = slice_index (labels_of size) label + config_offset

-- the sector of one of the 128 places of uberblocks: label by label, and slot by slot
abbrev pub place_at : (size place : ℕ) → ℕ
place_at size place = slice_index (labels_of size) (place / 32) + (ring_offset + place % 32)

-- These bytes are a configuration of this pool and number.
pub record IsHeaded (head_of : List ℕ → Option Head) (pool : Guid) (number : Group) (config : List ℕ) : Type 0 where
  pub head : Head
  pub reads : head_of config ≡ Some head
  pub pool_is : head.pool ≡ pool
  pub number_is : head.number ≡ number

-- Whole sectors, at most those of a configuration part, begin with the configuration that an uberblock names.
pub record IsRecord (head_of : List ℕ → Option Head) (u : Uberblock) (blob config : List ℕ) : Type 0 where
  pub in_range : IsInRange u
  pub some : 1 ≤ u.number.0
  pub whole : length blob % sector_size ≡ 0
  pub most : sectors_in blob ≤ config_sectors
  pub within : u.length ≤ length blob
  pub config_is : config ≡ take u.length blob
  pub sum : sha256 config ≡ u.sum
  pub headed : IsHeaded head_of u.pool u.number config

-- By what is known of a device's sectors, one of its rings has the uberblock, and one of its labels the
-- configuration: the record is verified there.
pub record IsVerified (head_of : List ℕ → Option Head) (size : ℕ) (known : ℕ → Option (List ℕ)) (place : ℕ) (u : Uberblock) (config : List ℕ) : Type 0 where
  pub inside : place < 128
  pub uberblock : known (place_at size place) ≡ Some (uberblock_bytes u)
  pub label : ℕ
  pub is_label : label < 4
  pub blob : List ℕ
  pub shown : (i : ℕ) → i < sectors_in blob → known (config_at size label + i) ≡ Some (sector_of i blob)
  pub is_record : IsRecord head_of u blob config

-- no label sector is damaged
abbrev pub AreUnhurt : (size : ℕ) → (ℕ → Sector) → Type 0
AreUnhurt size sectors = (label s : ℕ) → label < 4 → s < 64 → (sectors (slice_index (labels_of size) label + s)).damaged ≡ false

-- The record stands in an odd label, and its uberblock in a slot that isn't that of this number.
pub record HasRecord (head_of : List ℕ → Option Head) (size : ℕ) (sectors : ℕ → Sector) (number : ℕ) (u : Uberblock) (config : List ℕ) : Type 0 where
  pub place : ℕ
  pub inside : place < 128
  pub other_slot : place % 32 ≢ slot_of number
  pub uberblock : Stands (sectors (place_at size place)) (uberblock_bytes u)
  pub label : ℕ
  pub odd : (label ≡ 1) ⊎ (label ≡ 3)
  pub blob : List ℕ
  pub stands : StandFrom sectors (config_at size label) blob
  pub is_record : IsRecord head_of u blob config

-- On each image that a crash may leave of undamaged labels, some ring's uberblock and some label verify this record.
pub record Leaves (head_of : List ℕ → Option Head) (size : ℕ) (image : ℕ → List ℕ) (u : Uberblock) (config : List ℕ) : Type 0 where
  pub place : ℕ
  pub verified : IsVerified head_of size (λ s. Some (image s)) place u config

-- a crash leaves the old record or the new one, where no label sector is damaged
abbrev pub LeavesOne : (List ℕ → Option Head) → (size : ℕ) → (ℕ → Sector) → (old : Uberblock × List ℕ) → (new : Uberblock × List ℕ) → Type 0
LeavesOne head_of size sectors old new = (image : ℕ → List ℕ) → AreUnhurt size sectors → IsImage sectors image
    → Leaves head_of size image old.0 old.1 ⊎ Leaves head_of size image new.0 new.1
