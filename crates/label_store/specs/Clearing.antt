-- Rings from which every record was taken, by a stamp or a wipe, and what stands there at each moment of it.
use Rattle.std.specs.Prelude.{◌≡◌, ◌≢◌, ◌⊎◌, ℕ, zero, suc, ◌+◌, ◌<◌, ◌≤◌, true, false, List, [], ◌∷◌, Option, Some, None, slice_index}
use Rattle.mp_base.specs.declared.number.Guid.{Guid}
use Rattle.bank_core.specs.Disk.{Sector, Sectors, Pending, Nothing, Written, Failing, Read, Noted, sector_of, run, IsImage}
use Rattle.bank_core.specs.Memory.{zero_sector}
use Rattle.bank_core.specs.Standing.{Stands}
use Rattle.label_store.specs.declared.rule.Head.{Head}
use Rattle.label_store.specs.declared.uberblock.Uberblock.{Uberblock}
use Rattle.label_store.specs.Layout.{labels_of, config_sectors, ring_slots}
use Rattle.label_store.specs.Plans.{blank_uberblock}
use Rattle.label_store.specs.Records.{config_at, place_at, IsVerified}
use Rattle.label_store.specs.Uberblock.{IsUberblock, uberblock_bytes}

-- A sector that holds no uberblock of a record: none that is correct has a number of 1 or more.
abbrev pub IsBare : List ℕ → Type 0
IsBare bytes = (u : Uberblock) → IsUberblock u bytes → 1 ≤ u.number.0 → ⊥

-- what a stamp brings to each slot of a ring
abbrev pub stamp_sector : (pool member : Guid) → (slot : ℕ) → List ℕ
stamp_sector pool member zero = uberblock_bytes (blank_uberblock pool member)
stamp_sector pool member (suc slot) = zero_sector

-- each of a device's 128 places holds these bytes for good, by its slot
abbrev pub RingsHold : (size : ℕ) → (ℕ → Sector) → (bytes : ℕ → List ℕ) → Type 0
RingsHold size sectors bytes = (label slot : ℕ) → label < 4 → slot < 32
    → Stands (sectors (slice_index (labels_of size) label + (32 + slot))) (bytes slot)

-- the sector is none of the device's places of uberblocks
abbrev pub IsOffRings : (size s : ℕ) → Type 0
IsOffRings size s = (label slot : ℕ) → label < 4 → slot < 32 → s ≢ slice_index (labels_of size) label + (32 + slot)

-- these bytes are on the way
abbrev pub IsOnTheWay : Pending → List ℕ → Type 0
IsOnTheWay Nothing bytes = ⊥
IsOnTheWay (Written on_way) bytes = bytes ≡ on_way
IsOnTheWay (Failing on_way) bytes = bytes ≡ on_way

-- these bytes stand on the sector, or are on the way
abbrev pub IsHeld : Sector → List ℕ → Type 0
IsHeld x bytes = (bytes ≡ x.stable) ⊎ IsOnTheWay x.pending bytes

-- An image forges no uberblock of the number `least` or more: each correct one stands there or is on the way, and none
-- is the work of damage or of a torn write. With 1 these are the uberblocks of records, with 0 those of identities too.
abbrev pub IsUnforged : (least size : ℕ) → (ℕ → Sector) → (image : ℕ → List ℕ) → Type 0
IsUnforged least size sectors image = (place : ℕ) (u : Uberblock) → place < 128
    → IsUberblock u (image (place_at size place))
    → least ≤ u.number.0
    → IsHeld (sectors (place_at size place)) (image (place_at size place))

-- Nor does a read of the ring from `at` on.
abbrev pub IsReadUnforged : (least : ℕ) → (ℕ → Sector) → (at : ℕ) → (ring : List ℕ) → Type 0
IsReadUnforged least sectors at ring = (slot : ℕ) (u : Uberblock) → slot < ring_slots
    → IsUberblock u (sector_of slot ring) → least ≤ u.number.0
    → IsHeld (sectors (at + slot)) (sector_of slot ring)

-- A ring shows no uberblock of the number `least` or more but those of these bytes, slot by slot.
abbrev pub ShowsOnly : (least : ℕ) → (ring : List ℕ) → (bytes : ℕ → List ℕ) → Type 0
ShowsOnly least ring bytes = (slot : ℕ) (u : Uberblock) → slot < ring_slots → IsUberblock u (sector_of slot ring)
    → least ≤ u.number.0
    → sector_of slot ring ≡ bytes slot

-- one of these calls read these bytes there
abbrev pub WasRead : (dev at : ℕ) → (bytes : List ℕ) → List Noted → Type 0
WasRead dev at bytes [] = ⊥
WasRead dev at bytes (noted ∷ more) = (noted.call ≡ Read dev at bytes None) ⊎ WasRead dev at bytes more

-- The reads among these calls forge no uberblock of the number `least` or more: of these a damaged slot of the device's
-- rings shows only what stands there or is on the way. So it is where no label sector is damaged behind the calls.
abbrev pub AreUnforged : (least dev size : ℕ) → Sectors → List Noted → Type 0
AreUnforged least dev size sectors made = (label slot : ℕ) (ring : List ℕ) (u : Uberblock) → label < 4 → slot < ring_slots
    → WasRead dev (slice_index (labels_of size) label + 32) ring made
    → (run made sectors dev (slice_index (labels_of size) label + (32 + slot))).damaged ≡ true
    → IsUberblock u (sector_of slot ring) → least ≤ u.number.0
    → IsHeld (sectors dev (slice_index (labels_of size) label + (32 + slot))) (sector_of slot ring)

-- no sector of the configurations was damaged in between
abbrev pub AreConfigsUnhurt : (size : ℕ) → (old new : ℕ → Sector) → Type 0
AreConfigsUnhurt size old new = (label i : ℕ) → label < 4 → i < config_sectors
    → (old (config_at size label + i)).damaged ≡ false → (new (config_at size label + i)).damaged ≡ false

-- A crash could leave an image, unforged, that verifies this record by the uberblock at this place.
pub record MayShow (head_of : List ℕ → Option Head) (size : ℕ) (sectors : ℕ → Sector) (place : ℕ) (u : Uberblock)
    (config : List ℕ) : Type 0 where
  pub image : ℕ → List ℕ
  pub is_image : IsImage sectors image
  pub unforged : IsUnforged 1 size sectors image
  pub verified : IsVerified head_of size (λ s. Some (image s)) place u config
