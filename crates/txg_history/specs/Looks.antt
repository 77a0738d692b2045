-- What the parts that an opening read of the devices' labels say of single sectors.
use Rattle.std.specs.Prelude.{◌≡◌, ◌≢◌, ℕ, ◌+◌, ◌-◌, ◌*◌, ◌<◌, ◌≤◌, ◌==◌, nat_le, nat_lt, if◌then◌else◌, List, [], ◌∷◌, Option, Some, None, slice_get}
use Rattle.bank_core.specs.Calls.{device_of, fault_of}
use Rattle.bank_core.specs.Disk.{Noted, sector_of}
use Rattle.label_store.specs.Newest.{Parts}
use Rattle.txg_history.specs.Events.{Known}

abbrev pub sector_in : (i : ℕ) → Option (Option (List ℕ)) → Option (List ℕ)
sector_in i None = None
sector_in i (Some None) = None
sector_in i (Some (Some part)) = Some (sector_of i part)

-- sector s of a label: its ring is read in one part, and its configuration in the next
abbrev pub label_sector : Parts → (label s : ℕ) → Option (List ℕ)
label_sector parts label s =
    if nat_le 32 s then sector_in (s - 32) (slice_get parts (2 * label))
    else if nat_le 4 s then sector_in (s - 4) (slice_get parts (2 * label + 1)) else None

-- sector s of a device of so many sectors
abbrev pub device_sector : (size : ℕ) → Parts → (s : ℕ) → Option (List ℕ)
device_sector size parts s =
    if nat_lt s 64 then label_sector parts 0 s
    else if nat_lt s 128 then label_sector parts 1 (s - 64)
    else if nat_lt s (size - 128) then None
    else if nat_lt s (size - 64) then label_sector parts 2 (s - (size - 128))
    else if nat_lt s size then label_sector parts 3 (s - (size - 64)) else None

-- what was found, where these devices were looked at
abbrev pub known_by : (ℕ → ℕ) → (devs : List ℕ) → (looks : List Parts) → Known
known_by size [] looks d s = None
known_by size (dev ∷ devs) [] d s = None
known_by size (dev ∷ devs) (parts ∷ looks) d s =
    if dev == d then device_sector (size d) parts s else known_by size devs looks d s

-- no two of these devices are one
abbrev pub AreDistinct : List ℕ → Type 0
AreDistinct devs = (i j d e : ℕ) → slice_get devs i ≡ Some d → slice_get devs j ≡ Some e → i < j → d ≢ e

-- each of them has the room of four labels
abbrev pub HaveRoom : (ℕ → ℕ) → List ℕ → Type 0
HaveRoom size devs = (i dev : ℕ) → slice_get devs i ≡ Some dev → 320 ≤ size dev

-- no call on this device failed
abbrev pub NoneFailed : (d : ℕ) → List Noted → Type 0
NoneFailed d [] = Unit {0}
NoneFailed d (noted ∷ more) = (device_of noted.call ≡ d → fault_of noted.call ≡ None) × NoneFailed d more
