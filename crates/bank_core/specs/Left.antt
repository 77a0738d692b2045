-- Devices that are used again after a crash.
use Rattle.std.specs.Prelude.{◌≡◌, ◌<◌, ℕ, List, [], Some, slice_get}
use Rattle.bank_core.specs.declared.call.MemCall.{MemCall}
use Rattle.bank_core.specs.declared.device.MemDevice.{MemDevice}
use Rattle.bank_core.specs.declared.moment.ImageChoice.{ImageChoice}
use Rattle.bank_core.specs.Disk.{Sector, IsClean, sector_of, sectors_in}
use Rattle.bank_core.specs.Image.{IsChosen}
use Rattle.bank_core.specs.Memory.{is_damaged, sector_then}

-- The device as one that is used again after a crash: its bytes are an image of these sectors, by this
-- choice, and what was damaged still is.
pub record IsLeft (how : ImageChoice) (at : ℕ → Sector) (number sectors : ℕ) (device : MemDevice) : Type 0 where
  pub size : device.sectors ≡ sectors
  pub filled : sectors_in device.first.items ≡ sectors
  pub image : (s : ℕ) → s < sectors → IsClean (at s) → sector_of s device.first.items ≡ (at s).stable
  pub chosen : (s : ℕ) → s < sectors → IsChosen how (at s) (sector_of s device.first.items)
  pub damaged : (s : ℕ) → s < sectors → is_damaged device.damage.items number s ≡ (at s).damaged

-- The first n of these devices are what a crash behind these calls leaves of the others.
abbrev pub AreLeft : ImageChoice → List MemDevice → List MemCall → List MemDevice → ℕ → Type 0
AreLeft how devices calls left n = (k : ℕ) → k < n → (device : MemDevice) × (x : MemDevice)
    × (slice_get devices k ≡ Some device) × (slice_get left k ≡ Some x)
    × IsLeft how (sector_then device calls [] k) k device.sectors x
