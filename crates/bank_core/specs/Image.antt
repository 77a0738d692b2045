-- What the choice of an image says of a sector.
use Rattle.std.specs.Prelude.{◌≡◌, ℕ, ◌<◌, List}
use Rattle.bank_core.specs.declared.moment.ImageChoice.{ImageChoice}
use Rattle.bank_core.specs.declared.moment.ImageChoice.TheVariants as choice
use Rattle.bank_core.specs.Disk.{Sector, Pending, Nothing, Written, Failing, IsClean, sector_of}
use Rattle.bank_core.specs.Memory.{zero_sector}

abbrev pub last_bytes : Pending → List ℕ → List ℕ
last_bytes Nothing stable = stable
last_bytes (Written bytes) stable = bytes
last_bytes (Failing bytes) stable = bytes

-- the bytes of the last write, and where there is none the ones that stand there
abbrev pub newest : Sector → List ℕ
newest x = last_bytes x.pending x.stable

-- These bytes are the ones that the choice names. Of noise nothing is said.
abbrev pub IsChosen : ImageChoice → Sector → List ℕ → Type 0
IsChosen choice.Old x bytes = bytes ≡ x.stable
IsChosen choice.New x bytes = bytes ≡ newest x
IsChosen choice.Zeros x bytes = ¬ (IsClean x) → bytes ≡ zero_sector
IsChosen (choice.Noise seed) x bytes = Unit {0}
IsChosen (choice.Mixed seed) x bytes = Unit {0}

-- a buffer shows of each of the first n sectors what the choice names
abbrev pub ShowsChosen : ImageChoice → (ℕ → Sector) → ℕ → List ℕ → Type 0
ShowsChosen how sectors n bytes = (i : ℕ) → i < n → IsChosen how (sectors i) (sector_of i bytes)
