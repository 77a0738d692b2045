-- A sector as the bank in memory finds it, by references into its bytes.
use Rattle.std.specs.Prelude.{◌≡◌, ℕ, ◌<◌, List}
use Rattle.bank_core.specs.declared.view.Held.{Held}
use Rattle.bank_core.specs.declared.view.Held.TheVariants as held
use Rattle.bank_core.specs.declared.view.Last.{Last}
use Rattle.bank_core.specs.declared.view.Last.TheVariants as last
use Rattle.bank_core.specs.declared.view.Shown.{Shown}
use Rattle.bank_core.specs.declared.view.Shown.TheVariants as shown
use Rattle.bank_core.specs.declared.view.View.{View}
use Rattle.bank_core.specs.Disk.{Sector, Pending, Nothing, Written, Failing, IsClean, sector_of}
use Rattle.bank_core.specs.Memory.{zero_sector}

abbrev pub held_bytes : Held → List ℕ
held_bytes held.Zeros = zero_sector
held_bytes (held.Bytes x) = x.bytes.now

abbrev pub pending_of : Last → Pending
pending_of last.Nothing = Nothing
pending_of (last.Written x) = Written x.bytes.now
pending_of (last.Failing x) = Failing x.bytes.now

abbrev pub view_of : View → Sector
view_of view = record { stable = held_bytes view.stable; pending = pending_of view.last; damaged = view.damaged }

-- where bytes that are held are shown, they are just these
abbrev pub Shows : Shown → List ℕ → Type 0
Shows (shown.Held x) bytes = bytes ≡ held_bytes x
Shows (shown.Fill byte) bytes = Unit {0}
Shows (shown.Noise seed) bytes = Unit {0}

-- a buffer shows what is stable at each clean one of the first n sectors
abbrev pub ShowsClean : (ℕ → Sector) → ℕ → List ℕ → Type 0
ShowsClean sectors n bytes = (i : ℕ) → i < n → IsClean (sectors i) → sector_of i bytes ≡ (sectors i).stable
