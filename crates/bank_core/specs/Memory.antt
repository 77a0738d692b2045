-- What the bank in memory holds and tells: its devices' first sectors, and its list of calls.
use Rattle.std.specs.Prelude.{ℕ, ◌+◌, ◌-◌, Bool, false, cond, ◌==◌, ◌&&◌, nat_le, nat_lt, List, map, Option, Some, None, position, slice_get, replicate, is_none}
use Rattle.std.specs.List.{list_any}
use Rattle.std.specs.Str.{bytes_eq}
use Rattle.bank_core.specs.declared.bank.Fault.{Fault}
use Rattle.bank_core.specs.declared.call.CallKind.{CallKind}
use Rattle.bank_core.specs.declared.call.CallKind.TheVariants as kind
use Rattle.bank_core.specs.declared.call.Damage.{Damage}
use Rattle.bank_core.specs.declared.call.MemCall.{MemCall}
use Rattle.bank_core.specs.declared.device.MemDevice.{MemDevice}
use Rattle.bank_core.specs.Disk.{Sector, Sectors, Call, Read, Write, Flush, Nothing, Noted, sector_size, sectors_in, sector_of, covers, after_write, after_flush, hurt, replay, Answers}
use Rattle.bank_core.specs.Story.{Story, now}

-- a sector of zeros
unfoldable pub zero_sector : List ℕ
zero_sector = replicate sector_size 0

-- one of these damages lies on sector s of device d
abbrev pub is_damaged : List Damage → ℕ → ℕ → Bool
is_damaged damages d s = list_any (λ x. (x.dev == d) && (nat_le x.from s && nat_le s x.to)) damages

-- how many sectors the device of this number has
abbrev pub sectors_of : Option MemDevice → ℕ
sectors_of None = 0
sectors_of (Some device) = device.sectors

abbrev pub size_in : List MemDevice → ℕ → ℕ
size_in devices d = sectors_of (slice_get devices d)

-- the number of the first device of this name
abbrev pub number_in : List MemDevice → List ℕ → Option ℕ
number_in devices name = position (λ device. bytes_eq device.name name) devices

abbrev pub names_in : List MemDevice → List (List ℕ)
names_in devices = map (λ device. device.name) devices

-- A sector on which just this stands.
abbrev pub clean_sector : List ℕ → Sector
clean_sector bytes = record { stable = bytes; pending = Nothing; damaged = false }

-- Sector s of a device of so many sectors that begins with these bytes, zeros at each sector that they
-- don't fill, and with these damages.
abbrev pub image_sector : (sectors : ℕ) → List ℕ → List Damage → (d s : ℕ) → Sector
image_sector sectors first damages d s = record {
  stable = cond (nat_lt s sectors && nat_lt s (sectors_in first)) (sector_of s first) zero_sector;
  pending = Nothing;
  damaged = nat_lt s sectors && is_damaged damages d s;
}

abbrev pub first_sector : Option MemDevice → (d s : ℕ) → Sector
first_sector None d s = clean_sector zero_sector
first_sector (Some device) d s = image_sector device.sectors device.first.items device.damage.items d s

abbrev pub first_sectors : List MemDevice → Sectors
first_sectors devices = λ d s. first_sector (slice_get devices d) d s

-- a call of this kind, with its answer
abbrev pub call_as : CallKind → (dev at : ℕ) → List ℕ → Option Fault → Call
call_as kind.Read dev at bytes fault = Read dev at bytes fault
call_as kind.Write dev at bytes fault = Write dev at bytes fault
call_as kind.Flush dev at bytes fault = Flush dev fault

abbrev pub call_of : MemCall → Call
call_of x = call_as x.kind x.dev x.at x.bytes.items x.fault

-- An entry of the list as it is told. Damage beyond a device's end is none.
abbrev pub noted_in : (ℕ → ℕ) → MemCall → Noted
noted_in size x = record { call = call_of x; damage = λ d s. nat_lt s (size d) && is_damaged x.damage.items d s }

-- the same where the sector is known to lie inside
abbrev pub noted_alone : MemCall → Noted
noted_alone x = record { call = call_of x; damage = is_damaged x.damage.items }

-- what the bytes of a call make of sector s, where they are written
abbrev pub write_of : MemCall → ℕ → Sector → Sector
write_of x s sector =
    cond (covers x.at (sectors_in x.bytes.items) s)
    (record { stable = sector.stable; pending = after_write x.fault (sector_of (s - x.at) x.bytes.items); damaged = sector.damaged }) sector

-- what a flush makes of a sector
abbrev pub flush_of : Option Fault → Sector → Sector
flush_of fault sector = cond (is_none fault) (after_flush sector.pending sector) sector

-- the bytes of the call lie inside its device
abbrev pub is_inside : (ℕ → ℕ) → MemCall → Bool
is_inside size x = nat_le (x.at + sectors_in x.bytes.items) (size x.dev)

-- what the bank tells of these devices and calls
abbrev pub story_in : List MemDevice → List MemCall → Story
story_in devices calls = record { start = first_sectors devices; calls = map (noted_in (size_in devices)) calls }

-- the sectors behind these calls, with these damages
abbrev pub found_in : List MemDevice → List MemCall → List Damage → Sectors
found_in devices calls damages = λ d s.
    hurt (nat_lt s (size_in devices d) && is_damaged damages d s) (now (story_in devices calls) d s)

-- a call that answers by the sectors behind these calls, where it is a read
abbrev pub AnswersThere : List MemDevice → List MemCall → MemCall → Type 0
AnswersThere devices calls x = Answers (found_in devices calls x.damage.items) (call_of x)

-- sector s of the device behind these calls, with these damages
abbrev pub sector_then : MemDevice → List MemCall → List Damage → ℕ → ℕ → Sector
sector_then device calls damages d s =
    hurt (is_damaged damages d s) (replay (map noted_alone calls) d s (first_sector (Some device) d s))

-- the sectors with those of another device, under this number
abbrev pub with_device : Sectors → ℕ → (ℕ → Sector) → Sectors
with_device sectors number device = λ d s. cond (d == number) (device s) (sectors d s)
