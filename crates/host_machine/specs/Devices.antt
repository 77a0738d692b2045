-- The devices of a host, by what each may serve for.
use Rattle.std.specs.Prelude.{◌≡◌, ℕ, ◌+◌, nat_le, if◌then◌else◌, List, [], ◌∷◌, Option, Some, None}
use Rattle.std.specs.Str.{bytes_eq}
use Rattle.pool_history.specs.Looks.{AreDistinct}
use Rattle.host_machine.specs.declared.device.HostDevice.{HostDevice}

-- the number of a device that was found and has the labels' room: an opening is handed it
abbrev pub handed : HostDevice → Option ℕ
handed device = if nat_le 320 device.sectors then device.dev else None

-- the same, where it is no spare device: it may become a member
abbrev pub usable : HostDevice → Option ℕ
usable device = if device.spare then None else handed device

abbrev pub front : Option ℕ → List ℕ → List ℕ
front None devs = devs
front (Some dev) devs = dev ∷ devs

-- the devices that an opening is handed, in host order
abbrev pub all_handed : List HostDevice → List ℕ
all_handed [] = []
all_handed (device ∷ table) = front (handed device) (all_handed table)

-- the number of the device of this name that may become a member
abbrev pub member_of : List ℕ → List HostDevice → Option ℕ
member_of name [] = None
member_of name (device ∷ table) = if bytes_eq device.name name then usable device else member_of name table

-- the number of the device of this name, where it was found and has room for so many data sectors behind the labels
abbrev pub seat_of : List ℕ → (sectors : ℕ) → List HostDevice → Option ℕ
seat_of name sectors [] = None
seat_of name sectors (device ∷ table) =
    if bytes_eq device.name name then (if nat_le (sectors + 256) device.sectors then device.dev else None) else seat_of name sectors table

-- the number under which the device of this name was found
abbrev pub number_in : List ℕ → List HostDevice → Option ℕ
number_in name [] = None
number_in name (device ∷ table) = if bytes_eq device.name name then device.dev else number_in name table

-- no two names have one device, and no device is handed twice
pub record AreApart (table : List HostDevice) : Type 0 where
  pub by : (one other : List ℕ) (d : ℕ) → number_in one table ≡ Some d → number_in other table ≡ Some d → one ≡ other
  pub handed : AreDistinct (all_handed table)
