-- The devices of a host, by name.
use Rattle.std.specs.Prelude.{ℕ, nat_le, cond, List, [], ◌∷◌, Option, Some, None}
use Rattle.std.specs.Str.{bytes_eq}
use Rattle.pool_moves.specs.FreezeRow.{is_dev}

-- A device that the host names: its number in the bank of this run, where it was found, and how many sectors it has.
pub record Device : Type 0 where
  pub name : List ℕ
  pub number : Option ℕ
  pub sectors : ℕ

-- the number under which the device of this name was found
abbrev pub number_in : List ℕ → List Device → Option ℕ
number_in name [] = None
number_in name (device ∷ table) = cond (bytes_eq device.name name) device.number (number_in name table)

-- the name of the device of this number
abbrev pub name_in : List Device → ℕ → List ℕ
name_in [] d = []
name_in (device ∷ table) d = cond (is_dev d device.number) device.name (name_in table d)

-- how many sectors the device of this number has, 0 where the run lacks it
abbrev pub size_in : List Device → ℕ → ℕ
size_in [] d = 0
size_in (device ∷ table) d = cond (is_dev d device.number) device.sectors (size_in table d)

-- a device that was found and has the room of four labels, before others
abbrev pub handed_before : (number : Option ℕ) → (sectors : ℕ) → List ℕ → List ℕ
handed_before None sectors more = more
handed_before (Some d) sectors more = cond (nat_le 320 sectors) (d ∷ more) more

-- the devices that an opening is handed, in host order
abbrev pub handed : List Device → List ℕ
handed [] = []
handed (device ∷ table) = handed_before device.number device.sectors (handed table)
