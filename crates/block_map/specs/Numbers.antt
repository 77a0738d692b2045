-- How the code numbers keys and places. No public clause speaks of these numbers.
use Rattle.std.specs.Prelude.{ℕ, Option, Some, None, suc, zero, ◌+◌, ◌*◌, ◌/◌, ◌%◌}
use Rattle.mp_base.specs.declared.place.Key.{Key}
use Rattle.mp_base.specs.declared.place.Place.{Place}
use Rattle.block_map.specs.Keys.{keys_at}

-- where a level's numbers begin; those behind the last key fill up a page
unfoldable pub start : ℕ → ℕ → ℕ
start blocks zero = 0
start blocks (suc level) = start blocks level + 64 * keys_at blocks (suc level)

-- how many numbers the keys of a volume take
unfoldable pub slots : ℕ → ℕ
slots blocks = start blocks 3 + 1

unfoldable pub key_number : ℕ → Key → ℕ
key_number blocks key = start blocks key.level + key.index

unfoldable pub place_number : ℕ → Place → ℕ
place_number tops place = place.sector * tops + place.top

unfoldable pub place_at : ℕ → ℕ → Place
place_at tops number = record { top = number % tops; sector = number / tops }

-- the first number behind a key's, or of all
abbrev pub number_behind : ℕ → Option Key → ℕ
number_behind blocks None = 0
number_behind blocks (Some key) = key_number blocks key + 1
