-- The keys of a volume: its blocks, and the pages of its map.
use Rattle.std.specs.Prelude.{◌≡◌, ℕ, suc, zero, ◌+◌, ◌-◌, ◌*◌, ◌/◌, ◌<◌, ◌≤◌, ◌⊎◌, Bool, ◌&&◌, nat_lt, nat_le, Option, Some, None, ⊤}
use Rattle.mp_base.specs.declared.place.Key.{Key}

-- how many keys a level has: level 0 has the blocks, and each further level a page for each 64 keys of the one before
unfoldable pub keys_at : ℕ → ℕ → ℕ
keys_at blocks zero = blocks
keys_at blocks (suc level) = (keys_at blocks level + 63) / 64

-- a volume has 1 to 262,144 blocks
pub record IsVolume (blocks : ℕ) : Type 0 where
  pub some : 1 ≤ blocks
  pub most : blocks ≤ 262144

-- a key of a volume of so many blocks
pub record IsKey (blocks : ℕ) (key : Key) : Type 0 where
  pub level : key.level ≤ 3
  pub index : key.index < keys_at blocks key.level

-- the same as a test
unfoldable pub is_key : ℕ → Key → Bool
is_key blocks key = nat_le key.level 3 && nat_lt key.index (keys_at blocks key.level)

-- a page of the map of such a volume
pub record IsPage (blocks : ℕ) (page : Key) : Type 0 where
  pub key : IsKey blocks page
  pub level : 1 ≤ page.level

-- the page over all others
abbrev pub root : Key
root = record { level = 3; index = 0 }

-- the key whose pointer is the page's pointer of this number, from 0 to 63
abbrev pub child : Key → ℕ → Key
child page j = record { level = page.level - 1; index = 64 * page.index + j }

-- the page that holds the key's pointer
abbrev pub parent : Key → Key
parent key = record { level = key.level + 1; index = key.index / 64 }

-- the order of keys: by level, and then by index
abbrev pub IsBefore : Key → Key → Type 0
IsBefore a b = (a.level < b.level) ⊎ ((a.level ≡ b.level) × (a.index < b.index))

-- behind the cursor, or any key where there is none
abbrev pub IsBehind : Option Key → Key → Type 0
IsBehind None key = ⊤
IsBehind (Some cursor) key = IsBefore cursor key
