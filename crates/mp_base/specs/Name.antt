-- The names of pools and devices, as bytes. This file names no type of the crate.
use Rattle.std.specs.Prelude.{ℕ, Bool, List, ◌==◌, ◌&&◌, ◌||◌, nat_le, not, length, slice_index, codes}
use Rattle.std.specs.List.{list_all}
use Rattle.std.specs.Str.{bytes_eq}

-- a lower-case letter or a digit, which may begin a name
abbrev pub is_name_start : ℕ → Bool
is_name_start b = (nat_le 97 b && nat_le b 122) || (nat_le 48 b && nat_le b 57)

-- a byte that may stand behind the first: those, and `_`, `.` and `-`
abbrev pub is_name_byte : ℕ → Bool
is_name_byte b = is_name_start b || ((b == 95) || ((b == 46) || (b == 45)))

-- `mirror` and `spare` are words of the grammar, and no names
abbrev pub is_word : List ℕ → Bool
is_word bytes = bytes_eq bytes (codes "mirror") || bytes_eq bytes (codes "spare")

-- 1 to 64 bytes of names, of which the first may begin one, and no word of the grammar
abbrev pub is_name : List ℕ → Bool
is_name bytes =
    nat_le 1 (length bytes) && (nat_le (length bytes) 64 && (is_name_start (slice_index bytes 0)
    && (list_all is_name_byte bytes && not (is_word bytes))))
