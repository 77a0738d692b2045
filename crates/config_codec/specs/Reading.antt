-- The configuration that bytes are, where they are one.
use Rattle.std.specs.Prelude.{ℕ, zero, suc, ◌-◌, ◌*◌, ◌==◌, ◌&&◌, if◌then◌else◌, List, [], ◌∷◌, ◌++◌, length, take, drop, Option, Some, None, slice_index}
use Rattle.std.specs.Int.{from_be_bytes, w32, w64}
use Rattle.std.specs.Str.{bytes_eq}
use Rattle.mp_base.specs.Block.{zeros}
use Rattle.mp_base.specs.declared.range.GroupRange.{GroupRange}
use Rattle.config_codec.specs.declared.config.Pointer.{Pointer}
use Rattle.config_codec.specs.declared.config.LeafConfig.{LeafConfig}
use Rattle.config_codec.specs.Fields.{Fields}
use Rattle.config_codec.specs.Flags.{kept_in, marked_in}
use Rattle.config_codec.specs.Spelling.{config_bytes}
use Rattle.config_codec.specs.Validity.{is_valid}

-- What stands first in some bytes. Behind their end zeros are read.

-- so many bytes
unfoldable pub front : ℕ → List ℕ → List ℕ
front n bytes = take n bytes ++ zeros (n - length bytes)

-- the number of one byte
abbrev pub byte_in : List ℕ → ℕ
byte_in bytes = slice_index bytes 0

-- the number of four bytes
unfoldable pub count_in : List ℕ → ℕ
count_in bytes = from_be_bytes w32 (front 4 bytes)

-- the number of eight bytes
unfoldable pub number_in : List ℕ → ℕ
number_in bytes = from_be_bytes w64 (front 8 bytes)

unfoldable pub text_in : List ℕ → List ℕ
text_in bytes = take (byte_in bytes) (drop 1 bytes)

unfoldable pub behind_text : List ℕ → List ℕ
behind_text bytes = drop (byte_in bytes) (drop 1 bytes)

-- Birth 0 tells a hole.
unfoldable pub pointer_in : List ℕ → Option Pointer
pointer_in bytes =
    if number_in bytes == 0 then None else Some (record {
      birth = record { 0 = number_in bytes };
      sector = number_in (drop 12 bytes);
      sum = front 32 (drop 20 bytes);
    })

unfoldable pub pointers_in : ℕ → List ℕ → List (Option Pointer)
pointers_in zero bytes = []
pointers_in (suc n) bytes = pointer_in bytes ∷ pointers_in n (drop 52 bytes)

unfoldable pub range_in : List ℕ → GroupRange
range_in bytes = record { low = record { 0 = number_in bytes }; high = record { 0 = number_in (drop 8 bytes) } }

unfoldable pub ranges_in : ℕ → List ℕ → List GroupRange
ranges_in zero bytes = []
ranges_in (suc n) bytes = range_in bytes ∷ ranges_in n (drop 16 bytes)

-- the ranges behind their number
unfoldable pub log_in : List ℕ → List GroupRange
log_in bytes = ranges_in (count_in bytes) (drop 4 bytes)

unfoldable pub behind_log : List ℕ → List ℕ
behind_log bytes = drop (16 * count_in bytes) (drop 4 bytes)

-- The bytes of a leaf from a field on.

-- behind its kind and its member number
abbrev pub from_device : List ℕ → List ℕ
from_device leaf = drop 8 (drop 1 leaf)

abbrev pub from_flags : List ℕ → List ℕ
from_flags leaf = behind_text (from_device leaf)

abbrev pub from_log : List ℕ → List ℕ
from_log leaf = drop 1 (from_flags leaf)

unfoldable pub leaf_in : List ℕ → LeafConfig
leaf_in bytes = record {
  member = record { 0 = number_in (drop 1 bytes) };
  name = text_in (from_device bytes);
  kept = kept_in (byte_in (from_flags bytes));
  marked = marked_in (byte_in (from_flags bytes));
  log = log_in (from_log bytes);
}

unfoldable pub behind_leaf : List ℕ → List ℕ
behind_leaf bytes = behind_log (from_log bytes)

-- The bytes from a field on, which is behind the field before it.

-- behind the version
abbrev pub from_pool : List ℕ → List ℕ
from_pool bytes = drop 4 bytes

abbrev pub from_name : List ℕ → List ℕ
from_name bytes = drop 8 (from_pool bytes)

abbrev pub from_blocks : List ℕ → List ℕ
from_blocks bytes = behind_text (from_name bytes)

abbrev pub from_number : List ℕ → List ℕ
from_number bytes = drop 8 (from_blocks bytes)

abbrev pub from_next_member : List ℕ → List ℕ
from_next_member bytes = drop 8 (from_number bytes)

abbrev pub from_pointers : List ℕ → List ℕ
from_pointers bytes = drop 8 (from_next_member bytes)

abbrev pub from_tops : List ℕ → List ℕ
from_tops bytes = drop (52 * number_in (from_blocks bytes)) (from_pointers bytes)

-- The bytes of the tops from a field on.

-- behind their number
abbrev pub from_sectors : List ℕ → List ℕ
from_sectors tops = drop 4 tops

-- behind the sectors and a kind
abbrev pub from_mirror : List ℕ → List ℕ
from_mirror tops = drop 1 (drop 8 (from_sectors tops))

-- behind the mirror's number and the number of its children
abbrev pub from_first : List ℕ → List ℕ
from_first tops = drop 1 (drop 8 (from_mirror tops))

abbrev pub from_second : List ℕ → List ℕ
from_second tops = behind_leaf (from_first tops)

-- the fields as they stand in the bytes, valid or not
unfoldable pub fields_of : List ℕ → Fields
fields_of bytes = record {
  pool = record { 0 = number_in (from_pool bytes) };
  name = text_in (from_name bytes);
  blocks = number_in (from_blocks bytes);
  number = record { 0 = number_in (from_number bytes) };
  next_member = number_in (from_next_member bytes);
  pointers = pointers_in (number_in (from_blocks bytes)) (from_pointers bytes);
  sectors = number_in (from_sectors (from_tops bytes));
  mirror = record { 0 = number_in (from_mirror (from_tops bytes)) };
  first = leaf_in (from_first (from_tops bytes));
  second = leaf_in (from_second (from_tops bytes));
}

-- Bytes are a configuration where their fields are valid, and they are just the bytes of these fields.
unfoldable pub config_in : List ℕ → Option Fields
config_in bytes =
    if is_valid (fields_of bytes) && bytes_eq (config_bytes (fields_of bytes)) bytes then Some (fields_of bytes) else None
