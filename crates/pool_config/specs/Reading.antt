-- The configuration that bytes are, where they are one.
use Rattle.std.specs.Prelude.{ℕ, zero, suc, ◌-◌, ◌==◌, ◌&&◌, cond, List, [], ◌∷◌, ◌++◌, length, take, drop, Option}
use Rattle.std.specs.Prelude.{Some, None, slice_index}
use Rattle.std.specs.Int.{from_be_bytes, w32, w64}
use Rattle.std.specs.Str.{bytes_eq}
use Rattle.mp_base.specs.Block.{zeros}
use Rattle.mp_base.specs.declared.place.Pointer.{Pointer}
use Rattle.mp_base.specs.declared.range.GroupRange.{GroupRange}
use Rattle.vdev_tree.specs.declared.vdev.Kind.{Kind}
use Rattle.vdev_tree.specs.declared.vdev.Kind.TheVariants.{Mirror, Replacing, Spare}
use Rattle.vdev_tree.specs.Tree.{joined}
use Rattle.pool_config.specs.Flags.{state_in, marked_in}
use Rattle.pool_config.specs.Seen.{LeafSeen, VdevSeen, leaf_vdev, inner_vdev, TopSeen, ConfigSeen}
use Rattle.pool_config.specs.Spelling.{config_bytes}
use Rattle.pool_config.specs.Validity.{is_valid}

-- What stands first in some bytes. Behind their end zeros are read.

-- so many bytes
unfoldable pub front : ℕ → List ℕ → List ℕ
front n bytes = take n bytes ++ zeros (n - length bytes)

-- the number of one byte
abbrev pub byte_in : List ℕ → ℕ
byte_in bytes = slice_index bytes 0

-- the number of four bytes
unfoldable pub count_in : List ℕ → ℕ
count_in bytes = from_be_bytes w32 (front 4 bytes)

-- the number of eight bytes
unfoldable pub number_in : List ℕ → ℕ
number_in bytes = from_be_bytes w64 (front 8 bytes)

unfoldable pub text_in : List ℕ → List ℕ
text_in bytes = take (byte_in bytes) (drop 1 bytes)

unfoldable pub behind_text : List ℕ → List ℕ
behind_text bytes = drop (byte_in bytes) (drop 1 bytes)

unfoldable pub pointer_in : List ℕ → Pointer
pointer_in bytes = record {
  birth = record { 0 = number_in bytes };
  place = record { top = count_in (drop 8 bytes); sector = number_in (drop 12 bytes) };
  sum = front 32 (drop 20 bytes);
}

-- a thing that stands first in some bytes, and what is behind it
pub record Read (A : Type 0) : Type 0 where
  pub value : A
  pub rest : List ℕ

-- one more thing before others
abbrev pub before : {A : Type 0} → A → Read (List A) → Read (List A)
before value others = record { value = value ∷ others.value; rest = others.rest }

-- so many things, one behind the other
unfoldable pub many_in : {A : Type 0} → (List ℕ → Read A) → ℕ → List ℕ → Read (List A)
many_in one_in zero bytes = record { value = []; rest = bytes }
many_in one_in (suc n) bytes = before (one_in bytes).value (many_in one_in n (one_in bytes).rest)

unfoldable pub range_in : List ℕ → Read GroupRange
range_in bytes = record {
  value = record { low = record { 0 = number_in bytes }; high = record { 0 = number_in (drop 8 bytes) } };
  rest = drop 16 bytes;
}

-- the ranges behind their number
unfoldable pub log_in : List ℕ → Read (List GroupRange)
log_in bytes = many_in range_in (count_in bytes) (drop 4 bytes)

-- The bytes of a leaf from a field on.

-- behind its kind and its member number
abbrev pub from_device : List ℕ → List ℕ
from_device leaf = drop 8 (drop 1 leaf)

abbrev pub from_flags : List ℕ → List ℕ
from_flags leaf = behind_text (from_device leaf)

abbrev pub from_log : List ℕ → List ℕ
from_log leaf = drop 1 (from_flags leaf)

unfoldable pub leaf_in : List ℕ → Read LeafSeen
leaf_in bytes = record {
  value = record {
    guid = record { 0 = number_in (drop 1 bytes) };
    name = text_in (from_device bytes);
    state = state_in (byte_in (from_flags bytes));
    marked = marked_in (byte_in (from_flags bytes));
    log = (log_in (from_log bytes)).value;
  };
  rest = (log_in (from_log bytes)).rest;
}

-- a byte above 2 is taken for a spare vdev's
abbrev pub kind_in : ℕ → Kind
kind_in byte = cond (byte == 1) Mirror (cond (byte == 2) Replacing Spare)

-- behind the kind and the member number of an inner vdev
abbrev pub from_count : List ℕ → List ℕ
from_count inner = drop 8 (drop 1 inner)

abbrev pub from_children : List ℕ → List ℕ
from_children inner = drop 1 (from_count inner)

abbrev pub leaf_alone_in : List ℕ → Read (List VdevSeen)
leaf_alone_in bytes = record { value = leaf_vdev (leaf_in bytes).value ∷ []; rest = (leaf_in bytes).rest }

-- an inner vdev with its children
abbrev pub inner_over : List ℕ → Read (List (List VdevSeen)) → Read (List VdevSeen)
inner_over bytes children = record {
  value = inner_vdev (record { 0 = number_in (drop 1 bytes) }) (kind_in (byte_in bytes)) (byte_in (from_count bytes))
      ∷ joined children.value;
  rest = children.rest;
}

-- the vdevs of a tree that has at most so many levels below its first; what lies deeper is taken for leaves
unfoldable pub tree_in : (levels : ℕ) → List ℕ → Read (List VdevSeen)
tree_in zero bytes = leaf_alone_in bytes
tree_in (suc levels) bytes =
    cond (byte_in bytes == 0) (leaf_alone_in bytes)
    (inner_over bytes (many_in (tree_in levels) (byte_in (from_count bytes)) (from_children bytes)))

-- A mirror has three levels below it: a spare vdev, a replacing one, and its leaves.
unfoldable pub top_in : List ℕ → Read TopSeen
top_in bytes = record {
  value = record { sectors = number_in bytes; vdevs = (tree_in 3 (drop 8 bytes)).value };
  rest = (tree_in 3 (drop 8 bytes)).rest;
}

unfoldable pub spare_in : List ℕ → Read (List ℕ)
spare_in bytes = record { value = text_in bytes; rest = behind_text bytes }

-- The bytes from a field on, which is behind the field before it.

-- behind the version
abbrev pub from_pool : List ℕ → List ℕ
from_pool bytes = drop 4 bytes

abbrev pub from_name : List ℕ → List ℕ
from_name bytes = drop 8 (from_pool bytes)

abbrev pub from_blocks : List ℕ → List ℕ
from_blocks bytes = behind_text (from_name bytes)

abbrev pub from_number : List ℕ → List ℕ
from_number bytes = drop 8 (from_blocks bytes)

abbrev pub from_next_guid : List ℕ → List ℕ
from_next_guid bytes = drop 8 (from_number bytes)

abbrev pub from_root : List ℕ → List ℕ
from_root bytes = drop 8 (from_next_guid bytes)

abbrev pub from_tops : List ℕ → List ℕ
from_tops bytes = drop 52 (from_root bytes)

-- the tops behind their number, and the spares behind theirs
unfoldable pub tops_in : List ℕ → Read (List TopSeen)
tops_in bytes = many_in top_in (count_in bytes) (drop 4 bytes)

unfoldable pub spares_in : List ℕ → Read (List (List ℕ))
spares_in bytes = many_in spare_in (count_in bytes) (drop 4 bytes)

-- the fields as they stand in the bytes, valid or not
unfoldable pub seen_in : List ℕ → ConfigSeen
seen_in bytes = record {
  pool = record { 0 = number_in (from_pool bytes) };
  name = text_in (from_name bytes);
  blocks = number_in (from_blocks bytes);
  number = record { 0 = number_in (from_number bytes) };
  next_guid = number_in (from_next_guid bytes);
  root = pointer_in (from_root bytes);
  tops = (tops_in (from_tops bytes)).value;
  spares = (spares_in (tops_in (from_tops bytes)).rest).value;
}

-- Bytes are a configuration where their fields are valid, and they are just the bytes of these fields.
unfoldable pub config_in : List ℕ → Option ConfigSeen
config_in bytes =
    cond (is_valid (seen_in bytes) && bytes_eq (config_bytes (seen_in bytes)) bytes) (Some (seen_in bytes)) None
