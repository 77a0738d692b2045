-- How the history reads the bytes of configurations and of map pages: the codec of its laws.
use Rattle.std.specs.Prelude.{ℕ, ◌&&◌, ◌||◌, Bool, nat_lt, List, map, Option, slice_index_or}
use Rattle.std.specs.List.{list_any, list_all}
use Rattle.std.specs.Option.{option_map}
use Rattle.std.specs.Str.{bytes_eq}
use Rattle.mp_base.specs.declared.place.Pointer.{Pointer}
use Rattle.label_store.specs.declared.rule.Head.{Head}
use Rattle.block_map.specs.Pages.{page_bytes, pointers_in}
use Rattle.block_map.specs.Pointers.{hole}
use Rattle.pool_config.specs.Reading.{config_in, seen_in}
use Rattle.pool_config.specs.Seen.{ConfigSeen, top_vdevs}
use Rattle.pool_config.specs.Validity.{is_hole}
use Rattle.txg_history.specs.Pages.{Codec, Sum}
use Rattle.pool_codec.specs.Pointers.{sum_in}
use Rattle.pool_codec.specs.Tops.{top_sectors, room_of, number_of, children_of, kept_from}

-- the head of a configuration
abbrev pub head_of_seen : ConfigSeen → Head
head_of_seen c = record { pool = c.pool; name = c.name; number = c.number }

-- bytes are a configuration of this head
abbrev pub head_of : List ℕ → Option Head
head_of bytes = option_map head_of_seen (config_in bytes)

-- something was written there
abbrev pub is_written : Pointer → Bool
is_written pointer = nat_lt 0 pointer.birth.0

-- where nothing was, all is zero
abbrev pub is_formed : Pointer → Bool
is_formed pointer = is_written pointer || is_hole pointer

-- a page: its bytes are those of 64 pointers, not all of which are holes
abbrev pub is_page : List ℕ → Bool
is_page bytes = bytes_eq (page_bytes (pointers_in bytes)) bytes
    && (list_all is_formed (pointers_in bytes) && list_any is_written (pointers_in bytes))

abbrev pub pointer_in : List ℕ → ℕ → Option Sum
pointer_in bytes j = sum_in (slice_index_or (pointers_in bytes) j hole)

-- the codec of the project's own formats (docs/FORMATS.md)
abbrev pub pool_codec : Codec
pool_codec = record {
  head_of = head_of;
  blocks = λ bytes. (seen_in bytes).blocks;
  room = λ bytes. room_of (map top_sectors (seen_in bytes).tops);
  top_number = λ bytes. number_of (map top_vdevs (seen_in bytes).tops);
  next_member = λ bytes. (seen_in bytes).next_guid;
  children = λ bytes. children_of (map top_vdevs (seen_in bytes).tops);
  spares = λ bytes. (seen_in bytes).spares;
  root = λ bytes. sum_in (seen_in bytes).root;
  leaves = λ bytes. kept_from 1 (map top_vdevs (seen_in bytes).tops);
  is_page = is_page;
  pointer = pointer_in;
}
