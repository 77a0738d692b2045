-- The bytes of a configuration: its fields one behind the other.
use Rattle.std.specs.Prelude.{ℕ, ◌-◌, List, [], ◌∷◌, ◌++◌, length, drop}
use Rattle.std.specs.List.{flat_map}
use Rattle.std.specs.Int.{next_multiple_of, to_be_bytes, w32, w64}
use Rattle.mp_base.specs.Block.{zeros}
use Rattle.mp_base.specs.declared.place.Pointer.{Pointer}
use Rattle.mp_base.specs.declared.range.GroupRange.{GroupRange}
use Rattle.vdev_tree.specs.declared.vdev.Kind.{Kind}
use Rattle.vdev_tree.specs.declared.vdev.Kind.TheVariants.{Mirror, Replacing, Spare}
use Rattle.pool_config.specs.Flags.{flags_of}
use Rattle.pool_config.specs.Seen.{LeafSeen, VdevSeen, leaf_vdev, inner_vdev, TopSeen, ConfigSeen}

-- a number as four bytes and as eight, the high one first
unfoldable pub be32 : ℕ → List ℕ
be32 n = to_be_bytes w32 n

unfoldable pub be64 : ℕ → List ℕ
be64 n = to_be_bytes w64 n

-- one byte, its length, and its bytes
unfoldable pub text_bytes : List ℕ → List ℕ
text_bytes text = length text ∷ text

-- birth, top, sector and sum; a hole is zeros
unfoldable pub pointer_bytes : Pointer → List ℕ
pointer_bytes p = be64 p.birth.0 ++ be32 p.place.top ++ be64 p.place.sector ++ p.sum

-- low and high
unfoldable pub range_bytes : GroupRange → List ℕ
range_bytes range = be64 range.low.0 ++ be64 range.high.0

-- the number of the ranges, and the ranges
unfoldable pub log_bytes : List GroupRange → List ℕ
log_bytes log = be32 (length log) ++ flat_map range_bytes log

-- member number, device name, flags and log, behind a kind
unfoldable pub leaf_bytes : LeafSeen → List ℕ
leaf_bytes leaf = 0 ∷ be64 leaf.guid.0 ++ text_bytes leaf.name ++ flags_of leaf.state leaf.marked ∷ log_bytes leaf.log

abbrev pub kind_byte : Kind → ℕ
kind_byte Mirror = 1
kind_byte Replacing = 2
kind_byte Spare = 3

-- an inner vdev's number and how many children it has, behind its kind
unfoldable pub inner_bytes : (guid : ℕ) → Kind → (count : ℕ) → List ℕ
inner_bytes guid kind count = kind_byte kind ∷ be64 guid ++ count ∷ []

-- a vdev without its children, which follow
abbrev pub vdev_bytes : VdevSeen → List ℕ
vdev_bytes (leaf_vdev leaf) = leaf_bytes leaf
vdev_bytes (inner_vdev guid kind count) = inner_bytes guid.0 kind count

-- the sectors, and the tree
unfoldable pub top_bytes : TopSeen → List ℕ
top_bytes top = be64 top.sectors ++ flat_map vdev_bytes top.vdevs

-- version 1, and what there is of the volume
unfoldable pub head_bytes : (pool : ℕ) → (name : List ℕ) → (blocks number next_guid : ℕ) → Pointer → List ℕ
head_bytes pool name blocks number next_guid root =
    be32 1 ++ be64 pool ++ text_bytes name ++ be64 blocks ++ be64 number ++ be64 next_guid ++ pointer_bytes root

unfoldable pub tops_bytes : List TopSeen → List ℕ
tops_bytes tops = be32 (length tops) ++ flat_map top_bytes tops

unfoldable pub spares_bytes : List (List ℕ) → List ℕ
spares_bytes spares = be32 (length spares) ++ flat_map text_bytes spares

unfoldable pub config_bytes : ConfigSeen → List ℕ
config_bytes c =
    head_bytes c.pool.0 c.name c.blocks c.number.0 c.next_guid c.root ++ tops_bytes c.tops ++ spares_bytes c.spares

-- how many bytes the sectors of so many bytes have
abbrev pub whole_sectors : ℕ → ℕ
whole_sectors n = next_multiple_of n 4096

-- bytes at the front of a buffer, zeros to the end of their last sector, and the rest as it was
unfoldable pub laid : List ℕ → (buffer : List ℕ) → List ℕ
laid bytes buffer =
    bytes ++ zeros (whole_sectors (length bytes) - length bytes) ++ drop (whole_sectors (length bytes)) buffer
