-- The bytes of a configuration: its fields one behind the other.
use Rattle.std.specs.Prelude.{ℕ, List, ◌∷◌, ◌++◌, length, Option, Some, None}
use Rattle.std.specs.List.{flat_map}
use Rattle.std.specs.Int.{to_be_bytes, w32, w64}
use Rattle.mp_base.specs.Block.{zeros}
use Rattle.mp_base.specs.declared.range.GroupRange.{GroupRange}
use Rattle.config_codec.specs.declared.config.Pointer.{Pointer}
use Rattle.config_codec.specs.declared.config.LeafConfig.{LeafConfig}
use Rattle.config_codec.specs.Fields.{Fields}
use Rattle.config_codec.specs.Flags.{flags_of}

-- a number as four bytes and as eight, the high one first
unfoldable pub be32 : ℕ → List ℕ
be32 n = to_be_bytes w32 n

unfoldable pub be64 : ℕ → List ℕ
be64 n = to_be_bytes w64 n

-- one byte, its length, and its bytes
unfoldable pub text_bytes : List ℕ → List ℕ
text_bytes text = length text ∷ text

-- birth, top 0, sector and sum; a hole is as many zeros
unfoldable pub pointer_bytes : Option Pointer → List ℕ
pointer_bytes None = zeros 52
pointer_bytes (Some p) = be64 p.birth.0 ++ be32 0 ++ be64 p.sector ++ p.sum

-- low and high
unfoldable pub range_bytes : GroupRange → List ℕ
range_bytes range = be64 range.low.0 ++ be64 range.high.0

-- the number of the ranges, and the ranges
unfoldable pub log_bytes : List GroupRange → List ℕ
log_bytes log = be32 (length log) ++ flat_map range_bytes log

-- a vdev of kind 0
unfoldable pub leaf_bytes : LeafConfig → List ℕ
leaf_bytes leaf =
    0 ∷ be64 leaf.member.0 ++ text_bytes leaf.name ++ flags_of leaf.kept leaf.marked ∷ log_bytes leaf.log

-- version 1, and what there is of the volume
unfoldable pub head_bytes : Fields → List ℕ
head_bytes c =
    be32 1 ++ be64 c.pool.0 ++ text_bytes c.name ++ be64 c.blocks ++ be64 c.number.0 ++ be64 c.next_member

-- one top, with its sectors: a vdev of kind 1, with two children
unfoldable pub tops_bytes : Fields → List ℕ
tops_bytes c =
    be32 1 ++ be64 c.sectors ++ 1 ∷ be64 c.mirror.0 ++ 2 ∷ leaf_bytes c.first ++ leaf_bytes c.second

-- the end says that there are no spares
unfoldable pub config_bytes : Fields → List ℕ
config_bytes c = head_bytes c ++ flat_map pointer_bytes c.pointers ++ tops_bytes c ++ be32 0
