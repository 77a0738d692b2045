-- An open pool as its code keeps it, part by part.
use Rattle.std.specs.Prelude.{ℕ, Bool, List, map, Option}
use Rattle.mp_base.specs.declared.number.Guid.{Guid}
use Rattle.block_map.specs.Map.{Map}
use Rattle.vdev_tree.specs.Tree.{leaves}
use Rattle.vdev_tree.specs.declared.top.Top.{Top}
use Rattle.vdev_tree.specs.declared.vdev.LeafVdev.{LeafVdev}
use Rattle.pool_config.specs.Seen.{VdevSeen, mirror_vdevs}
use Rattle.txg_engine.specs.Frozen.{FrozenGroup}
use Rattle.txg_engine.specs.Pins.{PinsSeen}
use Rattle.txg_engine.specs.Writes.{OpenGroup}
use Rattle.open_pool.specs.declared.scan.Scan.{Scan}

-- A top: its data sectors, its vdevs and its leaves, both in tree order.
pub record TopParts : Type 0 where
  pub sectors : ℕ
  pub vdevs : List VdevSeen
  pub leaves : List LeafVdev

abbrev pub top_parts : Top → TopParts
top_parts top = record { sectors = top.sectors; vdevs = mirror_vdevs top; leaves = leaves top.mirror }

abbrev pub all_parts : List Top → List TopParts
all_parts tops = map top_parts tops

-- `next` is the next member number, `highest` the highest number that was drawn, `read` the number of the record that the pool
-- reads, and `opened` whether it has acknowledged one since its opening. `dirty` counts the addresses that the open and the
-- frozen group have together.
pub record PoolParts : Type 0 where
  pub name : List ℕ
  pub pool : Guid
  pub next : ℕ
  pub highest : ℕ
  pub read : ℕ
  pub opened : Bool
  pub map : Map
  pub pins : PinsSeen
  pub tops : List TopParts
  pub spares : List (List ℕ)
  pub unfrozen : OpenGroup
  pub frozen : Option FrozenGroup
  pub scan : Option Scan
  pub dirty : ℕ
