-- When leaves, trees, tops and configurations are the same in a record, whatever else they hold in memory.
use Rattle.std.specs.Prelude.{◌≡◌, ℕ, ◌^◌, ◌≤◌}
use Rattle.std.specs.List.{AllZip}
use Rattle.group_set.specs.Groups.{holds}
use Rattle.vdev_tree.specs.declared.vdev.LeafVdev.{LeafVdev}
use Rattle.vdev_tree.specs.declared.vdev.Vdev.{Vdev}
use Rattle.vdev_tree.specs.declared.top.Top.{Top}
use Rattle.vdev_tree.specs.Tree.{leaves, marks}
use Rattle.pool_config.specs.declared.config.Config.{Config}
use Rattle.pool_config.specs.Flags.{recorded}
use Rattle.pool_config.specs.Seen.{config_seen}
use Rattle.pool_config.specs.Spelling.{config_bytes}

-- A log may have the groups from 1 to 2^62.
pub record LeavesAlike (a b : LeafVdev) : Type 0 where
  pub guid : a.guid ≡ b.guid
  pub name : a.name ≡ b.name
  pub state : recorded a.state a.temporary ≡ recorded b.state b.temporary
  pub marked : a.marked ≡ b.marked
  pub log : (g : ℕ) → 1 ≤ g → g ≤ 2 ^ 62 → holds a.log g ≡ holds b.log g

-- two trees are built alike, and each leaf of one is like the leaf at its place in the other
pub record TreesAlike (a b : Vdev) : Type 0 where
  pub built : marks a ≡ marks b
  pub leaves : AllZip LeavesAlike (leaves a) (leaves b)

pub record TopsAlike (a b : Top) : Type 0 where
  pub sectors : a.sectors ≡ b.sectors
  pub tree : TreesAlike a.mirror b.mirror

pub record ConfigsAlike (a b : Config) : Type 0 where
  pub pool : a.pool ≡ b.pool
  pub name : a.name ≡ b.name
  pub blocks : a.blocks ≡ b.blocks
  pub number : a.number ≡ b.number
  pub next_guid : a.next_guid ≡ b.next_guid
  pub root : a.root ≡ b.root
  pub tops : AllZip TopsAlike a.tops.items b.tops.items
  pub spares : a.spares.items ≡ b.spares.items

-- two configurations have the same bytes
abbrev pub SpelledAlike : Config → Config → Type 0
SpelledAlike a b = config_bytes (config_seen a) ≡ config_bytes (config_seen b)
