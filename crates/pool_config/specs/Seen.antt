-- What a configuration says, apart from where it lies in memory: its trees are their vdevs in tree order, and each
-- leaf is as a record keeps it.
use Rattle.std.specs.Prelude.{◌≡◌, ℕ, ◌+◌, ◌*◌, ◌^◌, Bool, false, nat_le, List, [], ◌∷◌, map, length, None}
use Rattle.std.specs.List.{flat_map}
use Rattle.mp_base.specs.declared.number.Group.{Group}
use Rattle.mp_base.specs.declared.number.Guid.{Guid}
use Rattle.mp_base.specs.declared.place.Pointer.{Pointer}
use Rattle.mp_base.specs.declared.range.GroupRange.{GroupRange}
use Rattle.group_set.specs.Groups.{Groups, holds}
use Rattle.group_set.specs.Ranges.{ranges_upto}
use Rattle.vdev_tree.specs.declared.vdev.State.{State}
use Rattle.vdev_tree.specs.declared.vdev.Kind.{Kind}
use Rattle.vdev_tree.specs.declared.vdev.LeafVdev.{LeafVdev}
use Rattle.vdev_tree.specs.declared.vdev.Vdev.{Vdev}
use Rattle.vdev_tree.specs.declared.vdev.Vdev.TheOpen.{Vdev-F, InnerVdev-F, Leaf, Inner}
use Rattle.vdev_tree.specs.declared.vdev.Vdev.TheFolds.{fold-Vdev}
use Rattle.vdev_tree.specs.declared.top.Top.{Top}
use Rattle.vdev_tree.specs.Tree.{joined, leaves}
use Rattle.pool_config.specs.declared.config.Config.{Config}
use Rattle.pool_config.specs.Flags.{recorded}

-- a leaf as a record keeps it
pub record LeafSeen : Type 0 where
  pub guid : Guid
  pub name : List ℕ
  pub state : State
  pub marked : Bool
  pub log : List GroupRange

-- one vdev of a tree that is written out; an inner one with how many children it has
pub data VdevSeen : Type 0 where
  leaf_vdev : LeafSeen → VdevSeen
  inner_vdev : Guid → Kind → ℕ → VdevSeen

pub record TopSeen : Type 0 where
  pub sectors : ℕ
  pub vdevs : List VdevSeen

pub record ConfigSeen : Type 0 where
  pub pool : Guid
  pub name : List ℕ
  pub blocks : ℕ
  pub number : Group
  pub next_guid : ℕ
  pub root : Pointer
  pub tops : List TopSeen
  pub spares : List (List ℕ)

-- the groups of a set as ranges in rising order
unfoldable pub ranges_of : Groups → List GroupRange
ranges_of set = ranges_upto (holds set) (2 ^ 62)

abbrev pub leaf_seen : LeafVdev → LeafSeen
leaf_seen leaf = record {
  guid = leaf.guid;
  name = leaf.name;
  state = recorded leaf.state leaf.temporary;
  marked = leaf.marked;
  log = ranges_of leaf.log;
}

abbrev pub vdevs_at_vdev : Vdev-F (List VdevSeen) (List VdevSeen) → List VdevSeen
vdevs_at_vdev (Leaf leaf) = leaf_vdev (leaf_seen leaf) ∷ []
vdevs_at_vdev (Inner vdevs) = vdevs

abbrev pub vdevs_at_inner : InnerVdev-F (List VdevSeen) (List VdevSeen) → List VdevSeen
vdevs_at_inner inner = inner_vdev inner.guid inner.kind (length inner.children.items) ∷ joined inner.children.items

-- the vdevs of a tree in tree order: depth first, an inner one before its children, first child first
unfoldable pub vdevs_of : Vdev → List VdevSeen
vdevs_of = fold-Vdev (List VdevSeen) (List VdevSeen) vdevs_at_vdev vdevs_at_inner

abbrev pub top_seen : Top → TopSeen
top_seen top = record { sectors = top.sectors; vdevs = vdevs_of top.mirror }

abbrev pub parts_seen : Guid → (name : List ℕ) → (blocks : ℕ) → (number : Group) → (next_guid : ℕ) → Pointer → List Top
    → (spares : List (List ℕ)) → ConfigSeen
parts_seen pool name blocks number next_guid root tops spares = record {
  pool = pool;
  name = name;
  blocks = blocks;
  number = number;
  next_guid = next_guid;
  root = root;
  tops = map top_seen tops;
  spares = spares;
}

abbrev pub config_seen : Config → ConfigSeen
config_seen c = parts_seen c.pool c.name c.blocks c.number c.next_guid c.root c.tops.items c.spares.items

-- Parts of what is seen.

abbrev pub leaf_alone : VdevSeen → List LeafSeen
leaf_alone (leaf_vdev leaf) = leaf ∷ []
leaf_alone (inner_vdev guid kind count) = []

abbrev pub number_of_vdev : VdevSeen → ℕ
number_of_vdev (leaf_vdev leaf) = leaf.guid.0
number_of_vdev (inner_vdev guid kind count) = guid.0

abbrev pub top_vdevs : TopSeen → List VdevSeen
top_vdevs top = top.vdevs

-- the vdevs of all tops, in their order
abbrev pub all_vdevs : ConfigSeen → List VdevSeen
all_vdevs c = flat_map top_vdevs c.tops

-- the leaves among these vdevs
unfoldable pub leaves_among : List VdevSeen → List LeafSeen
leaves_among vdevs = flat_map leaf_alone vdevs

abbrev pub leaf_name : LeafSeen → List ℕ
leaf_name leaf = leaf.name

-- A leaf in the form that a record keeps: its state is one that is recorded, it is in no use yet, and nothing was
-- counted or settled.
pub record IsRecorded (leaf : LeafVdev) : Type 0 where
  pub state : recorded leaf.state false ≡ leaf.state
  pub temporary : leaf.temporary ≡ false
  pub dev : leaf.dev ≡ None
  pub settled : (g : ℕ) → holds leaf.settled g ≡ false
  pub reads : leaf.counts.reads ≡ 0
  pub writes : leaf.counts.writes ≡ 0
  pub mismatches : leaf.counts.mismatches ≡ 0

abbrev pub top_leaves : Top → List LeafVdev
top_leaves top = leaves top.mirror

-- the vdevs of all these tops
abbrev pub mirror_vdevs : Top → List VdevSeen
mirror_vdevs top = vdevs_of top.mirror

-- How many bytes are put of these vdevs at most: of a leaf 79 and 16 for each range, of another vdev 10.
unfoldable pub room : List VdevSeen → ℕ
room [] = 0
room (leaf_vdev leaf ∷ vdevs) = 79 + 16 * length leaf.log + room vdevs
room (inner_vdev guid kind count ∷ vdevs) = 10 + room vdevs

-- what a vdev has is counted in the bytes that there are for it
abbrev pub fits : VdevSeen → Bool
fits (leaf_vdev leaf) = nat_le (length leaf.log) 4096
fits (inner_vdev guid kind count) = nat_le count 255
