-- The tops of a configuration, as the history has them: they count from 1.
use Rattle.std.specs.Prelude.{◌≡◌, ℕ, zero, suc, ◌≤◌, ◌^◌, ◌&&◌, Bool, true, List, [], ◌∷◌, ◌++◌, map, slice_index}
use Rattle.mp_base.specs.declared.number.Guid.{Guid}
use Rattle.group_set.specs.Groups.{Groups, holds}
use Rattle.group_set.specs.Ranges.{in_ranges}
use Rattle.group_set.specs.Runs.{between}
use Rattle.vdev_tree.specs.declared.vdev.LeafVdev.{LeafVdev}
use Rattle.vdev_tree.specs.declared.top.Top.{Top}
use Rattle.vdev_tree.specs.Tree.{leaves}
use Rattle.pool_config.specs.Flags.{recorded}
use Rattle.pool_config.specs.Seen.{VdevSeen, LeafSeen, TopSeen, leaves_among}
use Rattle.txg_history.specs.Pages.{LeafKept}
use Rattle.txg_history.specs.Trees.{Child}
use Rattle.pool_codec.specs.Vdevs.{no_guid, nodes, mirror_number, mirror_children}

abbrev pub top_sectors : TopSeen → ℕ
top_sectors top = top.sectors

-- how many data sectors a top has, by those of all; none where there is no such top
abbrev pub room_of : List ℕ → ℕ → ℕ
room_of sectors zero = 0
room_of sectors (suc i) = slice_index sectors i

-- the number of a top's mirror, and its children, by the vdevs of all tops

abbrev pub number_of : List (List VdevSeen) → ℕ → Guid
number_of [] top = no_guid
number_of (vdevs ∷ tops) zero = no_guid
number_of (vdevs ∷ tops) (suc zero) = mirror_number (nodes vdevs)
number_of (vdevs ∷ tops) (suc (suc i)) = number_of tops (suc i)

abbrev pub children_of : List (List VdevSeen) → ℕ → List Child
children_of [] top = []
children_of (vdevs ∷ tops) zero = []
children_of (vdevs ∷ tops) (suc zero) = mirror_children (nodes vdevs)
children_of (vdevs ∷ tops) (suc (suc i)) = children_of tops (suc i)

-- a leaf of this top, as a record has it
abbrev pub kept_under : (top : ℕ) → LeafSeen → LeafKept
kept_under top leaf = record {
  guid = leaf.guid;
  name = leaf.name;
  mode = leaf.state;
  marked = leaf.marked;
  top = top;
  owes = in_ranges leaf.log;
}

-- the leaves of tops that count from this number, in tree order
abbrev pub kept_from : (top : ℕ) → List (List VdevSeen) → List LeafKept
kept_from top [] = []
kept_from top (vdevs ∷ tops) = map (kept_under top) (leaves_among vdevs) ++ kept_from (suc top) tops

-- The same of the leaves in memory.

-- the groups of a log that a record can have
abbrev pub owed_in : Groups → ℕ → Bool
owed_in log g = between 1 (2 ^ 62) g && holds log g

-- a record can have all groups of this log
abbrev pub LiesWithin : Groups → Type 0
LiesWithin log = (g : ℕ) → holds log g ≡ true → (1 ≤ g) × (g ≤ 2 ^ 62)

abbrev pub kept_of : (top : ℕ) → LeafVdev → LeafKept
kept_of top leaf = record {
  guid = leaf.guid;
  name = leaf.name;
  mode = recorded leaf.state leaf.temporary;
  marked = leaf.marked;
  top = top;
  owes = owed_in leaf.log;
}

abbrev pub kept_leaves_from : (top : ℕ) → List Top → List LeafKept
kept_leaves_from top [] = []
kept_leaves_from top (t ∷ tops) = map (kept_of top) (leaves t.mirror) ++ kept_leaves_from (suc top) tops
