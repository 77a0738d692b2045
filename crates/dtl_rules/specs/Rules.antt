-- The rules on dirty time logs, flat over the leaves under a vdev.
use Rattle.std.specs.Prelude.{◌≡◌, ℕ, ◌<◌, ◌≤◌, ◌^◌, ◌==◌, max, Bool, true, false, ◌||◌, not, cond, List, [], ◌∷◌}
use Rattle.std.specs.List.{list_any, list_all}
use Rattle.mp_base.specs.declared.number.Guid.{Guid}
use Rattle.group_set.specs.Groups.{holds}
use Rattle.vdev_tree.specs.Leaf.{is_readable}
use Rattle.vdev_tree.specs.Tree.{leaves, joined}
use Rattle.vdev_tree.specs.declared.vdev.Vdev.{Vdev}
use Rattle.vdev_tree.specs.declared.vdev.LeafVdev.{LeafVdev}
use Rattle.vdev_tree.specs.declared.vdev.Vdev.TheVariants.{Leaf}
use Rattle.vdev_tree.specs.declared.top.Top.{Top}
use Rattle.vdev_tree.specs.declared.vdev.Vdev.TheOpen as F
use Rattle.vdev_tree.specs.declared.vdev.Vdev.TheOpen.{Vdev-F, InnerVdev-F}
use Rattle.vdev_tree.specs.declared.vdev.Vdev.TheFolds.{fold-Vdev}

-- a leaf owes the groups of its log
abbrev pub owes : LeafVdev → ℕ → Bool
owes leaf g = holds leaf.log g

-- a group can't be read from a leaf: it isn't readable, or owes the group
abbrev pub is_out : LeafVdev → ℕ → Bool
is_out leaf g = not (is_readable leaf) || owes leaf g

-- the outage of some leaves: the groups that can be read from none of them
abbrev pub outage_of : List LeafVdev → ℕ → Bool
outage_of some g = list_all (λ leaf. is_out leaf g) some

-- OUTAGE of a vdev: the groups that lie in the outage of every leaf under it
abbrev pub outage : Vdev → ℕ → Bool
outage vdev g = outage_of (leaves vdev) g

-- PARTIAL of a vdev: the groups that some leaf under it owes
abbrev pub partial_log : Vdev → ℕ → Bool
partial_log vdev g = list_any (λ leaf. owes leaf g) (leaves vdev)

-- MISSING of a leaf: the groups that it owes. MISSING of an inner vdev: its outage
abbrev pub missing_log : Vdev → ℕ → Bool
missing_log (Leaf leaf) g = owes leaf g
missing_log vdev g = outage vdev g

abbrev pub others_of_vdev : ℕ → Vdev-F (List LeafVdev) (List LeafVdev) → List LeafVdev
others_of_vdev at (F.Leaf leaf) = cond (leaf.guid.0 == at) [] (leaf ∷ [])
others_of_vdev at (F.Inner others) = others

abbrev pub others_of_inner : ℕ → InnerVdev-F (List LeafVdev) (List LeafVdev) → List LeafVdev
others_of_inner at inner = cond (inner.guid.0 == at) [] (joined inner.children.items)

-- the leaves under a vdev that are not under the vdev with this number
unfoldable pub others : ℕ → Vdev → List LeafVdev
others at = fold-Vdev (List LeafVdev) (List LeafVdev) (others_of_vdev at) (others_of_inner at)

-- the leaves of a top that would be left without the vdev of this number. Under the root, which has the
-- number 0, is each of them
abbrev pub rest_of : Top → Guid → List LeafVdev
rest_of top at = cond (at.0 == 0) [] (others at.0 top.mirror)

-- the group is the least of those from 1 on that can be read from none of the leaves
pub record LeastOut (some : List LeafVdev) (group : ℕ) : Type 0 where
  pub first : 1 ≤ group
  pub out : outage_of some group ≡ true
  pub least : (g : ℕ) → 1 ≤ g → g < group → outage_of some g ≡ false

-- some group, from 1 on, can be read from none of the leaves
abbrev pub SomeOut : List LeafVdev → Type 0
SomeOut some = (group : ℕ) × (1 ≤ group) × (outage_of some group ≡ true)

-- the outage rule: a vdev is required where, without it, some group could be read from no leaf of its top
abbrev pub IsRequired : Top → Guid → Type 0
IsRequired top at = SomeOut (rest_of top at)

-- and it is needed for this group first
abbrev pub LeastNeeded : Top → Guid → ℕ → Type 0
LeastNeeded top at group = LeastOut (rest_of top at) group

-- from one group on none before another is out for all the leaves. Where the two are one, that is
pub record PassedTo (some : List LeafVdev) (from group : ℕ) : Type 0 where
  pub late : from ≤ group
  pub passed : (g : ℕ) → from ≤ g → g < group → outage_of some g ≡ false
  pub stays : group ≡ from → outage_of some from ≡ true
  pub last : group ≤ max from (2 ^ 62)
