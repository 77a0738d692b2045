-- Leaves: their states, and when one is a copy of another. This file names no inner vdev.
use Rattle.std.specs.Prelude.{◌≡◌, ◌≤◌, Bool, true, false}
use Rattle.group_set.specs.Groups.{Groups, SameGroups, run_count}
use Rattle.vdev_tree.specs.declared.vdev.State.{State}
use Rattle.vdev_tree.specs.declared.vdev.State.TheVariants.{Online, Degraded}
use Rattle.vdev_tree.specs.declared.vdev.LeafVdev.{LeafVdev}

-- a leaf in this state is read and written: it is ONLINE or DEGRADED
abbrev pub is_up : State → Bool
is_up Online = true
is_up Degraded = true
is_up _ = false

abbrev pub is_online : State → Bool
is_online Online = true
is_online _ = false

abbrev pub is_readable : LeafVdev → Bool
is_readable leaf = is_up leaf.state

-- a set is a copy of another: it has the same groups, and no less room
pub record SameSet (new old : Groups) : Type 0 where
  pub groups : SameGroups new old
  pub ranges : run_count new ≡ run_count old
  pub room : old.spare ≤ new.spare

-- a leaf is a copy of another
pub record SameLeaf (new old : LeafVdev) : Type 0 where
  pub guid : new.guid ≡ old.guid
  pub name : new.name ≡ old.name
  pub dev : new.dev ≡ old.dev
  pub state : new.state ≡ old.state
  pub log : SameSet new.log old.log
  pub settled : SameSet new.settled old.settled
  pub marked : new.marked ≡ old.marked
  pub temporary : new.temporary ≡ old.temporary
  pub counts : new.counts ≡ old.counts
