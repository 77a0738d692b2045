-- The leaves of a pool as the code has them, and where the history has each of them.
use Rattle.std.specs.Prelude.{ℕ, Bool, false, cond, Option, Some, None, List}
use Rattle.mp_base.specs.declared.number.Guid.{Guid}
use Rattle.vdev_tree.specs.declared.vdev.Counts.{Counts}
use Rattle.vdev_tree.specs.declared.vdev.State.{State}
use Rattle.txg_history.specs.Groups.{Logs}
use Rattle.txg_history.specs.Pools.{Pool}

-- What the code knows of a leaf and no event tells: its name, its state, whether it is OFFLINE only until the next opening,
-- whether it is marked to come back, its counts, and, of the frozen group, whether it was on the board at the freeze and how
-- many of its calls failed since.
pub record OwnLeaf : Type 0 where
  pub name : List ℕ
  pub mode : State
  pub temporary : Bool
  pub marked : Bool
  pub counts : Counts
  pub joined : Bool
  pub faults : ℕ

-- A leaf: its member number, its device in this run, if it was found, its top, from 1 on, its log and what of it is
-- settled, and whether it is on the board of a frozen group.
pub record LeafSeen : Type 0 where
  pub guid : Guid
  pub dev : Option ℕ
  pub own : OwnLeaf
  pub top : ℕ
  pub owes : ℕ → Bool
  pub settled : ℕ → Bool
  pub on : Bool

-- Where the history has a leaf: at a device, which this run has found or not; or at none any more, since that device is now
-- another leaf's or another pool's.
pub data Seat : Type 0 where
  At : (d : ℕ) (found : Bool) (own : OwnLeaf) → Seat
  Adrift : (leaf : LeafSeen) → Seat

abbrev pub dev_if : Bool → ℕ → Option ℕ
dev_if found d = cond found (Some d) None

-- What the history tells of devices as leaves.
pub record Told : Type 0 where
  pub guid : ℕ → Guid
  pub top : ℕ → ℕ
  pub owes : Logs
  pub settled : Logs
  pub board : ℕ → Bool

abbrev pub told : Pool → Told
told p = record {
  guid = p.guid;
  top = p.in_top;
  owes = p.owes;
  settled = p.settled;
  board = p.group.board;
}

-- The leaf of a seat, by whether a group is frozen.
abbrev pub leaf_seen : (frozen : Bool) → Told → Seat → LeafSeen
leaf_seen frozen tells (At d found own) = record {
  guid = tells.guid d;
  dev = dev_if found d;
  own = own;
  top = tells.top d;
  owes = tells.owes d;
  settled = tells.settled d;
  on = cond frozen (tells.board d) false;
}
leaf_seen frozen tells (Adrift leaf) = leaf
