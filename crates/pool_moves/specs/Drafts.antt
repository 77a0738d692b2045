-- The record that a pool draws up, by the leaves of its tree.
use Rattle.std.specs.Prelude.{ℕ, ◌==◌, Bool, true, false, cond, List, [], ◌∷◌}
use Rattle.mp_base.specs.declared.number.Guid.{Guid}
use Rattle.label_store.specs.Rounds.{Commit}
use Rattle.vdev_tree.specs.declared.vdev.State.{State}
use Rattle.vdev_tree.specs.declared.vdev.State.TheVariants.{Online, Degraded, Faulted, Offline}
use Rattle.txg_history.specs.Pages.{LeafKept}
use Rattle.pool_moves.specs.Leaves.{LeafSeen}
use Rattle.pool_moves.specs.Moves.{Draft}

-- the top of the leaf of this number, 0 where there is none
abbrev pub top_in : List LeafSeen → Guid → ℕ
top_in [] m = 0
top_in (leaf ∷ leaves) m = cond (leaf.guid.0 == m.0) leaf.top (top_in leaves m)

-- its log; where there is none it owes every group
abbrev pub owes_in : List LeafSeen → Guid → ℕ → Bool
owes_in [] m g = true
owes_in (leaf ∷ leaves) m g = cond (leaf.guid.0 == m.0) (leaf.owes g) (owes_in leaves m g)

-- the state that a record keeps of a leaf: one that is away for a reason that it doesn't keep is ONLINE
abbrev pub kept_mode : (temporary : Bool) → State → State
kept_mode false Offline = Offline
kept_mode temporary Faulted = Faulted
kept_mode temporary Degraded = Degraded
kept_mode temporary mode = Online

-- a leaf as a record keeps it
abbrev pub kept_leaf : LeafSeen → LeafKept
kept_leaf leaf = record {
  guid = leaf.guid;
  name = leaf.own.name;
  mode = kept_mode leaf.own.temporary leaf.own.mode;
  marked = leaf.own.marked;
  top = leaf.top;
  owes = leaf.owes;
}

abbrev pub draft_of : Commit → List LeafSeen → Draft
draft_of commit leaves = record { commit = commit; tops = top_in leaves; owes = owes_in leaves }
