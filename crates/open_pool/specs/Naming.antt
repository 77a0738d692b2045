-- The leaf that a line names.
use Rattle.std.specs.Prelude.{◌≡◌, ℕ, suc, List, Some, slice_get, Contains}
use Rattle.vdev_tree.specs.Tree.{leaves}
use Rattle.vdev_tree.specs.declared.top.Top.{Top}
use Rattle.vdev_tree.specs.declared.vdev.LeafVdev.{LeafVdev}
use Rattle.txg_engine.specs.declared.seat.Seat.{Seat}
use Rattle.pool_moves.specs.AwayRows.{leaf_named}
use Rattle.open_pool.specs.declared.named.Found.{Found}
use Rattle.open_pool.specs.Parts.{all_parts}
use Rattle.open_pool.specs.State.{leaf_of, leaves_from, leaves_under}

-- It is the leaf of this name, the first in tree order, whatever the board is.
pub record IsFound (name : List ℕ) (tops : List Top) (found : Found) : Type 0 where
  pub under : Top
  pub at : slice_get tops found.top ≡ Some under
  pub leaf : LeafVdev
  pub among : Contains (leaves under.mirror) leaf
  pub guid_is : leaf.guid ≡ found.guid
  pub dev_is : leaf.dev ≡ found.dev
  pub state_is : leaf.state ≡ found.state
  pub named : (seats : List Seat) → leaf_named name (leaves_from seats 1 (leaves_under (all_parts tops))) ≡ Some (leaf_of seats (suc found.top) leaf)
