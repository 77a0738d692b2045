-- Leaves that are taken offline.
use Rattle.std.specs.Prelude.{◌≡◌, ◌==◌, Bool, true, List, map, Contains, Result, Ok, Err}
use Rattle.mp_base.specs.declared.number.Guid.{Guid}
use Rattle.vdev_tree.specs.declared.vdev.LeafVdev.{LeafVdev}
use Rattle.txg_engine.specs.declared.seat.Seat.{Seat}
use Rattle.txg_engine.specs.Boards.{on_board}
use Rattle.pool_moves.specs.AwayRows as rows
use Rattle.pool_moves.specs.AwayRows.{LeaveIf, gone}
use Rattle.pool_moves.specs.Leaves.{OwnLeaf}
use Rattle.pool_moves.specs.Moves.{Move, steps}
use Rattle.pool_moves.specs.States.{PoolState}
use Rattle.open_pool.specs.declared.offline.OfflineFault.{OfflineFault}
use Rattle.open_pool.specs.declared.offline.OfflineFault.TheVariants as fault
use Rattle.open_pool.specs.Form.{all_leaves}
use Rattle.open_pool.specs.Parts.{TopParts, PoolParts}
use Rattle.open_pool.specs.State.{Stands, own_of, seats_in}

abbrev pub offline_says : rows.OfflineReply → Result (Unit {0}) OfflineFault
offline_says rows.Gone = Ok tt
offline_says rows.NoVdev = Err fault.NoVdev
offline_says (rows.Misplaced rule) = Err (fault.Misplaced rule)
offline_says (rows.Required group) = Err (fault.Required (record { 0 = group }))

-- A leaf is the one that it was, whatever its logs: its number, its device and what no event tells of it.
pub record IsStillIt (was is : List Seat) (old new : LeafVdev) : Type 0 where
  pub guid : new.guid ≡ old.guid
  pub dev : new.dev ≡ old.dev
  pub own : own_of is new ≡ own_of was old

-- the numbers of the leaves under each top
abbrev pub numbers_under : List TopParts → List (List Guid)
numbers_under tops = map (λ top. map (λ leaf. leaf.guid) top.leaves) tops

-- The leaf of this number leaves the board, where it is on it: by the row's moves.
pub record LeavesBoard (at : Guid) (old : PoolParts) (s : PoolState) (new : PoolParts) : Type 0 where
  pub leaving : List Move
  pub are : (leaf : LeafVdev) → Contains (all_leaves old) leaf → leaf.guid ≡ at
      → LeaveIf (on_board (seats_in old.frozen) at) leaf.dev s.core leaving
  pub stands : Stands new (steps leaving s)

-- each leaf of this number has this as what no event tells of it, once it is OFFLINE
abbrev pub IsNamedOwn : List Seat → Guid → (temporary : Bool) → OwnLeaf → LeafVdev → Type 0
IsNamedOwn seats m temporary own leaf = (leaf.guid.0 == m.0) ≡ true → own ≡ gone temporary (own_of seats leaf)
