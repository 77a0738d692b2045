-- What a turn of a frozen group leaves: a pool in its form, as the row of what it answers has it.
use Rattle.std.proofs.Common.{◌≡◌, ℕ, List, [], Ok, Err}
use Rattle.std.specs.Prelude.{All, Result}
use Rattle.bank_core.specs.BankView.{BankView}
use Rattle.block_map.specs.Map.{Map}
use Rattle.vdev_tree.specs.declared.top.Top.{Top}
use Rattle.dtl_rules.specs.Widening.{leaves_of, marks_of, sectors_of}
use Rattle.txg_engine.specs.declared.seat.Suspended.{Suspended}
use Rattle.txg_engine.specs.Ending.{IsAdopted}
use Rattle.txg_engine.specs.Frozen.{AreSeated, FrozenGroup, IsGroup}
use Rattle.txg_engine.specs.Logs.{IsReady}
use Rattle.txg_engine.specs.Pins.{PinsSeen}
use Rattle.txg_engine.specs.Turns.{KeepsKeys}
use Rattle.txg_engine.specs.Writes.{OpenGroup, RiseFrom}
use Rattle.pool_codec.specs.Codecs.{pool_codec}
use Rattle.pool_moves.specs.LineRows.{RowTurn}
use Rattle.pool_moves.specs.States.{Sums}
use Rattle.open_pool.specs.declared.turn.TurnDone.{TurnDone}
use Rattle.open_pool.specs.declared.turn.TurnDone.TheVariants as done
use Rattle.open_pool.specs.Answering.{Does}
use Rattle.open_pool.specs.Committing.{turn_says}
use Rattle.open_pool.specs.Form.{IsPool}
use Rattle.open_pool.specs.Parts.{PoolParts}
use Rattle.open_pool.specs.State.{ArePinned, state_of}
use Rattle.open_pool.specs.Turning.{is_committed_turn}
use Rattle.open_pool.proofs.PlacesEnd.{acknowledged, burned_pool}
use Rattle.open_pool.proofs.TurnAnswers.{IsBurned}
use Rattle.open_pool.proofs.TurnSteps.{going}

-- Before a turn: the pool has its form, and the devices of its board are here.
pub record MayTurn (size : ℕ → ℕ) (b : PoolParts) (was : FrozenGroup) (old : List Top) : Type 0 where
  pub pool : IsPool (going b was old)
  pub kept : IsGroup was
  pub rise : RiseFrom 0 b.unfrozen.writes
  pub seated : AreSeated size (sectors_of old) was

-- Behind it, besides its calls: the keys are the same, each leaf has its room, and the trees are built as they were.
pub record HasTurned (was is : FrozenGroup) (old new : List Top) (result : Result TurnDone Suspended) : Type 0 where
  pub ready : All (IsReady is.board is.numbers.last.0) (leaves_of new)
  pub keys : KeepsKeys was is
  pub acked : is.acked ≡ is_committed_turn result
  pub built : marks_of new ≡ marks_of old
  pub sectors : sectors_of new ≡ sectors_of old

-- The pool is left in its form, and the turn answers what its row says.
abbrev pub Leaves : (size : ℕ → ℕ) (held : List Sums) (p q : PoolParts) (from to : BankView) → Result TurnDone Suspended → Type 0
Leaves size held p q from to result =
    IsPool q × (ArePinned held p → Does (RowTurn pool_codec size (state_of held p)) turn_says result (state_of held p) q from to)

-- So it is by what a turn answers: once the map is that of an acknowledged record, once a suspended group was burned, and at once
-- where the group goes on.
abbrev pub TurnLeaves : (size : ℕ → ℕ) (b : PoolParts) (was is : FrozenGroup) (old new : List Top) (from to : BankView)
    → Result TurnDone Suspended → Type 0
TurnLeaves size b was is old new from to (Ok (done.Committed number)) =
    (held : List Sums) (m : Map) (pins : PinsSeen) → IsAdopted is.items b.pins.places b.map m → pins.places ≡ []
    → (number ≡ is.numbers.last) × Leaves size held (going b was old) (acknowledged b is m pins new) from to (Ok (done.Committed number))
TurnLeaves size b was is old new from to (Err told) =
    (held : List Sums) (cut : List Top) (m : Map) (pins : PinsSeen) (writes : OpenGroup) → IsGroup is → IsBurned b is new cut m pins writes
    → Leaves size held (going b was old) (burned_pool b is m pins writes cut) from to (Err told)
TurnLeaves size b was is old new from to result =
    (held : List Sums) → Leaves size held (going b was old) (going b is new) from to result
