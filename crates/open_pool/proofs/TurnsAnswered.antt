-- Each turn of a frozen group leaves the pool in its form, and answers what its row says.
use Rattle.std.proofs.Common.{◌≡◌, ℕ, Bool, true, false, List, Option, Some, None, Ok, Err, refl, ap, ◌∙◌, subst}
use Rattle.std.specs.Prelude.{Result}
use Rattle.std.specs.Result.{IsErrAnd}
use Rattle.mp_base.specs.declared.number.Guid.{Guid}
use Rattle.bank_core.specs.BankView.{BankView}
use Rattle.vdev_tree.specs.declared.top.Top.{Top}
use Rattle.dtl_rules.specs.Widening.{leaves_of}
use Rattle.pool_codec.specs.Codecs.{pool_codec}
use Rattle.txg_engine.specs.declared.close_turn.Closed.{Closed}
use Rattle.txg_engine.specs.declared.seat.Suspended.{Suspended}
use Rattle.txg_engine.specs.Frozen.{FrozenGroup, is_written_out}
use Rattle.txg_engine.specs.Turns.{Scene, IsCloseTurnBy, IsTold, emptied_top, numbers_of}
use Rattle.open_pool.specs.declared.turn.TurnDone.{TurnDone}
use Rattle.open_pool.specs.Parts.{PoolParts}
use Rattle.open_pool.specs.Turning.{ClosesRound, IsDue, IsDueBy, closed_as}
use Rattle.open_pool.proofs.DraftFits.{drawn_of}
use Rattle.open_pool.proofs.PartsTurned.{flushes_board, writes_key}
use Rattle.open_pool.proofs.RoundsTurned.{round_made}
use Rattle.open_pool.proofs.TurnLeft.{HasTurned, MayTurn, TurnLeaves}
use Rattle.open_pool.proofs.TurnSuspended.{same_numbers, suspended_before}

module _ (b : PoolParts) (was is : FrozenGroup) (old new : List Top) (from to : BankView) (result : Result TurnDone Suspended)
    (may : MayTurn from.size b was old) (turned : HasTurned was is old new result) where
  abbrev before : Scene
  before = record { group = was; leaves = leaves_of old; bank = from }

  abbrev after : Scene
  after = record { group = is; leaves = leaves_of new; bank = to }

  closes_round : was.flushed ≡ true → ClosesRound (drawn_of b was old) (numbers_of new) before after result
      → TurnLeaves from.size b was is old new from to result
  closes_round flushed round = by (emptied_top (numbers_of new) was) refl round.turn
    where
      told : (top : ℕ) (outcome : Result Closed Suspended) → round.outcome ≡ outcome → after ≡ before → emptied_top (numbers_of new) was ≡ Some top
          → IsErrAnd outcome (IsTold (numbers_of new) was.numbers.first was.board top) → TurnLeaves from.size b was is old new from to result
      told top (Ok closed) ends same empty tells = absurd tells
      told top (Err why) ends same empty tells = suspended_before from.size b was is old new from to result top why may turned same empty tells
          (round.says ∙ ap closed_as ends)

      by : (o : Option ℕ) → emptied_top (numbers_of new) was ≡ o → IsCloseTurnBy o pool_codec.head_of round.commit (numbers_of new) before after round.outcome
          → TurnLeaves from.size b was is old new from to result
      by (Some top) empty turn = told top round.outcome refl turn.0 empty turn.1
      by None none made =
          let numbers = same_numbers old new turned.built in
          round_made b was is old new from to result round.commit round.outcome may turned flushed
          (subst (λ (l : List Guid). emptied_top l was ≡ None) numbers none) numbers round.draws made round.says

  -- The turn that was due.
  pub turn_leaves : IsDue (drawn_of b was old) (numbers_of new) before after result → TurnLeaves from.size b was is old new from to result
  turn_leaves due = by (is_written_out was) was.flushed refl refl due
    where
      by : (out flushed : Bool) → is_written_out was ≡ out → was.flushed ≡ flushed
          → IsDueBy out flushed (drawn_of b was old) (numbers_of new) before after result → TurnLeaves from.size b was is old new from to result
      by false flushed out is_flushed turn = writes_key from.size b was is old new from to result may turned out turn
      by true false out unflushed turn = flushes_board from.size b was is old new from to result may turned out unflushed turn
      by true true out is_flushed turn = closes_round is_flushed turn
