-- What the lines of a commit answer.
use Rattle.std.specs.Prelude.{ℕ, Result, Ok, Err}
use Rattle.mp_base.specs.declared.number.Group.{Group}
use Rattle.mp_base.specs.declared.number.Guid.{Guid}
use Rattle.txg_engine.specs.declared.seat.Suspended.{Suspended}
use Rattle.pool_moves.specs.LineRows as rows
use Rattle.open_pool.specs.declared.turn.TurnDone.{TurnDone}
use Rattle.open_pool.specs.declared.turn.TurnDone.TheVariants as done

abbrev pub group_at : ℕ → Group
group_at number = record { 0 = number }

abbrev pub suspended_as : (group : ℕ) → (top : Guid) → (faults : ℕ) → Suspended
suspended_as group top faults = record { group = group_at group; top = top; faults = faults }

abbrev pub turn_says : rows.TurnReply → Result TurnDone Suspended
turn_says rows.Idle = Ok done.Idle
turn_says rows.Write = Ok done.Write
turn_says rows.Flush = Ok done.Flush
turn_says (rows.Round number) = Ok (done.Round (group_at number))
turn_says (rows.Committed number) = Ok (done.Committed (group_at number))
turn_says (rows.Suspended group top faults) = Err (suspended_as group top faults)
