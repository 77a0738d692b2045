-- What a sync answers.
use Rattle.std.specs.Prelude.{◌≤◌, Result, Ok, Err}
use Rattle.mp_base.specs.declared.number.Group.{Group}
use Rattle.txg_engine.specs.declared.seat.Suspended.{Suspended}
use Rattle.pool_moves.specs.LineRows as rows
use Rattle.open_pool.specs.declared.freeze.FreezeFault.{FreezeFault}
use Rattle.open_pool.specs.declared.freeze.FreezeFault.TheVariants as freezes
use Rattle.open_pool.specs.declared.sync.SyncFault.{SyncFault}
use Rattle.open_pool.specs.declared.sync.SyncFault.TheVariants as syncs
use Rattle.open_pool.specs.declared.turn.TurnDone.{TurnDone}
use Rattle.open_pool.specs.declared.turn.TurnDone.TheVariants as done
use Rattle.open_pool.specs.Committing.{turn_says}
use Rattle.open_pool.specs.Freezing.{refusal_says}

-- why a sync froze no group
abbrev pub sync_fault : FreezeFault → SyncFault
sync_fault freezes.Memory = syncs.Memory
sync_fault fault = syncs.Unfrozen fault

-- a suspended group tells at least one failed call
abbrev pub TellsOne : SyncFault → Type 0
TellsOne (syncs.Suspended told) = 1 ≤ told.faults
TellsOne fault = Unit {0}

-- What the last turn of a group answers; another turn ends no group.
abbrev pub ended_as : Result TurnDone Suspended → Result Group SyncFault
ended_as (Ok (done.Committed number)) = Ok number
ended_as (Err told) = Err (syncs.Suspended told)
ended_as going = Err syncs.Memory

abbrev pub end_says : rows.TurnReply → Result Group SyncFault
end_says reply = ended_as (turn_says reply)

abbrev pub sync_says : rows.SyncReply → Result Group SyncFault
sync_says (rows.Ended turn) = end_says turn
sync_says (rows.Refused refusal) = Err (syncs.Unfrozen (refusal_says refusal))
sync_says rows.NoMemory = Err syncs.Memory
