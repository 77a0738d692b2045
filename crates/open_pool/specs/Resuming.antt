-- The commit of an opening: how a pool whose record was read is opened, and why it isn't.
use Rattle.std.specs.Prelude.{◌≡◌, ◌⊎◌, ℕ, ◌+◌, ◌≤◌, true, List, [], Option, Some, None, Result, Ok, Err}
use Rattle.bank_core.specs.BankView.{BankView}
use Rattle.bank_core.specs.Calls.{Makes}
use Rattle.vdev_tree.specs.declared.vdev.LeafVdev.{LeafVdev}
use Rattle.pool_codec.specs.Codecs.{pool_codec}
use Rattle.pool_moves.specs.CommitRows.{no_counts}
use Rattle.pool_moves.specs.FreezeRow.{RowEmptyFreeze}
use Rattle.pool_moves.specs.LineRows as rows
use Rattle.pool_moves.specs.Moves.{Move, steps}
use Rattle.pool_moves.specs.OpeningRow.{lacking_of, RowResume}
use Rattle.pool_moves.specs.ReadRow.{made_in}
use Rattle.pool_moves.specs.States.{PoolState}
use Rattle.open_pool.specs.declared.freeze.FreezeFault.{FreezeFault}
use Rattle.open_pool.specs.declared.freeze.FreezeFault.TheVariants as freezes
use Rattle.open_pool.specs.declared.resuming.ResumeFault.{ResumeFault}
use Rattle.open_pool.specs.declared.resuming.ResumeFault.TheVariants as resumes
use Rattle.open_pool.specs.declared.sync.SyncFault.{SyncFault}
use Rattle.open_pool.specs.declared.sync.SyncFault.TheVariants as syncs
use Rattle.open_pool.specs.Committing.{suspended_as, turn_says}
use Rattle.open_pool.specs.Parts.{PoolParts}
use Rattle.open_pool.specs.State.{Stands}

-- the first top without a readable leaf, where there is one
abbrev pub lacking : PoolState → Option ℕ
lacking s = lacking_of s.core.leaves s.core.leaves

-- It answers the pool that stands behind the moves, once the record is acknowledged; else how the commit was suspended.
abbrev pub IsResumedAs : (answer : Result PoolParts ResumeFault) → rows.TurnReply → (now : PoolState) → Type 0
IsResumedAs (Ok pool) reply now = (reply ≡ rows.Committed pool.read) × Stands pool now
IsResumedAs (Err (resumes.Suspended told)) reply now = turn_says reply ≡ Err told
IsResumedAs (Err resumes.Memory) reply now = ⊥

-- So it answers what its row says, with just its calls: the record is committed again under the next number, and a resilver may start behind it.
pub record Recommits (answer : Result PoolParts ResumeFault) (s : PoolState) (old new : BankView) : Type 0 where
  pub moves : List Move
  pub reply : rows.TurnReply
  pub row : RowResume pool_codec old.size s moves reply
  pub answers : IsResumedAs answer reply (steps moves s)
  pub calls : Makes (made_in moves) old new

-- or there was no memory, and no call was made
abbrev pub RecommitsOrStops : (answer : Result PoolParts ResumeFault) → PoolState → (old new : BankView) → Type 0
RecommitsOrStops answer s old new = Recommits answer s old new ⊎ ((answer ≡ Err resumes.Memory) × (new ≡ old))

-- A suspended commit tells at least one failed call, but for one that a top without a readable leaf suspends: that made no call.
abbrev pub TellsBy : ResumeFault → (lacking : Option ℕ) → Type 0
TellsBy (resumes.Suspended told) None = 1 ≤ told.faults
TellsBy (resumes.Suspended told) (Some top) = told.faults ≡ 0
TellsBy resumes.Memory top = Unit {0}

-- A state as it is once a record was acknowledged. The code's open pool says so already while its first group is under way.
abbrev pub as_opened : PoolState → PoolState
as_opened s = record s { core = record (s.core) { opened = true } }

-- The group without keys is frozen, since each top has a readable leaf.
pub record FreezesNone (s : PoolState) (pool : PoolParts) : Type 0 where
  pub served : lacking s ≡ None
  pub moves : List Move
  pub row : RowEmptyFreeze s moves
  pub stands : Stands pool (as_opened (steps moves s))

-- A top lacks one.
pub record IsLacking (s : PoolState) (why : ResumeFault) : Type 0 where
  pub top : ℕ
  pub lacks : lacking s ≡ Some top
  pub why_is : why ≡ resumes.Suspended (suspended_as (s.core.number + 1) (s.own.top_number top) 0)

abbrev pub BeginsAs : (answer : Result PoolParts ResumeFault) → PoolState → Type 0
BeginsAs (Ok pool) s = FreezesNone s pool
BeginsAs (Err why) s = IsLacking s why ⊎ (why ≡ resumes.Memory)

-- why a group without keys isn't frozen, which no want of places and no other group keeps from it
abbrev pub unfrozen_as : FreezeFault → Result ResumeFault FreezeFault
unfrozen_as (freezes.NoBoard group top) = Ok (resumes.Suspended (record { group = group; top = top; faults = 0 }))
unfrozen_as freezes.Memory = Ok resumes.Memory
unfrozen_as why = Err why

-- the end of a group that isn't acknowledged
abbrev pub unended_as : SyncFault → Result ResumeFault SyncFault
unended_as (syncs.Suspended told) = Ok (resumes.Suspended told)
unended_as why = Err why

-- a leaf whose counts begin anew
abbrev pub uncounted : LeafVdev → LeafVdev
uncounted leaf = record leaf { counts = no_counts }
