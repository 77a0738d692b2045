-- The answers of the code's host, as replies.
use Rattle.std.specs.Prelude.{◌≡◌, ◌⊎◌, ℕ, List, [], ◌∷◌, map, Result, Ok, Err}
use Rattle.mp_base.specs.declared.number.Group.{Group}
use Rattle.mp_base.specs.declared.refusal.Seen.{Seen}
use Rattle.mp_base.specs.declared.refusal.Seen.TheVariants as seen
use Rattle.host_core.specs.declared.host.Refused.{Refused}
use Rattle.host_core.specs.declared.host.Refused.TheVariants as host
use Rattle.mirror_io.specs.declared.copies.CopySeen.{CopySeen}
use Rattle.mirror_io.specs.declared.copies.CopySeen.TheVariants as copies
use Rattle.open_pool.specs.declared.freeze.FreezeFault.{FreezeFault}
use Rattle.open_pool.specs.declared.freeze.FreezeFault.TheVariants as freezes
use Rattle.open_pool.specs.declared.logs.LeafLog.{LeafLog as PoolLog}
use Rattle.open_pool.specs.declared.offline.OfflineFault.{OfflineFault}
use Rattle.open_pool.specs.declared.offline.OfflineFault.TheVariants as offlines
use Rattle.open_pool.specs.declared.read.ReadFault.{ReadFault}
use Rattle.open_pool.specs.declared.read.ReadFault.TheVariants as reads
use Rattle.open_pool.specs.declared.sync.SyncFault.{SyncFault}
use Rattle.open_pool.specs.declared.sync.SyncFault.TheVariants as syncs
use Rattle.open_pool.specs.declared.turn.TurnDone.{TurnDone}
use Rattle.open_pool.specs.declared.turn.TurnDone.TheVariants as turned
use Rattle.open_pool.specs.declared.write.WriteFault.{WriteFault}
use Rattle.open_pool.specs.declared.write.WriteFault.TheVariants as writes
use Rattle.pool_lines.specs.declared.leaves.LeafLog.{LeafLog}
use Rattle.pool_lines.specs.declared.leaves.NamedLeaf.{NamedLeaf}
use Rattle.pool_lines.specs.declared.refusal.Refusal.{Refusal}
use Rattle.pool_lines.specs.declared.refusal.Refusal.TheVariants as refusals
use Rattle.pool_lines.specs.declared.reply.Reply.{Reply}
use Rattle.pool_lines.specs.declared.reply.Reply.TheVariants as replies
use Rattle.pool_lines.specs.declared.reply.Turned.{Turned}
use Rattle.pool_lines.specs.declared.reply.Turned.TheVariants as turns
use Rattle.txg_engine.specs.declared.seat.Suspended.{Suspended}
use Rattle.script_front.specs.Telling.{refused}

abbrev pub write_refusal : WriteFault → Refusal
write_refusal (writes.BadAddress limit) = refusals.BadAddress limit
write_refusal writes.Full = refusals.GroupFull
write_refusal (writes.NoSpace need free) = refusals.NoSpace need free
write_refusal writes.Memory = refusals.Memory

abbrev pub write_reply : Result (Unit {0}) (Refused WriteFault) → Reply
write_reply (Ok done) = replies.Done
write_reply (Err host.NoPool) = refused refusals.NoPool
write_reply (Err (host.Pool fault)) = refused (write_refusal fault)

abbrev pub freeze_refusal : FreezeFault → Refusal
freeze_refusal (freezes.InFlight group) = refusals.GroupInFlight group
freeze_refusal (freezes.NoNumber limit count) = refusals.TreeFull limit count
freeze_refusal (freezes.NoBoard group top) = refusals.Suspended group top 0
freeze_refusal (freezes.NoSpace need free) = refusals.NoSpace need free
freeze_refusal freezes.Memory = refusals.Memory

abbrev pub freeze_reply : Result Group (Refused FreezeFault) → Reply
freeze_reply (Ok group) = replies.Numbered group
freeze_reply (Err host.NoPool) = refused refusals.NoPool
freeze_reply (Err (host.Pool fault)) = refused (freeze_refusal fault)

abbrev pub suspended : Suspended → Refusal
suspended told = refusals.Suspended told.group told.top told.faults

abbrev pub turned_as : TurnDone → Turned
turned_as turned.Idle = turns.Idle
turned_as turned.Write = turns.Write
turned_as turned.Flush = turns.Flush
turned_as (turned.Round group) = turns.Round group
turned_as (turned.Committed group) = turns.Committed group

abbrev pub turn_reply : Result TurnDone (Refused Suspended) → Reply
turn_reply (Ok done) = replies.Turned (turned_as done)
turn_reply (Err host.NoPool) = refused refusals.NoPool
turn_reply (Err (host.Pool told)) = refused (suspended told)

abbrev pub sync_refusal : SyncFault → Refusal
sync_refusal (syncs.Unfrozen fault) = freeze_refusal fault
sync_refusal (syncs.Suspended told) = suspended told
sync_refusal syncs.Memory = refusals.Memory

abbrev pub sync_reply : Result Group (Refused SyncFault) → Reply
sync_reply (Ok group) = replies.Numbered group
sync_reply (Err host.NoPool) = refused refusals.NoPool
sync_reply (Err (host.Pool fault)) = refused (sync_refusal fault)

abbrev pub offline_refusal : OfflineFault → Refusal
offline_refusal offlines.NoVdev = refusals.NoVdev
offline_refusal (offlines.Misplaced rule) = refusals.WrongPlace rule
offline_refusal (offlines.Required group) = refusals.Required group

abbrev pub offline_reply : Result (Unit {0}) (Refused OfflineFault) → Reply
offline_reply (Ok done) = replies.Done
offline_reply (Err host.NoPool) = refused refusals.NoPool
offline_reply (Err (host.Pool fault)) = refused (offline_refusal fault)

-- what a copy showed; one that wasn't tried showed nothing
abbrev pub seen_as : CopySeen → Seen
seen_as copies.Failed = seen.Failed
seen_as copies.Mismatch = seen.Mismatch
seen_as other = seen.Unreadable

abbrev pub shown_leaves : (names : List (List ℕ)) → List CopySeen → List NamedLeaf
shown_leaves [] shown = []
shown_leaves (name ∷ names) [] = []
shown_leaves (name ∷ names) (x ∷ shown) = record { name = name; seen = seen_as x } ∷ shown_leaves names shown

abbrev pub read_reply : (a : ℕ) → (names : List (List ℕ)) → Result (List ℕ) (Refused ReadFault) → Reply
read_reply a names (Ok block) = replies.Data block
read_reply a names (Err host.NoPool) = refused refusals.NoPool
read_reply a names (Err (host.Pool (reads.BadAddress limit))) = refused (refusals.BadAddress limit)
read_reply a names (Err (host.Pool (reads.Exhausted shown))) = refused (refusals.Exhausted 0 a (shown_leaves names shown))

-- a leaf's log, and the logs of leaves or that there was no memory to tell them
abbrev pub told_log : PoolLog → LeafLog
told_log log = record { name = log.name; log = log.log }

abbrev pub IsLogsReply : List PoolLog → Reply → Type 0
IsLogsReply logs told = (told ≡ replies.Logs (map told_log logs)) ⊎ (told ≡ refused refusals.Memory)
