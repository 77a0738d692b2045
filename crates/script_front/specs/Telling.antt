-- How a reply of a host is told: the reply line.
use Rattle.std.specs.Prelude.{◌≡◌, ℕ, ◌^◌, List, [], ◌∷◌, map, All}
use Rattle.mp_base.specs.declared.number.Group.{Group}
use Rattle.mp_base.specs.declared.number.Guid.{Guid}
use Rattle.mp_base.specs.declared.refusal.Seen.{Seen}
use Rattle.mp_base.specs.declared.refusal.Seen.TheVariants as seen
use Rattle.mp_base.specs.Ranges.{Rises}
use Rattle.group_set.specs.Ranges.{in_ranges}
use Rattle.host_core.specs.BlockNames.{names_of_block}
use Rattle.pool_lines.specs.declared.leaves.LeafLog.{LeafLog}
use Rattle.pool_lines.specs.declared.leaves.NamedLeaf.{NamedLeaf}
use Rattle.pool_lines.specs.declared.refusal.Refusal.{Refusal}
use Rattle.pool_lines.specs.declared.refusal.Refusal.TheVariants as refusals
use Rattle.pool_lines.specs.declared.reply.Reply.{Reply}
use Rattle.pool_lines.specs.declared.reply.Reply.TheVariants as replies
use Rattle.pool_lines.specs.declared.reply.Turned.TheVariants as turns
use Rattle.pool_moves.specs.AwayRows.{WriteReply, Taken, BadAddress, Full, NoSpace, OfflineReply, Gone, NoVdev, Misplaced, Required}
use Rattle.pool_moves.specs.CommitRows.{NamedLog}
use Rattle.pool_moves.specs.LineRows as rows
use Rattle.pool_moves.specs.ReadRow.{ReadReply, Gives, Exhausted, NoAddress}
use Rattle.pool_moves.specs.Refusing.{FreezeRefusal, NoNumber, NoBoard, NoRoom}
use Rattle.pool_moves.specs.Showing.{LeafShown, Unreadable, ReadFailed, Mismatched}
use Rattle.pool_runs.specs.Hosts.{Host}
use Rattle.pool_runs.specs.Lines as lines
use Rattle.pool_runs.specs.Lines.{Asked, Asks_nothing, Asks_write, Asks_read, Asks_freeze, Asks_turn, Asks_sync, Asks_offline, Asks_logs, To_nothing, To_write, To_read, To_freeze, To_turn, To_sync, To_offline, To_logs, No_pool, No_memory}

abbrev pub refused : Refusal → Reply
refused refusal = replies.Refused refusal

abbrev pub group_at : ℕ → Group
group_at number = record { 0 = number }

abbrev pub told_write : WriteReply → Reply
told_write Taken = replies.Done
told_write (BadAddress limit) = refused (refusals.BadAddress limit)
told_write Full = refused refusals.GroupFull
told_write (NoSpace need free) = refused (refusals.NoSpace need free)

abbrev pub told_seen : LeafShown → Seen
told_seen Unreadable = seen.Unreadable
told_seen ReadFailed = seen.Failed
told_seen Mismatched = seen.Mismatch

-- the leaves of these names, each with what it showed
abbrev pub told_leaves : (names : List (List ℕ)) → List LeafShown → List NamedLeaf
told_leaves [] shown = []
told_leaves (name ∷ names) [] = []
told_leaves (name ∷ names) (x ∷ shown) = record { name = name; seen = told_seen x } ∷ told_leaves names shown

-- a read of block a, whose top has leaves of these names
abbrev pub told_read : (a : ℕ) → (names : List (List ℕ)) → ReadReply → Reply
told_read a names (Gives block) = replies.Data block
told_read a names (Exhausted shown) = refused (refusals.Exhausted 0 a (told_leaves names shown))
told_read a names (NoAddress limit) = refused (refusals.BadAddress limit)

-- no group is frozen: no call on a board's leaf has failed since
abbrev pub told_unfrozen : FreezeRefusal → Refusal
told_unfrozen (NoNumber limit count) = refusals.TreeFull limit count
told_unfrozen (NoBoard group top) = refusals.Suspended (group_at group) top 0
told_unfrozen (NoRoom need free) = refusals.NoSpace need free

abbrev pub told_freeze : rows.FreezeReply → Reply
told_freeze (rows.Frozen number) = replies.Numbered (group_at number)
told_freeze (rows.InFlight group) = refused (refusals.GroupInFlight (group_at group))
told_freeze (rows.Unfrozen refusal) = refused (told_unfrozen refusal)

abbrev pub told_suspended : (group : ℕ) → (top : Guid) → (faults : ℕ) → Reply
told_suspended group top faults = refused (refusals.Suspended (group_at group) top faults)

abbrev pub told_turn : rows.TurnReply → Reply
told_turn rows.Idle = replies.Turned turns.Idle
told_turn rows.Write = replies.Turned turns.Write
told_turn rows.Flush = replies.Turned turns.Flush
told_turn (rows.Round number) = replies.Turned (turns.Round (group_at number))
told_turn (rows.Committed number) = replies.Turned (turns.Committed (group_at number))
told_turn (rows.Suspended group top faults) = told_suspended group top faults

-- the last turn of a group acknowledges its record, or suspends it; no other turn ends one
abbrev pub told_end : rows.TurnReply → Reply
told_end (rows.Committed number) = replies.Numbered (group_at number)
told_end (rows.Suspended group top faults) = told_suspended group top faults
told_end turn = refused refusals.Memory

abbrev pub told_sync : rows.SyncReply → Reply
told_sync (rows.Ended turn) = told_end turn
told_sync (rows.Refused refusal) = refused (told_unfrozen refusal)
told_sync rows.NoMemory = refused refusals.Memory

abbrev pub told_offline : OfflineReply → Reply
told_offline Gone = replies.Done
told_offline NoVdev = refused refusals.NoVdev
told_offline (Misplaced rule) = refused (refusals.WrongPlace rule)
told_offline (Required group) = refused (refusals.Required (group_at group))

-- the log that is told, as the set of its groups
abbrev pub log_of : LeafLog → NamedLog
log_of leaf = record { name = leaf.name; owes = in_ranges leaf.log }

-- its ranges rise, and no two of them touch
abbrev pub IsRising : LeafLog → Type 0
IsRising leaf = Rises 1 (2 ^ 62) leaf.log

-- The logs of all leaves, in tree order, each by its ranges.
pub record TellsLogs (logs : List NamedLog) (told : Reply) : Type 0 where
  pub leaves : List LeafLog
  pub told_is : told ≡ replies.Logs leaves
  pub sets : map log_of leaves ≡ logs
  pub rise : All IsRising leaves

-- The reply line to what was asked of this host, where it answered this.
abbrev pub Tells : Host → Asked → lines.Reply → Reply → Type 0
Tells h asked No_pool told = told ≡ refused refusals.NoPool
Tells h asked No_memory told = told ≡ refused refusals.Memory
Tells h Asks_nothing To_nothing told = told ≡ replies.Done
Tells h (Asks_write name a block) (To_write reply) told = told ≡ told_write reply
Tells h (Asks_read name a) (To_read reply) told = told ≡ told_read a (names_of_block name a h) reply
Tells h (Asks_freeze name) (To_freeze reply) told = told ≡ told_freeze reply
Tells h (Asks_turn name) (To_turn reply) told = told ≡ told_turn reply
Tells h (Asks_sync name) (To_sync reply) told = told ≡ told_sync reply
Tells h (Asks_offline name device temporary) (To_offline reply) told = told ≡ told_offline reply
Tells h (Asks_logs name) (To_logs logs) told = TellsLogs logs told
Tells h asked reply told = ⊥
