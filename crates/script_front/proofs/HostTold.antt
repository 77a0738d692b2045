-- What the code's host answers is told as the entry's reply.
use Rattle.std.proofs.Common.{◌≡◌, ◌⊎◌, inl, inr, ℕ, Bool, List, [], ◌∷◌, ◌++◌, map, Option, Some, None, Result, Ok, Err, refl, sym, ap, ap₂, ◌∙◌, append_assoc, append-nil, subst, subst₂}
use Rattle.std.specs.Prelude.{All, IfOk}
use Rattle.std.proofs.lemmas.Option.{none-some, same_Some}
use Rattle.mp_base.specs.declared.fault.MemFault.{MemFault}
use Rattle.mp_base.specs.declared.refusal.Seen.TheVariants as seen
use Rattle.bank_core.specs.BankView.{BankView}
use Rattle.host_core.specs.declared.host.Refused.{Refused}
use Rattle.host_core.specs.declared.host.Refused.TheVariants as host_refused
use Rattle.host_core.specs.Answering.{Answers, of_pool, Says}
use Rattle.host_core.specs.BlockNames.{names_of_block}
use Rattle.host_core.specs.Parts.{HostParts}
use Rattle.host_core.specs.Standing.{HostStands}
use Rattle.host_core.specs.Telling as core
use Rattle.host_core.proofs.LinesOfHosts.{no_memory}
use Rattle.std.specs.List.{AllByRecursion}
use Rattle.std.proofs.lemmas.List.Elements.{recursion_from_All, All-from_recursion}
use Rattle.open_pool.specs.declared.freeze.FreezeFault.TheVariants as freezes
use Rattle.open_pool.specs.declared.logs.LeafLog.{LeafLog as PoolLog}
use Rattle.open_pool.specs.declared.read.ReadFault.{ReadFault}
use Rattle.open_pool.specs.declared.sync.SyncFault.TheVariants as syncs
use Rattle.open_pool.specs.declared.write.WriteFault.TheVariants as writes
use Rattle.open_pool.specs.Committing.{turn_says}
use Rattle.open_pool.specs.Freezing.{freeze_says}
use Rattle.open_pool.specs.Offline.{offline_says}
use Rattle.open_pool.specs.Reading.{read_says, seen_as}
use Rattle.open_pool.specs.Syncing.{sync_says}
use Rattle.open_pool.specs.Telling as pool
use Rattle.open_pool.specs.Writing.{write_says}
use Rattle.mirror_io.specs.declared.copies.CopySeen.{CopySeen}
use Rattle.pool_lines.specs.declared.leaves.NamedLeaf.{NamedLeaf}
use Rattle.pool_lines.specs.declared.refusal.Refusal.TheVariants as refusals
use Rattle.pool_lines.specs.declared.reply.Reply.{Reply}
use Rattle.pool_lines.specs.declared.reply.Reply.TheVariants as replies
use Rattle.pool_moves.specs.AwayRows.{WriteReply, Taken, BadAddress, Full, NoSpace, OfflineReply, Gone, NoVdev, Misplaced, Required}
use Rattle.pool_moves.specs.LineRows as rows
use Rattle.pool_moves.specs.ReadRow.{ReadReply, Gives, Exhausted, NoAddress}
use Rattle.pool_moves.specs.Refusing.{NoNumber, NoBoard, NoRoom}
use Rattle.pool_moves.specs.Showing.{LeafShown, Unreadable, ReadFailed, Mismatched}
use Rattle.pool_runs.specs.HostRows.{ReadLine, LogsLine}
use Rattle.pool_runs.specs.Hosts.{Host}
use Rattle.pool_runs.specs.Lines as lines
use Rattle.pool_runs.specs.Lines.{Asked, Asks_write, Asks_read, Asks_freeze, Asks_turn, Asks_sync, Asks_offline, Asks_logs, To_write, To_read, To_freeze, To_turn, To_sync, To_offline, To_logs, No_pool, No_memory}
use Rattle.script_front.specs.Answering.{MayTell}
use Rattle.script_front.specs.Converting.{write_reply, freeze_reply, turn_reply, sync_reply, offline_reply, read_reply, shown_leaves, told_log, IsLogsReply, seen_as as copy_seen}
use Rattle.script_front.specs.Telling.{Tells, told_leaves, log_of, IsRising, refused}

-- An answer that says something of the reply says all that follows.
pub says_more : {asked : Asked} {P Q : lines.Reply → Type 0} {h : Host} {new : HostParts} {from to : BankView} → ((reply : lines.Reply) → P reply → Q reply)
    → Answers asked P h new from to → Answers asked Q h new from to
says_more more a = record { entry = a.entry; asks = a.asks; hears = a.hears; says = more a.entry.reply a.says; line = a.line }

-- A reply that says what a row does is told so, if each reply of the row is.
by_says : {R A E : Type 0} (to : R → lines.Reply) (says : R → Result A E) (want : Option (Result A E)) (told : Result A (Refused E) → Reply) (T : lines.Reply → Reply → Type 0)
    → ((of : R) → T (to of) (told (of_pool (says of)))) → T No_pool (told (Err host_refused.NoPool)) → ((of : Result A E) → want ≡ Some of → T No_memory (told (of_pool of)))
    → (answer : Result A (Refused E)) (reply : lines.Reply) → Says to says want answer reply → T reply (told answer)
by_says to says want told T each none memory answer reply (inl is) = subst₂ (λ r x. T r (told x)) (sym is.reply_is) (sym is.answer_is) (each is.of)
by_says to says want told T each none memory answer reply (inr (inl is)) = subst₂ (λ r x. T r (told x)) (sym is.0) (sym is.1) none
by_says to says want told T each none memory answer reply (inr (inr is)) = subst₂ (λ r x. T r (told x)) (sym is.reply_is) (sym is.answer_is) (memory is.of is.may)

-- memory is wanted by this answer alone
module _ {A E : Type 0} (P : Result A E → Type 0) where
  just : (x : Result A E) → P x → (of : Result A E) → Some x ≡ Some of → P of
  just x holds of is = subst P (same_Some x of is) holds

  never : (of : Result A E) → None ≡ Some of → P of
  never of is = absurd (none-some of is)

module _ (h : Host) (name : List ℕ) where
  pub write_told : (a : ℕ) (block : List ℕ) (answer : _) (reply : lines.Reply) → Says To_write write_says (Some (Err writes.Memory)) answer reply
      → Tells h (Asks_write name a block) reply (write_reply answer)
  write_told a block = by_says To_write write_says (Some (Err writes.Memory)) write_reply (Tells h (Asks_write name a block)) each refl
      (just (λ of. write_reply (of_pool of) ≡ refused refusals.Memory) (Err writes.Memory) refl)
    where
      each : (of : WriteReply) → Tells h (Asks_write name a block) (To_write of) (write_reply (of_pool (write_says of)))
      each Taken = refl
      each (BadAddress limit) = refl
      each Full = refl
      each (NoSpace need free) = refl

  pub freeze_told : (answer : _) (reply : lines.Reply) → Says To_freeze freeze_says (Some (Err freezes.Memory)) answer reply
      → Tells h (Asks_freeze name) reply (freeze_reply answer)
  freeze_told = by_says To_freeze freeze_says (Some (Err freezes.Memory)) freeze_reply (Tells h (Asks_freeze name)) each refl
      (just (λ of. freeze_reply (of_pool of) ≡ refused refusals.Memory) (Err freezes.Memory) refl)
    where
      each : (of : rows.FreezeReply) → Tells h (Asks_freeze name) (To_freeze of) (freeze_reply (of_pool (freeze_says of)))
      each (rows.Frozen number) = refl
      each (rows.InFlight group) = refl
      each (rows.Unfrozen (NoNumber limit count)) = refl
      each (rows.Unfrozen (NoBoard group top)) = refl
      each (rows.Unfrozen (NoRoom need free)) = refl

  pub turn_told : (answer : _) (reply : lines.Reply) → Says To_turn turn_says None answer reply → Tells h (Asks_turn name) reply (turn_reply answer)
  turn_told = by_says To_turn turn_says None turn_reply (Tells h (Asks_turn name)) each refl (never (λ of. turn_reply (of_pool of) ≡ refused refusals.Memory))
    where
      each : (of : rows.TurnReply) → Tells h (Asks_turn name) (To_turn of) (turn_reply (of_pool (turn_says of)))
      each rows.Idle = refl
      each rows.Write = refl
      each rows.Flush = refl
      each (rows.Round number) = refl
      each (rows.Committed number) = refl
      each (rows.Suspended group top faults) = refl

  pub sync_told : (answer : _) (reply : lines.Reply) → Says To_sync sync_says (Some (Err syncs.Memory)) answer reply → Tells h (Asks_sync name) reply (sync_reply answer)
  sync_told = by_says To_sync sync_says (Some (Err syncs.Memory)) sync_reply (Tells h (Asks_sync name)) each refl
      (just (λ of. sync_reply (of_pool of) ≡ refused refusals.Memory) (Err syncs.Memory) refl)
    where
      each : (of : rows.SyncReply) → Tells h (Asks_sync name) (To_sync of) (sync_reply (of_pool (sync_says of)))
      each (rows.Ended rows.Idle) = refl
      each (rows.Ended rows.Write) = refl
      each (rows.Ended rows.Flush) = refl
      each (rows.Ended (rows.Round number)) = refl
      each (rows.Ended (rows.Committed number)) = refl
      each (rows.Ended (rows.Suspended group top faults)) = refl
      each (rows.Refused (NoNumber limit count)) = refl
      each (rows.Refused (NoBoard group top)) = refl
      each (rows.Refused (NoRoom need free)) = refl
      each rows.NoMemory = refl

  pub offline_told : (device : List ℕ) (temporary : Bool) (answer : _) (reply : lines.Reply) → Says To_offline offline_says None answer reply
      → Tells h (Asks_offline name device temporary) reply (offline_reply answer)
  offline_told device temporary = by_says To_offline offline_says None offline_reply (Tells h (Asks_offline name device temporary)) each refl
      (never (λ of. offline_reply (of_pool of) ≡ refused refusals.Memory))
    where
      each : (of : OfflineReply) → Tells h (Asks_offline name device temporary) (To_offline of) (offline_reply (of_pool (offline_says of)))
      each Gone = refl
      each NoVdev = refl
      each (Misplaced place) = refl
      each (Required group) = refl

  leaves_told : (names : List (List ℕ)) (shown : List LeafShown) → shown_leaves names (map seen_as shown) ≡ told_leaves names shown
  leaves_told [] shown = refl
  leaves_told (name ∷ names) [] = refl
  leaves_told (name ∷ names) (Unreadable ∷ shown) = ap (λ l. record { name = name; seen = seen.Unreadable } ∷ l) (leaves_told names shown)
  leaves_told (name ∷ names) (ReadFailed ∷ shown) = ap (λ l. record { name = name; seen = seen.Failed } ∷ l) (leaves_told names shown)
  leaves_told (name ∷ names) (Mismatched ∷ shown) = ap (λ l. record { name = name; seen = seen.Mismatch } ∷ l) (leaves_told names shown)

  pub read_told : (a : ℕ) (names : List (List ℕ)) → names ≡ names_of_block name a h → (answer : Result (List ℕ) (Refused ReadFault)) (reply : lines.Reply)
      → Says To_read read_says None answer reply → Tells h (Asks_read name a) reply (read_reply a names answer)
  read_told a names are = by_says To_read read_says None (read_reply a names) (Tells h (Asks_read name a)) each refl
      (never (λ of. read_reply a names (of_pool of) ≡ refused refusals.Memory))
    where
      each : (of : ReadReply) → Tells h (Asks_read name a) (To_read of) (read_reply a names (of_pool (read_says of)))
      each (Gives block) = refl
      each (Exhausted shown) = ap (λ l. refused (refusals.Exhausted 0 a l))
          (leaves_told names shown ∙ ap (λ n. told_leaves n shown) are)
      each (NoAddress limit) = refl

  -- the logs as they are told
  sets_told : (logs : List PoolLog) → map log_of (map told_log logs) ≡ pool.logs_told logs
  sets_told [] = refl
  sets_told (log ∷ logs) = ap (λ l. pool.log_told log ∷ l) (sets_told logs)

  logs_tell : (logs : List PoolLog) (told : Reply) (reply : lines.Reply) → All pool.IsRising logs → told ≡ replies.Logs (map told_log logs)
      → reply ≡ To_logs (pool.logs_told logs) → Tells h (Asks_logs name) reply told
  logs_tell logs told reply rise is says = subst (λ r. Tells h (Asks_logs name) r told) (sym says) (record {
    leaves = map told_log logs;
    told_is = is;
    sets = sets_told logs;
    rise = All-from_recursion IsRising (map told_log logs) (each_rises logs (recursion_from_All pool.IsRising logs rise));
  })
    where
      each_rises : (logs : List PoolLog) → AllByRecursion pool.IsRising logs → AllByRecursion IsRising (map told_log logs)
      each_rises [] rise = tt
      each_rises (log ∷ logs) rise = (rise.0, each_rises logs rise.1)

  module _ (host : HostParts) (bank : BankView) (was : HostStands host bank h) where
    -- there was no memory, and nothing was done
    pub no_memory_logs : Answers (Asks_logs name) (λ reply. Tells h (Asks_logs name) reply (refused refusals.Memory)) h host bank bank
    no_memory_logs = no_memory (Asks_logs name) name LogsLine (λ h acts reply line. line) (λ reply. Tells h (Asks_logs name) reply (refused refusals.Memory)) host host bank h
        tt refl was

    pub no_memory_read : (a : ℕ) → Answers (Asks_read name a) (λ reply. MayTell h (Asks_read name a) reply (Ok (refused refusals.Memory))) h host bank bank
    no_memory_read a = no_memory (Asks_read name a) name (λ h. ReadLine h a) (λ h acts reply line. line) (λ reply. MayTell h (Asks_read name a) reply (Ok (refused refusals.Memory)))
        host host bank h tt (record { told = refused refusals.Memory; tells = refl; says = refl }) was

    pub logs_ok : {T : Type 0} (E : Type 0) (items : T → List PoolLog) (logs : T) (told : Reply) → All pool.IsRising (items logs) → IsLogsReply (items logs) told
        → Answers (Asks_logs name) (core.TellsLogs {A = T} {E = E} (λ l. pool.logs_told (items l)) (Ok logs)) h host bank bank
        → Answers (Asks_logs name) (λ reply. Tells h (Asks_logs name) reply told) h host bank bank
    logs_ok E items logs told rise (inl is) a = says_more (λ reply says. logs_tell (items logs) told reply rise is says) a
    logs_ok E items logs told rise (inr is) a =
        subst (λ t. Answers (Asks_logs name) (λ reply. Tells h (Asks_logs name) reply t) h host bank bank) (sym is) no_memory_logs

    pub logs_none : {T : Type 0} (E : Type 0) (items : T → List PoolLog) (why : Refused E) → why ≡ host_refused.NoPool
        → Answers (Asks_logs name) (core.TellsLogs {A = T} {E = E} (λ l. pool.logs_told (items l)) (Err why)) h host bank bank
        → Answers (Asks_logs name) (λ reply. Tells h (Asks_logs name) reply (refused refusals.NoPool)) h host bank bank
    logs_none E items why is a = says_more (λ reply says. subst (λ r. Tells h (Asks_logs name) r (refused refusals.NoPool))
        (sym (subst (λ (w : Refused E). core.TellsLogs (λ l. pool.logs_told (items l)) (Err w) reply) is says)) refl) a

  -- what a read answered, and the bytes with it
  pub read_answered : (a : ℕ) (names : List (List ℕ)) (out bytes : List ℕ) (answer : Result (Unit {0}) (Refused ReadFault)) (told : Result Reply MemFault) {new : HostParts} {from to : BankView}
      → names ≡ names_of_block name a h → bytes ≡ out → IfOk told (λ reply. reply ≡ read_reply a names (core.with_bytes bytes answer))
      → Answers (Asks_read name a) (Says To_read read_says None (core.with_bytes out answer)) h new from to
      → Answers (Asks_read name a) (λ reply. MayTell h (Asks_read name a) reply told) h new from to
  read_answered a names out bytes answer told are is says = says_more (λ reply said. record {
    told = read_reply a names (core.with_bytes out answer);
    tells = read_told a names are (core.with_bytes out answer) reply said;
    says = subst (λ b. IfOk told (λ reply. reply ≡ read_reply a names (core.with_bytes b answer))) is says;
  })

-- one leaf more, and the last one
pub leaves_more : (names : List (List ℕ)) (shown : List CopySeen) (name : List ℕ) (copy : CopySeen) (rest : List (List ℕ)) (behind : List CopySeen) (was now all : List NamedLeaf)
    → names ≡ name ∷ rest → shown ≡ copy ∷ behind → now ≡ was ++ record { name = name; seen = copy_seen copy } ∷ [] → was ++ shown_leaves names shown ≡ all
    → now ++ shown_leaves rest behind ≡ all
leaves_more names shown name copy rest behind was now all first second is so_far =
    ap (λ l. l ++ shown_leaves rest behind) is ∙ append_assoc was (record { name = name; seen = copy_seen copy } ∷ []) (shown_leaves rest behind)
    ∙ ap (λ l. was ++ l) (sym (ap₂ shown_leaves first second)) ∙ so_far

pub leaves_end : (names : List (List ℕ)) (shown : List CopySeen) (was all : List NamedLeaf) → (names ≡ []) ⊎ (shown ≡ []) → was ++ shown_leaves names shown ≡ all → was ≡ all
leaves_end names shown was all (inl none) so_far = sym (append-nil was) ∙ ap (λ n. was ++ shown_leaves n shown) (sym none) ∙ so_far
leaves_end names shown was all (inr none) so_far = sym (append-nil was) ∙ ap (λ l. was ++ l) (sym (no_copies names)) ∙ ap (λ s. was ++ shown_leaves names s) (sym none) ∙ so_far
  where
    no_copies : (names : List (List ℕ)) → shown_leaves names [] ≡ []
    no_copies [] = refl
    no_copies (name ∷ names) = refl
