-- The lines of open pools.
use Rattle.std.proofs.Common.{◌≡◌, ◌⊎◌, inl, inr, ⊎_elim, ℕ, Bool, false, Some, None, Result, Ok, Err, List, [], refl, sym, ap, ◌∙◌, subst}
use Rattle.std.specs.Prelude.{slice_set, is_some, IfOk}
use Rattle.bank_core.proofs.Framing.{makes_none}
use Rattle.bank_core.specs.BankView.{BankView}
use Rattle.mp_base.specs.declared.number.Group.{Group}
use Rattle.txg_engine.specs.declared.seat.Suspended.{Suspended}
use Rattle.open_pool.specs.declared.freeze.FreezeFault.{FreezeFault}
use Rattle.open_pool.specs.declared.freeze.FreezeFault.TheVariants as freezes
use Rattle.open_pool.specs.declared.offline.OfflineFault.{OfflineFault}
use Rattle.open_pool.specs.declared.read.ReadFault.{ReadFault}
use Rattle.open_pool.specs.declared.sync.SyncFault.{SyncFault}
use Rattle.open_pool.specs.declared.sync.SyncFault.TheVariants as syncs
use Rattle.open_pool.specs.declared.turn.TurnDone.{TurnDone}
use Rattle.open_pool.specs.declared.write.WriteFault.{WriteFault}
use Rattle.open_pool.specs.declared.write.WriteFault.TheVariants as writes
use Rattle.open_pool.specs.Answering as pools
use Rattle.open_pool.specs.Committing.{turn_says}
use Rattle.open_pool.specs.Freezing.{freeze_says}
use Rattle.open_pool.specs.Here.{AreHere}
use Rattle.open_pool.specs.Offline.{offline_says}
use Rattle.open_pool.specs.Reading as reads
use Rattle.open_pool.specs.Reading.{read_says}
use Rattle.open_pool.specs.Parts.{PoolParts}
use Rattle.open_pool.specs.State.{Stands}
use Rattle.open_pool.specs.Syncing.{sync_says}
use Rattle.open_pool.specs.Writing.{write_says}
use Rattle.pool_codec.specs.Codecs.{pool_codec}
use Rattle.pool_moves.specs.AwayRows.{RowWrite, RowOffline}
use Rattle.pool_moves.specs.CommitRows.{NamedLog, RowLogs}
use Rattle.pool_moves.specs.LineRows.{RowFreezeLine, RowTurn, RowSync}
use Rattle.pool_moves.specs.Moves.{Move}
use Rattle.pool_moves.specs.ReadRow.{RowRead}
use Rattle.pool_moves.specs.States.{PoolState}
use Rattle.pool_runs.specs.Acts.{Gives_for, Marks}
use Rattle.pool_runs.specs.Devices.{size_in}
use Rattle.pool_runs.specs.HostRows.{marked, ReadLine, OnPool, LogsLine, WriteLine, FreezeLine, TurnLine, SyncLine, OfflineLine}
use Rattle.pool_runs.specs.Lines.{Asks_logs, To_logs, Asks_read, To_read, Asks_write, Asks_freeze, Asks_turn, Asks_sync, Asks_offline, To_write, To_freeze, To_turn, To_sync, To_offline}
use Rattle.host_core.specs.declared.host.Refused.TheVariants as refused
use Rattle.host_core.specs.Answering.{Answers, AnswersLine, Says, of_pool}
use Rattle.host_core.specs.Naming.{IsCalledAt}
use Rattle.host_core.specs.Parts.{HostParts}
use Rattle.host_core.specs.Standing.{IsSeated}
use Rattle.host_core.specs.Telling.{TellsLogs, with_bytes}
use Rattle.host_core.proofs.CallsOnLeaves.{turn_on, freeze_on, sync_on, put_on, offline_on}
use Rattle.host_core.proofs.LinesOfHosts.{found_pool, owned_at, owners, answered, answered_quietly, by_moves, pool_moved, no_memory, same_host, quietly}
use Rattle.host_core.proofs.MarkedActs.{marked_moves, by_marked}
use Rattle.host_core.proofs.PoolsAreHere.{sizes_of, pool_here}
use Rattle.host_core.proofs.PoolsOfHosts.{IsHeld}
use Rattle.host_core.proofs.ReadsOnLeaves.{read_on}
use Rattle.host_core.proofs.SizesOfLeaves.{turn_at, sync_at}

-- A row by other sizes.
row_at : {R A : Type 0} {Row Other : List Move → R → Type 0} {says : R → A} {answer : A} {s : PoolState} {new : PoolParts} {from to : BankView}
    → ((vs : List Move) (reply : R) → Row vs reply → Other vs reply) → pools.Does Row says answer s new from to → pools.Does Other says answer s new from to
row_at at done = record {
  answers = record {
    moves = done.answers.moves;
    reply = done.answers.reply;
    is = at done.answers.moves done.answers.reply done.answers.is;
    says_so = done.answers.says_so;
    leaves = done.answers.leaves;
  };
  calls = done.calls;
}

-- The bank has the devices of the pool that the code found.
pub here_at : (host : HostParts) (bank : BankView) (name : List ℕ) (place : ℕ) → IsSeated host bank → (at : IsCalledAt name host.pools place) → AreHere bank.size at.pool.tops
here_at host bank name place seated at =
    let h = seated.h in let was = seated.stands in
    let there = found_pool host bank h name place was at in
    pool_here host bank h at.pool there.s was (owned_at h there.s h.pools place was.owned there.at) there.stands

module _ (host : HostParts) (name : List ℕ) (place : ℕ) (at : IsCalledAt name host.pools place) (new : PoolParts) where
  abbrev after : HostParts
  after = record host { pools = slice_set host.pools place new }

  pub write_line : (a : ℕ) (block : List ℕ) (bank : BankView) (answer : Result (Unit {0}) WriteFault)
      → ((s : PoolState) → Stands at.pool s → pools.Answers (RowWrite s a block) write_says answer s new ⊎ pools.OutOfMemory (Err writes.Memory) answer s new)
      → AnswersLine (Asks_write name a block) (Says To_write write_says (Some (Err writes.Memory)) (of_pool answer)) host after bank bank
  write_line a block bank answer row h was = let there = found_pool host bank h name place was at in
      answered_quietly (Asks_write name a block) name (λ h. WriteLine h a block) (λ h acts reply line. line) To_write write_says (Some (Err writes.Memory))
      (λ h s vs reply. RowWrite s a block vs reply) (λ h s acts reply by. (reply, refl, by)) (Err writes.Memory) answer host bank h place at.pool new there refl tt was
      (λ P vs reply row. put_on P there.s a block vs reply row) (row there.s there.stands)

  pub freeze_line : (bank : BankView) (answer : Result Group FreezeFault)
      → ((s : PoolState) → Stands at.pool s → pools.Answers (RowFreezeLine pool_codec s) freeze_says answer s new ⊎ pools.OutOfMemory (Err freezes.Memory) answer s new)
      → AnswersLine (Asks_freeze name) (Says To_freeze freeze_says (Some (Err freezes.Memory)) (of_pool answer)) host after bank bank
  freeze_line bank answer row h was = let there = found_pool host bank h name place was at in
      answered_quietly (Asks_freeze name) name (λ h. FreezeLine pool_codec h) (λ h acts reply line. line) To_freeze freeze_says (Some (Err freezes.Memory))
      (λ h s vs reply. RowFreezeLine pool_codec s vs reply) (λ h s acts reply by. (reply, refl, by)) (Err freezes.Memory) answer host bank h place at.pool new there refl tt was
      (λ P vs reply row. freeze_on P pool_codec there.s vs reply row) (row there.s there.stands)

  pub offline_line : (device : List ℕ) (temporary : Bool) (bank : BankView) (answer : Result (Unit {0}) OfflineFault)
      → ((s : PoolState) → Stands at.pool s → pools.Answers (RowOffline s device temporary) offline_says answer s new)
      → AnswersLine (Asks_offline name device temporary) (Says To_offline offline_says None (of_pool answer)) host after bank bank
  offline_line device temporary bank answer row h was = let there = found_pool host bank h name place was at in
      answered (Asks_offline name device temporary) name (λ h. OfflineLine h device temporary) (λ h acts reply line. line) To_offline offline_says None
      (λ h s vs reply. RowOffline s device temporary vs reply) (λ h s acts reply by. (reply, refl, by)) answer host bank bank h place at.pool new there was
      (λ vs reply row. offline_on (IsHeld h there.s.core.pool.0) there.s device temporary vs reply row)
      (quietly bank (λ vs reply row. offline_on (λ d. ⊥) there.s device temporary vs reply row) (row there.s there.stands))

  pub turn_line : (from to : BankView) (answer : Result TurnDone Suspended)
      → ((s : PoolState) → Stands at.pool s → pools.Does (RowTurn pool_codec from.size s) turn_says answer s new from to)
      → AnswersLine (Asks_turn name) (Says To_turn turn_says None (of_pool answer)) host after from to
  turn_line from to answer row h was =
      let there = found_pool host from h name place was at in let s = there.s in
      let owned = owned_at h s h.pools place was.owned there.at in
      answered (Asks_turn name) name (λ h. TurnLine pool_codec h) (λ h acts reply line. line) To_turn turn_says None
      (λ h s vs reply. RowTurn pool_codec (size_in h.table) s vs reply) (λ h s acts reply by. (reply, refl, by)) answer host from to h place at.pool new there was
      (λ vs reply row. turn_on (IsHeld h s.core.pool.0) pool_codec (size_in h.table) s vs reply row (owners h s owned))
      (row_at (λ vs reply row. turn_at from.size (size_in h.table) pool_codec s vs reply (sizes_of host from h s was owned) row) (row s there.stands))

  pub sync_line : (from to : BankView) (answer : Result Group SyncFault)
      → ((s : PoolState) → Stands at.pool s → pools.Does (RowSync pool_codec from.size s) sync_says answer s new from to
      ⊎ ((pools.OutOfMemory (Err syncs.Memory) answer s new × (to ≡ from)) × (is_some at.pool.frozen ≡ false)))
      → AnswersLine (Asks_sync name) (Says To_sync sync_says (Some (Err syncs.Memory)) (of_pool answer)) host after from to
  sync_line from to answer row h was =
      let there = found_pool host from h name place was at in let s = there.s in
      let owned = owned_at h s h.pools place was.owned there.at in
      ⊎_elim (λ done. answered (Asks_sync name) name (λ h. SyncLine pool_codec h) (λ h acts reply line. line) To_sync sync_says (Some (Err syncs.Memory))
      (λ h s vs reply. RowSync pool_codec (size_in h.table) s vs reply) (λ h s acts reply by. (reply, refl, by)) answer host from to h place at.pool new there was
      (λ vs reply row. sync_on (IsHeld h s.core.pool.0) pool_codec (size_in h.table) s vs reply row (owners h s owned))
      (row_at (λ vs reply row. sync_at from.size (size_in h.table) pool_codec s vs reply (sizes_of host from h s was owned) row) done))
      (λ out. subst (Answers (Asks_sync name) (Says To_sync sync_says (Some (Err syncs.Memory)) (of_pool answer)) h after from) (sym out.0.1)
      (no_memory (Asks_sync name) name (λ h. SyncLine pool_codec h) (λ h acts reply line. line) (Says To_sync sync_says (Some (Err syncs.Memory)) (of_pool answer))
      host after from h tt (inr (inr (record { of = Err syncs.Memory; may = refl; reply_is = refl; answer_is = ap of_pool out.0.0.0 })))
      (same_host host from h place at.pool new there was out.0.0.1)))
      (row s there.stands)

  pub read_line : (a : ℕ) (out : List ℕ) (from to : BankView) (answer : Result (Unit {0}) ReadFault)
      → ((s : PoolState) → Stands at.pool s → pools.Does (RowRead s a) read_says (reads.answered out answer) s new from to)
      → AnswersLine (Asks_read name a) (Says To_read read_says None (with_bytes out (of_pool answer))) host after from to
  read_line a out from to answer row h was =
      let there = found_pool host from h name place was at in let s = there.s in let g = s.core.pool.0 in
      let owned = owned_at h s h.pools place was.owned there.at in
      let done = row s there.stands in let a' = done.answers in
      let own = read_on (IsHeld h g) s a a'.moves a'.reply a'.is (owners h s owned) in
      pool_moved (Asks_read name a) name (λ h. ReadLine h a) (λ h acts reply line. line) (Says To_read read_says None (with_bytes out (of_pool answer)))
      host from to h place at.pool new there a'.moves (marked (Marks g (Gives_for a a'.reply)) g a'.moves) (To_read a'.reply)
      (marked_moves g (Gives_for a a'.reply) h a'.moves)
      (inl (record { of = a'.reply; reply_is = refl; answer_is = bytes_too answer ∙ ap of_pool a'.says_so })) was own
      (a'.reply, refl, by_marked h s (λ vs. Gives_for a a'.reply) (λ vs. RowRead s a vs a'.reply) a'.moves a'.is own) a'.leaves done.calls
    where
      bytes_too : (answer : Result (Unit {0}) ReadFault) → with_bytes out (of_pool answer) ≡ of_pool (reads.answered out answer)
      bytes_too (Ok done) = refl
      bytes_too (Err why) = refl

-- `logs` changes nothing.
pub logs_line : {A E : Type 0} (told : A → List NamedLog) (host : HostParts) (name : List ℕ) (place : ℕ) (at : IsCalledAt name host.pools place) (bank : BankView)
    (answer : Result A E) → ((s : PoolState) → Stands at.pool s → IfOk answer (λ logs. RowLogs s [] (told logs)))
    → AnswersLine (Asks_logs name) (TellsLogs told (of_pool answer)) host host bank bank
logs_line told host name place at bank (Ok logs) row h was =
    let there = found_pool host bank h name place was at in let s = there.s in record {
      entry = record { asked = Asks_logs name; second = h.second; acts = []; reply = To_logs (told logs) };
      asks = refl;
      hears = refl;
      says = refl;
      line = record {
        row = inl (subst (λ found. OnPool found (LogsLine h) [] (To_logs (told logs))) (sym there.is_named)
            (told logs, refl, by_moves h s (λ vs. RowLogs s vs (told logs)) [] (row s there.stands) tt));
        here = tt;
        calls = makes_none;
        stands = was;
      };
    }
logs_line told host name place at bank (Err why) row h was =
    no_memory (Asks_logs name) name LogsLine (λ h acts reply line. line) (TellsLogs told (Err (refused.Pool why))) host host bank h tt refl was
