-- The headline, from what a host knows of a pool and from the rows of a run.
use Rattle.bank_core.specs.Disk.{run}
use Rattle.txg_history.specs.Records.{Rec, IsIn, key}
use Rattle.std.proofs.Common.{◌≡◌, ◌≢◌, ◌⊎◌, inl, inr, ℕ, ◌<◌, ◌≤◌, Bool, true, false, List, [], ◌∷◌, ◌++◌, take, map, remove, Some, refl, sym, ap, ◌∙◌, subst, arith, Option, None}
use Rattle.mp_base.specs.Outside.{Rose}
use Rattle.mp_base.specs.declared.number.Guid.{Guid}
use Rattle.bank_core.specs.Calls.{AllCaused}
use Rattle.txg_history.specs.Events.{Event, Clears}
use Rattle.txg_history.specs.Moves.{Mays}
use Rattle.txg_history.specs.Pages.{Codec, IsClash}
use Rattle.txg_history.specs.Pools.{Pool, pool_after}
use Rattle.txg_history.specs.Survival.{Survives}
use Rattle.txg_history.proofs.Folding.{mays_second, pool_more}
use Rattle.txg_history.proofs.ScansBring.{cleared_copied, groups_leave}
use Rattle.txg_history.proofs.Surviving.{survives_sound}
use Rattle.pool_moves.specs.AwayRows.{OfflineReply, Gone, Required, LeastOut, is_offline, is_spare, leaf_named, siblings, OfflineLeaf, OfflineHere, OfflineBy}
use Rattle.pool_moves.specs.Leaves.{LeafSeen, Seat}
use Rattle.pool_moves.specs.LineRows.{TurnReply, SyncReply, Ended, Committed, Suspended, RowTurn, SyncBy, RowSync}
use Rattle.pool_moves.specs.Missing.{AllMissed}
use Rattle.pool_moves.specs.Moves.{Move}
use Rattle.pool_moves.specs.ReadRow.{ReadReply, Gives, Exhausted, NoAddress, RowRead, made_in}
use Rattle.pool_moves.specs.Showing.{LeafShown}
use Rattle.pool_moves.specs.StampRow.{FaultOn}
use Rattle.pool_moves.specs.States.{PoolState, Side}
use Rattle.pool_moves.specs.Refusing.{FreezeRefusal}
use Rattle.pool_moves.specs.TreeRows.{Graft, place_named, TreeRefusal, graft_refusal, GraftReply, DeviceFault, DetachReply, Detached, Undone, Required as DetachRequired, DetachBehind, DetachFor, DetachLeaf, DetachBy, RowDetach}
use Rattle.pool_moves.proofs.DetachWalks.{detach_walks}
use Rattle.pool_moves.proofs.Keeping.{walk_keeps}
use Rattle.pool_moves.proofs.LineWalks.{turn_walks, sync_walks}
use Rattle.pool_moves.proofs.Missing.{exhausted_missed}
use Rattle.pool_moves.proofs.ReadWalks.{read_right}
use Rattle.pool_runs.specs.Acts.{Act, Gives_for, Marks, Hears, calls_along, pool_along}
use Rattle.pool_runs.specs.Committing.{FreezesNone, CommitsAll, FindsPool, CommitsGroup}
use Rattle.pool_runs.specs.Counting.{has_leaf_at, HasRisen, RoseAt, HasLostBoard, Suspends, FailsOpening, IsCounted, LosesBoard, LosesFreeze, LosesSince, FailsNamed}
use Rattle.pool_runs.specs.Devices.{number_in, size_in}
use Rattle.pool_runs.specs.Fairness.{AreFair, AreFairLooks}
use Rattle.pool_runs.specs.Headline.{TakesFor, IsRequiredFor, Headline}
use Rattle.pool_runs.specs.HostRows.{AreMade, ReadLine, TurnLine, SyncLine, OfflineLine, OnPool, RowOf, HostRow, acts_in, IsRun, GraftUnless, GraftOnto, GraftIf, GraftLine, DetachLine}
use Rattle.pool_runs.specs.Hosts.{Host, named, host_by, host_along, holder}
use Rattle.pool_runs.specs.Writing.{IsLostRead}
use Rattle.pool_runs.proofs.Known.{Knows, MayActs}
use Rattle.pool_runs.specs.Knowing.{HasSeats}
use Rattle.pool_runs.specs.Lines.{Asks_read, Asks_turn, Asks_sync, Asks_offline, Asks_import, Asks_create, Reply, To_read, To_turn, To_sync, To_import, To_offline, To_create, ImportReply, Opened, NameOpen, TooManyPools, LastNumber, NothingFound, PageLost, Unopened, No_memory, Entry, Asks_graft, Asks_detach, To_graft, To_detach}
use Rattle.pool_runs.specs.Moments.{Moment, events_at, pool_at, past_at, host_at, LineOf, pool_before, host_before, IsOpenAs}
use Rattle.pool_runs.specs.Pasts.{Past, pool_of, Left, BeginsRun, HasFrozen}
use Rattle.pool_runs.proofs.Acting.{history_pool}
use Rattle.pool_runs.proofs.Answering.{all_answer, does_calls, marked_calls}
use Rattle.pool_runs.proofs.Committing.{sync_all, first_all, does_pool, turn_all, detach_all}
use Rattle.pool_runs.proofs.SuspendedAckNothing.{first_of_two}
use Rattle.pool_runs.proofs.Suspending.{turn_counts, sync_counts}
use Rattle.pool_runs.proofs.GraftsNameTheFailed.{graft_counts}
use Rattle.pool_runs.proofs.Finding.{import_finds}
use Rattle.pool_runs.proofs.LostReads.{exhausted_unwritten, outside_only}
use Rattle.pool_runs.proofs.Knowing.{may_more, acts_keep}
use Rattle.pool_runs.proofs.DetachesLoseATop.{detach_loses}
use Rattle.pool_runs.proofs.Failing.{caught_rose}
use Rattle.pool_runs.proofs.CreatesNameTheFailed.{create_names}
use Rattle.pool_runs.proofs.ImportsLoseATop.{import_loses}
use Rattle.pool_runs.proofs.Losing.{turn_loses}
use Rattle.pool_runs.proofs.SyncsLoseATop.{sync_loses}
use Rattle.pool_runs.proofs.Grafting.{graft_calls, entry_keeps}
use Rattle.pool_runs.proofs.Moments.{has_moments, acts_mays, keeps_all, may_take, acts_table, host_more, run_at, run_front}
use Rattle.pool_runs.proofs.Pasting.{begins_known, then_pool, then_called, then_allowed, live_frozen}
use Rattle.pool_runs.proofs.Seating.{seat_as, detach_as, some_seat, along_as}
use Rattle.pool_runs.proofs.Running.{named_open, heard, run_may}
use Rattle.pool_runs.proofs.Writing.{entry_writes}

-- What a run stands on: the devices are as the past leaves them, the host knows the pool, the acts that are left may be made, and then come the entries.
pub record Follows (c : Codec) (past : Past) (h : Host) (acts : List Act) (entries : List Entry) : Type 0 where
  pub left : Left c past h
  pub knows : Knows c h (pool_of past)
  pub may : MayActs c h (pool_of past) acts
  pub run : IsRun c (host_along acts h) entries
  pub at_rest : (pool_of past).scan.running ≡ false

all_may : (c : Codec) (past : Past) (h : Host) (acts : List Act) (entries : List Entry) → Follows c past h acts entries → MayActs c h (pool_of past) (acts ++ acts_in entries)
all_may c past h acts entries f = may_more c h (pool_of past) acts (acts_in entries) f.may (λ fair known. run_may c (host_along acts h) (pool_along acts (pool_of past)) entries known f.run) f.knows

-- Moments.
at_known : (c : Codec) (past : Past) (h : Host) (acts : List Act) (entries : List Entry) → Follows c past h acts entries → (m : Moment c past acts entries) → Knows c (host_at h m) (pool_at m)
at_known c past h acts entries f m = acts_keep c h (pool_of past) (acts ++ acts_in entries) f.knows (all_may c past h acts entries f) m.count m.fair

at_mays : (c : Codec) (past : Past) (h : Host) (acts : List Act) (entries : List Entry) → Follows c past h acts entries → (m : Moment c past acts entries) → Mays c (pool_of past) (events_at m)
at_mays c past h acts entries f m = acts_mays c h (pool_of past) (take m.count (acts ++ acts_in entries))
    (may_take c h (pool_of past) (acts ++ acts_in entries) m.count (all_may c past h acts entries f)) m.fair

pub at_pool : (c : Codec) (past : Past) (acts : List Act) (entries : List Entry) (m : Moment c past acts entries) → pool_of (past_at m) ≡ pool_at m
at_pool c past acts entries m = then_pool past (events_at m) ∙ sym (history_pool (take m.count (acts ++ acts_in entries)) (pool_of past))

at_left : (c : Codec) (past : Past) (h : Host) (acts : List Act) (entries : List Entry) → Follows c past h acts entries → (m : Moment c past acts entries) → Left c (past_at m) (host_at h m)
at_left c past h acts entries f m = let known = at_known c past h acts entries f m in
    let table_is = acts_table (take m.count (acts ++ acts_in entries)) h in
    let same = at_pool c past acts entries m in record {
      allowed = then_allowed c past (events_at m) f.left.allowed (at_mays c past h acts entries f m);
      names = λ name d is. ap (λ called. called d) (then_called past (events_at m)) ∙ f.left.names name d (sym (ap (λ table. number_in name table) table_is) ∙ is);
      sizes = λ d one. ap (λ q. q.size d) same ∙ known.sizes d one;
      disk = λ d s one. ap (λ q. q.sectors d s) same ∙ known.disk d s one;
      stands = λ s is number. subst (HasSeats c s) (sym same) (known.stands s is (number ∙ ap (λ q. q.pool.0) same));
    }

at_contents : (c : Codec) (past : Past) (h : Host) (acts : List Act) (entries : List Entry) → Follows c past h acts entries → (m : Moment c past acts entries) (r : Rec) → IsIn r (pool_at m).live
    → HasFrozen (past_at m) r
at_contents c past h acts entries f m r live = live_frozen c (past_at m) (at_left c past h acts entries f m).allowed r (subst (λ q. IsIn r q.live) (sym (at_pool c past acts entries m)) live)

-- Scans.
takes_for : (c : Codec) (p : Pool) (before : List Event) (v : Event) (d g : ℕ) → Survives c p → p.scan.running ≡ false → Mays c p (before ++ (v ∷ [])) → (pool_after before p).member d ≡ true
    → (pool_after before p).owes d g ≡ true → (pool_after (before ++ (v ∷ [])) p).owes d g ≡ false → TakesFor p before v d g
takes_for c p before (Clears e) d g sv rest may member was now =
    let mine : e ≡ d = groups_leave c (pool_after before p) (Clears e) d g (mays_second c before (Clears e ∷ []) p may).0 was (sym (ap (λ q. q.owes d g) (pool_more before (Clears e ∷ []) p)) ∙ now) in (
      mine,
      cleared_copied c p before d g sv rest (subst (λ x. Mays c p (before ++ (Clears x ∷ []))) mine may) member was
          (subst (λ x. (pool_after (before ++ (Clears x ∷ [])) p).owes d g ≡ false) mine now),
    )
takes_for c p before v d g sv rest may member was now =
    groups_leave c (pool_after before p) v d g (mays_second c before (v ∷ []) p may).0 was (sym (ap (λ q. q.owes d g) (pool_more before (v ∷ []) p)) ∙ now)

at_scans : (c : Codec) (past : Past) (h : Host) (acts : List Act) (entries : List Entry) → Follows c past h acts entries → (m : Moment c past acts entries) (before : List Event) (v : Event) (d g : ℕ)
    → events_at m ≡ before ++ (v ∷ []) → (pool_after before (pool_of past)).member d ≡ true → (pool_after before (pool_of past)).owes d g ≡ true → (pool_at m).owes d g ≡ false → TakesFor (pool_of past) before v d g
at_scans c past h acts entries f m before v d g is member was now = takes_for c (pool_of past) before v d g f.knows.survives f.at_rest
    (subst (Mays c (pool_of past)) is (at_mays c past h acts entries f m)) member was
    (sym (ap (λ q. q.owes d g) (history_pool (take m.count (acts ++ acts_in entries)) (pool_of past) ∙ ap (λ vs. pool_after vs (pool_of past)) is)) ∙ now)

-- Lines.
record Meets (c : Codec) (h : Host) (p : Pool) (e : Entry) : Type 0 where
  knows : Knows c h p
  row : HostRow c h e

meets : (c : Codec) (past : Past) (h : Host) (acts : List Act) (entries : List Entry) → Follows c past h acts entries → (l : LineOf c past acts entries) → Meets c (host_before h l) (pool_before l) l.entry
meets c past h acts entries f l =
    let whole : IsRun c (host_along acts h) (l.before ++ (l.entry ∷ l.later)) = subst (IsRun c (host_along acts h)) l.all f.run in
    let front : Follows c past h acts l.before = record { left = f.left; knows = f.knows; may = f.may; run = run_front c (host_along acts h) l.before (l.entry ∷ l.later) whole; at_rest = f.at_rest } in record {
      knows = heard c (host_along (acts ++ acts_in l.before) h) (pool_before l) l.entry.second
          (keeps_all c h (pool_of past) (acts ++ acts_in l.before) f.knows (all_may c past h acts l.before front) l.fair);
      row = subst (λ x. HostRow c (host_by (Hears l.entry.second) x) l.entry) (sym (host_more acts (acts_in l.before) h)) (run_at c (host_along acts h) l.before l.entry l.later whole);
    }

-- a row of an open pool
on_open : (h : Host) (name : List ℕ) (s : PoolState) (Line : PoolState → List Act → Reply → Type 0) (acts : List Act) (reply : Reply) → named name h.pools ≡ Some s
    → OnPool (named name h.pools) Line acts reply → Line s acts reply
on_open h name s Line acts reply is row = subst (λ found. OnPool found Line acts reply) is row

-- replies differ
read_reply : (a b : ReadReply) → To_read a ≡ To_read b → a ≡ b
read_reply a b e = cc

offline_reply : (a b : OfflineReply) → To_offline a ≡ To_offline b → a ≡ b
offline_reply a b e = cc

detach_reply : (a b : DetachReply) → To_detach a ≡ To_detach b → a ≡ b
detach_reply a b e = cc

detach_not_memory : {A : Type 0} (a : DetachReply) → To_detach a ≡ No_memory → A
detach_not_memory a e = absurd (cc)

turn_reply : (a b : TurnReply) → To_turn a ≡ To_turn b → a ≡ b
turn_reply a b e = cc

turn_not_memory : {A : Type 0} (a : TurnReply) → To_turn a ≡ No_memory → A
turn_not_memory a e = absurd (cc)

sync_reply : (a b : SyncReply) → To_sync a ≡ To_sync b → a ≡ b
sync_reply a b e = cc

import_not_memory : {A : Type 0} (a : ImportReply) → To_import a ≡ No_memory → A
import_not_memory a e = absurd (cc)

sync_not_memory : {A : Type 0} (a : SyncReply) → To_sync a ≡ No_memory → A
sync_not_memory a e = absurd (cc)

read_not_memory : {A : Type 0} (a : ReadReply) → To_read a ≡ No_memory → A
read_not_memory a e = absurd (cc)

offline_not_memory : {A : Type 0} (a : OfflineReply) → To_offline a ≡ No_memory → A
offline_not_memory a e = absurd (cc)

line_reads : (c : Codec) (h : Host) (p : Pool) (e : Entry) (name : List ℕ) (a : ℕ) (s : PoolState) (bytes : List ℕ) → Meets c h p e → e.asked ≡ Asks_read name a → IsOpenAs p h name s
    → e.reply ≡ To_read (Gives bytes) → (bytes ≡ p.written a) ⊎ IsClash (p.written a) bytes
line_reads c h p e name a s bytes met asked at is = of met.row
  where
    of : HostRow c h e → (bytes ≡ p.written a) ⊎ IsClash (p.written a) bytes
    of (inl row) = let line = on_open h name s (ReadLine h a) e.acts e.reply at.named (subst (λ x. RowOf c h x e.acts e.reply) asked row.0) in
        let has = met.knows.stands s (named_open name s h.pools at.named) at.ours in
        read_right c s (record { pool = p; seats = has.0 }) a line.2.moves bytes has.1
        (subst (RowRead s a line.2.moves) (read_reply line.0 (Gives bytes) (sym line.1 ∙ is)) line.2.row)
    of (inr out) = read_not_memory (Gives bytes) (sym is ∙ out.says)

line_loses : (c : Codec) (h : Host) (p : Pool) (e : Entry) (name : List ℕ) (a : ℕ) (s : PoolState) (shown : List LeafShown) → Meets c h p e → e.asked ≡ Asks_read name a → IsOpenAs p h name s
    → e.reply ≡ To_read (Exhausted shown) → IsLostRead p s a (calls_along e.acts)
line_loses c h p e name a s shown met asked at is = of met.row
  where
    of : HostRow c h e → IsLostRead p s a (calls_along e.acts)
    of (inl row) = let line = on_open h name s (ReadLine h a) e.acts e.reply at.named (subst (λ x. RowOf c h x e.acts e.reply) asked row.0) in
        let has = met.knows.stands s (named_open name s h.pools at.named) at.ours in
        let calls : calls_along e.acts ≡ made_in line.2.moves = ap calls_along line.2.are ∙ marked_calls (Marks s.core.pool.0 (Gives_for a line.0)) s.core.pool.0 line.2.moves refl in
        let made : AreMade h (made_in line.2.moves) = subst (AreMade h) calls row.1 in
        let told = subst (RowRead s a line.2.moves) (read_reply line.0 (Exhausted shown) (sym line.1 ∙ is)) line.2.row in
        let none = exhausted_unwritten s a line.2.moves shown told in record {
          unwritten = none.0;
          unfrozen = none.1;
          missed = subst (λ made. AllMissed (s.core.committed (key 0 a)) made (run made p.sectors) s.core.leaves) (sym calls)
              (exhausted_missed c s (record { pool = p; seats = has.0 }) a line.2.moves shown has.1
              (all_answer h.table (made_in line.2.moves) h.disk p.sectors made.here (λ d x one. sym (met.knows.disk d x one)) made.answer) told);
        }
    of (inr out) = read_not_memory (Exhausted shown) (sym is ∙ out.says)

line_outside : (c : Codec) (h : Host) (p : Pool) (e : Entry) (name : List ℕ) (a : ℕ) (s : PoolState) (limit : ℕ) → Meets c h p e → e.asked ≡ Asks_read name a → IsOpenAs p h name s
    → e.reply ≡ To_read (NoAddress limit) → (limit ≡ s.own.blocks) × (s.own.blocks ≤ a)
line_outside c h p e name a s limit met asked at is = of met.row
  where
    of : HostRow c h e → (limit ≡ s.own.blocks) × (s.own.blocks ≤ a)
    of (inl row) = let line = on_open h name s (ReadLine h a) e.acts e.reply at.named (subst (λ x. RowOf c h x e.acts e.reply) asked row.0) in
        outside_only s a line.2.moves limit (subst (RowRead s a line.2.moves) (read_reply line.0 (NoAddress limit) (sym line.1 ∙ is)) line.2.row)
    of (inr out) = read_not_memory (NoAddress limit) (sym is ∙ out.says)

-- An import finds the pool.
line_opens : (c : Codec) (h : Host) (p : Pool) (e : Entry) → Meets c h p e → e.asked ≡ Asks_import p.name → AreFair c p e.acts → AreFairLooks c p e.acts
    → FindsPool c h p (pool_along e.acts p) (host_along e.acts h) e.acts e.reply
line_opens c h p e met asked fair looks = of met.row
  where
    of : HostRow c h e → FindsPool c h p (pool_along e.acts p) (host_along e.acts h) e.acts e.reply
    of (inl row) = import_finds c h p p.name e.acts e.reply met.knows refl row.1 fair looks (subst (λ x. RowOf c h x e.acts e.reply) asked row.0)
    of (inr out) = record {
      some = λ says. import_not_memory NothingFound (sym says ∙ out.says);
      opened = λ n says. import_not_memory (Opened n) (sym says ∙ out.says);
      is_open = λ n says. import_not_memory (Opened n) (sym says ∙ out.says);
      loses = λ page shown says. import_not_memory (PageLost page shown) (sym says ∙ out.says);
      name_open = λ says. import_not_memory NameOpen (sym says ∙ out.says);
      too_many = λ limit count says. import_not_memory (TooManyPools limit count) (sym says ∙ out.says);
      ended = λ limit count says. import_not_memory (LastNumber limit count) (sym says ∙ out.says);
    }

-- A sync acknowledges what was written.
line_syncs : (c : Codec) (h : Host) (p : Pool) (e : Entry) (name : List ℕ) (s : PoolState) (n : ℕ) → Meets c h p e → e.asked ≡ Asks_sync name → IsOpenAs p h name s
    → e.reply ≡ To_sync (Ended (Committed n)) → CommitsAll p (pool_along e.acts p) n
line_syncs c h p e name s n met asked at is = of met.row
  where
    of : HostRow c h e → CommitsAll p (pool_along e.acts p) n
    of (inl row) = let line = on_open h name s (SyncLine c h) e.acts e.reply at.named (subst (λ x. RowOf c h x e.acts e.reply) asked row.0) in
        let has = met.knows.stands s (named_open name s h.pools at.named) at.ours in
        let t : Side = record { pool = p; seats = has.0 } in
        let vs = line.2.moves in
        let done : RowSync c (size_in h.table) s vs (Ended (Committed n)) = subst (RowSync c (size_in h.table) s vs) (sync_reply line.0 (Ended (Committed n)) (sym line.1 ∙ is)) line.2.row in
        let kept = walk_keeps c vs s t
        (sync_walks c (size_in h.table) s t vs (Ended (Committed n)) has.1 met.knows.sizes done) has.1 in
        subst (λ q. CommitsAll p q n) (sym (ap (λ a. pool_along a p) line.2.are ∙ does_pool s.core.pool.0 vs t (sym at.ours)))
        (sync_all c (size_in h.table) s t vs n has.1 kept done)
    of (inr out) = sync_not_memory (Ended (Committed n)) (sym is ∙ out.says)

line_first : (c : Codec) (h : Host) (p : Pool) (e : Entry) (name : List ℕ) (s : PoolState) (reply : SyncReply) → Meets c h p e → e.asked ≡ Asks_sync name → IsOpenAs p h name s
    → s.core.group.frozen ≡ true → FreezesNone reply → e.reply ≡ To_sync reply → (n : ℕ) × CommitsGroup p (pool_along e.acts p) n
line_first c h p e name s reply met asked at frozen none is = of met.row
  where
    of : HostRow c h e → (n : ℕ) × CommitsGroup p (pool_along e.acts p) n
    of (inl row) = let line = on_open h name s (SyncLine c h) e.acts e.reply at.named (subst (λ x. RowOf c h x e.acts e.reply) asked row.0) in
        let has = met.knows.stands s (named_open name s h.pools at.named) at.ours in
        let t : Side = record { pool = p; seats = has.0 } in
        let vs = line.2.moves in
        let done : RowSync c (size_in h.table) s vs reply = subst (RowSync c (size_in h.table) s vs) (sync_reply line.0 reply (sym line.1 ∙ is)) line.2.row in
        let all = first_all c (size_in h.table) s t vs reply has.1 (sync_walks c (size_in h.table) s t vs reply has.1 met.knows.sizes done) none
        (subst (λ f. SyncBy f c (size_in h.table) s vs reply) frozen done) in
        (all.0, subst (λ q. CommitsGroup p q all.0) (sym (ap (λ a. pool_along a p) line.2.are ∙ does_pool s.core.pool.0 vs t (sym at.ours))) all.1)
    of (inr out) = sync_not_memory reply (sym is ∙ out.says)

-- A sync that tells another group than the one which was frozen acknowledged that one.
line_second : (c : Codec) (h : Host) (p : Pool) (e : Entry) (name : List ℕ) (s : PoolState) (group : ℕ) (top : Guid) (faults : ℕ) → Meets c h p e
    → e.asked ≡ Asks_sync name → IsOpenAs p h name s → s.core.group.frozen ≡ true → s.core.group.first ≢ group
    → e.reply ≡ To_sync (Ended (Suspended group top faults)) → (n : ℕ) × CommitsGroup p (pool_along e.acts p) n
line_second c h p e name s group top faults met asked at frozen other is = of met.row
  where
    reply : SyncReply
    reply = Ended (Suspended group top faults)

    of : HostRow c h e → (n : ℕ) × CommitsGroup p (pool_along e.acts p) n
    of (inl row) = let line = on_open h name s (SyncLine c h) e.acts e.reply at.named (subst (λ x. RowOf c h x e.acts e.reply) asked row.0) in
        let has = met.knows.stands s (named_open name s h.pools at.named) at.ours in
        let t : Side = record { pool = p; seats = has.0 } in
        let vs = line.2.moves in
        let done : RowSync c (size_in h.table) s vs reply = subst (RowSync c (size_in h.table) s vs) (sync_reply line.0 reply (sym line.1 ∙ is)) line.2.row in
        let all = first_of_two c (size_in h.table) s t vs group top faults has.1 (sync_walks c (size_in h.table) s t vs reply has.1 met.knows.sizes done)
        frozen other (subst (λ f. SyncBy f c (size_in h.table) s vs reply) frozen done) in
        (all.0, subst (λ q. CommitsGroup p q all.0) (sym (ap (λ a. pool_along a p) line.2.are ∙ does_pool s.core.pool.0 vs t (sym at.ours))) all.1)
    of (inr out) = sync_not_memory reply (sym is ∙ out.says)

-- A turn acknowledges its group.
line_turns : (c : Codec) (h : Host) (p : Pool) (e : Entry) (name : List ℕ) (s : PoolState) (n : ℕ) → Meets c h p e → e.asked ≡ Asks_turn name
    → IsOpenAs p h name s → e.reply ≡ To_turn (Committed n) → CommitsGroup p (pool_along e.acts p) n
line_turns c h p e name s n met asked at is = of met.row
  where
    of : HostRow c h e → CommitsGroup p (pool_along e.acts p) n
    of (inl row) = let line = on_open h name s (TurnLine c h) e.acts e.reply at.named (subst (λ x. RowOf c h x e.acts e.reply) asked row.0) in
        let has = met.knows.stands s (named_open name s h.pools at.named) at.ours in
        let t : Side = record { pool = p; seats = has.0 } in
        let vs = line.2.moves in
        let done : RowTurn c (size_in h.table) s vs (Committed n) = subst (RowTurn c (size_in h.table) s vs) (turn_reply line.0 (Committed n) (sym line.1 ∙ is)) line.2.row in
        subst (λ q. CommitsGroup p q n) (sym (ap (λ a. pool_along a p) line.2.are ∙ does_pool s.core.pool.0 vs t (sym at.ours)))
        (turn_all c (size_in h.table) s t vs n has.1 (turn_walks c (size_in h.table) s t vs (Committed n) has.1 met.knows.sizes done) done)
    of (inr out) = turn_not_memory (Committed n) (sym is ∙ out.says)

-- A detach acknowledges what was written.
line_detaches : (c : Codec) (h : Host) (p : Pool) (e : Entry) (name leaf : List ℕ) (s : PoolState) (n : ℕ) → Meets c h p e → e.asked ≡ Asks_detach name leaf → IsOpenAs p h name s
    → e.reply ≡ To_detach (Detached n) → CommitsAll p (pool_along e.acts p) n
line_detaches c h p e name leaf s n met asked at is = of met.row
  where
    of : HostRow c h e → CommitsAll p (pool_along e.acts p) n
    of (inl row) = let line = on_open h name s (DetachLine c h leaf) e.acts e.reply at.named (subst (λ x. RowOf c h x e.acts e.reply) asked row.0) in
        let has = met.knows.stands s (named_open name s h.pools at.named) at.ours in
        let t : Side = record { pool = p; seats = has.0 } in
        let g = s.core.pool.0 in
        let seat = some_seat c s t leaf line.2.seat has.1 in
        let vs = map (seat_as seat.0) line.2.moves in
        let done : RowDetach c (size_in h.table) s leaf seat.0 vs (Detached n) = detach_as c (size_in h.table) s leaf line.2.seat seat.0 line.2.moves (Detached n)
        (subst (RowDetach c (size_in h.table) s leaf line.2.seat line.2.moves) (detach_reply line.0 (Detached n) (sym line.1 ∙ is)) line.2.row) in
        subst (λ q. CommitsAll p q n)
        (sym (ap (λ a. pool_along a p) line.2.are ∙ (sym (along_as g seat.0 line.2.moves p) ∙ does_pool g vs t (sym at.ours))))
        (detach_all c (size_in h.table) s t leaf seat.0 vs n has.1 (detach_walks c (size_in h.table) s t leaf seat.0 vs (Detached n) has.1 met.knows.sizes seat.1 done) done)
    of (inr out) = detach_not_memory (Detached n) (sym is ∙ out.says)

-- The outage rule.
least_one : (leaves : List LeafSeen) (g k : ℕ) → LeastOut leaves g → LeastOut leaves k → g ≡ k
least_one leaves g k a b = meet (low g k)
  where
    low : (g k : ℕ) → (g < k) ⊎ ((g ≡ k) ⊎ (k < g))
    low g k = grind (arith)

    meet : (g < k) ⊎ ((g ≡ k) ⊎ (k < g)) → g ≡ k
    meet (inl below) = absurd (let no : true ≡ false = sym a.out ∙ b.least g a.first below in cc)
    meet (inr (inl same)) = same
    meet (inr (inr below)) = absurd (let no : true ≡ false = sym b.out ∙ a.least k b.first below in cc)

required_same : (a b : ℕ) → Required a ≡ Required b → a ≡ b
required_same a b e = cc

gone_not_required : {A : Type 0} (g : ℕ) → Gone ≡ Required g → A
gone_not_required g e = absurd (cc)

required_leaf : (s : PoolState) (leaf : LeafSeen) (temporary : Bool) (vs : List Move) (r : OfflineReply) (reply : Reply) (group : ℕ) → reply ≡ To_offline r
    → OfflineLeaf false s leaf temporary vs r → IsRequiredFor leaf s.core.leaves group reply (To_offline (Required group))
required_leaf s leaf temporary vs r reply group says (inl row) = record {
  only = λ is. subst (LeastOut (siblings leaf s.core.leaves)) (required_same row.0 group (sym row.3 ∙ offline_reply r (Required group) (sym says ∙ is))) row.1;
  always = λ least. inl (says ∙ ap To_offline (row.3 ∙ ap Required (least_one (siblings leaf s.core.leaves) row.0 group row.1 least)));
}
required_leaf s leaf temporary vs r reply group says (inr row) = record {
  only = λ is. gone_not_required group (sym row.2 ∙ offline_reply r (Required group) (sym says ∙ is));
  always = λ least. absurd (row.0 (group, least.first, least.out));
}

line_required : (c : Codec) (h : Host) (p : Pool) (e : Entry) (name device : List ℕ) (temporary : Bool) (s : PoolState) (leaf : LeafSeen) (group : ℕ) → Meets c h p e
    → e.asked ≡ Asks_offline name device temporary → IsOpenAs p h name s → leaf_named device s.core.leaves ≡ Some leaf → is_spare s leaf ≡ false → is_offline leaf.own.mode ≡ false
    → IsRequiredFor leaf s.core.leaves group e.reply (To_offline (Required group))
line_required c h p e name device temporary s leaf group met asked at is plain up = of met.row
  where
    of : HostRow c h e → IsRequiredFor leaf s.core.leaves group e.reply (To_offline (Required group))
    of (inl row) = let line = on_open h name s (OfflineLine h device temporary) e.acts e.reply at.named (subst (λ x. RowOf c h x e.acts e.reply) asked row.0) in
        let found : OfflineBy (Some leaf) s device temporary line.2.moves line.0 = subst (λ x. OfflineBy x s device temporary line.2.moves line.0) is line.2.row in
        let here : OfflineLeaf (is_offline leaf.own.mode) s leaf temporary line.2.moves line.0 = subst (λ t. OfflineHere t s leaf temporary line.2.moves line.0) plain found in
        required_leaf s leaf temporary line.2.moves line.0 e.reply group line.1 (subst (λ t. OfflineLeaf t s leaf temporary line.2.moves line.0) up here)
    of (inr out) = record { only = λ is. offline_not_memory (Required group) (sym is ∙ out.says); always = λ least. inr out.says }

same_group : (a b : ℕ) → DetachRequired a ≡ DetachRequired b → a ≡ b
same_group a b e = cc

-- where the leaf may go, its line says nothing of it
for_not_required : {A : Type 0} (refusal : Option FreezeRefusal) (c : Codec) (size : ℕ → ℕ) (s : PoolState) (name : List ℕ) (leaf : LeafSeen) (seat : Seat) (vs : List Move) (r : DetachReply) (group : ℕ)
    → DetachFor refusal c size s name leaf seat vs r → r ≡ DetachRequired group → A
for_not_required (Some refusal) c size s name leaf seat vs r group row is = absurd (let no = sym row.1 ∙ is in cc)
for_not_required None c size s name leaf seat vs r group row is = absurd (by row.turn row.behind)
  where
    by : (turn : TurnReply) → DetachBehind turn size s name leaf seat row.rest r → ⊥
    by (Committed number) behind = let no = sym behind.1 ∙ is in cc
    by (Suspended g top faults) behind = let no = sym behind.1 ∙ is in cc
    by turn behind = behind

required_out : (c : Codec) (size : ℕ → ℕ) (s : PoolState) (name : List ℕ) (leaf : LeafSeen) (seat : Seat) (vs : List Move) (r : DetachReply) (reply : Reply) (group : ℕ) → reply ≡ To_detach r
    → DetachLeaf false c size s name leaf seat vs r → IsRequiredFor leaf s.core.leaves group reply (To_detach (DetachRequired group))
required_out c size s name leaf seat vs r reply group says (inl row) = record {
  only = λ is. subst (LeastOut (siblings leaf s.core.leaves)) (same_group row.0 group (sym row.3 ∙ detach_reply r (DetachRequired group) (sym says ∙ is))) row.1;
  always = λ least. inl (says ∙ ap To_detach (row.3 ∙ ap DetachRequired (least_one (siblings leaf s.core.leaves) row.0 group row.1 least)));
}
required_out c size s name leaf seat vs r reply group says (inr row) = record {
  only = λ is. for_not_required row.1.0 c size s name leaf seat vs r group row.1.2 (detach_reply r (DetachRequired group) (sym says ∙ is));
  always = λ least. absurd (row.0 (group, least.first, least.out));
}

line_required_out : (c : Codec) (h : Host) (p : Pool) (e : Entry) (name device : List ℕ) (s : PoolState) (leaf : LeafSeen) (group : ℕ) → Meets c h p e
    → e.asked ≡ Asks_detach name device → IsOpenAs p h name s → leaf_named device s.core.leaves ≡ Some leaf → s.core.group.frozen ≡ false
    → IsRequiredFor leaf s.core.leaves group e.reply (To_detach (DetachRequired group))
line_required_out c h p e name device s leaf group met asked at is idle = of met.row
  where
    of : HostRow c h e → IsRequiredFor leaf s.core.leaves group e.reply (To_detach (DetachRequired group))
    of (inl row) = let line = on_open h name s (DetachLine c h device) e.acts e.reply at.named (subst (λ x. RowOf c h x e.acts e.reply) asked row.0) in
        let found : DetachBy (Some leaf) c (size_in h.table) s device line.2.seat line.2.moves line.0 = subst (λ x. DetachBy x c (size_in h.table) s device line.2.seat line.2.moves line.0) is line.2.row in
        required_out c (size_in h.table) s device leaf line.2.seat line.2.moves line.0 e.reply group line.1
        (subst (λ t. DetachLeaf t c (size_in h.table) s device leaf line.2.seat line.2.moves line.0) idle found)
    of (inr out) = record { only = λ is. detach_not_memory (DetachRequired group) (sym is ∙ out.says); always = λ least. inr out.says }

-- Counts.
line_counts : (c : Codec) (h : Host) (p : Pool) (e : Entry) (from to : ℕ → ℕ) → Meets c h p e
    → AllCaused (calls_along e.acts) from to → IsCounted c p h e from to
line_counts c h p e from to met caused = record {
  turns = λ name s asked found bad. turns name s asked found bad met.row asked;
  tops = λ name s group top faults asked found says. tops name s group top faults asked found says met.row;
  syncs = λ name s group top faults asked at says. syncs name s group top faults asked at says met.row;
  detaches = λ name leaf s group top faults asked found says. detaches name leaf s group top faults asked found says met.row;
  grafts = λ graft name leaf new asked says. grafts graft name leaf new asked says met.row;
  imports = λ name group top faults asked says. imports name group top faults asked says met.row;
  creates = λ name blocks tops device asked says. creates name blocks tops device asked says met.row;
}
  where
    turns : (name : List ℕ) (s : PoolState) → (e.asked ≡ Asks_turn name) ⊎ (e.asked ≡ Asks_sync name) → named name h.pools ≡ Some s → Suspends e.reply → HostRow c h e
        → (e.asked ≡ Asks_turn name) ⊎ (e.asked ≡ Asks_sync name) → RoseAt (λ d. has_leaf_at d s) from to ⊎ HasLostBoard s
    turns name s asks found bad (inl row) (inl asked) = let line = on_open h name s (TurnLine c h) e.acts e.reply found (subst (λ x. RowOf c h x e.acts e.reply) asked row.0) in
        turn_counts c (size_in h.table) s line.2.moves line.0 from to line.2.row
        (subst (λ calls. AllCaused calls from to) (ap calls_along line.2.are ∙ does_calls s.core.pool.0 line.2.moves) caused) (subst Suspends line.1 bad)
    turns name s asks found bad (inl row) (inr asked) = let line = on_open h name s (SyncLine c h) e.acts e.reply found (subst (λ x. RowOf c h x e.acts e.reply) asked row.0) in
        sync_counts c (size_in h.table) s line.2.moves line.0 from to line.2.row
        (subst (λ calls. AllCaused calls from to) (ap calls_along line.2.are ∙ does_calls s.core.pool.0 line.2.moves) caused) (subst Suspends line.1 bad)
    turns name s asks found bad (inr out) asked = absurd (subst Suspends out.says bad)

    tops : (name : List ℕ) (s : PoolState) (group : ℕ) (top : Guid) (faults : ℕ) → e.asked ≡ Asks_turn name → named name h.pools ≡ Some s
        → e.reply ≡ To_turn (Suspended group top faults) → HostRow c h e → LosesBoard s (HasRisen from to) group top
    tops name s group top faults asked found says (inl row) =
        let line = on_open h name s (TurnLine c h) e.acts e.reply found (subst (λ x. RowOf c h x e.acts e.reply) asked row.0) in
        turn_loses (HasRisen from to) c (size_in h.table) s line.2.moves group top faults
        (caught_rose line.2.moves (calls_along e.acts) from to
        (ap calls_along line.2.are ∙ does_calls s.core.pool.0 line.2.moves) caused)
        (subst (RowTurn c (size_in h.table) s line.2.moves) (turn_reply line.0 (Suspended group top faults) (sym line.1 ∙ says)) line.2.row)
    tops name s group top faults asked found says (inr out) = turn_not_memory (Suspended group top faults) (sym says ∙ out.says)

    syncs : (name : List ℕ) (s : PoolState) (group : ℕ) (top : Guid) (faults : ℕ) → e.asked ≡ Asks_sync name
        → IsOpenAs p h name s → e.reply ≡ To_sync (Ended (Suspended group top faults)) → HostRow c h e
        → LosesBoard s (HasRisen from to) group top ⊎ LosesSince p s e from to group top
    syncs name s group top faults asked at says (inl row) =
        let line = on_open h name s (SyncLine c h) e.acts e.reply at.named
        (subst (λ x. RowOf c h x e.acts e.reply) asked row.0) in
        sync_loses c (size_in h.table) s p e line.2.moves group top faults from to
        (met.knows.stands s (named_open name s h.pools at.named) at.ours) at.ours line.2.are caused
        (subst (RowSync c (size_in h.table) s line.2.moves)
        (sync_reply line.0 (Ended (Suspended group top faults)) (sym line.1 ∙ says)) line.2.row)
    syncs name s group top faults asked at says (inr out) =
        sync_not_memory (Ended (Suspended group top faults)) (sym says ∙ out.says)

    detaches : (name leaf : List ℕ) (s : PoolState) (group : ℕ) (top : Guid) (faults : ℕ) → e.asked ≡ Asks_detach name leaf → named name h.pools ≡ Some s
        → e.reply ≡ To_detach (Undone group top faults) → HostRow c h e
        → LosesFreeze s (remove s.core.leaves (place_named leaf s.core.leaves)) (HasRisen from to) group top
    detaches name leaf s group top faults asked found says (inl row) =
        let line = on_open h name s (DetachLine c h leaf) e.acts e.reply found
        (subst (λ x. RowOf c h x e.acts e.reply) asked row.0) in
        detach_loses (HasRisen from to) c (size_in h.table) s leaf line.2.seat group top faults line.2.moves
        (caught_rose line.2.moves (calls_along e.acts) from to
        (ap calls_along line.2.are ∙ does_calls s.core.pool.0 line.2.moves) caused)
        (subst (RowDetach c (size_in h.table) s leaf line.2.seat line.2.moves)
        (detach_reply line.0 (Undone group top faults) (sym line.1 ∙ says)) line.2.row)
    detaches name leaf s group top faults asked found says (inr out) = detach_not_memory (Undone group top faults) (sym says ∙ out.says)

    grafts : (graft : Graft) (name leaf new : List ℕ) → e.asked ≡ Asks_graft graft name leaf new → e.reply ≡ To_graft DeviceFault → HostRow c h e
        → (d : ℕ) × (number_in new h.table ≡ Some d) × Rose (from d) (to d)
    grafts graft name leaf new asked says (inr out) = absurd (let no = sym says ∙ out.says in cc)
    grafts graft name leaf new asked says (inl row) = on (named name h.pools) (subst (λ x. RowOf c h x e.acts e.reply) asked row.0)
      where
        A : Type 0
        A = (d : ℕ) × (number_in new h.table ≡ Some d) × Rose (from d) (to d)

        same_graft : (a b : GraftReply) → To_graft a ≡ To_graft b → a ≡ b
        same_graft a b e = cc

        unless : (s : PoolState) (d : ℕ) → number_in new h.table ≡ Some d → (found : Option PoolState) → GraftUnless found h s graft leaf new d e.acts e.reply → A
        unless s d here (Some u) row = absurd (let no = sym row.1 ∙ says in cc)
        unless s d here None row = let line = row.2 in (
          d,
          here,
          graft_counts (size_in h.table) graft s leaf new d line.moves row.0 from to line.row
              (subst (λ calls. AllCaused calls from to) (ap calls_along line.are ∙ graft_calls s.core.pool.0 d line.moves) caused) (same_graft row.0 DeviceFault (sym row.1 ∙ says)),
        )

        onto : (s : PoolState) (number : Option ℕ) → number_in new h.table ≡ number → GraftOnto number h s graft leaf new e.acts e.reply → A
        onto s None here row = absurd (let no = sym row.1 ∙ says in cc)
        onto s (Some d) here row = unless s d here (holder new d h.pools) row

        refused : (s : PoolState) (refusal : Option TreeRefusal) → GraftIf refusal h s graft leaf new e.acts e.reply → A
        refused s (Some refusal) row = absurd (let no = sym row.1 ∙ says in cc)
        refused s None row = onto s (number_in new h.table) refl row

        on : (found : Option PoolState) → OnPool found (GraftLine h graft leaf new) e.acts e.reply → A
        on None row = absurd (let no = sym row.1 ∙ says in cc)
        on (Some s) row = refused s (graft_refusal graft s leaf (leaf_named leaf s.core.leaves)) row

    imports : (name : List ℕ) (group : ℕ) (top : Guid) (faults : ℕ) → e.asked ≡ Asks_import name
        → e.reply ≡ To_import (Unopened group top faults) → HostRow c h e → FailsOpening c e.acts from to top
    imports name group top faults asked says (inl row) = import_loses c h name e.acts e.reply group top faults from to
        (subst (λ x. RowOf c h x e.acts e.reply) asked row.0) caused says
    imports name group top faults asked says (inr out) = import_not_memory (Unopened group top faults) (sym says ∙ out.says)

    creates : (name : List ℕ) (blocks : ℕ) (tops : List (List (List ℕ))) (device : List ℕ) → e.asked ≡ Asks_create name blocks tops → e.reply ≡ To_create (FaultOn device) → HostRow c h e
        → FailsNamed h tops device from to
    creates name blocks tops device asked says (inl row) =
        create_names c h name blocks tops e.acts e.reply device from to
        (subst (λ x. RowOf c h x e.acts e.reply) asked row.0) caused says
    creates name blocks tops device asked says (inr out) = absurd (let no = sym says ∙ out.says in cc)

pub headline_from : (c : Codec) (past : Past) (h : Host) (acts : List Act) (entries : List Entry) → Follows c past h acts entries → Headline c past h acts entries
headline_from c past h acts entries f = record {
  moments = has_moments past acts entries;
  left = at_left c past h acts entries f;
  sound = λ m. survives_sound c (pool_at m) (at_known c past h acts entries f m).survives;
  contents = at_contents c past h acts entries f;
  opens = λ l asked fair looks. line_opens c (host_before h l) (pool_before l) l.entry (meets c past h acts entries f l) asked fair looks;
  commits = λ l. record {
    syncs = λ name s n asked at is. line_syncs c (host_before h l) (pool_before l) l.entry name s n (meets c past h acts entries f l) asked at is;
    first = λ name s reply asked at frozen none is. line_first c (host_before h l) (pool_before l) l.entry name s reply (meets c past h acts entries f l) asked at frozen none is;
    second = λ name s group top faults asked at frozen other is. line_second c (host_before h l) (pool_before l) l.entry name s group top faults
        (meets c past h acts entries f l) asked at frozen other is;
    turns = λ name s n asked at is. line_turns c (host_before h l) (pool_before l) l.entry name s n (meets c past h acts entries f l) asked at is;
    detaches = λ name leaf s n asked at is. line_detaches c (host_before h l) (pool_before l) l.entry name leaf s n (meets c past h acts entries f l) asked at is;
  };
  writes = λ l. let met = meets c past h acts entries f l in entry_writes c (host_before h l) (pool_before l) l.entry met.knows met.row;
  reads = λ l name a s asked at. record {
    gives = λ bytes is. line_reads c (host_before h l) (pool_before l) l.entry name a s bytes (meets c past h acts entries f l) asked at is;
    loses = λ shown is. line_loses c (host_before h l) (pool_before l) l.entry name a s shown (meets c past h acts entries f l) asked at is;
    outside = λ limit is. line_outside c (host_before h l) (pool_before l) l.entry name a s limit (meets c past h acts entries f l) asked at is;
  };
  required = λ l name device s leaf group at is. record {
    away = λ temporary asked plain up. line_required c (host_before h l) (pool_before l) l.entry name device temporary s leaf group (meets c past h acts entries f l) asked at is plain up;
    out = λ asked idle. line_required_out c (host_before h l) (pool_before l) l.entry name device s leaf group (meets c past h acts entries f l) asked at is idle;
  };
  scans = at_scans c past h acts entries f;
  keeps = λ l d is. entry_keeps c (host_before h l) l.entry d (pool_before l) (meets c past h acts entries f l).row is;
  counts = λ l from to caused. line_counts c (host_before h l) (pool_before l) l.entry from to (meets c past h acts entries f l) caused;
}

pub first_headline : (c : Codec) (past : Past) (h : Host) (entries : List Entry) → BeginsRun c past h → IsRun c h entries → Headline c past h [] entries
first_headline c past h entries begins run = headline_from c past h [] entries (record {
  left = begins.left;
  knows = begins_known c past h begins;
  may = tt;
  run = run;
  at_rest = begins.at_rest;
})
