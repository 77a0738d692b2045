-- The lines of a run may be made.
use Rattle.std.proofs.Common.{◌≡◌, ◌⊎◌, inl, inr, ⊎_elim, ℕ, ◌==◌, Bool, true, false, cond, List, [], ◌∷◌, ◌++◌, map, Option, Some, None, refl, sym, ap, ◌∙◌, subst}
use Rattle.std.specs.List.{AllByRecursion}
use Rattle.std.specs.Str.{bytes_eq}
use Rattle.bank_core.specs.Disk.{Noted, AllAnswer}
use Rattle.txg_history.specs.Events.{Known, Calls, Loses}
use Rattle.txg_history.specs.Moves.{Mays}
use Rattle.txg_history.specs.Pages.{Codec}
use Rattle.txg_history.specs.Pools.{Pool, after, pool_after}
use Rattle.txg_history.proofs.Logging.{by_bool}
use Rattle.pool_moves.specs.AwayRows.{is_listed, leaf_named, RowWrite, RowOffline}
use Rattle.pool_moves.specs.CommitRows.{RowLogs}
use Rattle.pool_moves.specs.Keeping.{Kept, Walks}
use Rattle.pool_moves.specs.LineRows.{IsSized, RowTurn, RowFreezeLine, RowSync}
use Rattle.pool_moves.specs.Moves.{Move, Makes, Finds, state_step, after_move}
use Rattle.pool_moves.specs.OnlineRow.{OnlineReply, FindMembers}
use Rattle.pool_moves.specs.ReadRow.{RowRead, made_in}
use Rattle.pool_moves.specs.ScanRows.{is_read_call, first_reads, FoundClash, RowStep, RowScrub, RowStopScrub}
use Rattle.pool_moves.specs.States.{PoolState, Side}
use Rattle.pool_moves.specs.TreeRows.{Graft, TreeRefusal, graft_refusal, GraftReply, DetachReply}
use Rattle.pool_moves.proofs.AwayWalks.{write_walks, offline_walks}
use Rattle.pool_moves.proofs.CommitWalks.{logs_walks}
use Rattle.pool_moves.proofs.DetachWalks.{detach_walks}
use Rattle.pool_moves.proofs.GraftWalks.{graft_walks}
use Rattle.pool_moves.proofs.Keeping.{move_keeps}
use Rattle.pool_moves.proofs.LineWalks.{turn_walks, freeze_line_walks, sync_walks}
use Rattle.pool_moves.proofs.OnlineWalks.{online_walks}
use Rattle.pool_moves.proofs.ReadWalks.{read_walks}
use Rattle.pool_moves.proofs.ScanEnds.{step_walks, scrub_walks, stop_walks}
use Rattle.pool_runs.specs.Acts.{Act, Mark, Gives_for, Steps_by, Seeks_by, Does, Marks, Shows, Hears, does, calls_along, events_for, pool_by, pool_along, Takes}
use Rattle.pool_runs.specs.Devices.{number_in, size_in}
use Rattle.pool_runs.specs.Fairness.{IsMember, IsFairMark}
use Rattle.pool_runs.specs.HostRows.{AreMade, ByMoves, is_reading, marked_behind, marked, ByMarked, found_in, device_for, ByOnline, OnlineLine, StepLine, ScrubLine, StopLine, WriteLine, ReadLine, FreezeLine, TurnLine, SyncLine, OfflineLine, LogsLine, OnPool, RowOf, HostRow, acts_of, acts_in, IsRun, graft_acts, ByGraft, GraftUnless, GraftOnto, GraftIf, ByDetach, GraftLine, DetachLine}
use Rattle.pool_runs.specs.Hosts.{Host, IsOpen, named, moved, host_by, host_along, holder}
use Rattle.pool_runs.specs.Importing.{read_in, all_shown}
use Rattle.pool_runs.proofs.Known.{Knows, MayActs}
use Rattle.pool_runs.specs.Knowing.{AreOwnActs}
use Rattle.pool_runs.specs.Lines.{Asked, Asks_nothing, Asks_write, Asks_read, Asks_freeze, Asks_turn, Asks_sync, Asks_offline, Asks_online, Asks_logs, Asks_step, Asks_scrub, Asks_stop, Asks_import, Asks_create, Reply, Entry, Asks_graft, Asks_detach}
use Rattle.pool_runs.proofs.Acting.{same_number, number_of_test, own_events}
use Rattle.pool_runs.proofs.Answering.{all_answer, marked_calls}
use Rattle.pool_runs.proofs.Creating.{create_may}
use Rattle.pool_runs.proofs.Importing.{import_may}
use Rattle.pool_runs.proofs.OpeningActs.{own_first, own_shown}
use Rattle.pool_runs.proofs.Knowing.{acts_number, may_more, moved_own, open_moved, other_may, own_does, walk_may}
use Rattle.pool_runs.proofs.ReadsBehind.{read_plain, read_untouched, seeks_behind}
use Rattle.pool_runs.proofs.Seating.{seat_as, detach_as, may_as, own_as, some_seat}
use Rattle.pool_runs.proofs.Sparing.{untouched_sparing}
use Rattle.pool_moves.proofs.Tests.{not_same}

-- the open pool of a name is open
named_by : (t : Bool) (u s : PoolState) (rest : Option PoolState) (pools : List PoolState) → (rest ≡ Some s → IsOpen s pools) → cond t (Some u) rest ≡ Some s → (s ≡ u) ⊎ IsOpen s pools
named_by true u s rest pools more is = inl (same u s is)
  where
    same : (a b : PoolState) → Some a ≡ Some b → b ≡ a
    same a b e = cc
named_by false u s rest pools more is = inr (more is)

pub named_open : (name : List ℕ) (s : PoolState) (pools : List PoolState) → named name pools ≡ Some s → IsOpen s pools
named_open name s [] is = absurd (cc)
named_open name s (u ∷ pools) is = named_by (bytes_eq u.core.name name) u s (named name pools) pools (λ more. named_open name s pools more) is

-- fronts of what may be done
pub may_front : (c : Codec) (h : Host) (p : Pool) (first second : List Act) → MayActs c h p (first ++ second) → MayActs c h p first
may_front c h p [] second may = tt
may_front c h p (act ∷ first) second may = λ fair. let now = may fair in (now.0, now.1, may_front c (host_by act h) (pool_by act p) first second now.2)

-- A line of the open pool: its own, or another's.
line_may : (c : Codec) (h : Host) (p : Pool) (s : PoolState) (Row : List Move → Type 0) (acts : List Act) → Knows c h p → IsOpen s h.pools
    → ((t : Side) (vs : List Move) → Kept c s t → t.pool ≡ p → Row vs → Walks c t vs) → ByMoves h s Row acts → MayActs c h p acts
line_may c h p s Row acts knows is walks line = by_bool (s.core.pool.0 == p.pool.0)
    (λ mine. let number = number_of_test s.core.pool.0 p.pool.0 mine in
    let has = knows.stands s is number in
    let t : Side = record { pool = p; seats = has.0 } in
    subst (MayActs c h p) (sym line.are)
    (walk_may c h s t s.core.pool.0 line.moves knows is (sym number) has.1 (walks t line.moves has.1 refl line.row) (subst (AreOwnActs s.core.pool.0 h) line.are line.own)))
    (λ off. other_may c h p s.core.pool.0 acts knows (not_same s.core.pool.0 p.pool.0 off) line.own)

-- A read, with its mark: the copies are read whatever their bytes are; behind the mark there is no clash.
abbrev MarkedMay : Codec → Host → PoolState → Side → (g : ℕ) → (mark : Mark) → (vs : List Move) → (acts : List Act) → Type 0
MarkedMay c h s t g mark vs acts = Knows c h t.pool → IsOpen s h.pools → t.pool.pool.0 ≡ g → Kept c s t → (IsFairMark t.pool mark → Walks c t vs)
    → AreOwnActs g h acts → MayActs c h t.pool acts

marked_may : (reading : Bool) (c : Codec) (h : Host) (s : PoolState) (t : Side) (g : ℕ) (mark : Mark) (v : Move) (vs : List Move) → is_reading v ≡ reading
    → ((noted : Noted) (p : Pool) → is_read_call noted.call ≡ true → IsFairMark (after (Calls noted) p) mark → IsFairMark p mark)
    → MarkedMay c (host_by (Does g v) h) (state_step v s) (after_move v t) g mark vs (marked (Marks g mark) g vs)
    → MarkedMay c h s t g mark (v ∷ vs) (marked_behind reading (Marks g mark) g v vs (marked (Marks g mark) g vs))
marked_may true c h s t g mark (Makes noted) vs reads was rest knows is number kept walks own = λ fair.
    let may : Mays c t.pool (Calls noted ∷ []) = (untouched_sparing t.pool noted.call (read_plain noted.call reads) (λ d x member. read_untouched noted.call d x reads), tt) in
    let events = own_events g (Makes noted) t.pool number in
    let pool_is : pool_by (Does g (Makes noted)) t.pool ≡ (after_move (Makes noted) t).pool = ap (λ vs. pool_after vs t.pool) events in
    let behind = own_does c h s t g (Makes noted) knows is number kept may tt own.0.1 in
    let mine : s.core.pool.0 ≡ g = ap (λ core. core.pool.0) kept.core ∙ number in (
      subst (Mays c t.pool) (sym events) may,
      subst (Knows c (host_by (Does g (Makes noted)) h)) (sym pool_is) behind,
      subst (λ q. MayActs c (host_by (Does g (Makes noted)) h) q (marked (Marks g mark) g vs)) (sym pool_is)
          (rest behind (subst (λ x. IsOpen x (map (moved g (Makes noted)) h.pools)) (moved_own g (Makes noted) s mine) (open_moved g (Makes noted) s h.pools is)) number
          (move_keeps c (Makes noted) s t may tt kept) (λ ok. (walks (was noted t.pool reads ok)).1) own.1),
    )
marked_may true c h s t g mark v vs reads was rest knows is number kept walks own = absurd (cc)
marked_may false c h s t g mark v vs reads was rest knows is number kept walks own = λ fair.
    (tt, knows, walk_may c h s t g (v ∷ vs) knows is number kept (walks (fair number)) own.1)

all_marked_may : (c : Codec) (h : Host) (s : PoolState) (t : Side) (g : ℕ) (mark : Mark) (vs : List Move)
    → ((noted : Noted) (p : Pool) → is_read_call noted.call ≡ true → IsFairMark (after (Calls noted) p) mark → IsFairMark p mark)
    → MarkedMay c h s t g mark vs (marked (Marks g mark) g vs)
all_marked_may c h s t g mark [] was = λ knows is number kept walks own fair. (tt, knows, tt)
all_marked_may c h s t g mark (v ∷ vs) was = marked_may (is_reading v) c h s t g mark v vs refl was
    (all_marked_may c (host_by (Does g v) h) (state_step v s) (after_move v t) g mark vs was)

clash_behind : (noted : Noted) (p : Pool) (made : List Noted) → FoundClash p made → FoundClash (after (Calls noted) p) made
clash_behind noted p made clash = record { k = clash.k; cell = clash.cell; cell_is = clash.cell_is; bytes = clash.bytes; read = clash.read; clash = clash.clash }

marked_line_may : (c : Codec) (h : Host) (p : Pool) (s : PoolState) (mark : List Move → Mark) (Row : List Move → Type 0) (acts : List Act) → Knows c h p → IsOpen s h.pools
    → AreMade h (calls_along acts) → ((vs : List Move) (noted : Noted) (p : Pool) → is_read_call noted.call ≡ true → IsFairMark (after (Calls noted) p) (mark vs) → IsFairMark p (mark vs))
    → ((t : Side) (vs : List Move) → Kept c s t → AllAnswer t.pool.sectors (made_in vs) → Row vs → IsFairMark t.pool (mark vs) → Walks c t vs)
    → ByMarked h s mark Row acts → MayActs c h p acts
marked_line_may c h p s mark Row acts knows is made was walks line = by_bool (s.core.pool.0 == p.pool.0)
    (λ mine. let number = number_of_test s.core.pool.0 p.pool.0 mine in
    let has = knows.stands s is number in
    let t : Side = record { pool = p; seats = has.0 } in
    let g = s.core.pool.0 in
    let calls : AreMade h (made_in line.moves) = subst (AreMade h) (ap calls_along line.are ∙ marked_calls (Marks g (mark line.moves)) g line.moves refl) made in
    subst (MayActs c h p) (sym line.are)
    (all_marked_may c h s t g (mark line.moves) line.moves (was line.moves) knows is (sym number) has.1
    (λ fair. walks t line.moves has.1 (all_answer h.table (made_in line.moves) h.disk p.sectors calls.here (λ d x one. sym (knows.disk d x one)) calls.answer) line.row fair)
    (subst (AreOwnActs g h) line.are line.own)))
    (λ off. other_may c h p s.core.pool.0 acts knows (not_same s.core.pool.0 p.pool.0 off) line.own)

-- A leaf that comes back.
shown_may : (c : Codec) (h : Host) (p : Pool) (g : ℕ) (known : Known) (devs : List (Option ℕ)) → Knows c h p → p.pool.0 ≡ g → MayActs c h p (all_shown g known devs)
shown_may c h p g known [] knows number = tt
shown_may c h p g known (None ∷ devs) knows number = shown_may c h p g known devs knows number
shown_may c h p g known (Some d ∷ devs) knows number = λ fair. let owned = own_shown c h p g d number knows in
    (tt, owned, shown_may c (host_by (Shows g d known) h) p g known devs owned number)

found_members : (p : Pool) (vs : List Move) → AllByRecursion (IsMember p) (found_in vs) → FindMembers p vs
found_members p [] all = tt
found_members p (Finds m d ∷ vs) all = (all.0, found_members p vs all.1)
found_members p (v ∷ vs) all = found_members p vs all

online_may : (c : Codec) (h : Host) (p : Pool) (s : PoolState) (device : List ℕ) (reply : OnlineReply) (acts : List Act) → Knows c h p → IsOpen s h.pools → ByOnline h s device reply acts
    → MayActs c h p acts
online_may c h p s device reply acts knows is line = by_bool (s.core.pool.0 == p.pool.0)
    (λ mine. let number = number_of_test s.core.pool.0 p.pool.0 mine in
    let has = knows.stands s is number in
    let t : Side = record { pool = p; seats = has.0 } in
    let g = s.core.pool.0 in
    let known = read_in (made_in line.moves) in
    let own = subst (AreOwnActs g h) line.are line.own in
    let mark = Seeks_by (made_in line.moves) (found_in line.moves) in
    let acts = marked (Marks g mark) g line.moves in
    subst (MayActs c h p) (sym line.are) (may_more c h p acts (all_shown g known (found_in line.moves))
    (all_marked_may c h s t g mark line.moves (λ noted q reads ok. seeks_behind noted q (made_in line.moves) (found_in line.moves) reads ok) knows is (sym number) has.1
    (λ ok. online_walks c (size_in h.table) s t device (is_listed device s) (device_for device (number_in device h.table) h g) line.moves reply has.1 knows.sizes
    line.row ok.0 (found_members p line.moves ok.1)) (own_first g h acts (all_shown g known (found_in line.moves)) own))
    (λ fair known_behind. shown_may c (host_along acts h) (pool_along acts p) g known (found_in line.moves) known_behind
    (ap (λ n. n.0) (acts_number acts p) ∙ sym number)) knows))
    (λ off. other_may c h p s.core.pool.0 acts knows (not_same s.core.pool.0 p.pool.0 off) line.own)

-- A leaf that is put in, and one that is taken out.
graft_may : (c : Codec) (h : Host) (p : Pool) (s : PoolState) (graft : Graft) (leaf new : List ℕ) (d : ℕ) (reply : GraftReply) (acts : List Act) → Knows c h p → IsOpen s h.pools
    → ByGraft h s graft leaf new d reply acts → MayActs c h p acts
graft_may c h p s graft leaf new d reply acts knows is line = by_bool (s.core.pool.0 == p.pool.0)
    (λ mine. let number = number_of_test s.core.pool.0 p.pool.0 mine in
    let has = knows.stands s is number in
    subst (MayActs c h p) (sym line.are) (of line.moves (record { pool = p; seats = has.0 }) has.1 (sym number) refl
    (graft_walks c (size_in h.table) graft s (record { pool = p; seats = has.0 }) leaf new d line.moves reply has.1 knows.sizes line.row)
    (subst (AreOwnActs s.core.pool.0 h) line.are line.own)))
    (λ off. other_may c h p s.core.pool.0 acts knows (not_same s.core.pool.0 p.pool.0 off) line.own)
  where
    g : ℕ
    g = s.core.pool.0

    of : (vs : List Move) (t : Side) → Kept c s t → t.pool.pool.0 ≡ s.core.pool.0 → t.pool ≡ p → Walks c t vs → AreOwnActs s.core.pool.0 h (graft_acts s.core.pool.0 d vs)
        → MayActs c h p (graft_acts s.core.pool.0 d vs)
    of [] t kept number same walks own = tt
    of (v ∷ vs) t kept number same walks own = λ fair.
        let none : events_for (Takes g d) p ≡ [] = ap (λ x. cond x [] (Loses d ∷ [])) (same_number p.pool.0 g (ap (λ q. q.pool.0) (sym same) ∙ number)) in
        let owned : Knows c (host_by (Takes g d) h) p = own_shown c h p g d (ap (λ q. q.pool.0) (sym same) ∙ number) knows in (
          subst (Mays c p) (sym none) tt,
          subst (λ events. Knows c (host_by (Takes g d) h) (pool_after events p)) (sym none) owned,
          subst (λ events. MayActs c (host_by (Takes g d) h) (pool_after events p) (does g (v ∷ vs))) (sym none)
              (subst (λ q. MayActs c (host_by (Takes g d) h) q (does g (v ∷ vs))) same
              (walk_may c (host_by (Takes g d) h) s t g (v ∷ vs) (subst (Knows c (host_by (Takes g d) h)) (sym same) owned) is number kept walks own.1)),
        )

graft_line_may : (c : Codec) (h : Host) (p : Pool) (s : PoolState) (graft : Graft) (leaf new : List ℕ) (acts : List Act) (reply : Reply) → Knows c h p → IsOpen s h.pools
    → GraftLine h graft leaf new s acts reply → MayActs c h p acts
graft_line_may c h p s graft leaf new acts reply knows is row = refused (graft_refusal graft s leaf (leaf_named leaf s.core.leaves)) row
  where
    unless : (d : ℕ) (found : Option PoolState) → GraftUnless found h s graft leaf new d acts reply → MayActs c h p acts
    unless d (Some u) row = subst (MayActs c h p) (sym row.0) tt
    unless d None row = graft_may c h p s graft leaf new d row.0 acts knows is row.2

    onto : (number : Option ℕ) → GraftOnto number h s graft leaf new acts reply → MayActs c h p acts
    onto None row = subst (MayActs c h p) (sym row.0) tt
    onto (Some d) row = unless d (holder new d h.pools) row

    refused : (refusal : Option TreeRefusal) → GraftIf refusal h s graft leaf new acts reply → MayActs c h p acts
    refused (Some refusal) row = subst (MayActs c h p) (sym row.0) tt
    refused None row = onto (number_in new h.table) row

detach_may : (c : Codec) (h : Host) (p : Pool) (s : PoolState) (leaf : List ℕ) (reply : DetachReply) (acts : List Act) → Knows c h p → IsOpen s h.pools → ByDetach c h s leaf reply acts → MayActs c h p acts
detach_may c h p s leaf reply acts knows is line = by_bool (s.core.pool.0 == p.pool.0)
    (λ mine. let number = number_of_test s.core.pool.0 p.pool.0 mine in
    let has = knows.stands s is number in
    let t : Side = record { pool = p; seats = has.0 } in
    let g = s.core.pool.0 in
    let at = some_seat c s t leaf line.seat has.1 in
    let walks = detach_walks c (size_in h.table) s t leaf at.0 (map (seat_as at.0) line.moves) reply has.1 knows.sizes at.1
    (detach_as c (size_in h.table) s leaf line.seat at.0 line.moves reply line.row) in
    subst (MayActs c h p) (sym line.are) (may_as c h p g at.0 line.moves
    (walk_may c h s t g (map (seat_as at.0) line.moves) knows is (sym number) has.1 walks (own_as h g at.0 line.moves (subst (AreOwnActs g h) line.are line.own)))))
    (λ off. other_may c h p s.core.pool.0 acts knows (not_same s.core.pool.0 p.pool.0 off) line.own)

-- Each line.
on_pool : (c : Codec) (h : Host) (p : Pool) (name : List ℕ) (found : Option PoolState) (Line : PoolState → List Act → Reply → Type 0) (acts : List Act) (reply : Reply)
    → named name h.pools ≡ found → ((s : PoolState) → IsOpen s h.pools → Line s acts reply → MayActs c h p acts) → OnPool found Line acts reply → MayActs c h p acts
on_pool c h p name None Line acts reply is line row = subst (MayActs c h p) (sym row.0) tt
on_pool c h p name (Some s) Line acts reply is line row = line s (named_open name s h.pools is) row

sized : (c : Codec) (h : Host) (p : Pool) (t : Side) → Knows c h p → t.pool ≡ p → IsSized (size_in h.table) t
sized c h p t knows is d one = ap (λ q. q.size d) is ∙ knows.sizes d one

pub row_may : (c : Codec) (h : Host) (p : Pool) (asked : Asked) (acts : List Act) (reply : Reply) → Knows c h p → AreMade h (calls_along acts) → RowOf c h asked acts reply → MayActs c h p acts
row_may c h p Asks_nothing acts reply knows made row = subst (MayActs c h p) (sym row.0) tt
row_may c h p (Asks_write name a block) acts reply knows made row = on_pool c h p name (named name h.pools) (WriteLine h a block) acts reply refl
    (λ s is line. line_may c h p s (λ vs. RowWrite s a block vs line.0) acts knows is (λ t vs kept at row. write_walks c s t a block vs line.0 row) line.2) row
row_may c h p (Asks_read name a) acts reply knows made row = on_pool c h p name (named name h.pools) (ReadLine h a) acts reply refl
    (λ s is line. marked_line_may c h p s (λ vs. Gives_for a line.0) (λ vs. RowRead s a vs line.0) acts knows is made (λ vs noted p reads fair. fair)
    (λ t vs kept answers row fair. ⊎_elim (λ w. w) (λ clash. absurd (fair clash)) (read_walks c s t a vs line.0 kept answers row)) line.2) row
row_may c h p (Asks_freeze name) acts reply knows made row = on_pool c h p name (named name h.pools) (FreezeLine c h) acts reply refl
    (λ s is line. line_may c h p s (λ vs. RowFreezeLine c s vs line.0) acts knows is (λ t vs kept at row. freeze_line_walks c s t vs line.0 kept row) line.2) row
row_may c h p (Asks_turn name) acts reply knows made row = on_pool c h p name (named name h.pools) (TurnLine c h) acts reply refl
    (λ s is line. line_may c h p s (λ vs. RowTurn c (size_in h.table) s vs line.0) acts knows is
    (λ t vs kept at row. turn_walks c (size_in h.table) s t vs line.0 kept (sized c h p t knows at) row) line.2) row
row_may c h p (Asks_sync name) acts reply knows made row = on_pool c h p name (named name h.pools) (SyncLine c h) acts reply refl
    (λ s is line. line_may c h p s (λ vs. RowSync c (size_in h.table) s vs line.0) acts knows is
    (λ t vs kept at row. sync_walks c (size_in h.table) s t vs line.0 kept (sized c h p t knows at) row) line.2) row
row_may c h p (Asks_offline name device temporary) acts reply knows made row = on_pool c h p name (named name h.pools) (OfflineLine h device temporary) acts reply refl
    (λ s is line. line_may c h p s (λ vs. RowOffline s device temporary vs line.0) acts knows is (λ t vs kept at row. offline_walks c s t device temporary vs line.0 kept row) line.2) row
row_may c h p (Asks_online name device) acts reply knows made row = on_pool c h p name (named name h.pools) (OnlineLine h device) acts reply refl
    (λ s is line. online_may c h p s device line.0 acts knows is line.2) row
row_may c h p (Asks_graft graft name leaf new) acts reply knows made row = on_pool c h p name (named name h.pools) (GraftLine h graft leaf new) acts reply refl
    (λ s is line. graft_line_may c h p s graft leaf new acts reply knows is line) row
row_may c h p (Asks_detach name leaf) acts reply knows made row = on_pool c h p name (named name h.pools) (DetachLine c h leaf) acts reply refl
    (λ s is line. detach_may c h p s leaf line.0 acts knows is line.2) row
row_may c h p (Asks_step name) acts reply knows made row = on_pool c h p name (named name h.pools) (StepLine h) acts reply refl
    (λ s is line. marked_line_may c h p s (λ vs. Steps_by (first_reads (made_in vs))) (λ vs. RowStep s vs line.0) acts knows is made (λ vs noted p reads fair clash. fair (clash_behind noted p (first_reads (made_in vs)) clash))
    (λ t vs kept answers row fair. ⊎_elim (λ w. w) (λ clash. absurd (fair clash)) (step_walks c s t vs line.0 kept answers row)) line.2) row
row_may c h p (Asks_scrub name) acts reply knows made row = on_pool c h p name (named name h.pools) (ScrubLine h) acts reply refl
    (λ s is line. line_may c h p s (λ vs. RowScrub s vs line.0) acts knows is (λ t vs kept at row. scrub_walks c s t vs line.0 kept row) line.2) row
row_may c h p (Asks_stop name) acts reply knows made row = on_pool c h p name (named name h.pools) (StopLine h) acts reply refl
    (λ s is line. line_may c h p s (λ vs. RowStopScrub s vs line.0) acts knows is (λ t vs kept at row. stop_walks c s t vs line.0 row) line.2) row
row_may c h p (Asks_logs name) acts reply knows made row = on_pool c h p name (named name h.pools) (LogsLine h) acts reply refl
    (λ s is line. line_may c h p s (λ vs. RowLogs s vs line.0) acts knows is (λ t vs kept at row. logs_walks c s t vs line.0 row) line.2) row
row_may c h p (Asks_import name) acts reply knows made row = import_may c h p name acts reply knows made row
row_may c h p (Asks_create name blocks tops) acts reply knows made row = create_may c h p name blocks tops acts reply knows row

pub entry_may : (c : Codec) (h : Host) (p : Pool) (e : Entry) → Knows c h p → HostRow c h e → MayActs c h p e.acts
entry_may c h p e knows (inl row) = row_may c h p e.asked e.acts e.reply knows row.1 row.0
entry_may c h p e knows (inr out) = ⊎_elim (λ none. subst (MayActs c h p) (sym none) tt)
    (λ b. may_front c h p e.acts b.rest (row_may c h p e.asked (e.acts ++ b.rest) b.reply knows b.made b.goes_on)) out.begun

-- the clock
pub heard : (c : Codec) (h : Host) (p : Pool) (second : ℕ) → Knows c h p → Knows c (host_by (Hears second) h) p
heard c h p second knows = record {
  survives = knows.survives;
  roster = knows.roster;
  stands = knows.stands;
  once = knows.once;
  apart = knows.apart;
  sizes = knows.sizes;
  disk = knows.disk;
}

pub run_may : (c : Codec) (h : Host) (p : Pool) (entries : List Entry) → Knows c h p → IsRun c h entries → MayActs c h p (acts_in entries)
run_may c h p [] knows run = tt
run_may c h p (e ∷ entries) knows run = let first = heard c h p e.second knows in
    (λ fair. (
      tt,
      first,
      may_more c (host_by (Hears e.second) h) p e.acts (acts_in entries) (entry_may c (host_by (Hears e.second) h) p e first run.0)
          (λ fair known. run_may c (host_along (acts_of e) h) (pool_along e.acts p) entries known run.1) first,
    ))
