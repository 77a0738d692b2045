-- Lines of an open pool of which each move is of one kind, and each act.
use Rattle.std.proofs.Common.{inl, inr, ℕ, ◌+◌, ◌&&◌, nat_le, Bool, true, false, List, [], ◌∷◌, ◌++◌, Option, Some, None, Result, Ok, sym, subst}
use Rattle.std.specs.List.{AllByRecursion, find, filter}
use Rattle.mp_base.specs.declared.number.Guid.{Guid}
use Rattle.bank_core.specs.declared.bank.Fault.{Fault}
use Rattle.bank_core.specs.Calls.{fault_of}
use Rattle.bank_core.specs.Disk.{Noted}
use Rattle.label_store.specs.declared.member.Member.{Member}
use Rattle.txg_history.specs.Events.{Known}
use Rattle.txg_history.specs.Pages.{Codec, Sum}
use Rattle.txg_history.specs.Records.{Cell, Cells}
use Rattle.mp_base.specs.declared.place.Key.{Key}
use Rattle.pool_moves.specs.AwayRows.{OfflineReply, is_listed, is_offline, is_spare, LeaveIf, drop_if, drops_leaf, gone, OfflineLeaf, OfflineHere, OfflineBy, leaf_named, RowOffline}
use Rattle.pool_moves.specs.Boards.{members_where}
use Rattle.pool_moves.specs.CommitRows.{RowLogs}
use Rattle.pool_moves.specs.FreezeRow.{up_devs}
use Rattle.pool_moves.specs.Leaves.{LeafSeen}
use Rattle.pool_moves.specs.LineRows.{TurnReply, sets_failed, has_number, RowTurn, Committed, FreezeReply, FreezeFor, FreezeBy, RowFreezeLine, RowSync}
use Rattle.pool_moves.specs.Moves.{Move, Freeze, Leave, Burn, Sets, Finds, Drop, Clear, Pass, Scan_from, Scrubs, Rest, on_dev, steps}
use Rattle.pool_moves.specs.OnlineRow.{HostDevice, Handed, OnlineReply, Stands, is_away, marked_own, brought_own, searched_own, SearchEnds, ScansBehind, OnlineRoomy, OnlineAway, OnlineOn, OnlineBy}
use Rattle.pool_moves.specs.OpeningRow.{ResumesBy, ResumesUnless}
use Rattle.pool_moves.specs.ReadRow.{ReadReply, count_reads, stands_under, ReadRecord, ReadGroup, ReadOpen, RowRead, made_in}
use Rattle.pool_moves.specs.Refusing.{FreezeRefusal}
use Rattle.pool_moves.specs.Resilvers.{rest_if, Resilvers}
use Rattle.pool_moves.specs.ScanRows.{first_reads, FlushEnds, AreFlushed, is_eligible, StepReply, StepBy, RowStep, ScrubReply, ScrubBy, RowScrub, StopReply, StopBy, RowStopScrub}
use Rattle.pool_moves.specs.States.{PoolSeen, PoolState}
use Rattle.pool_moves.specs.Walking.{as_moves}
use Rattle.pool_moves.specs.Widening.{seen_along}
use Rattle.pool_runs.specs.Acts.{Act, Mark, Gives_for, Steps_by, Seeks_by, Does, Marks, Shows, does}
use Rattle.pool_runs.specs.Devices.{number_in, size_in}
use Rattle.pool_runs.specs.HostRows.{ByMoves, is_reading, marked_behind, marked, ByMarked, found_in, device_for, ByOnline, OnlineLine, StepLine, ScrubLine, StopLine, ReadLine, FreezeLine, TurnLine, SyncLine, OfflineLine, LogsLine, OnPool, RowOf}
use Rattle.pool_runs.specs.Hosts.{Host, named}
use Rattle.pool_runs.specs.Importing.{read_in, all_shown}
use Rattle.pool_runs.specs.Lines.{Asked, Asks_nothing, Asks_write, Asks_read, Asks_freeze, Asks_turn, Asks_sync, Asks_offline, Asks_online, Asks_logs, Asks_step, Asks_scrub, Asks_stop, Asks_import, Asks_create, Asks_graft, Asks_detach, Reply}
use Rattle.pool_runs.proofs.GroupMoves.{IsKind, more, all_calls, all_widened, all_reads, all_turn, all_freeze, all_sync, all_reopen}

-- A kind that has each move that a line of an open pool may make, but those of its writes.
pub record IsLineKind (P : Move → Type 0) : Type 0 where
  pub kind : IsKind P
  pub freezes : (cells : Cells) (board : ℕ → Bool) → P (Freeze cells board)
  pub burns : P Burn
  pub drops : (d : ℕ) → P (Drop d)
  pub clears : (d : ℕ) → P (Clear d)
  pub passes : (key : Key) (birth : ℕ) (marks : ℕ → Bool) → P (Pass key birth marks)
  pub scans : (hi : ℕ) (eligible : ℕ → Bool) → P (Scan_from hi eligible)
  pub scrubs : P Scrubs
  pub rests : P Rest
  pub finds : (m : Guid) (d : ℕ) → P (Finds m d)

-- and one of acts that has those of such moves, and the marks behind them
pub record IsActKind (P : Move → Type 0) (A : Act → Type 0) : Type 0 where
  pub does : (g : ℕ) (v : Move) → P v → A (Does g v)
  pub marks : (g : ℕ) (mark : Mark) → A (Marks g mark)
  pub shows : (g d : ℕ) (known : Known) → A (Shows g d known)

module _ (P : Move → Type 0) (k : IsLineKind P) where
  abbrev All : List Move → Type 0
  All vs = AllByRecursion P vs

  line_calls : (made : List Noted) → All (as_moves made)
  line_calls made = all_calls P k.kind made

  line_reads : (sum : List ℕ) (made : List Noted) (leaves : List LeafSeen) → All (count_reads sum made leaves)
  line_reads sum made leaves = all_reads P k.kind sum made leaves

  line_record : (sum : Option Sum) (s : PoolSeen) (vs : List Move) (reply : ReadReply) → ReadRecord sum s vs reply → All vs
  line_record None s vs reply row = subst All (sym row.0) tt
  line_record (Some sum) s vs reply row = subst All (sym row.1.moves) (more P (as_moves (row.1.reads ++ row.1.rewrites)) (count_reads sum.sum (row.1.reads ++ row.1.rewrites) (filter (stands_under sum.top) s.leaves))
      (line_calls (row.1.reads ++ row.1.rewrites)) (line_reads sum.sum (row.1.reads ++ row.1.rewrites) (filter (stands_under sum.top) s.leaves)))

  line_read : (s : PoolState) (a : ℕ) (vs : List Move) (reply : ReadReply) → RowRead s a vs reply → All vs
  line_read s a vs reply (inl row) = subst All (sym row.1) tt
  line_read s a vs reply (inr row) = open_by (s.own.writes a) _ _ row.1
    where
      group_by : (cell : Option Cell) (sum : Option Sum) → ReadGroup cell sum s.core vs reply → All vs
      group_by (Some cell) sum row = subst All (sym row.0) tt
      group_by None sum row = line_record sum s.core vs reply row

      open_by : (write : Option (List ℕ)) (cell : Option Cell) (sum : Option Sum) → ReadOpen write cell sum s.core vs reply → All vs
      open_by (Some block) cell sum row = subst All (sym row.0) tt
      open_by None cell sum row = group_by cell sum row

  line_leave_if : (on : Bool) (dev : Option ℕ) (s : PoolSeen) (vs : List Move) → LeaveIf on dev s vs → All vs
  line_leave_if true (Some d) s vs is = all_widened P k.kind s (Leave d) vs (k.kind.leave d) is
  line_leave_if true None s vs is = subst All (sym is) tt
  line_leave_if false dev s vs is = subst All (sym is) tt

  line_drop_if : (on : Bool) (dev : Option ℕ) → All (drop_if on dev)
  line_drop_if true (Some d) = (k.drops d, tt)
  line_drop_if true None = tt
  line_drop_if false dev = tt

  line_offline_leaf : (already : Bool) (s : PoolState) (leaf : LeafSeen) (temporary : Bool) (vs : List Move) (reply : OfflineReply)
      → OfflineLeaf already s leaf temporary vs reply → All vs
  line_offline_leaf true s leaf temporary vs reply row = subst All (sym row.0) (k.kind.set _ _, tt)
  line_offline_leaf false s leaf temporary vs reply (inl row) = subst All (sym row.2) tt
  line_offline_leaf false s leaf temporary vs reply (inr row) = let goes = row.1 in subst All (sym goes.moves)
      (more P (drops_leaf s.core.scan leaf) (goes.leaving ++ (Sets leaf.guid (gone temporary leaf.own) ∷ [])) (line_drop_if (on_dev s.core.scan.eligible leaf.dev) leaf.dev)
      (more P goes.leaving (Sets leaf.guid (gone temporary leaf.own) ∷ []) (line_leave_if leaf.on leaf.dev (seen_along (drops_leaf s.core.scan leaf) s.core) goes.leaving goes.leaves) (k.kind.set _ _, tt)))

  line_offline_here : (spare : Bool) (s : PoolState) (leaf : LeafSeen) (temporary : Bool) (vs : List Move) (reply : OfflineReply)
      → OfflineHere spare s leaf temporary vs reply → All vs
  line_offline_here true s leaf temporary vs reply row = subst All (sym row.0) tt
  line_offline_here false s leaf temporary vs reply row = line_offline_leaf (is_offline leaf.own.mode) s leaf temporary vs reply row

  line_offline : (found : Option LeafSeen) (s : PoolState) (name : List ℕ) (temporary : Bool) (vs : List Move) (reply : OfflineReply)
      → OfflineBy found s name temporary vs reply → All vs
  line_offline None s name temporary vs reply row = subst All (sym row.0) tt
  line_offline (Some leaf) s name temporary vs reply row = line_offline_here (is_spare s leaf) s leaf temporary vs reply row

  line_freeze_for : (refusal : Option FreezeRefusal) (c : Codec) (s : PoolState) (vs : List Move) (reply : FreezeReply) → FreezeFor refusal c s vs reply
      → All vs
  line_freeze_for (Some refusal) c s vs reply row = subst All (sym row.0) tt
  line_freeze_for None c s vs reply row = all_freeze P k.kind k.freezes c s vs row.0

  line_freeze_by : (frozen : Bool) (c : Codec) (s : PoolState) (vs : List Move) (reply : FreezeReply) → FreezeBy frozen c s vs reply → All vs
  line_freeze_by true c s vs reply row = subst All (sym row.0) tt
  line_freeze_by false c s vs reply row = line_freeze_for row.0 c s vs reply row.2

  -- an opening's commit
  line_resilver : (s : PoolSeen) (vs : List Move) → Resilvers s vs → All vs
  line_resilver s vs (inl row) = subst All (sym row.moves) (rests s.scan.running)
    where
      rests : (running : Bool) → All (rest_if running ++ (Scan_from s.read_number (up_devs s.leaves) ∷ []))
      rests true = (k.rests, (k.scans _ _, tt))
      rests false = (k.scans _ _, tt)
  line_resilver s vs (inr row) = subst All (sym row.1) tt

  line_resumes : (turn : TurnReply) (s : PoolState) (vs : List Move) → ResumesBy turn s vs → All vs
  line_resumes (Committed number) s vs row = line_resilver s.core vs row
  line_resumes turn s vs row = subst All (sym row) tt

  pub line_resume : (top : Option ℕ) (c : Codec) (size : ℕ → ℕ) (s : PoolState) (vs : List Move) (turn : TurnReply) → ResumesUnless top c size s vs turn
      → All vs
  line_resume (Some top) c size s vs turn row = subst All (sym row.0) tt
  line_resume None c size s vs turn row = subst All (sym row.moves) (more P row.first row.rest (all_reopen P k.kind k.freezes c size s row.first turn (λ bad. k.burns) row.row)
      (line_resumes turn (steps row.first s) row.rest row.resumes))

  -- a leaf that comes back
  line_search : (result : Result Bool Fault) (leaf : LeafSeen) (e : ℕ) (made : List Noted) (vs : List Move) (reply : OnlineReply)
      → SearchEnds result leaf e made vs reply → All vs
  line_search (Ok true) leaf e made vs reply row = subst All (sym row.0)
      (more P (as_moves made) (Finds leaf.guid e ∷ (Sets leaf.guid (brought_own (searched_own made leaf.own)) ∷ [])) (line_calls made) (k.finds _ _, (k.kind.set _ _, tt)))
  line_search result leaf e made vs reply row = subst All (sym row.0) (more P (as_moves made) (Sets leaf.guid (searched_own made leaf.own) ∷ []) (line_calls made) (k.kind.set _ _, tt))

  line_scans : (reply : OnlineReply) (s : PoolState) (vs : List Move) → ScansBehind reply s vs → All vs
  line_scans (Stands mode) s vs row = line_resilver s.core vs row
  line_scans reply s vs row = subst All (sym row) tt

  line_roomy : (roomy : Bool) (size : ℕ → ℕ) (s : PoolState) (leaf : LeafSeen) (e : ℕ) (vs : List Move) (reply : OnlineReply)
      → OnlineRoomy roomy size s leaf e vs reply → All vs
  line_roomy false size s leaf e vs reply row = subst All (sym row.0) tt
  line_roomy true size s leaf e vs reply row = subst All (sym row.moves)
      (more P row.first row.rest (line_search row.result leaf e row.made row.first reply row.ends) (line_scans reply (steps row.first s) row.rest row.scans))

  line_away : (away : Bool) (size : ℕ → ℕ) (s : PoolState) (leaf : LeafSeen) (e : ℕ) (vs : List Move) (reply : OnlineReply)
      → OnlineAway away size s leaf e vs reply → All vs
  line_away false size s leaf e vs reply row = subst All (sym row.moves) (k.kind.set _ _, line_resilver (steps (Sets leaf.guid (marked_own leaf.own) ∷ []) s).core row.rest row.scans)
  line_away true size s leaf e vs reply row = line_roomy (nat_le (s.core.room leaf.top + 256) (size e)) size s leaf e vs reply row

  line_on : (device : HostDevice) (size : ℕ → ℕ) (s : PoolState) (leaf : LeafSeen) (vs : List Move) (reply : OnlineReply)
      → OnlineOn device size s leaf vs reply → All vs
  line_on (Handed e) size s leaf vs reply row = line_away (is_away leaf.own.mode) size s leaf e vs reply row
  line_on device size s leaf vs reply row = subst All (sym row.0) tt

  line_online : (found : Option LeafSeen) (listed : Bool) (device : HostDevice) (size : ℕ → ℕ) (s : PoolState) (vs : List Move) (reply : OnlineReply)
      → OnlineBy found listed device size s vs reply → All vs
  line_online None listed device size s vs reply row = subst All (sym row.0) tt
  line_online (Some leaf) listed device size s vs reply row = line_on device size s leaf vs reply row

  -- scans
  line_failed : (found : Option LeafSeen) → All (sets_failed found)
  line_failed None = tt
  line_failed (Some leaf) = (k.kind.set _ _, tt)

  line_flush : (fault : Option Fault) (s : PoolSeen) (m : Member) (vs : List Move) → FlushEnds fault s m vs → All vs
  line_flush None s m vs is = all_widened P k.kind s (Clear m.dev) vs (k.clears m.dev) is
  line_flush (Some fault) s m vs is = subst All (sym is) (k.drops m.dev, line_failed (find (has_number m.guid) s.leaves))

  line_flushes : (s : PoolSeen) (ms : List Member) (vs : List Move) → AreFlushed s ms vs → All vs
  line_flushes s [] vs row = subst All (sym row) tt
  line_flushes s (m ∷ ms) vs (noted, ending, rest, ask, is, ends, later) = subst All (sym is)
      (k.kind.calls noted, more P ending rest (line_flush (fault_of noted.call) s m ending ends) (line_flushes (seen_along ending s) ms rest later))

  line_step : (running : Bool) (s : PoolState) (vs : List Move) (reply : StepReply) → StepBy running s vs reply → All vs
  line_step false s vs reply row = subst All (sym row.0) tt
  line_step true s vs reply (inl row) = let key = row.0 in subst All (sym key.moves)
      (more P (as_moves key.calls) (count_reads key.sum.sum key.calls (filter (stands_under key.sum.top) s.core.leaves) ++ (Pass key.k key.sum.birth _ ∷ []))
      (line_calls key.calls) (more P (count_reads key.sum.sum key.calls (filter (stands_under key.sum.top) s.core.leaves)) (Pass key.k key.sum.birth _ ∷ [])
      (line_reads key.sum.sum key.calls (filter (stands_under key.sum.top) s.core.leaves)) (k.passes _ _ _, tt)))
  line_step true s vs reply (inr row) = subst All (sym row.0.moves) (more P row.0.part (Rest ∷ []) (line_flushes s.core (members_where (is_eligible s.core.scan) s.core.leaves) row.0.part row.0.flushed) (k.rests, tt))

  line_scrub : (running : Bool) (s : PoolState) (vs : List Move) (reply : ScrubReply) → ScrubBy running s vs reply → All vs
  line_scrub true s vs reply row = subst All (sym row.0) tt
  line_scrub false s vs reply row = subst All (sym row.1) (k.scans _ _, (k.scrubs, tt))

  line_stop : (scrubbing : Bool) (vs : List Move) (reply : StopReply) → StopBy scrubbing vs reply → All vs
  line_stop true vs reply row = subst All (sym row.0) (k.rests, tt)
  line_stop false vs reply row = subst All (sym row.0) tt

  module _ (A : Act → Type 0) (a : IsActKind P A) where
    abbrev AllActs : List Act → Type 0
    AllActs acts = AllByRecursion A acts

    -- Acts of an open pool's lines.
    pub line_does : (g : ℕ) (vs : List Move) → All vs → AllActs (does g vs)
    line_does g [] all = tt
    line_does g (v ∷ vs) all = (a.does g v all.0, line_does g vs all.1)

    line_marked_first : (reading : Bool) (g : ℕ) (mark : Mark) (v : Move) (vs : List Move) (rest : List Act) → All (v ∷ vs) → AllActs rest
        → AllActs (marked_behind reading (Marks g mark) g v vs rest)
    line_marked_first true g mark v vs rest all more = (a.does g v all.0, more)
    line_marked_first false g mark v vs rest all more = (a.marks g mark, line_does g (v ∷ vs) all)

    line_marked : (g : ℕ) (mark : Mark) (vs : List Move) → All vs → AllActs (marked (Marks g mark) g vs)
    line_marked g mark [] all = (a.marks g mark, tt)
    line_marked g mark (v ∷ vs) all = line_marked_first (is_reading v) g mark v vs (marked (Marks g mark) g vs) all (line_marked g mark vs all.1)

    pub both_acts : (first second : List Act) → AllActs first → AllActs second → AllActs (first ++ second)
    both_acts [] second x y = y
    both_acts (act ∷ first) second x y = (x.0, both_acts first second x.1 y)

    line_shown : (g : ℕ) (known : Known) (devs : List (Option ℕ)) → AllActs (all_shown g known devs)
    line_shown g known [] = tt
    line_shown g known (None ∷ devs) = line_shown g known devs
    line_shown g known (Some e ∷ devs) = (a.shows g e known, line_shown g known devs)

    on_lines : (found : Option PoolState) (Line : PoolState → List Act → Reply → Type 0) (acts : List Act) (reply : Reply)
        → ((s : PoolState) → Line s acts reply → AllActs acts) → OnPool found Line acts reply → AllActs acts
    on_lines None Line acts reply line row = subst AllActs (sym row.0) tt
    on_lines (Some s) Line acts reply line row = line s row

    by_moves : (h : Host) (s : PoolState) (Row : List Move → Type 0) (acts : List Act) → ((vs : List Move) → Row vs → All vs) → ByMoves h s Row acts
        → AllActs acts
    by_moves h s Row acts all line = subst AllActs (sym line.are) (line_does s.core.pool.0 line.moves (all line.moves line.row))

    by_marked : (h : Host) (s : PoolState) (mark : List Move → Mark) (Row : List Move → Type 0) (acts : List Act) → ((vs : List Move) → Row vs → All vs)
        → ByMarked h s mark Row acts → AllActs acts
    by_marked h s mark Row acts all line = subst AllActs (sym line.are) (line_marked s.core.pool.0 (mark line.moves) line.moves (all line.moves line.row))

    by_online : (h : Host) (s : PoolState) (device : List ℕ) (reply : OnlineReply) (acts : List Act) → ByOnline h s device reply acts → AllActs acts
    by_online h s device reply acts line = let g = s.core.pool.0 in let vs = line.moves in
        subst AllActs (sym line.are) (both_acts (marked (Marks g (Seeks_by (made_in vs) (found_in vs))) g vs) (all_shown g (read_in (made_in vs)) (found_in vs))
        (line_marked g (Seeks_by (made_in vs) (found_in vs)) vs
        (line_online (leaf_named device s.core.leaves) (is_listed device s) (device_for device (number_in device h.table) h g) (size_in h.table) s vs reply line.row))
        (line_shown g (read_in (made_in vs)) (found_in vs)))

    -- A line but a write, an import, a create, and one that changes a tree.
    abbrev pub IsPlainLine : Asked → Type 0
    IsPlainLine (Asks_write name at block) = ⊥
    IsPlainLine (Asks_import name) = ⊥
    IsPlainLine (Asks_create name blocks tops) = ⊥
    IsPlainLine (Asks_graft graft name leaf new) = ⊥
    IsPlainLine (Asks_detach name leaf) = ⊥
    IsPlainLine asked = Unit {0}

    pub plain_line : (c : Codec) (h : Host) (asked : Asked) (acts : List Act) (reply : Reply) → IsPlainLine asked → RowOf c h asked acts reply → AllActs acts
    plain_line c h Asks_nothing acts reply plain row = subst AllActs (sym row.0) tt
    plain_line c h (Asks_read name at) acts reply plain row = on_lines (named name h.pools) (ReadLine h at) acts reply
        (λ s line. by_marked h s (λ vs. Gives_for at line.0) (λ vs. RowRead s at vs line.0) acts (λ vs is. line_read s at vs line.0 is) line.2) row
    plain_line c h (Asks_freeze name) acts reply plain row = on_lines (named name h.pools) (FreezeLine c h) acts reply
        (λ s line. by_moves h s (λ vs. RowFreezeLine c s vs line.0) acts (λ vs is. line_freeze_by s.core.group.frozen c s vs line.0 is) line.2) row
    plain_line c h (Asks_turn name) acts reply plain row = on_lines (named name h.pools) (TurnLine c h) acts reply
        (λ s line. by_moves h s (λ vs. RowTurn c (size_in h.table) s vs line.0) acts (λ vs is. all_turn P k.kind c (size_in h.table) s vs line.0 (λ bad. k.burns) is) line.2) row
    plain_line c h (Asks_sync name) acts reply plain row = on_lines (named name h.pools) (SyncLine c h) acts reply
        (λ s line. by_moves h s (λ vs. RowSync c (size_in h.table) s vs line.0) acts (λ vs is. all_sync P k.kind k.freezes s.core.group.frozen c (size_in h.table) s vs line.0 (λ bad. k.burns) is) line.2) row
    plain_line c h (Asks_offline name device temporary) acts reply plain row = on_lines (named name h.pools) (OfflineLine h device temporary) acts reply
        (λ s line. by_moves h s (λ vs. RowOffline s device temporary vs line.0) acts (λ vs is. line_offline (leaf_named device s.core.leaves) s device temporary vs line.0 is) line.2) row
    plain_line c h (Asks_online name device) acts reply plain row = on_lines (named name h.pools) (OnlineLine h device) acts reply
        (λ s line. by_online h s device line.0 acts line.2) row
    plain_line c h (Asks_step name) acts reply plain row = on_lines (named name h.pools) (StepLine h) acts reply
        (λ s line. by_marked h s (λ vs. Steps_by (first_reads (made_in vs))) (λ vs. RowStep s vs line.0) acts (λ vs is. line_step s.core.scan.running s vs line.0 is) line.2) row
    plain_line c h (Asks_scrub name) acts reply plain row = on_lines (named name h.pools) (ScrubLine h) acts reply
        (λ s line. by_moves h s (λ vs. RowScrub s vs line.0) acts (λ vs is. line_scrub s.core.scan.running s vs line.0 is) line.2) row
    plain_line c h (Asks_stop name) acts reply plain row = on_lines (named name h.pools) (StopLine h) acts reply
        (λ s line. by_moves h s (λ vs. RowStopScrub s vs line.0) acts (λ vs is. line_stop (s.core.scan.running && s.own.scrubs) vs line.0 is) line.2) row
    plain_line c h (Asks_logs name) acts reply plain row = on_lines (named name h.pools) (LogsLine h) acts reply
        (λ s line. by_moves h s (λ vs. RowLogs s vs line.0) acts (λ vs is. subst All (sym is.0) tt) line.2) row
    plain_line c h asked acts reply plain row = absurd plain
