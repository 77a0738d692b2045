-- An import finds its pool, and opens a live record of it.
use Rattle.std.proofs.Common.{◌≡◌, inl, inr, ℕ, ◌+◌, ◌≤◌, ◌<◌, ◌&&◌, ◌||◌, nat_le, Bool, true, false, not, cond, List, [], ◌∷◌, ◌++◌, length, Option, Some, None, refl, sym, ap, ◌∙◌, subst, arith, map}
use Rattle.std.specs.List.{AllByRecursion}
use Rattle.std.proofs.lemmas.Bool.Decides.{nat_tests}
use Rattle.std.specs.Str.{bytes_eq}
use Rattle.bank_core.specs.Disk.{Noted}
use Rattle.label_store.specs.declared.found.Found.{Found}
use Rattle.mp_base.specs.declared.place.Key.{Key}
use Rattle.txg_history.specs.Events.{Calls, Known, Opens, as_events}
use Rattle.txg_history.specs.Looks.{known_by}
use Rattle.txg_history.specs.Pages.{Codec}
use Rattle.txg_history.specs.Pools.{Pool, after, pool_after}
use Rattle.txg_history.specs.Records.{Rec, IsIn, number_of, block_at, data_start}
use Rattle.txg_history.proofs.Folding.{calls_after, events_more, pool_more}
use Rattle.pool_moves.specs.CommitRows.{uncounts}
use Rattle.pool_moves.specs.Keeping.{Kept}
use Rattle.pool_moves.specs.Leaves.{LeafSeen}
use Rattle.pool_moves.specs.LineRows.{TurnReply, Committed, Suspended}
use Rattle.pool_moves.specs.Moves.{Move, Freeze, Scan_from, state_step, steps, after_moves}
use Rattle.pool_moves.specs.OpeningRow.{IsLiveOne, SeekReply, NoRecord, NumbersEnd, TakesRecord, taken_by, last_numbers, SeeksLive, OpenReply, Opens_state, NoPage, page_calls, IsLostPage, lacking_of, Resumes, ResumesUnless, RowResume}
use Rattle.pool_moves.specs.FreezeRow.{up_devs}
use Rattle.pool_moves.specs.Opened.{opened_leaves}
use Rattle.pool_moves.specs.PageReads.{LeafShown, is_failed_read, failed_at, answers_in}
use Rattle.pool_moves.specs.Resilvers.{rest_if, Resilvers}
use Rattle.pool_moves.specs.States.{PoolSeen, PoolState, Side}
use Rattle.pool_moves.proofs.FreeWalks.{moves_more, steps_more}
use Rattle.pool_moves.proofs.Keeping.{walk_keeps}
use Rattle.pool_moves.proofs.ResilverWalks.{resume_walks}
use Rattle.pool_runs.specs.Acts.{Act, Opening, Seeks_by, Marks, Looked, Enters, does, bare, read_by, pool_along, calls_along, Does}
use Rattle.pool_runs.specs.Committing.{OpensLive, opening_in, LosesPage, EndsNumbers, FindsPool}
use Rattle.pool_runs.specs.Devices.{size_in, handed}
use Rattle.pool_runs.specs.Fairness.{AreFair, AreFairLooks}
use Rattle.pool_runs.specs.HostRows.{AreMade}
use Rattle.pool_runs.specs.Hosts.{Host, named, host_by, host_along, moved}
use Rattle.pool_runs.specs.Importing.{read_in, all_shown, map_acts, OpensBy, FollowsMap, OpensFound, ImportBy, host_behind, Imports, ImportFor, ImportUnless, RowImport}
use Rattle.pool_runs.specs.Lines.{Reply, To_import, ImportReply, Opened, NameOpen, TooManyPools, NothingFound, LastNumber, PageLost, Unopened}
use Rattle.pool_runs.proofs.Acting.{same_number, calls_number}
use Rattle.pool_runs.proofs.Committing.{numbers_up, IsAckedAs, ends_acked, ends_before, group_commits, frozen_writes, written_kind, writes_kind, KeepsWritten, KeepsWrites, written_along, writes_along, kept_blocks, does_pool}
use Rattle.pool_runs.proofs.Known.{Knows}
use Rattle.pool_runs.specs.Moments.{IsOpenAs}
use Rattle.pool_runs.proofs.Knowing.{step_number, step_name, moved_own}
use Rattle.pool_runs.proofs.Moments.{host_more, bare_host}
use Rattle.std.proofs.lemmas.Slice.Eq.{bytes_eq-Decides}
use Rattle.pool_runs.proofs.GroupMoves.{more, all_group, all_uncounts, all_reopen}
use Rattle.pool_moves.proofs.KindsOfMoves.{uncounts_set}
use Rattle.pool_runs.proofs.Importing.{looks_along, opening_of, opening_front, OpeningFacts, opening_calls, opening_facts, opening_fair, look_facts, taken_live}
use Rattle.pool_runs.proofs.OpeningActs.{bare_calls, bare_more, bare_fair, shown_more, map_more}
use Rattle.std.proofs.lemmas.Bool.{or_right}

-- The commit of an opening.
resilver_written : (s : PoolSeen) (vs : List Move) → Resilvers s vs → AllByRecursion KeepsWritten vs × AllByRecursion KeepsWrites vs
resilver_written s vs (inl row) = subst (λ l. AllByRecursion KeepsWritten l × AllByRecursion KeepsWrites l) (sym row.moves) (rests s.scan.running)
  where
    rests : (running : Bool) → AllByRecursion KeepsWritten (rest_if running ++ (Scan_from s.read_number (up_devs s.leaves) ∷ []))
        × AllByRecursion KeepsWrites (rest_if running ++ (Scan_from s.read_number (up_devs s.leaves) ∷ []))
    rests true = ((tt, (tt, tt)), (tt, (tt, tt)))
    rests false = ((tt, tt), (tt, tt))
resilver_written s vs (inr row) = subst (λ l. AllByRecursion KeepsWritten l × AllByRecursion KeepsWrites l) (sym row.1) (tt, tt)

-- a resilver's start leaves what is acknowledged
resilver_acked : (s : PoolSeen) (vs : List Move) (t : Side) (n : ℕ) → Resilvers s vs → IsAckedAs t.pool n → IsAckedAs (after_moves vs t).pool n
resilver_acked s vs t n (inl row) acked = subst (λ l. IsAckedAs (after_moves l t).pool n) (sym row.moves) (rests s.scan.running)
  where
    rests : (running : Bool) → IsAckedAs (after_moves (rest_if running ++ (Scan_from s.read_number (up_devs s.leaves) ∷ [])) t).pool n
    rests true = record { reads = acked.reads; number = acked.number; idle = acked.idle }
    rests false = record { reads = acked.reads; number = acked.number; idle = acked.idle }
resilver_acked s vs t n (inr row) acked = subst (λ l. IsAckedAs (after_moves l t).pool n) (sym row.1) acked

-- What an opening's commit comes to.
record Resumed (t : Side) (vs : List Move) (from n : ℕ) : Type 0 where
  up : from < n
  acked : number_of (after_moves vs t).pool.acked ≡ n
  blocks : (a : ℕ) → block_at (after_moves vs t).pool.acked a ≡ t.pool.written a
  written : (after_moves vs t).pool.written ≡ t.pool.written

resumed : (c : Codec) (size : ℕ → ℕ) (s : PoolState) (t : Side) (vs : List Move) (n : ℕ) → Kept c (steps vs s) (after_moves vs t) → Resumes c size s vs (Committed n) → Resumed t vs s.core.number n
resumed c size s t vs n kept w =
    let first = w.row.first in
    let leaves = (steps w.row.rest (steps w.row.first s)).core.leaves in
    let zeros = uncounts leaves in
    let commits = group_commits c size (steps first s) w.row.rest n w.row.ends in
    let acked_first : IsAckedAs (after_moves w.first t).pool n = subst (λ l. IsAckedAs (after_moves l t).pool n) (sym w.row.moves)
    (subst (λ x. IsAckedAs x.pool n) (sym (moves_more first (w.row.rest ++ zeros) t))
    (ends_acked (w.row.rest ++ zeros) n (after_moves first t) (ends_before w.row.rest zeros n commits.ends (uncounts_set leaves)))) in
    let acked : IsAckedAs (after_moves vs t).pool n = subst (λ l. IsAckedAs (after_moves l t).pool n) (sym w.moves)
    (subst (λ x. IsAckedAs x.pool n) (sym (moves_more w.first w.rest t)) (resilver_acked (steps w.first s).core w.rest (after_moves w.first t) n w.resumes acked_first)) in
    let still = resilver_written (steps w.first s).core w.rest w.resumes in
    let none : (steps vs s).own.writes ≡ (λ x. None) = ap (λ l. (steps l s).own.writes) w.moves ∙ (ap (λ x. x.own.writes) (steps_more w.first w.rest s)
    ∙ (writes_along w.rest (steps w.first s) still.1 ∙ (ap (λ l. (steps l s).own.writes) w.row.moves
    ∙ frozen_writes first (w.row.rest ++ zeros) s (λ k. None) (up_devs s.core.leaves) w.row.freeze.moves
    (more KeepsWrites w.row.rest zeros (all_group KeepsWrites writes_kind c size (steps first s) w.row.rest (Committed n) (λ bad. absurd bad) w.row.ends)
    (all_uncounts KeepsWrites writes_kind leaves))))) in
    let all : AllByRecursion KeepsWritten vs = subst (AllByRecursion KeepsWritten) (sym w.moves) (more KeepsWritten w.first w.rest
    (all_reopen KeepsWritten written_kind (λ cells board. tt) c size s w.first (Committed n) (λ bad. tt) w.row) still.0) in record {
      up = let frozen : s.core.number + 1 ≤ (steps first s).core.number = subst (λ l. s.core.number + 1 ≤ (steps l s).core.number) (sym w.row.freeze.moves.moves)
          (numbers_up w.row.freeze.moves.widens (state_step (Freeze (λ k. None) (up_devs s.core.leaves)) s)) in
          let most = commits.up in omega (arith, frozen, most);
      acked = acked.number;
      blocks = λ a. kept_blocks c (steps vs s) (after_moves vs t) n kept acked none a ∙ ap (λ f. f a) (written_along vs t all);
      written = written_along vs t all;
    }

resumed_by : (top : Option ℕ) (c : Codec) (size : ℕ → ℕ) (s : PoolState) (t : Side) (vs : List Move) (n : ℕ) → Kept c (steps vs s) (after_moves vs t) → ResumesUnless top c size s vs (Committed n) → Resumed t vs s.core.number n
resumed_by (Some top) c size s t vs n kept row = absurd (let no = row.1 in cc)
resumed_by None c size s t vs n kept row = resumed c size s t vs n kept row

bare_looks : (c : Codec) (made : List Noted) (more : List Act) (p : Pool) → AreFairLooks c p (bare made ++ more) → AreFairLooks c (pool_after (as_events made) p) more
bare_looks c [] more p fair = fair
bare_looks c (noted ∷ made) more p fair = bare_looks c made more (after (Calls noted) p) fair

-- An opening of a record that was found.
opened_number : (a b : ℕ) → To_import (Opened a) ≡ To_import (Opened b) → a ≡ b
opened_number a b e = cc

record Looked_live (p before : Pool) (found : Found) : Type 0 where
  one : Rec
  is : IsLiveOne p found one
  not_below : number_of before.acked ≤ number_of one
  same : p.live ≡ before.live

-- the pool behind the calls of an opening
opens_behind : (c : Codec) (h : Host) (p : Pool) (name : List ℕ) (known : Known) (found : Found) (acts : List Act) (reply : Reply) (opens : OpensFound c h name known found acts reply) → p.pool.0 ≡ found.pool.0
    → pool_along acts p ≡ pool_along opens.rest (pool_after (as_events opens.made) (after (Opens (read_by (opening_of c h name known found acts reply opens) p)) p))
opens_behind c h p name known found acts reply opens number =
    let mark : Act = Marks found.pool.0 (Seeks_by opens.row.ids opens.row.devs) in
    let turned = map_acts found.pool.0 opens.row.bytes opens.row.turns opens.row.last opens.rest in
    let g = found.pool.0 in let r = read_by (opening_of c h name known found acts reply opens) p in
    ap (λ a. pool_along a p) opens.are
    ∙ (ap (λ vs. pool_along (bare opens.row.ids ++ (all_shown g (read_in opens.row.ids) opens.row.devs ++ (mark ∷ turned))) (pool_after vs p))
    (ap (λ t. cond t (Opens r ∷ []) []) (same_number p.pool.0 found.pool.0 number))
    ∙ (bare_more opens.row.ids (all_shown g (read_in opens.row.ids) opens.row.devs ++ (mark ∷ turned)) (after (Opens r) p)
    ∙ (shown_more g (read_in opens.row.ids) opens.row.devs (mark ∷ turned) (pool_after (as_events opens.row.ids) (after (Opens r) p))
    ∙ (map_more g opens.row.bytes opens.row.turns opens.row.last opens.rest (pool_after (as_events opens.row.ids) (after (Opens r) p))
    ∙ ap (pool_along opens.rest) (sym (ap (λ vs. pool_after vs (after (Opens r) p)) (ap as_events opens.row.calls ∙ events_more opens.row.ids (page_calls opens.row))
    ∙ pool_more (as_events opens.row.ids) (as_events (page_calls opens.row)) (after (Opens r) p)))))))

-- the pool that enters and makes its moves is the open one of its name
pub does_head : (g : ℕ) (vs : List Move) (s : PoolState) (pools : List PoolState) (h : Host) → h.pools ≡ s ∷ pools → s.core.pool.0 ≡ g
    → (others : List PoolState) × ((host_along (does g vs) h).pools ≡ steps vs s ∷ others)
does_head g [] s pools h is number = (pools, is)
does_head g (v ∷ vs) s pools h is number = does_head g vs (state_step v s) (map (moved g v) pools) (host_by (Does g v) h)
    (ap (map (moved g v)) is ∙ ap (λ x. x ∷ map (moved g v) pools) (moved_own g v s number)) (ap (λ n. n.0) (step_number v s) ∙ number)

pub steps_name : (vs : List Move) (s : PoolState) → (steps vs s).core.name ≡ s.core.name
steps_name [] s = refl
steps_name (v ∷ vs) s = steps_name vs (state_step v s) ∙ step_name v s

enters_named : (name : List ℕ) (g : ℕ) (first acts : List Act) (s : PoolState) (vs : List Move) (h : Host) → acts ≡ first ++ (Enters s ∷ does g vs)
    → s.core.pool.0 ≡ g → s.core.name ≡ name → named name (host_along acts h).pools ≡ Some (steps vs s)
enters_named name g first acts s vs h is number called =
    let at = host_along first h in
    let head = does_head g vs s at.pools (host_by (Enters s) at) refl number in
    let same : bytes_eq (steps vs s).core.name name ≡ true = (bytes_eq-Decides (steps vs s).core.name name).1 (steps_name vs s ∙ called) in
    ap (λ l. named name (host_along l h).pools) is ∙ (ap (λ x. named name x.pools) (host_more first (Enters s ∷ does g vs) h)
    ∙ (ap (named name) head.1 ∙ ap (λ t. cond t (Some (steps vs s)) (named name head.0)) same))

-- What an opening that answers a number leaves.
record OpensAs (before behind : Pool) (after : Host) (name : List ℕ) (n : ℕ) : Type 0 where
  live : OpensLive before behind n
  state : PoolState
  at : IsOpenAs behind after name state

opens_live : (c : Codec) (h : Host) (p before : Pool) (name : List ℕ) (known : Known) (found : Found) (acts : List Act) (reply : Reply) (n : ℕ) → Knows c h p → Looked_live p before found → p.name ≡ name
    → AreMade h (calls_along acts) → AreFair c p acts → OpensFound c h name known found acts reply → reply ≡ To_import (Opened n)
    → OpensAs before (pool_along acts p) (host_along acts h) name n
opens_live c h p before name known found acts reply n knows live titled made fair opens says = follow opens.outcome refl opens.follows
  where
    opening : Opening
    opening = opening_of c h name known found acts reply opens

    g : ℕ
    g = found.pool.0

    r : Rec
    r = read_by opening p

    number : p.pool.0 ≡ found.pool.0
    number = sym (ap (λ x. x.0) live.is.pool_is)

    facts : OpeningFacts c h p name known found acts reply opens
    facts = opening_facts c h p name known found acts reply live.one opens knows live.is made
        (opening_fair c h p name known found acts reply live.one opens knows live.is number fair)

    q : Pool
    q = pool_after (as_events opens.made) (after (Opens r) p)

    behind : pool_along acts p ≡ pool_along opens.rest q
    behind = opens_behind c h p name known found acts reply opens number

    -- the acts before it enters
    early : (front : List Act) × (acts ≡ front ++ opens.rest)
    early = opening_front c h name known found acts reply opens

    q_written : q.written ≡ block_at r
    q_written = ap (λ x. x.written) (calls_after opens.made (after (Opens r) p))

    q_highest : q.highest ≡ number_of r
    q_highest = ap (λ x. x.highest) (calls_after opens.made (after (Opens r) p))

    q_number : q.pool.0 ≡ g
    q_number = ap (λ x. x.0) (calls_number opens.made (after (Opens r) p)) ∙ number

    q_sized : (d : ℕ) → 1 ≤ size_in h.table d → q.size d ≡ size_in h.table d
    q_sized d one = ap (λ x. x.size d) (calls_after opens.made (after (Opens r) p)) ∙ knows.sizes d one

    committed : (s : PoolState) (vs : List Move) (m : ℕ) → opens.outcome ≡ Opens_state s → RowResume c (size_in h.table) s vs (Committed m) → opens.rest ≡ Enters s ∷ does g vs
        → reply ≡ To_import (Opened m) → OpensAs before (pool_along acts p) (host_along acts h) name n
    committed s vs m out row rest answers =
        let has = facts.seats s out in
        let t : Side = record { pool = q; seats = has.0 } in
        let kept = walk_keeps c vs s t (resume_walks c (size_in h.table) s t vs (Committed m) has.1 q_sized row)
        has.1 in
        let end = resumed_by (lacking_of s.core.leaves s.core.leaves) c (size_in h.table) s t vs m kept row in
        let same = opened_number m n (sym answers ∙ says) in
        let pool_is : pool_along acts p ≡ (after_moves vs t).pool = behind ∙ (ap (λ a. pool_along a q) rest ∙ does_pool g vs t q_number) in
        let s_number : s.core.number ≡ number_of r = ap (λ core. core.number) has.1.core ∙ q_highest in
        let mine : s.core.pool.0 ≡ g = ap (λ core. core.pool.0) has.1.core ∙ q_number in
        let called : s.core.name ≡ name = ap (λ core. core.name) has.1.core ∙ (ap (λ x. x.name) (calls_after opens.made (after (Opens r) p)) ∙ titled) in record {
          live = record {
            r = r;
            live = subst (IsIn r) live.same facts.is.is_live;
            not_below = subst (λ k. number_of before.acked ≤ k) (sym (ap (λ x. x.0) live.is.number_is) ∙ ap (λ x. x.0) facts.is.number_is) live.not_below;
            above = subst (λ k. number_of r < k) same (subst (λ k. k < m) s_number end.up);
            acked = ap (λ x. number_of x.acked) pool_is ∙ (end.acked ∙ same);
            blocks = λ a. ap (λ x. block_at x.acked a) pool_is ∙ (end.blocks a ∙ ap (λ w. w a) q_written);
            written = λ a. ap (λ x. x.written a) pool_is ∙ (ap (λ w. w a) end.written ∙ ap (λ w. w a) q_written);
          };
          state = steps vs s;
          at = record {
            named = enters_named name g early.0 acts s vs h (early.1 ∙ ap (λ l. early.0 ++ l) rest) mine called;
            ours = ap (λ core. core.pool.0) kept.core ∙ sym (ap (λ x. x.pool.0) pool_is);
          };
        }

    by_turn : (turn : TurnReply) (s : PoolState) (vs : List Move) → opens.outcome ≡ Opens_state s → RowResume c (size_in h.table) s vs turn
        → OpensBy turn g s vs opens.rest reply → OpensAs before (pool_along acts p) (host_along acts h) name n
    by_turn (Committed m) s vs out row by = committed s vs m out row by.0 by.1
    by_turn (Suspended group top faults) s vs out row by = absurd (let no = sym by.1 ∙ says in cc)
    by_turn turn s vs out row by = absurd by

    follow : (outcome : OpenReply) → opens.outcome ≡ outcome → FollowsMap outcome c (size_in h.table) g opens.rest reply
        → OpensAs before (pool_along acts p) (host_along acts h) name n
    follow (Opens_state s) out row = by_turn row.1 s row.0 out row.2 row.3
    follow (NoPage page shown) out row = absurd (let no = sym row.1 ∙ says in cc)

-- A page that was lost.

failed_more : (first second : List Noted) (at d : ℕ) → failed_at at second d ≡ true → failed_at at (first ++ second) d ≡ true
failed_more [] second at d is = is
failed_more (noted ∷ first) second at d is = or_right (is_failed_read at d noted.call) (failed_at at (first ++ second) d) (failed_more first second at d is)

failed_first : (first second : List Noted) (at d : ℕ) → failed_at at first d ≡ true → failed_at at (first ++ second) d ≡ true
failed_first [] second at d is = absurd (cc)
failed_first (noted ∷ first) second at d is =
    either (is_failed_read at d noted.call) (failed_at at first d) (failed_at at (first ++ second) d) (failed_first first second at d) is
  where
    either : (a b e : Bool) → (b ≡ true → e ≡ true) → (a || b) ≡ true → (a || e) ≡ true
    either true b e up is = refl
    either false b e up is = up is

fewer_fail : (a b u : Bool) → (b ≡ true → a ≡ true) → (u && not a) ≡ true → (u && not b) ≡ true
fewer_fail true b true up is = absurd (cc)
fewer_fail false true true up is = absurd (let no : false ≡ true = up refl in cc)
fewer_fail false false true up is = refl
fewer_fail a b false up is = absurd (cc)

lost_for_fewer : (p : Pool) (r : Rec) (page : Key) (few many : (at : ℕ) → ℕ → Bool) → ((at d : ℕ) → few at d ≡ true → many at d ≡ true)
    → IsLostPage p r page many → IsLostPage p r page few
lost_for_fewer p r page few many up lost = record {
  cell = lost.cell;
  cell_is = lost.cell_is;
  none = λ leaf. lost.none (record {
    d = leaf.d;
    is_member = leaf.is_member;
    top_is = leaf.top_is;
    has = leaf.has;
    unhurt = leaf.unhurt;
    answers = up (data_start + lost.cell.sector) leaf.d leaf.answers;
  });
}

pub opening_bare : (made : List Noted) (more : List Act) → opening_in (bare made ++ more) ≡ opening_in more
opening_bare [] more = refl
opening_bare (noted ∷ made) more = opening_bare made more

opens_loses : (c : Codec) (h : Host) (p before : Pool) (name : List ℕ) (known : Known) (found : Found) (acts : List Act) (reply : Reply) (page : Key) (shown : List LeafShown) → Knows c h p → Looked_live p before found
    → AreMade h (calls_along acts) → AreFair c p acts → OpensFound c h name known found acts reply → reply ≡ To_import (PageLost page shown) → LosesPage c before (pool_along acts p) acts page
opens_loses c h p before name known found acts reply page shown knows live made fair opens says = follow opens.outcome refl opens.follows
  where
    opening : Opening
    opening = opening_of c h name known found acts reply opens

    r : Rec
    r = read_by opening p

    number : p.pool.0 ≡ found.pool.0
    number = sym (ap (λ x. x.0) live.is.pool_is)

    facts : OpeningFacts c h p name known found acts reply opens
    facts = opening_facts c h p name known found acts reply live.one opens knows live.is made
        (opening_fair c h p name known found acts reply live.one opens knows live.is number fair)

    q : Pool
    q = pool_after (as_events opens.made) (after (Opens r) p)

    behind : pool_along acts p ≡ pool_along opens.rest q
    behind = opens_behind c h p name known found acts reply opens number

    leaves : List LeafSeen
    leaves = opened_leaves (c.leaves found.blob.items) opens.row.devs

    -- each call of the pages is one of the line
    among : (at d : ℕ) → failed_at at (page_calls opens.row) d ≡ true → failed_at at (calls_along acts) d ≡ true
    among at d is = subst (λ made. failed_at at made d ≡ true) (sym (opening_calls c h name known found acts reply opens))
        (failed_first opens.made (calls_along opens.rest) at d
        (subst (λ made. failed_at at made d ≡ true) (sym opens.row.calls) (failed_more opens.row.ids (page_calls opens.row) at d is)))

    lost : (k : Key) (ks : List LeafShown) → opens.outcome ≡ NoPage k ks → k ≡ page → opens.rest ≡ [] → LosesPage c before (pool_along acts p) acts page
    lost k ks out same none = record {
      opening = opening;
      reads = ap opening_in opens.are;
      r = r;
      live = subst (IsIn r) live.same facts.is.is_live;
      is = facts.is.config_is;
      lost = subst (λ x. IsLostPage x r page (answers_in leaves (calls_along acts))) (sym (behind ∙ ap (λ a. pool_along a q) none))
          (lost_for_fewer q r page (answers_in leaves (calls_along acts)) (answers_in leaves (page_calls opens.row))
          (λ at d is. fewer_fail (failed_at at (calls_along acts) d) (failed_at at (page_calls opens.row) d) (up_devs leaves d) (among at d) is)
          (facts.pages page ks (out ∙ ap (λ k. NoPage k ks) same)));
    }

    by_turn : (turn : TurnReply) (s : PoolState) (vs : List Move) → OpensBy turn found.pool.0 s vs opens.rest reply → LosesPage c before (pool_along acts p) acts page
    by_turn (Committed m) s vs by = absurd (let no = sym by.1 ∙ says in cc)
    by_turn (Suspended group top faults) s vs by = absurd (let no = sym by.1 ∙ says in cc)
    by_turn turn s vs by = absurd by

    follow : (outcome : OpenReply) → opens.outcome ≡ outcome → FollowsMap outcome c (size_in h.table) found.pool.0 opens.rest reply → LosesPage c before (pool_along acts p) acts page
    follow (Opens_state s) out row = by_turn row.1 s row.0 row.3
    follow (NoPage k ks) out row = lost k ks out (one k page ks shown (sym row.1 ∙ says)) row.0
      where
        one : (a b : Key) (xs ys : List LeafShown) → To_import (PageLost a xs) ≡ To_import (PageLost b ys) → a ≡ b
        one a b xs ys e = cc

-- By what the looks found.
not_opened : (c : Codec) (start : Host) (before behind : Pool) (after : Host) (acts : List Act) (reply : Reply) (other : ImportReply) → reply ≡ To_import other
    → (other ≡ NothingFound → ⊥) → ((n : ℕ) → other ≡ Opened n → ⊥)
    → ((page : Key) (shown : List LeafShown) → other ≡ PageLost page shown → ⊥)
    → (other ≡ NameOpen → (s : PoolState) × (named before.name start.pools ≡ Some s))
    → ((limit count : ℕ) → other ≡ TooManyPools limit count → (limit ≡ 16) × (16 ≤ length start.pools) × (count ≡ length start.pools + 1))
    → ((limit count : ℕ) → other ≡ LastNumber limit count → EndsNumbers before limit count) → FindsPool c start before behind after acts reply
not_opened c start before behind after acts reply other is some none loses open_now many ended = record {
  some = λ says. some (same other NothingFound (sym is ∙ says));
  opened = λ n says. absurd (none n (same other (Opened n) (sym is ∙ says)));
  is_open = λ n says. absurd (none n (same other (Opened n) (sym is ∙ says)));
  loses = λ page shown says. absurd (loses page shown (same other (PageLost page shown) (sym is ∙ says)));
  name_open = λ says. open_now (same other NameOpen (sym is ∙ says));
  too_many = λ limit count says. many limit count (same other (TooManyPools limit count) (sym is ∙ says));
  ended = λ limit count says. ended limit count (same other (LastNumber limit count) (sym is ∙ says));
}
  where
    same : (a b : ImportReply) → To_import a ≡ To_import b → a ≡ b
    same a b e = cc

-- an opening that reads a record isn't refused
abbrev IsUnread : ImportReply → Type 0
IsUnread NothingFound = Unit {0}
IsUnread NameOpen = Unit {0}
IsUnread (TooManyPools limit count) = Unit {0}
IsUnread (LastNumber limit count) = Unit {0}
IsUnread other = ⊥

opens_some : (c : Codec) (h : Host) (name : List ℕ) (known : Known) (found : Found) (acts : List Act) (reply : Reply) (other : ImportReply) → OpensFound c h name known found acts reply
    → reply ≡ To_import other → IsUnread other → ⊥
opens_some c h name known found acts reply other opens says is = follow opens.outcome opens.follows
  where
    same : (a b : ImportReply) → To_import a ≡ To_import b → a ≡ b
    same a b e = cc

    by_turn : (turn : TurnReply) (s : PoolState) (vs : List Move) → OpensBy turn found.pool.0 s vs opens.rest reply → ⊥
    by_turn (Committed m) s vs by = subst IsUnread (same other (Opened m) (sym says ∙ by.1)) is
    by_turn (Suspended group top faults) s vs by = subst IsUnread (same other (Unopened group top faults) (sym says ∙ by.1)) is
    by_turn turn s vs by = by

    follow : (outcome : OpenReply) → FollowsMap outcome c (size_in h.table) found.pool.0 opens.rest reply → ⊥
    follow (Opens_state s) row = by_turn row.1 s row.0 row.3
    follow (NoPage page shown) row = subst IsUnread (same other (PageLost page shown) (sym says ∙ row.1)) is

-- the looks end the numbers by a live record
ends_numbers : (c : Codec) (p : Pool) (made : List Noted) (known : Known) (seek : SeekReply) (limit count : ℕ) → SeeksLive c p made known seek → seek ≡ NumbersEnd limit count
    → EndsNumbers p limit count
ends_numbers c p made known seek limit count seeks is = by (nat_le last_numbers seeks.found.number.0) refl (sym is ∙ seeks.says)
  where
    first : (a b x y : ℕ) → NumbersEnd a b ≡ NumbersEnd x y → a ≡ x
    first a b x y e = cc

    second : (a b x y : ℕ) → NumbersEnd a b ≡ NumbersEnd x y → b ≡ y
    second a b x y e = cc

    least : (n : ℕ) → nat_le last_numbers n ≡ true → last_numbers ≤ n
    least n is = grind (arith, nat_tests)

    number : seeks.found.number.0 ≡ number_of seeks.r
    number = ap (λ n. n.0) seeks.is.number_is

    by : (ended : Bool) → nat_le last_numbers seeks.found.number.0 ≡ ended → NumbersEnd limit count ≡ taken_by ended seeks.found → EndsNumbers p limit count
    by false off e = absurd (cc)
    by true end e = record {
      limit_is = first limit count last_numbers (seeks.found.number.0 + 1) e;
      r = seeks.r;
      live = subst (IsIn seeks.r) (ap (λ x. x.live) (calls_after made p)) seeks.is.is_live;
      not_below = seeks.not_below;
      last = subst (λ n. last_numbers ≤ n) number (least seeks.found.number.0 end);
      count_is = second limit count last_numbers (seeks.found.number.0 + 1) e ∙ ap (λ n. n + 1) number;
    }

never_none : (ended : Bool) (found : Found) → NoRecord ≡ taken_by ended found → ⊥
never_none true found e = cc
never_none false found e = cc

found_finds : (seek : SeekReply) (c : Codec) (h : Host) (before p : Pool) (name : List ℕ) (known : Known) (acts : List Act) (reply : Reply) → Knows c h p
    → p.name ≡ name → before.name ≡ name → AreMade h (calls_along acts)
    → AreFair c p acts → (seek ≡ NoRecord → ⊥) → ((found : Found) → seek ≡ TakesRecord found → Looked_live p before found)
    → ((limit count : ℕ) → seek ≡ NumbersEnd limit count → EndsNumbers before limit count) → ImportBy seek c h name known acts reply
    → FindsPool c h before (pool_along acts p) (host_along acts h) acts reply
found_finds NoRecord c h before p name known acts reply knows titled called made fair some live ended row = absurd (some refl)
found_finds (NumbersEnd limit count) c h before p name known acts reply knows titled called made fair some live ended row =
    not_opened c h before (pool_along acts p) (host_along acts h) acts reply (LastNumber limit count) row.1 (λ e. cc) (λ n e. cc) (λ page shown e. cc)
    (λ e. absurd (cc)) (λ limit count e. absurd (cc))
    (λ l k e. subst (λ n. EndsNumbers before n k) (limit_one limit count l k e) (subst (EndsNumbers before limit) (count_one limit count l k e) (ended limit count refl)))
  where
    limit_one : (a b x y : ℕ) → LastNumber a b ≡ LastNumber x y → a ≡ x
    limit_one a b x y e = cc

    count_one : (a b x y : ℕ) → LastNumber a b ≡ LastNumber x y → b ≡ y
    count_one a b x y e = cc
found_finds (TakesRecord found) c h before p name known acts reply knows titled called made fair some live ended row = record {
  some = λ says. opens_some c h name known found acts reply NothingFound row says tt;
  name_open = λ says. absurd (opens_some c h name known found acts reply NameOpen row says tt);
  too_many = λ limit count says. absurd (opens_some c h name known found acts reply (TooManyPools limit count) row says tt);
  ended = λ limit count says. absurd (opens_some c h name known found acts reply (LastNumber limit count) row says tt);
  opened = λ n says. (opens_live c h p before name known found acts reply n knows (live found refl) titled made fair row says).live;
  is_open = λ n says. let opens = opens_live c h p before name known found acts reply n knows (live found refl) titled made fair row says in
      (opens.state, subst (λ name. IsOpenAs (pool_along acts p) (host_along acts h) name opens.state) (sym called) opens.at);
  loses = λ page shown says. opens_loses c h p before name known found acts reply page shown knows (live found refl) made fair row says;
}

pub import_finds : (c : Codec) (h : Host) (p : Pool) (name : List ℕ) (acts : List Act) (reply : Reply) → Knows c h p → p.name ≡ name → AreMade h (calls_along acts) → AreFair c p acts → AreFairLooks c p acts
    → RowImport c h name acts reply → FindsPool c h p (pool_along acts p) (host_along acts h) acts reply
import_finds c h p name acts reply knows titled made fair looks row = unless (named_in h.pools) refl row
  where
    named_in : List PoolState → Option PoolState
    named_in pools = named name pools

    -- what the rest of the line finds, the line does
    line_finds : (made : List Noted) (known : Known) (rest : List Act) (p1 : Pool) → acts ≡ bare made ++ (Looked name known ∷ rest) → pool_along acts p ≡ pool_along rest p1
        → FindsPool c (host_behind made h) p (pool_along rest p1) (host_along rest (host_behind made h)) rest reply → FindsPool c h p (pool_along acts p) (host_along acts h) acts reply
    line_finds made known rest p1 are same finds = record {
      some = finds.some;
      opened = λ n says. subst (λ x. OpensLive p x n) (sym same) (finds.opened n says);
      is_open = λ n says. let opens = finds.is_open n says in (
        opens.0,
        subst (λ x. IsOpenAs x (host_along acts h) p.name opens.0) (sym same)
            (subst (λ y. IsOpenAs (pool_along rest p1) y p.name opens.0) (sym (ap (λ a. host_along a h) are ∙ bare_host made (Looked name known ∷ rest) h)) opens.1),
      );
      loses = λ page shown says. let lost = finds.loses page shown says in record {
        opening = lost.opening;
        reads = ap opening_in are ∙ (opening_bare made (Looked name known ∷ rest) ∙ lost.reads);
        r = lost.r;
        live = lost.live;
        is = lost.is;
        lost = let leaves = opened_leaves (c.leaves lost.opening.found.blob.items) lost.opening.devs in
            subst (λ x. IsLostPage x lost.r page (answers_in leaves (calls_along acts))) (sym same)
            (lost_for_fewer (pool_along rest p1) lost.r page (answers_in leaves (calls_along acts)) (answers_in leaves (calls_along rest))
            (λ at d is. fewer_fail (failed_at at (calls_along acts) d) (failed_at at (calls_along rest) d) (up_devs leaves d)
            (λ failed. subst (λ calls. failed_at at calls d ≡ true) (sym (ap calls_along are ∙ bare_calls made (Looked name known ∷ rest))) (failed_more made (calls_along rest) at d failed)) is)
            lost.lost);
      };
      name_open = finds.name_open;
      too_many = finds.too_many;
      ended = finds.ended;
    }

    imports : Imports c h name acts reply → FindsPool c h p (pool_along acts p) (host_along acts h) acts reply
    imports row =
        let known = known_by (size_in h.table) (handed h.table) row.row.looks in
        let p1 = pool_after (as_events row.made) p in
        let facts = look_facts c h p name acts reply knows made row in
        let all = bare_fair c row.made (Looked name known ∷ row.rest) p (subst (AreFair c p) row.are fair) in
        let named1 : p1.name ≡ name = ap (λ x. x.name) (calls_after row.made p) ∙ titled in
        let seeks = facts.seeks titled
        ((bare_looks c row.made (Looked name known ∷ row.rest) p (subst (AreFairLooks c p) row.are looks)).0 named1) in
        let rest_fair : AreFair c p1 row.rest = subst (λ x. AreFair c x row.rest) (looks_along (bytes_eq p1.name name) known p1) all.1 in
        let pool_is : pool_along acts p ≡ pool_along row.rest p1 = ap (λ a. pool_along a p) row.are ∙ (bare_more row.made (Looked name known ∷ row.rest) p
        ∙ ap (pool_along row.rest) (looks_along (bytes_eq p1.name name) known p1)) in
        line_finds row.made known row.rest p1 row.are pool_is
        (found_finds row.seek c (host_behind row.made h) p p1 name known row.rest reply facts.knows named1 titled facts.made rest_fair
        (λ none. never_none (nat_le last_numbers seeks.found.number.0) seeks.found (sym none ∙ seeks.says))
        (λ found is. let taken = taken_live c p row.made known row.seek found seeks is in record {
          one = taken.0;
          is = taken.1;
          not_below = taken.2;
          same = ap (λ x. x.live) (calls_after row.made p);
        }) (λ limit count is. ends_numbers c p row.made known row.seek limit count seeks is) row.follows)

    full_by : (full : Bool) → nat_le 16 (length h.pools) ≡ full → ImportFor full c h name acts reply → FindsPool c h p (pool_along acts p) (host_along acts h) acts reply
    full_by true full row = not_opened c h p (pool_along acts p) (host_along acts h) acts reply (TooManyPools 16 (length h.pools + 1)) row.1
        (λ e. cc) (λ n e. cc) (λ page shown e. cc) (λ e. absurd (cc))
        (λ limit count e. (sym (limit_one 16 (length h.pools + 1) limit count e), low_of (length h.pools) full, sym (count_one 16 (length h.pools + 1) limit count e)))
        (λ limit count e. absurd (cc))
      where
        limit_one : (a b x y : ℕ) → TooManyPools a b ≡ TooManyPools x y → a ≡ x
        limit_one a b x y e = cc

        count_one : (a b x y : ℕ) → TooManyPools a b ≡ TooManyPools x y → b ≡ y
        count_one a b x y e = cc

        low_of : (n : ℕ) → nat_le 16 n ≡ true → 16 ≤ n
        low_of n is = grind (arith, nat_tests)
    full_by false full row = imports row

    unless : (found : Option PoolState) → named_in h.pools ≡ found → ImportUnless found c h name acts reply → FindsPool c h p (pool_along acts p) (host_along acts h) acts reply
    unless (Some s) is row = not_opened c h p (pool_along acts p) (host_along acts h) acts reply NameOpen row.1 (λ e. cc) (λ n e. cc) (λ page shown e. cc)
        (λ e. (s, subst (λ n. named n h.pools ≡ Some s) (sym titled) is)) (λ limit count e. absurd (cc)) (λ limit count e. absurd (cc))
    unless None is row = full_by (nat_le 16 (length h.pools)) refl row
