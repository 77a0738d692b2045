-- A commit of a pool of the history: the calls of a plan, and the round of the state's record.
use Rattle.std.proofs.Common.{◌≡◌, ℕ, ◌+◌, ◌/◌, ◌^◌, ◌<◌, ◌≤◌, zero, suc, Bool, true, false, cond, not, List, [], ◌∷◌, ◌++◌, Option, Some, None, refl, sym, ap, ◌∙◌, subst, arith, inl, ⊎_elim, append-nil}
use Rattle.std.specs.Prelude.{is_some, slice_get}
use Rattle.mp_base.specs.declared.number.Guid.{Guid}
use Rattle.std.specs.Option.{option_map}
use Rattle.bank_core.specs.declared.bank.Fault.{Fault}
use Rattle.bank_core.specs.Asks.{Ask, IsPart}
use Rattle.bank_core.specs.Disk.{Noted, run}
use Rattle.bank_core.proofs.Composing.{run_more}
use Rattle.label_store.specs.declared.member.Member.{Member}
use Rattle.label_store.specs.declared.rule.Head.{Head}
use Rattle.label_store.specs.Rounds.{config_of}
use Rattle.config_codec.specs.Fields.{Fields}
use Rattle.config_codec.specs.Reading.{config_in}
use Rattle.pool_history.specs.Events.{Event, IsOneRun, as_events, calls_of}
use Rattle.pool_history.specs.Moves.{AreSparing, IsDrawnUp, Mays}
use Rattle.pool_history.specs.Needs.{Held}
use Rattle.pool_history.specs.Pools.{Pool, drawn, pool_after, seat}
use Rattle.pool_history.specs.Records.{Rec, Cell, IsIn, number_of, takes_part, block_of, data_start}
use Rattle.pool_history.specs.Rounds.{all_true, IsRoundEvents, AreMembersOf, RoundEnds}
use Rattle.pool_history.specs.Survival.{Fits, Survives}
use Rattle.pool_history.proofs.Folding.{with_calls, calls_are, calls_more, calls_after, calls_sectors, calls_then, mays_calls, stops_never_more, calls_never_stop}
use Rattle.pool_history.proofs.RoundMoves.{round_may, round_ends}
use Rattle.pool_history.proofs.RoundShapes.{round_marked}
use Rattle.pool_history.proofs.Sparing.{part_may}
use Rattle.pool_history.proofs.Surviving.{history_survives}
use Rattle.pool_core.specs.Commits.{failures, IsRoundBehind, IsCommit}
use Rattle.pool_core.specs.Heads.{head_from, head_of}
use Rattle.pool_core.specs.Reading.{source_of, block_from}
use Rattle.pool_core.specs.Recorded.{fields_in, commit_of}
use Rattle.pool_core.specs.State.{Content, Known, Summed, Version, PoolState, is_readable, board}
use Rattle.host_machine.specs.Machine.{HostState, commit_outcome}
use Rattle.host_machine.specs.Records.{version_of, cell_with, cell_of, is_known_content, is_known_version, is_known, owed_by, record_of, with_record, IsDrawn}
use Rattle.host_machine.specs.Tracking.{IsAt, IsPlaceOf, IsOpenAs, StandsIn, Tracks}
use Rattle.host_machine.proofs.RoundMarks.{AreRoundMarks, marks_more, calls_marked, round_marks}
use Rattle.host_machine.proofs.RoundRuns.{round_one_run}
use Rattle.host_machine.proofs.Settling.{IsSettled, AllKnown, same_some, none_some, cell_pointer, known_all, known_is, config_reads, first_owed, second_owed, settled_record}
use Rattle.host_machine.proofs.NextStates.{fit_settled}
use Rattle.host_machine.proofs.Boards.{IsSeatOf, first_board, second_board, board_apart, board_each}
use Rattle.host_machine.proofs.RoundSizes.{round_sized}
use Rattle.host_machine.specs.Fitness.{IsFitPool}
use Rattle.host_machine.proofs.Standings.{closed, tracks_move, drawn_stays}

-- A commit of the state may be made by the pool, which stands in the host: the state is what the pool
-- would answer, under the next number; a leaf owes this number where it isn't readable; the plan spares what is
-- needed; and behind the plan each block of the state is held on each member that has to have it.
pub record IsReady (p : Pool) (h : HostState) (plan : List Ask) (t : PoolState) : Type 0 where
  pub tracks : Tracks p (closed h)
  pub first : IsAt t.first tracks.first
  pub second : IsAt t.second tracks.second
  pub name : t.name ≡ p.name
  pub pool : t.pool ≡ p.pool
  pub number : t.number ≡ p.top + 1
  pub fit : IsFitPool h.size t
  pub known : AllKnown t
  pub no_writes : (a : ℕ) → t.writes a ≡ None
  pub blocks : (a : ℕ) → block_of (cell_of (t.committed a)) ≡ p.written a
  pub first_owes : t.first.owes t.number ≡ not (is_readable t.first)
  pub second_owes : t.second.owes t.number ≡ not (is_readable t.second)
  pub sparing : AreSparing p plan
  pub held : (before : List Noted) → IsPart plan before None → (d a : ℕ) (cell : Cell) → p.member d ≡ true → cell_of (t.committed a) ≡ Some cell
      → owed_by t (p.guid d) cell.birth ≡ false → Held (run before p.sectors d (data_start + cell.sector)) cell.block

-- The calls of a commit, which led to this host, are those of a history of any pool. Where the pool may
-- make the commit, its events are moves that it may make, and it stands in the host as they leave it.
pub record CommitFollows (p : Pool) (h : HostState) (plan : List Ask) (t : PoolState) (made : List Noted) (next : HostState) : Type 0 where
  pub vs : List Event
  pub calls : calls_of vs ≡ made
  pub one_run : IsOneRun vs
  pub marks : AreRoundMarks vs
  pub member : (pool_after vs p).member ≡ p.member
  pub sectors : (pool_after vs p).sectors ≡ run made p.sectors
  pub safe : IsReady p h plan t → Survives head_of p → Mays head_of p vs × Tracks (pool_after vs p) next

-- a place between the labels of any member
near_place : (a sector blocks size : ℕ) → a < blocks → blocks ≤ 32 → sector / 2 ≡ a → 320 ≤ size → 128 + sector + 128 < size
near_place a sector blocks size below few half most = omega (arith, below, few, half, most)

not_not : (b : Bool) → not b ≡ true → b ≡ false
not_not true e = absurd (let no : false ≡ true = e in cc)
not_not false e = refl

not_owes : (owes up : Bool) → owes ≡ not up → up ≡ true → owes ≡ false
not_owes owes true e up = e
not_owes owes false e up = absurd (let no : false ≡ true = up in cc)

-- who doesn't owe the number is readable
pub up_by : (owes up : Bool) → owes ≡ not up → owes ≡ false → up ≡ true
up_by owes true e none = refl
up_by owes false e none = absurd (let no : true ≡ false = sym e ∙ none in cc)

-- a device that there is
pub some_device : (dev : Option ℕ) → is_some dev ≡ true → (d : ℕ) × (dev ≡ Some d)
some_device None e = absurd (let no : false ≡ true = e in cc)
some_device (Some d) e = (d, refl)

module _ (p : Pool) (h : HostState) (plan : List Ask) (t : PoolState) (ready : IsReady p h plan t) where
  settled : IsSettled t
  settled = fit_settled h.size t ready.fit

  -- a member's device is one of the places, with the leaf's number
  first_guid : (d : ℕ) → d ≡ ready.tracks.first.dev → p.guid d ≡ t.first.member
  first_guid d same = ap p.guid same ∙ ready.tracks.first_guid ∙ sym ready.first.0

  second_guid : (d : ℕ) → d ≡ ready.tracks.second.dev → p.guid d ≡ t.second.member
  second_guid d same = ap p.guid same ∙ ready.tracks.second_guid ∙ sym ready.second.0

  guid_small : (d : ℕ) → p.member d ≡ true → (p.guid d).0 < 2 ^ 64
  guid_small d is = ⊎_elim
      (λ same. subst (λ g. g.0 < 2 ^ 64) (sym (first_guid d same)) (let drawn = ready.fit.valid.first.1 in let most = ready.fit.valid.next_member in omega (arith, drawn, most)))
      (λ same. subst (λ g. g.0 < 2 ^ 64) (sym (second_guid d same)) (let drawn = ready.fit.valid.second.1 in let most = ready.fit.valid.next_member in omega (arith, drawn, most)))
      (ready.tracks.members d is)

  -- The members of its round.

  -- whether a member takes part, by its leaf
  first_owed_by : (m : Guid) → m ≡ t.first.member → owed_by t m t.number ≡ not (is_readable t.first)
  first_owed_by m same = ap (λ n. owed_by t n t.number) same ∙ first_owed t t.number ∙ ready.first_owes

  second_owed_by : (m : Guid) → m ≡ t.second.member → owed_by t m t.number ≡ not (is_readable t.second)
  second_owed_by m same = ap (λ n. owed_by t n t.number) same ∙ second_owed t t.number ready.fit.valid.two_members ∙ ready.second_owes

  abbrev IsSeated : Member → Type 0
  IsSeated m = (m ≡ seat p m.dev) × (takes_part (record_of t) (p.guid m.dev) ≡ true)

  seated_by : (m : Member) (up : Bool) → m.guid ≡ p.guid m.dev → owed_by t (p.guid m.dev) t.number ≡ not up → up ≡ true → IsSeated m
  seated_by m up guid owes is = (ap (λ g. record { dev = m.dev; guid = g }) guid, ap not (not_owes (owed_by t (p.guid m.dev) t.number) up owes is))

  first_seated : (m : Member) → IsSeatOf t.first m → IsSeated m
  first_seated m seat =
      let same = first_guid m.dev (ready.first.2 m.dev seat.dev) in
      seated_by m (is_readable t.first) (seat.guid ∙ sym same) (first_owed_by (p.guid m.dev) same) seat.readable

  second_seated : (m : Member) → IsSeatOf t.second m → IsSeated m
  second_seated m seat =
      let same = second_guid m.dev (ready.second.2 m.dev seat.dev) in
      seated_by m (is_readable t.second) (seat.guid ∙ sym same) (second_owed_by (p.guid m.dev) same) seat.readable

  abbrev OnBoard : ℕ → Type 0
  OnBoard d = (i : ℕ) × (slice_get (board t) i ≡ Some (seat p d))

  first_on : (d : ℕ) → takes_part (record_of t) (p.guid d) ≡ true → d ≡ ready.tracks.first.dev → OnBoard d
  first_on d takes same =
      let up = up_by (owed_by t (p.guid d) t.number) (is_readable t.first) (first_owed_by (p.guid d) (first_guid d same)) (not_not _ takes) in
      let at = some_device t.first.dev (ready.fit.first.seated up) in
      let on = first_board t at.0 up at.1 in
      (on.0, on.1 ∙ ap (λ e. Some (record { dev = e; guid = t.first.member })) (ready.first.2 at.0 at.1 ∙ sym same) ∙ ap (λ g. Some (record { dev = d; guid = g })) (sym (first_guid d same)))

  second_on : (d : ℕ) → takes_part (record_of t) (p.guid d) ≡ true → d ≡ ready.tracks.second.dev → OnBoard d
  second_on d takes same =
      let up = up_by (owed_by t (p.guid d) t.number) (is_readable t.second) (second_owed_by (p.guid d) (second_guid d same)) (not_not _ takes) in
      let at = some_device t.second.dev (ready.fit.second.seated up) in
      let on = second_board t at.0 up at.1 in
      (on.0, on.1 ∙ ap (λ e. Some (record { dev = e; guid = t.second.member })) (ready.second.2 at.0 at.1 ∙ sym same) ∙ ap (λ g. Some (record { dev = d; guid = g })) (sym (second_guid d same)))

  are_members : AreMembersOf p (record_of t) (board t)
  are_members = record {
    seated = λ i m e is. board_each IsSeated t first_seated second_seated i m e;
    all = λ d is takes. ⊎_elim (first_on d takes) (second_on d takes) (ready.tracks.members d is);
  }

  -- Its record may be drawn up behind the plan.

  place_inside : Survives head_of p → (a : ℕ) (cell : Cell) → cell_of (t.committed a) ≡ Some cell → (d : ℕ) → p.member d ≡ true → data_start + cell.sector + 128 < p.size d
  place_inside sv a cell e d is =
      let pointer = cell_pointer t a cell settled e in
      near_place a cell.sector t.blocks (p.size d) pointer.0 ready.fit.valid.blocks.1 pointer.1 (sv.sizes d is)

  head_is : (head : Head) → head_of (config_of (commit_of t)) ≡ Some head → head.name ≡ p.name
  head_is head e =
      sym (ap (λ (x : Head). x.name) (same_some (head_from (fields_in t)) head (sym (ap (option_map head_from) (config_reads t ready.fit.valid)) ∙ e))) ∙ ready.name

  fits_behind : Survives head_of p → (before : List Noted) → Fits head_of (with_calls before p) (record_of t)
  fits_behind sv before = record {
    pool_is = ready.pool;
    is_record = λ d is. settled_record t d (p.guid d) settled (guid_small d is);
    name_is = head_is;
    places = place_inside sv;
    blocks = settled.whole;
  }

  drawn_up_behind : Survives head_of p → (before : List Noted) → IsPart plan before None → IsDrawnUp head_of (with_calls before p) (record_of t)
  drawn_up_behind sv before part = record {
    fits = fits_behind sv before;
    number_is = ready.number;
    blocks_are = ready.blocks;
    held = ready.held before part;
  }

  survives_behind : (before : List Noted) (outcome : Option Fault) → Survives head_of p → IsPart plan before outcome → Survives head_of (with_calls before p)
  survives_behind before outcome sv part =
      subst (Survives head_of) (calls_after before p) (history_survives head_of (as_events before) p sv (part_may head_of plan before outcome p ready.sparing part))

  -- the board's devices have the sizes that the pool knows
  same_size : (d : ℕ) → t.sectors + 256 ≤ h.size d → h.size d ≡ p.size d
  same_size d room = sym (ready.tracks.sizes d (omega (arith, room)))

  sizes : (i : ℕ) (m : Member) → slice_get (board t) i ≡ Some m → h.size m.dev ≡ p.size m.dev
  sizes i m e =
      board_each (λ m. h.size m.dev ≡ p.size m.dev) t (λ m seat. same_size m.dev (ready.fit.first.room m.dev seat.dev)) (λ m seat. same_size m.dev (ready.fit.second.room m.dev seat.dev)) i m e

  round_moves : (before : List Noted) (results : List Bool) (vs : List Event) → Survives head_of p → IsPart plan before None
      → IsRoundEvents h.size (record_of t) (board t) results vs → Mays head_of p (as_events before ++ vs)
  round_moves before results vs sv part events =
      mays_calls head_of before vs p (part_may head_of plan before None p ready.sparing part)
      (round_may head_of (with_calls before p) (record_of t) (board t) results vs (survives_behind before None sv part) (drawn_up_behind sv before part)
      (record { seated = are_members.seated; all = are_members.all }) (board_apart t ready.fit.apart) (round_sized h.size p.size (record_of t) (board t) results vs sizes events))

-- How the pool stands behind it.

no_failures : (results : List Bool) → failures results ≡ 0 → all_true results ≡ true
no_failures [] none = refl
no_failures (true ∷ results) none = no_failures results none
no_failures (false ∷ results) none = absurd (omega arith)

-- what a known block reads
known_content : (content : Content) (birth sector : ℕ) → is_known_content content ≡ true → content ≡ Known (block_of (cell_with birth sector content))
known_content (Known block) birth sector e = refl
known_content (Summed sum) birth sector e = absurd (let no : false ≡ true = e in cc)

pub known_wanted : (writes : Option (List ℕ)) (committed : Option Version) → writes ≡ None → is_known_version committed ≡ true
    → block_from (source_of writes committed) ≡ Known (block_of (cell_of committed))
known_wanted None None none known = refl
known_wanted None (Some version) none known = known_content version.content version.birth version.sector known
known_wanted (Some block) committed none known = absurd (none_some block (sym none))

opens_as : (p p' behind : Pool) (h : HostState) (plan : List Ask) (t : PoolState) (made : List Noted) → IsReady p h plan t → p'.name ≡ p.name → p'.pool ≡ p.pool → p'.written ≡ p.written
    → RoundEnds p' behind (record_of t) true made → IsOpenAs behind t
opens_as p p' behind h plan t made ready name pool written ends = record {
  name = ready.name ∙ sym (ends.name ∙ name);
  pool = ready.pool ∙ sym (ends.pool ∙ pool);
  idle = ends.idle;
  number = sym ends.top;
  acked = sym (ap number_of ends.acked);
  committed = λ a. known_is (t.committed a) (ready.known a) ∙ sym (ap (λ (r : Rec). option_map version_of (r.cells a)) ends.reads);
  grown = λ d g is owed. ap (λ (r : Rec). r.owes (behind.guid d) g) ends.reads ∙ owed;
  written = λ a. known_wanted (t.writes a) (t.committed a) (ready.no_writes a) (ready.known a) ∙ ap Known (ready.blocks a ∙ sym (ap (λ f. f a) (ends.written ∙ written)));
}

stands_by : (p p' behind : Pool) (h : HostState) (plan : List Ask) (t : PoolState) (made : List Noted) (results : List Bool) (failed : ℕ) → (ready : IsReady p h plan t)
    → p'.name ≡ p.name → p'.pool ≡ p.pool → p'.written ≡ p.written → failed ≡ failures results
    → RoundEnds p' behind (record_of t) (all_true results) made → StandsIn behind ready.tracks.first ready.tracks.second (commit_outcome h t failed).0.table (commit_outcome h t failed).0.pool
stands_by p p' behind h plan t made results zero ready name pool written is ends =
    inl (
      ready.first,
      ready.second,
      opens_as p p' behind h plan t made ready name pool written
          (subst (λ whole. RoundEnds p' behind (record_of t) whole made) (no_failures results (sym is)) ends),
    )
stands_by p p' behind h plan t made results (suc n) ready name pool written is ends = tt

-- each outcome has the host's devices, and the record beside those that were drawn up
pub outcome_table : (h : HostState) (t : PoolState) (failed : ℕ) → (commit_outcome h t failed).0.table ≡ h.table
outcome_table h t zero = refl
outcome_table h t (suc n) = refl

pub outcome_size : (h : HostState) (t : PoolState) (failed : ℕ) → (commit_outcome h t failed).0.size ≡ h.size
outcome_size h t zero = refl
outcome_size h t (suc n) = refl

pub outcome_records : (h : HostState) (t : PoolState) (failed : ℕ) → (commit_outcome h t failed).0.records ≡ with_record t h.records
outcome_records h t zero = refl
outcome_records h t (suc n) = refl

known_in : (t : PoolState) (records : List Rec) (r : Rec) → is_known t ≡ true → r ≡ record_of t → IsIn r (with_record t records)
known_in t records r known same = subst (λ b. IsIn r (cond b (record_of t ∷ records) records)) (sym known) (inl same)

-- the record is the pool's own
own_record : (p : Pool) (h : HostState) (plan : List Ask) (t : PoolState) (r : Rec) (c : Fields) → (ready : IsReady p h plan t) → r ≡ record_of t → IsDrawn r c
    → (c.name ≡ p.name) × IsPlaceOf ready.tracks.first c.first × IsPlaceOf ready.tracks.second c.second
own_record p h plan t r c ready same drawn =
    let is : fields_in t ≡ c = same_some (fields_in t) c (sym (config_reads t ready.fit.valid) ∙ ap (λ (q : Rec). config_in (config_of q.commit)) (sym same) ∙ drawn.config) in (
      sym (ap (λ (c : Fields). c.name) is) ∙ ready.name,
      (sym (ap (λ (c : Fields). c.first.member) is) ∙ ready.first.0, sym (ap (λ (c : Fields). c.first.name) is) ∙ ready.first.1),
      (sym (ap (λ (c : Fields). c.second.member) is) ∙ ready.second.0, sym (ap (λ (c : Fields). c.second.name) is) ∙ ready.second.1),
    )

-- The pool behind the round stands in the host behind the commit.
round_stands : (p : Pool) (h : HostState) (plan : List Ask) (t : PoolState) (before : List Noted) (results : List Bool) (vs : List Event) (failed : ℕ) → IsReady p h plan t
    → IsRoundEvents h.size (record_of t) (board t) results vs → failed ≡ failures results → Tracks (pool_after vs (with_calls before p)) (commit_outcome h t failed).0
round_stands p h plan t before results vs failed ready events is =
    tracks_move p behind (closed h) (commit_outcome h t failed).0 ready.tracks ends.name ends.member ends.guid ends.size (outcome_table h t failed) (outcome_size h t failed)
    (λ r drawn_there some. subst (IsIn r) (sym (outcome_records h t failed)) (⊎_elim
    (λ same. known_in t h.records r (known_all t ready.known) same) (λ earlier. drawn_stays t h.records r (ready.tracks.known r earlier some)) (ends.drawn_in r drawn_there)))
    (λ r c drawn_there drawn. ⊎_elim (λ same. own_record p h plan t r c ready same drawn) (λ earlier. ready.tracks.own r c earlier drawn) (ends.drawn_in r drawn_there))
    (stands_by p (with_calls before p) behind h plan t (calls_of vs) results failed ready refl refl refl is ends)
  where
    behind : Pool
    behind = pool_after vs (with_calls before p)

    ends : RoundEnds (with_calls before p) behind (record_of t) (all_true results) (calls_of vs)
    ends = round_ends h.size (with_calls before p) (record_of t) (board t) results vs events

-- A call of the plan failed: the pool is closed.
stopped_stands : (p : Pool) (h : HostState) (t : PoolState) (before : List Noted) (failed : ℕ) → Tracks p (closed h) → failed ≡ 1
    → Tracks (with_calls before p) (commit_outcome h t failed).0
stopped_stands p h t before failed tr one =
    subst (λ n. Tracks (with_calls before p) (commit_outcome h t n).0) (sym one)
    (tracks_move p (with_calls before p) (closed h) (commit_outcome h t 1).0 tr refl refl refl refl refl refl (λ r drawn_there some. drawn_stays t h.records r (tr.known r drawn_there some)) tr.own tt)

commit_by : (p : Pool) (h : HostState) (plan : List Ask) (t : PoolState) (before round : List Noted) (outcome : Option Fault) (failed : ℕ) → IsPart plan before outcome
    → IsRoundBehind h.size t outcome round failed → CommitFollows p h plan t (before ++ round) (commit_outcome h t failed).0
commit_by p h plan t before round None failed part (results, is_round, is) =
    let marked = round_marked h.size (record_of t) (board t) results round is_round in
    let vs = marked.0 in
    let ends = round_ends h.size (with_calls before p) (record_of t) (board t) results vs marked.2 in
    record {
      vs = as_events before ++ vs;
      calls = calls_more (as_events before) vs ∙ ap (λ made. made ++ calls_of vs) (calls_are before) ∙ ap (λ made. before ++ made) marked.1;
      one_run = stops_never_more (as_events before) vs (calls_never_stop before) (round_one_run h.size (record_of t) (board t) results vs marked.2);
      marks = marks_more (as_events before) vs (calls_marked before) (round_marks h.size (record_of t) (board t) results vs marked.2);
      member = ap (λ (q : Pool). q.member) (calls_then before vs p) ∙ ends.member;
      sectors = ap (λ (q : Pool). q.sectors) (calls_then before vs p) ∙ ends.sectors ∙ ap (λ made. run made (run before p.sectors)) marked.1 ∙ sym (run_more before round p.sectors);
      safe = λ ready sv. (
        round_moves p h plan t ready before results vs sv part marked.2,
        subst (λ q. Tracks q (commit_outcome h t failed).0) (sym (calls_then before vs p)) (round_stands p h plan t before results vs failed ready marked.2 is),
      );
    }
commit_by p h plan t before round (Some fault) failed part (none, one) = record {
  vs = as_events before;
  calls = calls_are before ∙ all;
  one_run = calls_never_stop before;
  marks = calls_marked before;
  member = ap (λ (q : Pool). q.member) (calls_after before p);
  sectors = calls_sectors before p ∙ ap (λ made. run made p.sectors) all;
  safe = λ ready sv. (
    part_may head_of plan before (Some fault) p ready.sparing part,
    subst (λ q. Tracks q (commit_outcome h t failed).0) (sym (calls_after before p)) (stopped_stands p h t before failed ready.tracks one),
  );
}
  where
    all : before ≡ before ++ round
    all = sym (append-nil before) ∙ ap (λ made. before ++ made) (sym none)

-- A commit follows each pool.
pub commit_follows : (p : Pool) (h : HostState) (plan : List Ask) (t : PoolState) (made : List Noted) (failed : ℕ) → IsCommit h.size plan t made failed
    → CommitFollows p h plan t made (commit_outcome h t failed).0
commit_follows p h plan t made failed c =
    subst (λ made. CommitFollows p h plan t made (commit_outcome h t failed).0) (sym c.all) (commit_by p h plan t c.before c.round c.outcome failed c.part c.behind)
