-- A round may be made: its walk from its row.
use Rattle.std.proofs.Common.{◌≡◌, ℕ, zero, suc, ◌≤◌, ◌==◌, Bool, true, false, List, [], ◌∷◌, ◌++◌, map, refl, sym, ap, ◌∙◌, subst, arith, append-nil, append_assoc}
use Rattle.std.specs.List.{AllByRecursion}
use Rattle.mp_base.specs.declared.number.Guid.{Guid}
use Rattle.bank_core.specs.Asks.{Ask}
use Rattle.bank_core.specs.Disk.{Noted}
use Rattle.label_store.specs.declared.member.Member.{Member}
use Rattle.label_store.specs.Phases.{IsTurn, IsPhase}
use Rattle.label_store.specs.Rounds.{first_plan, second_plan, third_plan, uberblock_of}
use Rattle.label_store.specs.Layout.{even_labels, odd_labels}
use Rattle.label_store.specs.Plans.{config_plan, ring_plan}
use Rattle.label_store.specs.Seats.{AreSeated}
use Rattle.txg_history.specs.Events.{Event, Begins, Third, Ends, Acks, as_events}
use Rattle.txg_history.specs.Groups.{Logs}
use Rattle.txg_history.specs.Moves.{Mays}
use Rattle.txg_history.specs.Pages.{Codec}
use Rattle.txg_history.specs.Pools.{Pool, pool_after}
use Rattle.txg_history.specs.Records.{Rec, Cells, laid_over}
use Rattle.txg_history.specs.Rounds.{all_true, ends_if, acks_or, IsThirds, IsRoundEvents}
use Rattle.txg_history.proofs.Folding.{mays_first, mays_second}
use Rattle.txg_history.proofs.RoundMoves.{round_may}
use Rattle.pool_moves.specs.Boards.{board_of}
use Rattle.pool_moves.specs.Keeping.{IsOfFound, IsDraftedBy, Kept, Walks}
use Rattle.pool_moves.specs.Leaves.{Seat, At, Adrift}
use Rattle.pool_moves.specs.Moves.{Draft, Move, Makes, Starts, Copies, Copied, rec_of, steps, after_move, after_moves}
use Rattle.pool_moves.specs.States.{PoolState, Side}
use Rattle.pool_moves.specs.TurnRows.{ended, IsThirdMoves, EndsRound, round_moves, RowRound}
use Rattle.pool_moves.specs.Walking.{events_along, IsFree, as_moves}
use Rattle.pool_moves.specs.Widening.{AreLeaves, seen_along}
use Rattle.pool_moves.proofs.Boarding.{frozen_core, is_frozen, seen_frozen, board_just, board_apart, board_found}
use Rattle.pool_moves.proofs.Drafting.{HasDraftTop, drawn_up, draft_tops, draft_knows}
use Rattle.pool_moves.proofs.FreeWalks.{walk_of, walks_more, free_walk, calls_along, frozen_along, pool_along}
use Rattle.pool_moves.proofs.Keeping.{walk_keeps}
use Rattle.pool_moves.proofs.Widenings.{seen_of, leaves_walk}
use Rattle.pool_moves.proofs.Lists.{all_append}

-- Calls, and marks of labels.
abbrev IsLabelMove : Move → Type 0
IsLabelMove (Makes noted) = Unit {0}
IsLabelMove (Copies draft d) = Unit {0}
IsLabelMove (Copied draft d) = Unit {0}
IsLabelMove v = ⊥

-- what they leave as it was
record Face : Type 0 where
  pub cells : Cells
  pub reads : Rec
  pub guid : ℕ → Guid
  pub in_top : ℕ → ℕ
  pub owes : Logs
  pub unbroken : Logs
  pub seats : List Seat

abbrev face : Side → Face
face t = record {
  cells = t.pool.group.cells;
  reads = t.pool.reads;
  guid = t.pool.guid;
  in_top = t.pool.in_top;
  owes = t.pool.owes;
  unbroken = t.pool.unbroken;
  seats = t.seats;
}

face_step : (v : Move) (t : Side) → IsLabelMove v → face (after_move v t) ≡ face t
face_step (Makes noted) t is = refl
face_step (Copies draft d) t is = refl
face_step (Copied draft d) t is = refl
face_step v t is = absurd is

face_along : (vs : List Move) (t : Side) → AllByRecursion IsLabelMove vs → face (after_moves vs t) ≡ face t
face_along [] t all = refl
face_along (v ∷ vs) t all = face_along vs (after_move v t) all.1 ∙ face_step v t all.0

calls_label : (made : List Noted) → AllByRecursion IsLabelMove (as_moves made)
calls_label [] = tt
calls_label (noted ∷ made) = (tt, calls_label made)

ended_label : (c : Bool) (draft : Draft) (d : ℕ) → AllByRecursion IsLabelMove (ended c draft d)
ended_label true draft d = (tt, tt)
ended_label false draft d = tt

thirds_label : (plan : Member → List Ask) (draft : Draft) (ms : List Member) (was is : List Bool) (vs : List Move) → IsThirdMoves plan draft ms was is vs → AllByRecursion IsLabelMove vs
thirds_label plan draft [] [] [] vs r = subst (AllByRecursion IsLabelMove) (sym r) tt
thirds_label plan draft (m ∷ ms) (true ∷ was) (c ∷ is) vs r = subst (AllByRecursion IsLabelMove) (sym r.2) (
  tt,
  all_append _ (as_moves r.0) (ended c draft m.dev ++ r.1) (calls_label r.0)
      (all_append _ (ended c draft m.dev) r.1 (ended_label c draft m.dev) (thirds_label plan draft ms was is r.1 r.4)),
)
thirds_label plan draft (m ∷ ms) (false ∷ was) (c ∷ is) vs r = thirds_label plan draft ms was is vs r.1
thirds_label plan draft [] [] (c ∷ is) vs r = absurd r
thirds_label plan draft [] (b ∷ was) is vs r = absurd r
thirds_label plan draft (m ∷ ms) [] is vs r = absurd r
thirds_label plan draft (m ∷ ms) (b ∷ was) [] vs r = absurd r

label_free : (seats : List Seat) (v : Move) → IsLabelMove v → IsFree seats v
label_free seats (Makes noted) is = tt
label_free seats (Copies draft d) is = tt
label_free seats (Copied draft d) is = tt
label_free seats v is = absurd is

labels_free : (seats : List Seat) (vs : List Move) → AllByRecursion IsLabelMove vs → AllByRecursion (IsFree seats) vs
labels_free seats [] all = tt
labels_free seats (v ∷ vs) all = (label_free seats v all.0, labels_free seats vs all.1)

-- the record of a draft behind them
same_rec : (draft : Draft) (vs : List Move) (t : Side) → AllByRecursion IsLabelMove vs → rec_of (after_moves vs t).pool draft ≡ rec_of t.pool draft
same_rec draft vs t all = ap (λ f. record { commit = draft.commit; cells = laid_over f.cells f.reads.cells; tops = draft.tops; owes = draft.owes }) (face_along vs t all)

-- the marks of a third phase are its events
ended_along : (c : Bool) (draft : Draft) (d : ℕ) (q : Rec) (ws : List Move) (t : Side) → rec_of t.pool draft ≡ q
    → events_along (ended c draft d ++ ws) t ≡ ends_if c q d ++ events_along ws (after_moves (ended c draft d) t)
ended_along true draft d q ws t same = ap (λ r. Ends r d ∷ events_along ws (after_move (Copied draft d) t)) same
ended_along false draft d q ws t same = refl

thirds_along : (plan : Member → List Ask) (draft : Draft) (q : Rec) (ms : List Member) (was is : List Bool) (vs : List Move) (t : Side) → rec_of t.pool draft ≡ q
    → IsThirdMoves plan draft ms was is vs → IsThirds plan q ms was is (events_along vs t)
thirds_along plan draft q [] [] [] vs t same r = ap (λ l. events_along l t) r
thirds_along plan draft q (m ∷ ms) (true ∷ was) (c ∷ is) vs t same r =
    let begun = after_move (Copies draft m.dev) t in
    let called = after_moves (as_moves r.0) begun in
    let called_same : rec_of called.pool draft ≡ q = same_rec draft (as_moves r.0) begun (calls_label r.0) ∙ same in
    let behind = after_moves (ended c draft m.dev) called in (
      r.0,
      events_along r.1 behind,
      ap (λ l. events_along l t) r.2
          ∙ (ap (λ x. Third x m.dev ∷ events_along (as_moves r.0 ++ (ended c draft m.dev ++ r.1)) begun) same
          ∙ ap (λ l. Third q m.dev ∷ l) (calls_along r.0 (ended c draft m.dev ++ r.1) begun
          ∙ ap (λ l. as_events r.0 ++ l) (ended_along c draft m.dev q r.1 called called_same))),
      r.3,
      thirds_along plan draft q ms was is r.1 behind
          (same_rec draft (ended c draft m.dev) called (ended_label c draft m.dev) ∙ called_same) r.4,
    )
thirds_along plan draft q (m ∷ ms) (false ∷ was) (c ∷ is) vs t same r = (r.0, thirds_along plan draft q ms was is vs t same r.1)
thirds_along plan draft q [] [] (c ∷ is) vs t same r = absurd r
thirds_along plan draft q [] (b ∷ was) is vs t same r = absurd r
thirds_along plan draft q (m ∷ ms) [] is vs t same r = absurd r
thirds_along plan draft q (m ∷ ms) (b ∷ was) [] vs t same r = absurd r

-- Plans that are the same for each member of a list.
same_phase : (plan other : Member → List Ask) (ms : List Member) (was is : List Bool) (made : List Noted) → AllByRecursion (λ m. plan m ≡ other m) ms
    → IsPhase plan ms was is made → IsPhase other ms was is made
same_phase plan other [] [] [] made all ph = ph
same_phase plan other (m ∷ ms) (b ∷ was) (c ∷ is) made all ph =
    (ph.0, ph.1, ph.2, subst (λ asks. IsTurn asks b c ph.0) all.0 ph.3, same_phase plan other ms was is ph.1 all.1 ph.4)
same_phase plan other [] [] (c ∷ is) made all ph = absurd ph
same_phase plan other [] (b ∷ was) is made all ph = absurd ph
same_phase plan other (m ∷ ms) [] is made all ph = absurd ph
same_phase plan other (m ∷ ms) (b ∷ was) [] made all ph = absurd ph

same_thirds : (plan other : Member → List Ask) (draft : Draft) (ms : List Member) (was is : List Bool) (vs : List Move) → AllByRecursion (λ m. plan m ≡ other m) ms
    → IsThirdMoves plan draft ms was is vs → IsThirdMoves other draft ms was is vs
same_thirds plan other draft [] [] [] vs all r = r
same_thirds plan other draft (m ∷ ms) (true ∷ was) (c ∷ is) vs all r =
    (r.0, r.1, r.2, subst (λ asks. IsTurn asks true c r.0) all.0 r.3, same_thirds plan other draft ms was is r.1 all.1 r.4)
same_thirds plan other draft (m ∷ ms) (false ∷ was) (c ∷ is) vs all r = (r.0, same_thirds plan other draft ms was is vs all.1 r.1)
same_thirds plan other draft [] [] (c ∷ is) vs all r = absurd r
same_thirds plan other draft [] (b ∷ was) is vs all r = absurd r
same_thirds plan other draft (m ∷ ms) [] is vs all r = absurd r
same_thirds plan other draft (m ∷ ms) (b ∷ was) [] vs all r = absurd r

-- the run has each of these devices as the history has it
sized : (size was : ℕ → ℕ) (ms : List Member) → ((d : ℕ) → 1 ≤ size d → was d ≡ size d) → AreSeated size ms → AllByRecursion (λ m. size m.dev ≡ was m.dev) ms
sized size was [] same seated = tt
sized size was (m ∷ ms) same seated = (sym (same m.dev (let big = seated zero m refl in omega (arith, big))), sized size was ms same (λ i n e. seated (suc i) n e))

sized_plans : (size was : ℕ → ℕ) (plan : (ℕ → ℕ) → Member → List Ask) → ((a b : ℕ → ℕ) (m : Member) → a m.dev ≡ b m.dev → plan a m ≡ plan b m) → (ms : List Member)
    → AllByRecursion (λ m. size m.dev ≡ was m.dev) ms → AllByRecursion (λ m. plan size m ≡ plan was m) ms
sized_plans size was plan by [] all = tt
sized_plans size was plan by (m ∷ ms) all = (by size was m all.0, sized_plans size was plan by ms all.1)

-- What each seat needs for an acknowledgement: it had it when the round began, and calls and marks leave it so.
abbrev Drafted : Draft → Face → Type 0
Drafted draft f = AllByRecursion (IsDraftedBy f.unbroken f.owes f.guid f.in_top draft) f.seats

started_drafted : (p : Pool) (draft : Draft) (seats : List Seat) → AllByRecursion (HasDraftTop p draft) seats → AllByRecursion (IsDraftedBy p.owes p.owes p.guid p.in_top draft) seats
started_drafted p draft [] all = tt
started_drafted p draft (At d found own ∷ seats) all = ((refl, all.0), started_drafted p draft seats all.1)
started_drafted p draft (Adrift leaf ∷ seats) all = (tt, started_drafted p draft seats all.1)

-- lists one after another
three_more : {A : Type 0} (a b c d : List A) → (a ++ (b ++ c)) ++ d ≡ a ++ (b ++ (c ++ d))
three_more a b c d = append_assoc a (b ++ c) d ∙ ap (λ l. a ++ l) (append_assoc b c d)

round_at : (c : Codec) (size : ℕ → ℕ) (s : PoolState) (t : Side) (vs : List Move) (whole : Bool) → Kept c s t → t.pool.group.frozen ≡ true
    → ((d : ℕ) → 1 ≤ size d → t.pool.size d ≡ size d) → RowRound c size (frozen_core t) vs whole → Walks c t vs
round_at c size s t vs whole kept f same row = subst (Walks c t) (sym row.moves) (walks_more c pre row.ending t pre_walk (end whole row.whole_is row.ends))
  where
    p : Pool
    p = t.pool

    draft : Draft
    draft = row.draft

    q : Rec
    q = rec_of t.pool row.draft

    ms : List Member
    ms = board_of (frozen_core t).leaves

    begun : Side
    begun = after_move (Starts row.draft) t

    second : Side
    second = after_moves (as_moves row.first) (after_move (Starts row.draft) t)

    third : Side
    third = after_moves (as_moves row.second) (after_moves (as_moves row.first) (after_move (Starts row.draft) t))

    ending : Side
    ending = after_moves row.thirds (after_moves (as_moves row.second) (after_moves (as_moves row.first) (after_move (Starts row.draft) t)))

    pre : List Move
    pre = round_moves row.draft row.first row.second row.thirds

    third_same : rec_of (after_moves (as_moves row.second) (after_moves (as_moves row.first) (after_move (Starts row.draft) t))).pool row.draft ≡ rec_of t.pool row.draft
    third_same = same_rec row.draft (as_moves row.second) (after_moves (as_moves row.first) (after_move (Starts row.draft) t)) (calls_label row.second)
        ∙ same_rec row.draft (as_moves row.first) (after_move (Starts row.draft) t) (calls_label row.first)

    thirds_are : AllByRecursion IsLabelMove row.thirds
    thirds_are = thirds_label (third_plan size row.draft.commit) row.draft (board_of (frozen_core t).leaves) row.in_second row.results row.thirds row.copies

    ending_same : rec_of (after_moves row.thirds (after_moves (as_moves row.second) (after_moves (as_moves row.first) (after_move (Starts row.draft) t)))).pool row.draft ≡ rec_of t.pool row.draft
    ending_same = same_rec row.draft row.thirds (after_moves (as_moves row.second) (after_moves (as_moves row.first) (after_move (Starts row.draft) t)))
        (thirds_label (third_plan size row.draft.commit) row.draft (board_of (frozen_core t).leaves) row.in_second row.results row.thirds row.copies)
        ∙ (same_rec row.draft (as_moves row.second) (after_moves (as_moves row.first) (after_move (Starts row.draft) t)) (calls_label row.second)
        ∙ same_rec row.draft (as_moves row.first) (after_move (Starts row.draft) t) (calls_label row.first))

    pre_events : List Event
    pre_events = Begins q ∷ (as_events row.first ++ (as_events row.second ++ events_along row.thirds third))

    pre_along : events_along (round_moves row.draft row.first row.second row.thirds) t
        ≡ Begins (rec_of t.pool row.draft) ∷ (as_events row.first ++ (as_events row.second
        ++ events_along row.thirds (after_moves (as_moves row.second) (after_moves (as_moves row.first) (after_move (Starts row.draft) t)))))
    pre_along = ap (λ l. Begins q ∷ l) (calls_along row.first (as_moves row.second ++ row.thirds) begun
        ∙ ap (λ l. as_events row.first ++ l) (calls_along row.second row.thirds second))

    sizes : AllByRecursion (λ m. size m.dev ≡ t.pool.size m.dev) (board_of (frozen_core t).leaves)
    sizes = sized size t.pool.size (board_of (frozen_core t).leaves) same row.seated

    as_round : IsRoundEvents p.size q ms row.results (Begins q ∷ (as_events row.first ++ (as_events row.second ++ (events_along row.thirds third ++ acks_or (all_true row.results) q ms row.results))))
    as_round = record {
      first = row.first;
      second = row.second;
      thirds = events_along row.thirds third;
      in_first = row.in_first;
      in_second = row.in_second;
      all = refl;
      configs = same_phase (first_plan size draft.commit) (first_plan p.size draft.commit) ms (map (λ m. true) ms) row.in_first row.first
          (sized_plans size p.size (λ z m. first_plan z draft.commit m) (λ a b m e. ap (λ n. config_plan m.dev (even_labels n) draft.commit.blob) e) ms sizes) row.configs;
      uberblocks = same_phase (second_plan size draft.commit) (second_plan p.size draft.commit) ms row.in_first row.in_second row.second
          (sized_plans size p.size (λ z m. second_plan z draft.commit m) (λ a b m e. ap (λ n. ring_plan m.dev n (uberblock_of draft.commit m)) e) ms sizes) row.uberblocks;
      copies = thirds_along (third_plan p.size draft.commit) draft q ms row.in_second row.results row.thirds third third_same
          (same_thirds (third_plan size draft.commit) (third_plan p.size draft.commit) draft ms row.in_second row.results row.thirds
          (sized_plans size p.size (λ z m. third_plan z draft.commit m) (λ a b m e. ap (λ n. config_plan m.dev (odd_labels n) draft.commit.blob) e) ms sizes) row.copies);
    }

    middle : List Move
    middle = as_moves row.first ++ (as_moves row.second ++ row.thirds)

    middle_label : AllByRecursion IsLabelMove (as_moves row.first ++ (as_moves row.second ++ row.thirds))
    middle_label = all_append _ (as_moves row.first) (as_moves row.second ++ row.thirds) (calls_label row.first)
        (all_append _ (as_moves row.second) row.thirds (calls_label row.second)
        (thirds_label (third_plan size row.draft.commit) row.draft (board_of (frozen_core t).leaves) row.in_second
        row.results row.thirds row.copies))

    end_face : face (after_moves (as_moves row.first ++ (as_moves row.second ++ row.thirds)) (after_move (Starts row.draft) t)) ≡ face (after_move (Starts row.draft) t)
    end_face = face_along middle begun middle_label

    may : Mays c t.pool ((Begins (rec_of t.pool row.draft) ∷ (as_events row.first ++ (as_events row.second
        ++ events_along row.thirds (after_moves (as_moves row.second) (after_moves (as_moves row.first) (after_move (Starts row.draft) t))))))
        ++ acks_or (all_true row.results) (rec_of t.pool row.draft) (board_of (frozen_core t).leaves) row.results)
    may = subst (λ l. Mays c p (Begins q ∷ l)) (sym (three_more (as_events row.first) (as_events row.second) (events_along row.thirds third) (acks_or (all_true row.results) q ms row.results)))
        (round_may c p q ms row.results (Begins q ∷ (as_events row.first ++ (as_events row.second ++ (events_along row.thirds third ++ acks_or (all_true row.results) q ms row.results))))
        kept.survives (drawn_up c s t draft kept f row.flushed row.fresh row.boards row.leaves row.fits) (board_just c s t kept f) (board_apart c s t kept) as_round)

    pre_walk : Walks c t (round_moves row.draft row.first row.second row.thirds)
    pre_walk = walk_of c pre t (subst (Mays c p) (sym pre_along) (mays_first c pre_events (acks_or (all_true row.results) q ms row.results) p may))
        ((f, draft_knows t.pool draft t.seats row.leaves), free_walk middle begun f (labels_free begun.seats middle middle_label))

    ended_side : Side
    ended_side = after_moves (round_moves row.draft row.first row.second row.thirds) t

    ended_frozen : (after_moves (round_moves row.draft row.first row.second row.thirds) t).pool.group.frozen ≡ true
    ended_frozen = frozen_along middle begun (labels_free begun.seats middle middle_label) ∙ f

    ended_found : AllByRecursion (λ m. AllByRecursion (IsOfFound (λ e. m.dev == e)) (after_moves (round_moves row.draft row.first row.second row.thirds) t).seats) (board_of (frozen_core t).leaves)
    ended_found = subst (λ seats. AllByRecursion (λ m. AllByRecursion (IsOfFound (λ e. m.dev == e)) seats) ms) (sym (ap (λ x. x.seats) end_face)) (board_found c s t kept)

    ended_same : rec_of (after_moves (round_moves row.draft row.first row.second row.thirds) t).pool row.draft ≡ rec_of t.pool row.draft
    ended_same = same_rec row.draft middle begun middle_label

    end : (w : Bool) → w ≡ all_true row.results → EndsRound w (seen_along (round_moves row.draft row.first row.second row.thirds) (frozen_core t)) row.draft (board_of (frozen_core t).leaves) row.results row.ending
        → Walks c (after_moves (round_moves row.draft row.first row.second row.thirds) t) row.ending
    end true is e = subst (Walks c ended_side) (sym e) (
      (
        (subst (λ r. Mays c ended_side.pool (Acks r ∷ [])) (sym ended_same)
            (subst (λ x. Mays c x (Acks q ∷ [])) (sym (pool_along pre t ∙ ap (λ l. pool_after l p) pre_along))
            (subst (λ w. Mays c (pool_after pre_events p) (acks_or w q ms row.results)) (sym is)
            (mays_second c pre_events (acks_or (all_true row.results) q ms row.results) p may)))),
        (ended_frozen, subst (Drafted draft) (sym end_face) (started_drafted p draft t.seats (draft_tops c s t draft kept row.leaves))),
      ),
      tt,
    )
    end false is e = subst (Walks c ended_side) (append-nil row.ending)
        (leaves_walk c ms row.results row.ending [] (steps pre s) ended_side ended_side.pool (walk_keeps c pre s t pre_walk kept) (ended_side.pool.owes, refl) ended_frozen ended_found
        (subst (λ core. AreLeaves core ms row.results row.ending) (sym (seen_of pre s ∙ ap (λ core. seen_along pre core) (seen_frozen c s t kept f))) e) (λ u like g. tt))

pub round_walks : (c : Codec) (size : ℕ → ℕ) (s : PoolState) (t : Side) (vs : List Move) (whole : Bool) → Kept c s t
    → ((d : ℕ) → 1 ≤ size d → t.pool.size d ≡ size d) → RowRound c size s.core vs whole → Walks c t vs
round_walks c size s t vs whole kept same row = let f = is_frozen c s t kept row.frozen in
    round_at c size s t vs whole kept f same (subst (λ core. RowRound c size core vs whole) (seen_frozen c s t kept f) row)
