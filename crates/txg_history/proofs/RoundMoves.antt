-- A round of a record that is drawn up is allowed, event by event, and what it leaves of the pool.
use Rattle.std.proofs.Common.{
  ◌≡◌,
  ◌≢◌,
  ℕ,
  ◌⊎◌,
  ◌+◌,
  ◌^◌,
  ◌<◌,
  ◌≤◌,
  not,
  zero,
  suc,
  Bool,
  true,
  false,
  List,
  [],
  ◌∷◌,
  ◌++◌,
  map,
  Some,
  None,
  refl,
  sym,
  ap,
  ◌∙◌,
  subst,
  arith,
  inl,
  inr,
  append-nil,
  ⊎_elim,
}
use Rattle.std.specs.Prelude.{slice_get}
use Rattle.std.proofs.lemmas.Bool.{and_parts}
use Rattle.bank_core.specs.Disk.{Sectors, Noted, run, sectors_in}
use Rattle.bank_core.specs.Standing.{Stands, Untouched, Spares}
use Rattle.bank_core.proofs.Composing.{run_more}
use Rattle.bank_core.proofs.Standing.{untouched_stands}
use Rattle.label_store.specs.declared.member.Member.{Member}
use Rattle.txg_history.specs.Pages.{Codec}
use Rattle.label_store.specs.Layout.{slot_of}
use Rattle.label_store.specs.Phases.{IsPhase}
use Rattle.label_store.specs.Rounds.{uberblock_of, first_plan, second_plan, third_plan}
use Rattle.label_store.specs.Seats.{AreApart}
use Rattle.label_store.specs.Uberblock.{uberblock_bytes}
use Rattle.label_store.proofs.Keeping.{others, phase_spares, phase_lands, phase_was}
use Rattle.label_store.proofs.Places.{label_is, config_elsewhere_even, ring_elsewhere, ring_spares_config, even_lands, ring_lands, uberblock_sectors}
use Rattle.txg_history.specs.Events.{Event, Begins, Acks, calls_of, as_events}
use Rattle.txg_history.specs.Labels.{Status, Odd, Even}
use Rattle.txg_history.specs.Moves.{IsLeafOf, IsDrawnUp, MayAck, Mays}
use Rattle.txg_history.specs.Needs.{NeedsLabel}
use Rattle.txg_history.specs.Pools.{Pool, after, pool_after, seat, noted_since, since_after, noted_copies, copies_after}
use Rattle.txg_history.specs.Records.{Rec, IsNoLeaf, number_of, takes_part}
use Rattle.txg_history.specs.Rounds.{all_true, acks_or, behind_round, IsStatusBehind, IsRoundEvents, RoundEnds}
use Rattle.txg_history.specs.Turns.{AreJust, OnBoard}
use Rattle.txg_history.specs.Survival.{Survives}
use Rattle.txg_history.proofs.Folding.{with_calls, pool_more, calls_then, mays_more, mays_calls, calls_more, calls_are}
use Rattle.txg_history.proofs.Leaving.{without, leavers_may, leavers_pool, board_behind, left_board_is, left_owes_is}
use Rattle.txg_history.proofs.Logging.{by_bool, true_not_false}
use Rattle.txg_history.proofs.Placing.{AreBetween, all_between}
use Rattle.txg_history.proofs.RoundParts.{IsSeated, by_device, few_of, first_sparing, second_sparing, member_range}
use Rattle.txg_history.proofs.RoundShapes.{acks_no_call}
use Rattle.txg_history.proofs.RoundsSurvive.{begins_survive}
use Rattle.txg_history.proofs.Sparing.{phase_may, still_sparing}
use Rattle.txg_history.proofs.Thirds.{AreReady, thirds_may, turns_pool, thirds_turns, thirds_result, thirds_away, thirds_odd, thirds_failed}

-- A round's setting: the pool, the record, and the members on the board.
record Setting (codec : Codec) (p : Pool) (q : Rec) (ms : List Member) : Type 0 where
  survives : Survives codec p
  drawn_up : IsDrawnUp codec p q
  members : AreJust p (OnBoard p) ms
  apart : AreApart ms

lacks_out : (t u : Bool) → t ≡ u → u ≡ false → not t ≡ true
lacks_out true u e f = absurd (cc)
lacks_out false u e f = refl

has_in : (t u : Bool) → t ≡ u → u ≡ true → not t ≡ true → ⊥
has_in true u e f g = absurd (cc)
has_in false u e f g = cc

-- A member on the board takes part in a record that is drawn up, and one that takes part is on the board.
pub board_takes : (codec : Codec) (p : Pool) (q : Rec) (d : ℕ) → Survives codec p → IsDrawnUp codec p q
    → p.member d ≡ true → p.group.board d ≡ true → takes_part q (p.guid d) ≡ true
board_takes codec p q d sv m is on = of (m.leaves d is)
  where
    of : IsLeafOf p q d ⊎ (IsNoLeaf q (p.guid d) × (p.group.board d ≡ false)) → takes_part q (p.guid d) ≡ true
    of (inl leaf) = lacks_out (q.owes (p.guid d) (number_of q)) (p.owes d (number_of q)) (leaf.log_is (number_of q))
        (subst (λ n. p.owes d n ≡ false) (sym m.number_is) (sv.boards.on_board m.frozen d p.highest is on (sv.boards.first_top m.frozen) (omega arith)))
    of (inr none) = true_not_false (p.group.board d) on none.1

pub takes_board : (codec : Codec) (p : Pool) (q : Rec) (d : ℕ) → Survives codec p → IsDrawnUp codec p q
    → p.member d ≡ true → takes_part q (p.guid d) ≡ true → p.group.board d ≡ true
takes_board codec p q d sv m is takes = by_bool (p.group.board d) (λ on. on) (λ out. absurd (of out (m.leaves d is)))
  where
    of : p.group.board d ≡ false → IsLeafOf p q d ⊎ (IsNoLeaf q (p.guid d) × (p.group.board d ≡ false)) → ⊥
    of out (inl leaf) = has_in (q.owes (p.guid d) (number_of q)) (p.owes d (number_of q)) (leaf.log_is (number_of q))
        (subst (λ n. p.owes d n ≡ true) (sym m.number_is) (sv.boards.off_board m.frozen d p.highest is out (sv.boards.first_top m.frozen) (omega arith))) takes
    of out (inr none) = has_in (q.owes (p.guid d) (number_of q)) true (none.0.all (number_of q)) refl takes

seated_of : (codec : Codec) (p : Pool) (q : Rec) (ms : List Member) → Setting codec p q ms → (j : ℕ) (m : Member)
    → slice_get ms j ≡ Some m → p.member m.dev ≡ true → IsSeated p q m
seated_of codec p q ms s j m e is = let at = s.members.seated j m e is in record {
  is_member = is;
  takes = board_takes codec p q m.dev s.survives s.drawn_up is at.1;
  big = s.survives.roomy.sizes m.dev is;
  in_range = subst (λ g. g.0 < 2 ^ 64) (sym (ap (λ m. m.guid) at.0)) (s.survives.roomy.guids m.dev is);
  seat_is = at.0;
}

-- the second phase leaves the configuration of a member's label 0
second_off_part : (codec : Codec) (p : Pool) (q : Rec) (ms : List Member) (was is : List Bool) (made : List Noted) (d i : ℕ)
    → Setting codec p q ms → p.member d ≡ true → i < 28 → IsPhase (second_plan p.size q.commit) ms was is made → Untouched made d (4 + i)
second_off_part codec p q ms was is made d i s is_member lt ph =
    phase_spares (second_plan p.size q.commit) ms was is made d (4 + i)
    (λ j n e on. by_device (λ x. p.member x ≡ true → Spares (second_plan p.size q.commit n) x (4 + i)) n.dev d
    (λ here. let seated = seated_of codec p q ms s j n e here in
    ring_spares_config n.dev (p.size n.dev) (uberblock_of q.commit n) n.dev 0 i seated.big
    (uberblock_sectors (uberblock_of q.commit n) (member_range codec p q n s.drawn_up.fits seated).sum)
    (label_is (p.size n.dev) 0 (omega arith)) lt)
    (λ ne other. ring_elsewhere n.dev (p.size n.dev) (uberblock_of q.commit n) d (4 + i) ne) is_member) ph

-- Behind the first two phases, what the even labels of a member that is still in the round promise stands.
front_stands : (codec : Codec) (p : Pool) (q : Rec) (ms : List Member) (results : List Bool) (vs : List Event) → Setting codec p q ms
    → (r : IsRoundEvents p.size q ms results vs) → (j : ℕ) (m : Member) → slice_get ms j ≡ Some m → slice_get r.in_second j ≡ Some true → p.member m.dev ≡ true
    → (s : ℕ) (bytes : List ℕ) → NeedsLabel (seat p m.dev) (Even q) s bytes → Stands (run r.second (run r.first p.sectors) m.dev s) bytes
front_stands codec p q ms results vs st r j m at on is s bytes (inl (e, b)) =
    subst (λ t. Stands (run r.second (run r.first p.sectors) m.dev t) bytes) (sym there)
    (subst (Stands (run r.second (run r.first p.sectors) m.dev (0 + (32 + slot_of (number_of q)))))
    (ap (λ n. uberblock_bytes (uberblock_of q.commit n)) seated.seat_is ∙ sym b)
    (phase_lands (second_plan p.size q.commit) ms r.in_first r.in_second r.second j m m.dev (0 + (32 + slot_of (number_of q))) _ _ at on
    (λ i n e' ne. ring_elsewhere n.dev (p.size n.dev) (uberblock_of q.commit n) m.dev _ (others ms j i m n st.apart at e' ne))
    (λ mine y part. ring_lands m.dev (p.size m.dev) (uberblock_of q.commit m) mine y seated.big
    (member_range codec p q m st.drawn_up.fits seated).sum part) r.uberblocks))
  where
    seated : IsSeated p q m
    seated = seated_of codec p q ms st j m at is

    there : s ≡ 0 + (32 + slot_of (number_of q))
    there = omega (arith, e)
front_stands codec p q ms results vs st r j m at on is s bytes (inr (i, lt, e, b)) =
    subst (λ t. Stands (run r.second (run r.first p.sectors) m.dev t) bytes) (sym e)
    (subst (Stands (run r.second (run r.first p.sectors) m.dev (4 + i))) (sym b)
    (untouched_stands r.second m.dev (4 + i) _ _
    (second_off_part codec p q ms r.in_first r.in_second r.second m.dev i st is (omega (arith, lt, few)) r.uberblocks)
    (phase_lands (first_plan p.size q.commit) ms (map (λ n. true) ms) r.in_first r.first j m m.dev (4 + i) _ _ at
    (phase_was (second_plan p.size q.commit) ms r.in_first r.in_second r.second j on r.uberblocks)
    (λ i' n e' ne. config_elsewhere_even n.dev (p.size n.dev) q.commit.blob m.dev _ (others ms j i' m n st.apart at e' ne))
    (λ mine y part. even_lands m.dev (p.size m.dev) q.commit.blob i mine y seated.big few lt part) r.configs)))
  where
    seated : IsSeated p q m
    seated = seated_of codec p q ms st j m at is

    few : sectors_in q.commit.blob ≤ 28
    few = few_of codec p.name p.pool p.room q st.drawn_up.fits

-- the pool behind the first two phases
abbrev front : (q : Rec) (first second : List Noted) → Pool → Pool
front q first second p = with_calls second (with_calls first (after (Begins q) p))

seated_front : (p : Pool) (m : Member) (q : Rec) (first second : List Noted) → IsSeated p q m → IsSeated (front q first second p) q m
seated_front p m q first second s = record { is_member = s.is_member; takes = s.takes; big = s.big; in_range = s.in_range; seat_is = s.seat_is }

begun_between : (codec : Codec) (p : Pool) (q : Rec) (ms : List Member) → Setting codec p q ms → AreBetween (after (Begins q) p)
begun_between codec p q ms st = all_between codec (after (Begins q) p) (begins_survive codec p q st.survives st.drawn_up)

front_ready : (codec : Codec) (p : Pool) (q : Rec) (ms : List Member) (results : List Bool) (vs : List Event) → Setting codec p q ms
    → (r : IsRoundEvents p.size q ms results vs) → AreReady codec (front q r.first r.second p) q ms r.in_second
front_ready codec p q ms results vs st r = record {
  is_live = inl refl;
  number_is = st.drawn_up.number_is;
  taken = refl;
  fits = st.drawn_up.fits;
  seated = λ j m e is. seated_front p m q r.first r.second (seated_of codec p q ms st j m e is);
  between = let b = begun_between codec p q ms st in record { put = b.put; soft = b.soft; live = b.live };
  apart = st.apart;
  stands = front_stands codec p q ms results vs st r;
}

-- a list of results without a failed one
all_at : (results : List Bool) (i : ℕ) (c : Bool) → all_true results ≡ true → slice_get results i ≡ Some c → c ≡ true
all_at [] i c all e = absurd (none e)
  where
    none : None ≡ Some c → ⊥
    none e = cc
all_at (b ∷ results) zero c all e = same e ∙ (and_parts b (all_true results) all).0
  where
    same : Some b ≡ Some c → c ≡ b
    same e = cc
all_at (b ∷ results) (suc i) c all e = all_at results i c (and_parts b (all_true results) all).1 e

-- where none failed, the labels of each member that takes part hold the new record
all_odd : (codec : Codec) (p : Pool) (q : Rec) (ms : List Member) (results : List Bool) (vs : List Event) → Setting codec p q ms
    → (r : IsRoundEvents p.size q ms results vs) → all_true results ≡ true → (d : ℕ) → p.member d ≡ true → takes_part q (p.guid d) ≡ true
    → (pool_after r.thirds (front q r.first r.second p)).status d ≡ Odd q
all_odd codec p q ms results vs st r all d is takes =
    let at = st.members.all d is (takes_board codec p q d st.survives st.drawn_up is takes) in
    let result = thirds_result (third_plan p.size q.commit) q ms r.in_second results r.thirds at.0 (seat p d) at.1 r.copies in
    thirds_odd (third_plan p.size q.commit) q ms r.in_second results r.thirds (front q r.first r.second p) at.0 (seat p d) st.apart at.1
    (result.1 ∙ ap Some (all_at results at.0 result.0 all result.1)) r.copies

acks_may : (codec : Codec) (q : Rec) (ms : List Member) (results : List Bool) (whole : Bool) (p : Pool) → p.group.frozen ≡ true → (whole ≡ true → MayAck p q)
    → Mays codec p (acks_or whole q ms results)
acks_may codec q ms results true p f ack = (ack refl, tt)
acks_may codec q ms results false p f ack = leavers_may codec ms results p f

may_ack : (codec : Codec) (p : Pool) (q : Rec) (ms : List Member) (results : List Bool) (vs : List Event) → Setting codec p q ms
    → (r : IsRoundEvents p.size q ms results vs) → all_true results ≡ true → MayAck (pool_after r.thirds (front q r.first r.second p)) q
may_ack codec p q ms results vs st r all =
    subst (λ x. MayAck x q)
    (sym (turns_pool r.thirds (front q r.first r.second p) (thirds_turns (third_plan p.size q.commit) q ms r.in_second results r.thirds r.copies)))
    (record {
      frozen = st.drawn_up.frozen;
      begun = refl;
      rest = p.live;
      newest = refl;
      number_is = st.drawn_up.number_is;
      all = all_odd codec p q ms results vs st r all;
      logs = λ d g is leaf owed. same_log d g leaf owed (st.drawn_up.leaves d is);
    })
  where
    same_log : (d g : ℕ) → 1 ≤ q.tops (p.guid d) → q.owes (p.guid d) g ≡ true → IsLeafOf p q d
        ⊎ (IsNoLeaf q (p.guid d) × (p.group.board d ≡ false)) → p.owes d g ≡ true
    same_log d g leaf owed (inl of) = sym (of.log_is g) ∙ owed
    same_log d g leaf owed (inr none) = absurd (omega (arith, leaf, none.0.no_top))

still_frozen : (codec : Codec) (p : Pool) (q : Rec) (ms : List Member) (results : List Bool) (vs : List Event) → Setting codec p q ms
    → (r : IsRoundEvents p.size q ms results vs) → (pool_after r.thirds (front q r.first r.second p)).group.frozen ≡ true
still_frozen codec p q ms results vs st r =
    ap (λ x. x.group.frozen) (turns_pool r.thirds (front q r.first r.second p)
    (thirds_turns (third_plan p.size q.commit) q ms r.in_second results r.thirds r.copies))
    ∙ st.drawn_up.frozen

round_allowed : (codec : Codec) (p : Pool) (q : Rec) (ms : List Member) (results : List Bool) (vs : List Event) → Setting codec p q ms
    → IsRoundEvents p.size q ms results vs → Mays codec p vs
round_allowed codec p q ms results vs st r =
    let begun = after (Begins q) p in
    subst (Mays codec p) (sym r.all) (
      st.drawn_up,
      mays_calls codec r.first (as_events r.second ++ (r.thirds ++ acks_or (all_true results) q ms results)) begun
          (phase_may codec (first_plan p.size q.commit) ms (map (λ m. true) ms) r.in_first r.first begun
          (λ j m e. first_sparing codec p q m st.survives (begun_between codec p q ms st) st.drawn_up.fits (seated_of codec p q ms st j m e)) r.configs)
          (mays_calls codec r.second (r.thirds ++ acks_or (all_true results) q ms results) (with_calls r.first begun)
          (phase_may codec (second_plan p.size q.commit) ms r.in_first r.in_second r.second (with_calls r.first begun)
          (λ j m e. still_sparing r.first begun (second_plan p.size q.commit m)
          (second_sparing codec p q m st.survives (begun_between codec p q ms st) st.drawn_up.fits (seated_of codec p q ms st j m e))) r.uberblocks)
          (mays_more codec r.thirds (acks_or (all_true results) q ms results) (front q r.first r.second p)
          (thirds_may codec q ms r.in_second results r.thirds (front q r.first r.second p) (front_ready codec p q ms results vs st r) r.copies)
          (acks_may codec q ms results (all_true results) (pool_after r.thirds (front q r.first r.second p))
          (still_frozen codec p q ms results vs st r) (may_ack codec p q ms results vs st r)))),
    )

-- A round of a record that is drawn up is allowed.
pub round_may : (codec : Codec) (p : Pool) (q : Rec) (members : List Member) (results : List Bool) (vs : List Event)
    → Survives codec p → IsDrawnUp codec p q → AreJust p (OnBoard p) members → AreApart members → IsRoundEvents p.size q members results vs → Mays codec p vs
round_may codec p q members results vs survives drawn_up are apart r =
    round_allowed codec p q members results vs (record { survives = survives; drawn_up = drawn_up; members = are; apart = apart }) r

-- the calls of a round's events, and the pool behind them
round_calls : (size : ℕ → ℕ) (q : Rec) (ms : List Member) (results : List Bool) (vs : List Event) → (r : IsRoundEvents size q ms results vs)
    → calls_of vs ≡ r.first ++ (r.second ++ calls_of r.thirds)
round_calls size q ms results vs r =
    ap calls_of r.all
    ∙ calls_more (as_events r.first) (as_events r.second ++ (r.thirds ++ acks_or (all_true results) q ms results))
    ∙ ap (λ l. l ++ calls_of (as_events r.second ++ (r.thirds ++ acks_or (all_true results) q ms results))) (calls_are r.first)
    ∙ ap (λ l. r.first ++ l) (calls_more (as_events r.second) (r.thirds ++ acks_or (all_true results) q ms results)
    ∙ ap (λ l. l ++ calls_of (r.thirds ++ acks_or (all_true results) q ms results)) (calls_are r.second)
    ∙ ap (λ l. r.second ++ l) (calls_more r.thirds (acks_or (all_true results) q ms results)
    ∙ ap (λ l. calls_of r.thirds ++ l) (acks_no_call (all_true results) q ms results)
    ∙ append-nil (calls_of r.thirds)))

round_pool : (size : ℕ → ℕ) (p : Pool) (q : Rec) (ms : List Member) (results : List Bool) (vs : List Event) → (r : IsRoundEvents size q ms results vs)
    → pool_after vs p ≡ pool_after (acks_or (all_true results) q ms results) (pool_after r.thirds (front q r.first r.second p))
round_pool size p q ms results vs r =
    ap (λ l. pool_after l p) r.all
    ∙ calls_then r.first (as_events r.second ++ (r.thirds ++ acks_or (all_true results) q ms results)) (after (Begins q) p)
    ∙ calls_then r.second (r.thirds ++ acks_or (all_true results) q ms results) (with_calls r.first (after (Begins q) p))
    ∙ pool_more r.thirds (acks_or (all_true results) q ms results) (front q r.first r.second p)

-- the pool behind the third phase
abbrev before_ack : (q : Rec) (first second : List Noted) (thirds : List Event) → Pool → Pool
before_ack q first second thirds p = record (front q first second p) {
  sectors = run (calls_of thirds) (run second (run first p.sectors));
  since = since_after (calls_of thirds) (front q first second p).since;
  copies = copies_after (calls_of thirds) (front q first second p).copies;
  status = (pool_after thirds (front q first second p)).status;
}

sectors_behind : (first second third : List Noted) (sectors : Sectors) → run third (run second (run first sectors)) ≡ run (first ++ (second ++ third)) sectors
sectors_behind first second third sectors = sym (run_more first (second ++ third) sectors ∙ run_more second third (run first sectors))

-- the labels' promises before a round's last events
record AreAtEnd (p : Pool) (q : Rec) (ms : List Member) (results : List Bool) (status : ℕ → Status) : Type 0 where
  others : (d : ℕ) → ((i : ℕ) (m : Member) → slice_get ms i ≡ Some m → m.dev ≢ d) → status d ≡ (after (Begins q) p).status d
  ended : (i : ℕ) (m : Member) → AreApart ms → slice_get ms i ≡ Some m → slice_get results i ≡ Some true → status m.dev ≡ Odd q
  failed : (i : ℕ) (m : Member) → AreApart ms → slice_get ms i ≡ Some m → slice_get results i ≡ Some false
      → (status m.dev ≡ (after (Begins q) p).status m.dev) ⊎ (status m.dev ≡ Even q)

at_end : (size : ℕ → ℕ) (p : Pool) (q : Rec) (ms : List Member) (results : List Bool) (vs : List Event) → (r : IsRoundEvents size q ms results vs)
    → AreAtEnd p q ms results (pool_after r.thirds (front q r.first r.second p)).status
at_end size p q ms results vs r = record {
  others = λ d ne. thirds_away (third_plan size q.commit) q ms r.in_second results r.thirds (front q r.first r.second p) d ne r.copies;
  ended = λ i m apart e on. thirds_odd (third_plan size q.commit) q ms r.in_second results r.thirds (front q r.first r.second p) i m apart e on r.copies;
  failed = λ i m apart e off. thirds_failed (third_plan size q.commit) q ms r.in_second results r.thirds (front q r.first r.second p) i m apart e off r.copies;
}

status_behind : (p behind : Pool) (q : Rec) (whole : Bool) (ms : List Member) (results : List Bool) (status : ℕ → Status)
    → ((d : ℕ) → behind.status d ≡ behind_round whole q (p.guid d) (status d)) → AreAtEnd p q ms results status
    → IsStatusBehind p behind q whole ms results
status_behind p behind q whole ms results status is at = record {
  others = λ d ne. is d ∙ ap (behind_round whole q (p.guid d)) (at.others d ne);
  ended = λ i m apart e on. is m.dev ∙ ap (behind_round whole q (p.guid m.dev)) (at.ended i m apart e on);
  failed = λ i m apart e off. ⊎_elim (λ same. inl (is m.dev ∙ ap (behind_round whole q (p.guid m.dev)) same))
      (λ even. inr (is m.dev ∙ ap (behind_round whole q (p.guid m.dev)) even)) (at.failed i m apart e off);
}

since_more : (first second : List Noted) (since : ℕ → ℕ → List (List ℕ)) → since_after (first ++ second) since ≡ since_after second (since_after first since)
since_more [] second since = refl
since_more (noted ∷ first) second since = since_more first second (noted_since noted.call since)

since_behind : (first second third : List Noted) (since : ℕ → ℕ → List (List ℕ))
    → since_after third (since_after second (since_after first since)) ≡ since_after (first ++ (second ++ third)) since
since_behind first second third since = sym (since_more first (second ++ third) since ∙ since_more second third (since_after first since))

copies_more : (first second : List Noted) (copies : ℕ → ℕ → List (List ℕ))
    → copies_after (first ++ second) copies ≡ copies_after second (copies_after first copies)
copies_more [] second copies = refl
copies_more (noted ∷ first) second copies = copies_more first second (noted_copies noted.call copies)

copies_behind : (first second third : List Noted) (copies : ℕ → ℕ → List (List ℕ))
    → copies_after third (copies_after second (copies_after first copies)) ≡ copies_after (first ++ (second ++ third)) copies
copies_behind first second third copies = sym (copies_more first (second ++ third) copies ∙ copies_more second third (copies_after first copies))

-- with its acknowledgement, or without the members that failed
acknowledges : (p : Pool) (q : Rec) (first second : List Noted) (thirds : List Event) (whole : Bool) (ms : List Member)
    (results : List Bool) → all_true results ≡ whole
    → AreAtEnd p q ms results (pool_after thirds (front q first second p)).status
    → RoundEnds p (pool_after (acks_or whole q ms results) (before_ack q first second thirds p)) q whole ms results (first ++ (second ++ calls_of thirds))
acknowledges p q first second thirds true ms results all at = record {
  name = refl;
  pool = refl;
  member = refl;
  guid = refl;
  size = refl;
  room = refl;
  home = refl;
  written = refl;
  highest = refl;
  sectors = sectors_behind first second (calls_of thirds) p.sectors;
  since = since_behind first second (calls_of thirds) p.since;
  copies = copies_behind first second (calls_of thirds) p.copies;
  acks = refl;
  given = refl;
  status = status_behind p (after (Acks q) (before_ack q first second thirds p)) q true ms results
      (pool_after thirds (front q first second p)).status (λ d. refl) at;
  acked = refl;
  reads = refl;
  opened = refl;
  live = refl;
  missed = refl;
  in_top = refl;
  unbroken = refl;
  settled = refl;
  pinned = refl;
  scan = refl;
  frozen = refl;
  first = refl;
  cells = refl;
  content = refl;
  done = refl;
  flushed = refl;
  fresh = refl;
  begun = refl;
  board = record {
    before = λ d is. is;
    good = λ d i m c is at here on. all_at results i c all on;
    stays = λ d on good. on;
  };
  board_is = λ d. refl;
  owes = λ e. refl;
  owes_is = λ e. absurd (cc);
  drawn_q = inl refl;
  drawn_in = λ r i. i;
}
acknowledges p q first second thirds false ms results all at =
    subst (λ x. RoundEnds p x q false ms results (first ++ (second ++ calls_of thirds)))
    (sym (leavers_pool ms results (before_ack q first second thirds p))) (record {
      name = refl;
      pool = refl;
      member = refl;
      guid = refl;
      size = refl;
      room = refl;
      home = refl;
      written = refl;
      highest = refl;
      sectors = sectors_behind first second (calls_of thirds) p.sectors;
      since = since_behind first second (calls_of thirds) p.since;
      copies = copies_behind first second (calls_of thirds) p.copies;
      acks = refl;
      given = refl;
      status = status_behind p (without ms results (before_ack q first second thirds p)) q false ms results
          (pool_after thirds (front q first second p)).status (λ d. refl) at;
      acked = refl;
      reads = refl;
      opened = refl;
      live = refl;
      missed = refl;
      in_top = refl;
      unbroken = refl;
      settled = refl;
      pinned = refl;
      scan = refl;
      frozen = refl;
      first = refl;
      cells = refl;
      content = refl;
      done = refl;
      flushed = refl;
      fresh = refl;
      begun = refl;
      board = board_behind ms results p.group.board;
      board_is = λ d. left_board_is ms results p.group.board d;
      owes = λ e. absurd (cc);
      owes_is = λ e d g. left_owes_is p.group.first p.highest ms results p.owes d g;
      drawn_q = inl refl;
      drawn_in = λ r i. i;
    })

-- What the events of a round leave.
pub round_ends : (size : ℕ → ℕ) (p : Pool) (q : Rec) (members : List Member) (results : List Bool) (vs : List Event)
    → IsRoundEvents size q members results vs → RoundEnds p (pool_after vs p) q (all_true results) members results (calls_of vs)
round_ends size p q members results vs r =
    subst (λ x. RoundEnds p x q (all_true results) members results (calls_of vs))
    (sym (round_pool size p q members results vs r ∙ ap (pool_after (acks_or (all_true results) q members results))
    (turns_pool r.thirds (front q r.first r.second p) (thirds_turns (third_plan size q.commit) q members r.in_second results r.thirds r.copies))))
    (subst (RoundEnds p (pool_after (acks_or (all_true results) q members results)
    (before_ack q r.first r.second r.thirds p)) q (all_true results) members results)
    (sym (round_calls size q members results vs r)) (acknowledges p q r.first r.second r.thirds
    (all_true results) members results refl (at_end size p q members results vs r)))
