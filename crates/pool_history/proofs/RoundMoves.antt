-- A round of a record that is drawn up is allowed, event by event, and what it leaves of the pool.
use Rattle.std.proofs.Common.{◌≡◌, ℕ, ◌+◌, ◌<◌, ◌≤◌, zero, suc, Bool, true, false, List, [], ◌∷◌, ◌++◌, map, Option, Some, None, refl, sym, ap, ◌∙◌, subst, arith, inl, inr, append-nil}
use Rattle.std.specs.Prelude.{slice_get}
use Rattle.std.proofs.lemmas.Bool.{and_parts}
use Rattle.bank_core.specs.Disk.{Sectors, Noted, run, sectors_in}
use Rattle.bank_core.specs.Standing.{Stands, Untouched, Spares}
use Rattle.bank_core.proofs.Composing.{run_more}
use Rattle.bank_core.proofs.Standing.{untouched_stands}
use Rattle.label_store.specs.declared.member.Member.{Member}
use Rattle.label_store.specs.declared.rule.Head.{Head}
use Rattle.label_store.specs.Layout.{slot_of}
use Rattle.label_store.specs.Phases.{IsPhase}
use Rattle.label_store.specs.Rounds.{uberblock_of, first_plan, second_plan, third_plan}
use Rattle.label_store.specs.Seats.{AreApart}
use Rattle.label_store.specs.Uberblock.{uberblock_bytes}
use Rattle.label_store.proofs.Keeping.{others, phase_spares, phase_lands, phase_was}
use Rattle.label_store.proofs.Places.{label_is, config_elsewhere_even, ring_elsewhere, ring_spares_config, even_lands, ring_lands, uberblock_sectors}
use Rattle.pool_history.specs.Events.{Event, Begins, calls_of, as_events}
use Rattle.pool_history.specs.Labels.{Odd, Even}
use Rattle.pool_history.specs.Moves.{IsDrawnUp, MayAck, Mays}
use Rattle.pool_history.specs.Needs.{NeedsLabel}
use Rattle.pool_history.specs.Pools.{Pool, after, pool_after, seat}
use Rattle.pool_history.specs.Records.{Rec, number_of, takes_part}
use Rattle.pool_history.specs.Rounds.{all_true, acks_if, IsRoundEvents, AreMembersOf, RoundEnds}
use Rattle.pool_history.specs.Survival.{Fits, Survives}
use Rattle.pool_history.proofs.Folding.{since_after, with_calls, pool_more, calls_then, mays_more, mays_calls, calls_more, calls_are}
use Rattle.pool_history.proofs.RoundParts.{IsSeated, by_device, first_sparing, second_sparing, front_places, member_range}
use Rattle.pool_history.proofs.Sparing.{phase_may, still_sparing}
use Rattle.pool_history.proofs.Thirds.{AreReady, thirds_may, turns_pool, thirds_turns, thirds_result, thirds_odd}

-- A round's setting: the pool, the record, and its members.
record Setting (head_of : List ℕ → Option Head) (p : Pool) (q : Rec) (ms : List Member) : Type 0 where
  survives : Survives head_of p
  drawn_up : IsDrawnUp head_of p q
  members : AreMembersOf p q ms
  apart : AreApart ms

seated_of : (head_of : List ℕ → Option Head) (p : Pool) (q : Rec) (ms : List Member) → Setting head_of p q ms → (j : ℕ) (m : Member) → slice_get ms j ≡ Some m → p.member m.dev ≡ true → IsSeated p q m
seated_of head_of p q ms s j m e is =
    let at = s.members.seated j m e is in record { is_member = is; takes = at.1; big = s.survives.sizes m.dev is; seat_is = at.0 }

-- the second phase leaves the configuration of a member's label 0
second_off_part : (head_of : List ℕ → Option Head) (p : Pool) (q : Rec) (ms : List Member) (was is : List Bool) (made : List Noted) (d i : ℕ)
    → Setting head_of p q ms → p.member d ≡ true → i < 28 → IsPhase (second_plan p.size q.commit) ms was is made → Untouched made d (4 + i)
second_off_part head_of p q ms was is made d i s is_member lt ph =
    phase_spares (second_plan p.size q.commit) ms was is made d (4 + i)
    (λ j n e on. by_device (λ x. p.member x ≡ true → Spares (second_plan p.size q.commit n) x (4 + i)) n.dev d
    (λ here. let seated = seated_of head_of p q ms s j n e here in
    ring_spares_config n.dev (p.size n.dev) (uberblock_of q.commit n) n.dev 0 i seated.big
    (uberblock_sectors (uberblock_of q.commit n) (member_range head_of p q n s.drawn_up.fits seated).sum)
    (label_is (p.size n.dev) 0 (omega arith)) lt)
    (λ ne other. ring_elsewhere n.dev (p.size n.dev) (uberblock_of q.commit n) d (4 + i) ne) is_member) ph

-- Behind the first two phases, what the even labels of a member that is still in the round promise stands.
front_stands : (head_of : List ℕ → Option Head) (p : Pool) (q : Rec) (ms : List Member) (results : List Bool) (vs : List Event) → Setting head_of p q ms
    → (r : IsRoundEvents p.size q ms results vs) → (j : ℕ) (m : Member) → slice_get ms j ≡ Some m → slice_get r.in_second j ≡ Some true → p.member m.dev ≡ true
    → (s : ℕ) (bytes : List ℕ) → NeedsLabel (seat p m.dev) (Even q) s bytes → Stands (run r.second (run r.first p.sectors) m.dev s) bytes
front_stands head_of p q ms results vs st r j m at on is s bytes (inl (e, b)) =
    subst (λ t. Stands (run r.second (run r.first p.sectors) m.dev t) bytes) (sym there)
    (subst (Stands (run r.second (run r.first p.sectors) m.dev (0 + (32 + slot_of (number_of q))))) (ap (λ n. uberblock_bytes (uberblock_of q.commit n)) seated.seat_is ∙ sym b)
    (phase_lands (second_plan p.size q.commit) ms r.in_first r.in_second r.second j m m.dev (0 + (32 + slot_of (number_of q))) _ _ at on
    (λ i n e' ne. ring_elsewhere n.dev (p.size n.dev) (uberblock_of q.commit n) m.dev _ (others ms j i m n st.apart at e' ne))
    (λ mine y part. ring_lands m.dev (p.size m.dev) (uberblock_of q.commit m) mine y seated.big
    (member_range head_of p q m st.drawn_up.fits seated).sum part) r.uberblocks))
  where
    seated : IsSeated p q m
    seated = seated_of head_of p q ms st j m at is

    there : s ≡ 0 + (32 + slot_of (number_of q))
    there = omega (arith, e)
front_stands head_of p q ms results vs st r j m at on is s bytes (inr (i, lt, e, b)) =
    subst (λ t. Stands (run r.second (run r.first p.sectors) m.dev t) bytes) (sym e)
    (subst (Stands (run r.second (run r.first p.sectors) m.dev (4 + i))) (sym b)
    (untouched_stands r.second m.dev (4 + i) _ _ (second_off_part head_of p q ms r.in_first r.in_second r.second m.dev i st is (omega (arith, lt, few)) r.uberblocks)
    (phase_lands (first_plan p.size q.commit) ms (map (λ n. true) ms) r.in_first r.first j m m.dev (4 + i) _ _ at
    (phase_was (second_plan p.size q.commit) ms r.in_first r.in_second r.second j on r.uberblocks)
    (λ i' n e' ne. config_elsewhere_even n.dev (p.size n.dev) q.commit.blob m.dev _ (others ms j i' m n st.apart at e' ne))
    (λ mine y part. even_lands m.dev (p.size m.dev) q.commit.blob i mine y seated.big few lt part) r.configs)))
  where
    seated : IsSeated p q m
    seated = seated_of head_of p q ms st j m at is

    few : sectors_in q.commit.blob ≤ 28
    few = (st.drawn_up.fits.is_record m.dev seated.is_member).most

-- the pool behind the first two phases
abbrev front : (q : Rec) (first second : List Noted) → Pool → Pool
front q first second p = with_calls second (with_calls first (after (Begins q) p))

fits_front : (head_of : List ℕ → Option Head) (p : Pool) (q : Rec) (first second : List Noted) → Fits head_of p q → Fits head_of (front q first second p) q
fits_front head_of p q first second f =
    record { pool_is = f.pool_is; is_record = f.is_record; name_is = f.name_is; places = f.places; blocks = f.blocks }

seated_front : (p : Pool) (m : Member) (q : Rec) (first second : List Noted) → IsSeated p q m → IsSeated (front q first second p) q m
seated_front p m q first second s = record { is_member = s.is_member; takes = s.takes; big = s.big; seat_is = s.seat_is }

front_ready : (head_of : List ℕ → Option Head) (p : Pool) (q : Rec) (ms : List Member) (results : List Bool) (vs : List Event) → Setting head_of p q ms
    → (r : IsRoundEvents p.size q ms results vs) → AreReady head_of (front q r.first r.second p) q ms r.in_second
front_ready head_of p q ms results vs st r = record {
  is_live = inl refl;
  fits = fits_front head_of p q r.first r.second st.drawn_up.fits;
  seated = λ j m e is. seated_front p m q r.first r.second (seated_of head_of p q ms st j m e is);
  places = λ d is. front_places head_of p q d st.survives st.drawn_up.fits is;
  apart = st.apart;
  stands = front_stands head_of p q ms results vs st r;
}

-- a list of results without a failed one
all_at : (results : List Bool) (i : ℕ) (c : Bool) → all_true results ≡ true → slice_get results i ≡ Some c → c ≡ true
all_at [] i c all e = absurd (none e)
  where
    none : None ≡ Some c → ⊥
    none e = cc
all_at (b ∷ results) zero c all e = same e ∙ (and_parts b (all_true results) all).0
  where
    same : Some b ≡ Some c → c ≡ b
    same e = cc
all_at (b ∷ results) (suc i) c all e = all_at results i c (and_parts b (all_true results) all).1 e

-- where none failed, the labels of each member that takes part hold the new record
all_odd : (head_of : List ℕ → Option Head) (p : Pool) (q : Rec) (ms : List Member) (results : List Bool) (vs : List Event) → Setting head_of p q ms
    → (r : IsRoundEvents p.size q ms results vs) → all_true results ≡ true → (d : ℕ) → p.member d ≡ true → takes_part q (p.guid d) ≡ true
    → (pool_after r.thirds (front q r.first r.second p)).status d ≡ Odd q
all_odd head_of p q ms results vs st r all d is takes =
    let at = st.members.all d is takes in
    let result = thirds_result (third_plan p.size q.commit) q ms r.in_second results r.thirds at.0 (seat p d) at.1 r.copies in
    thirds_odd (third_plan p.size q.commit) q ms r.in_second results r.thirds (front q r.first r.second p) at.0 (seat p d) st.apart at.1
    (result.1 ∙ ap Some (all_at results at.0 result.0 all result.1)) r.copies

acks_may : (head_of : List ℕ → Option Head) (q : Rec) (c : Bool) (p : Pool) → (c ≡ true → MayAck p q) → Mays head_of p (acks_if c q)
acks_may head_of q true p ack = (ack refl, tt)
acks_may head_of q false p ack = tt

may_ack : (head_of : List ℕ → Option Head) (p : Pool) (q : Rec) (ms : List Member) (results : List Bool) (vs : List Event) → Setting head_of p q ms
    → (r : IsRoundEvents p.size q ms results vs) → all_true results ≡ true → MayAck (pool_after r.thirds (front q r.first r.second p)) q
may_ack head_of p q ms results vs st r all =
    subst (λ x. MayAck x q)
    (sym (turns_pool r.thirds (front q r.first r.second p) (thirds_turns (third_plan p.size q.commit) q ms r.in_second results r.thirds r.copies)))
    (record { rest = p.live; newest = refl; number_is = refl; all = all_odd head_of p q ms results vs st r all })

round_allowed : (head_of : List ℕ → Option Head) (p : Pool) (q : Rec) (ms : List Member) (results : List Bool) (vs : List Event) → Setting head_of p q ms
    → IsRoundEvents p.size q ms results vs → Mays head_of p vs
round_allowed head_of p q ms results vs st r =
    let begun = after (Begins q) p in
    subst (Mays head_of p) (sym r.all) (
      st.drawn_up,
      mays_calls head_of r.first (as_events r.second ++ (r.thirds ++ acks_if (all_true results) q)) begun
          (phase_may head_of (first_plan p.size q.commit) ms (map (λ m. true) ms) r.in_first r.first begun
          (λ j m e. first_sparing head_of p q m st.survives st.drawn_up.fits (seated_of head_of p q ms st j m e)) r.configs)
          (mays_calls head_of r.second (r.thirds ++ acks_if (all_true results) q) (with_calls r.first begun)
          (phase_may head_of (second_plan p.size q.commit) ms r.in_first r.in_second r.second (with_calls r.first begun)
          (λ j m e. still_sparing r.first begun (second_plan p.size q.commit m)
          (second_sparing head_of p q m st.survives st.drawn_up.fits (seated_of head_of p q ms st j m e))) r.uberblocks)
          (mays_more head_of r.thirds (acks_if (all_true results) q) (front q r.first r.second p)
          (thirds_may head_of q ms r.in_second results r.thirds (front q r.first r.second p) (front_ready head_of p q ms results vs st r) r.copies)
          (acks_may head_of q (all_true results) (pool_after r.thirds (front q r.first r.second p)) (may_ack head_of p q ms results vs st r)))),
    )

-- A round of a record that is drawn up is allowed.
pub round_may : (head_of : List ℕ → Option Head) (p : Pool) (q : Rec) (members : List Member) (results : List Bool) (vs : List Event)
    → Survives head_of p → IsDrawnUp head_of p q → AreMembersOf p q members → AreApart members → IsRoundEvents p.size q members results vs → Mays head_of p vs
round_may head_of p q members results vs survives drawn_up are apart r =
    round_allowed head_of p q members results vs (record { survives = survives; drawn_up = drawn_up; members = are; apart = apart }) r

-- the calls of a round's events, and the pool behind them
round_calls : (size : ℕ → ℕ) (q : Rec) (ms : List Member) (results : List Bool) (vs : List Event) → (r : IsRoundEvents size q ms results vs)
    → calls_of vs ≡ r.first ++ (r.second ++ calls_of r.thirds)
round_calls size q ms results vs r =
    ap calls_of r.all
    ∙ calls_more (as_events r.first) (as_events r.second ++ (r.thirds ++ acks_if (all_true results) q))
    ∙ ap (λ l. l ++ calls_of (as_events r.second ++ (r.thirds ++ acks_if (all_true results) q))) (calls_are r.first)
    ∙ ap (λ l. r.first ++ l) (calls_more (as_events r.second) (r.thirds ++ acks_if (all_true results) q)
    ∙ ap (λ l. l ++ calls_of (r.thirds ++ acks_if (all_true results) q)) (calls_are r.second)
    ∙ ap (λ l. r.second ++ l) (calls_more r.thirds (acks_if (all_true results) q)
    ∙ ap (λ l. calls_of r.thirds ++ l) (no_call (all_true results))
    ∙ append-nil (calls_of r.thirds)))
  where
    no_call : (c : Bool) → calls_of (acks_if c q) ≡ []
    no_call true = refl
    no_call false = refl

round_pool : (size : ℕ → ℕ) (p : Pool) (q : Rec) (ms : List Member) (results : List Bool) (vs : List Event) → (r : IsRoundEvents size q ms results vs)
    → pool_after vs p ≡ pool_after (acks_if (all_true results) q) (pool_after r.thirds (front q r.first r.second p))
round_pool size p q ms results vs r =
    ap (λ l. pool_after l p) r.all
    ∙ calls_then r.first (as_events r.second ++ (r.thirds ++ acks_if (all_true results) q)) (after (Begins q) p)
    ∙ calls_then r.second (r.thirds ++ acks_if (all_true results) q) (with_calls r.first (after (Begins q) p))
    ∙ pool_more r.thirds (acks_if (all_true results) q) (front q r.first r.second p)

-- the pool behind the third phase
abbrev before_ack : (q : Rec) (first second : List Noted) (thirds : List Event) → Pool → Pool
before_ack q first second thirds p = record (front q first second p) {
  sectors = run (calls_of thirds) (run second (run first p.sectors));
  since = since_after (calls_of thirds) (front q first second p).since;
  status = (pool_after thirds (front q first second p)).status;
}

sectors_behind : (first second third : List Noted) (sectors : Sectors) → run third (run second (run first sectors)) ≡ run (first ++ (second ++ third)) sectors
sectors_behind first second third sectors = sym (run_more first (second ++ third) sectors ∙ run_more second third (run first sectors))

-- with its acknowledgement, or without
acknowledges : (p : Pool) (q : Rec) (first second : List Noted) (thirds : List Event) (c : Bool)
    → RoundEnds p (pool_after (acks_if c q) (before_ack q first second thirds p)) q c (first ++ (second ++ calls_of thirds))
acknowledges p q first second thirds true = record {
  name = refl;
  pool = refl;
  member = refl;
  guid = refl;
  size = refl;
  written = refl;
  top = refl;
  sectors = sectors_behind first second (calls_of thirds) p.sectors;
  acked = refl;
  reads = refl;
  idle = refl;
  live = refl;
  missed = refl;
  drawn_q = inl refl;
  drawn_in = λ r i. i;
}
acknowledges p q first second thirds false = record {
  name = refl;
  pool = refl;
  member = refl;
  guid = refl;
  size = refl;
  written = refl;
  top = refl;
  sectors = sectors_behind first second (calls_of thirds) p.sectors;
  acked = refl;
  reads = refl;
  idle = refl;
  live = refl;
  missed = refl;
  drawn_q = inl refl;
  drawn_in = λ r i. i;
}

-- What the events of a round leave.
pub round_ends : (size : ℕ → ℕ) (p : Pool) (q : Rec) (members : List Member) (results : List Bool) (vs : List Event)
    → IsRoundEvents size q members results vs → RoundEnds p (pool_after vs p) q (all_true results) (calls_of vs)
round_ends size p q members results vs r =
    subst (λ x. RoundEnds p x q (all_true results) (calls_of vs))
    (sym (round_pool size p q members results vs r ∙ ap (pool_after (acks_if (all_true results) q))
    (turns_pool r.thirds (front q r.first r.second p) (thirds_turns (third_plan size q.commit) q members r.in_second results r.thirds r.copies))))
    (subst (RoundEnds p (pool_after (acks_if (all_true results) q) (before_ack q r.first r.second r.thirds p)) q (all_true results))
    (sym (round_calls size q members results vs r)) (acknowledges p q r.first r.second r.thirds (all_true results)))
