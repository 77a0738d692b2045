-- The third phase of a round: its moves are allowed, and each member that ends it holds the new record.
use Rattle.std.proofs.Common.{
  ◌≡◌,
  ◌≢◌,
  ◌⊎◌,
  ℕ,
  ◌+◌,
  ◌≤◌,
  zero,
  suc,
  cond,
  Bool,
  true,
  false,
  List,
  [],
  ◌∷◌,
  ◌++◌,
  Some,
  refl,
  sym,
  ap,
  ◌∙◌,
  subst,
  arith,
  inl,
  inr,
}
use Rattle.std.specs.Prelude.{slice_get}
use Rattle.std.specs.List.{AllByRecursion}
use Rattle.std.proofs.lemmas.Bool.{ne_eqb, eq-eqb}
use Rattle.bank_core.specs.Asks.{Ask}
use Rattle.bank_core.specs.Disk.{Sector, Noted, run, replay, sectors_in}
use Rattle.bank_core.specs.Standing.{Stands}
use Rattle.bank_core.proofs.Standing.{untouched_stands}
use Rattle.label_store.specs.declared.member.Member.{Member}
use Rattle.txg_history.specs.Pages.{Codec}
use Rattle.label_store.specs.Phases.{IsTurn}
use Rattle.label_store.specs.Rounds.{third_plan}
use Rattle.label_store.specs.Seats.{AreApart}
use Rattle.label_store.proofs.Keeping.{same_member, no_member, others, turn_spares, whole_part}
use Rattle.label_store.proofs.Places.{config_elsewhere_odd, odd_lands}
use Rattle.txg_history.specs.Events.{Event, Calls, Third, Ends, calls_of, as_events}
use Rattle.txg_history.specs.Labels.{Status, Odd, Even}
use Rattle.txg_history.specs.Moves.{MayStand, MayEnd, Mays}
use Rattle.txg_history.specs.Needs.{Held, InPart, odd_part, NeedsLabel}
use Rattle.txg_history.specs.Pools.{Pool, after, pool_after, seat, since_after, copies_after}
use Rattle.txg_history.specs.Groups.{at_device}
use Rattle.txg_history.proofs.Placing.{AreBetween}
use Rattle.txg_history.specs.Records.{Rec, IsIn, number_of}
use Rattle.txg_history.specs.Rounds.{ends_if, IsThirds}
use Rattle.txg_history.specs.Survival.{Fits}
use Rattle.txg_history.proofs.Folding.{all_more, all_calls, with_calls, calls_then, mays_calls}
use Rattle.txg_history.proofs.RoundParts.{IsSeated, few_of, third_sparing}
use Rattle.txg_history.proofs.Sparing.{turn_may}

pub stands_held : {x : Sector} {bytes : List ℕ} → Stands x bytes → Held x bytes
stands_held st = record { still = st.still; stands = inl st.stable }

-- Before the third phase of these members: the even labels of those that are in it hold the new record.
pub record AreReady (codec : Codec) (p : Pool) (q : Rec) (ms : List Member) (was : List Bool) : Type 0 where
  pub is_live : IsIn q p.live
  pub number_is : number_of q ≡ p.highest
  pub taken : p.group.fresh ≡ false
  pub fits : Fits codec p.name p.pool p.room q
  pub seated : (j : ℕ) (m : Member) → slice_get ms j ≡ Some m → p.member m.dev ≡ true → IsSeated p q m
  pub between : AreBetween p
  pub apart : AreApart ms
  pub stands : (j : ℕ) (m : Member) → slice_get ms j ≡ Some m → slice_get was j ≡ Some true → p.member m.dev ≡ true
      → (s : ℕ) (bytes : List ℕ) → NeedsLabel (seat p m.dev) (Even q) s bytes → Stands (p.sectors m.dev s) bytes

-- a pool behind calls and other statuses
abbrev pub turned : List Noted → (ℕ → Status) → Pool → Pool
turned made status p = record p {
  sectors = run made p.sectors;
  since = since_after made p.since;
  copies = copies_after made p.copies;
  status = status;
}

seated_turned : (p : Pool) (q : Rec) (m : Member) (made : List Noted) (status : ℕ → Status) → IsSeated p q m → IsSeated (turned made status p) q m
seated_turned p q m made status s = record { is_member = s.is_member; takes = s.takes; big = s.big; in_range = s.in_range; seat_is = s.seat_is }

pub between_turned : (p : Pool) (made : List Noted) (status : ℕ → Status) → AreBetween p → AreBetween (turned made status p)
between_turned p made status b = record { put = b.put; soft = b.soft; live = b.live }

apart_rest : (m : Member) (ms : List Member) → AreApart (m ∷ ms) → AreApart ms
apart_rest m ms apart i j n o e f lt = apart (suc i) (suc j) n o e f (omega arith)

-- the others, behind the calls of one member's turn
ready_rest : (codec : Codec) (p : Pool) (q : Rec) (m : Member) (ms : List Member) (b c : Bool) (was : List Bool) (made : List Noted) (status : ℕ → Status)
    → IsTurn (third_plan p.size q.commit m) b c made → AreReady codec p q (m ∷ ms) (b ∷ was)
    → AreReady codec (turned made status p) q ms was
ready_rest codec p q m ms b c was made status turn r = record {
  is_live = r.is_live;
  number_is = r.number_is;
  taken = r.taken;
  fits = r.fits;
  seated = λ j n e is. seated_turned p q n made status (r.seated (suc j) n e is);
  between = between_turned p made status r.between;
  apart = apart_rest m ms r.apart;
  stands = λ j n e on is s bytes needs. untouched_stands made n.dev s (p.sectors n.dev s) bytes
      (turn_spares (third_plan p.size q.commit m) b c made n.dev s
      (λ was. config_elsewhere_odd m.dev (p.size m.dev) q.commit.blob n.dev s (others (m ∷ ms) (suc j) zero n m r.apart e refl (omega arith))) turn)
      (r.stands (suc j) n e on is s bytes needs);
}

-- one that isn't in it makes no call
ready_off : (codec : Codec) (p : Pool) (q : Rec) (m : Member) (ms : List Member) (b : Bool) (was : List Bool)
    → AreReady codec p q (m ∷ ms) (b ∷ was) → AreReady codec p q ms was
ready_off codec p q m ms b was r = record {
  is_live = r.is_live;
  number_is = r.number_is;
  taken = r.taken;
  fits = r.fits;
  seated = λ j n e. r.seated (suc j) n e;
  between = r.between;
  apart = apart_rest m ms r.apart;
  stands = λ j n e on. r.stands (suc j) n e on;
}

even_stands : (codec : Codec) (p : Pool) (q : Rec) (m : Member) (ms : List Member) (was : List Bool) → AreReady codec p q (m ∷ ms) (true ∷ was)
    → p.member m.dev ≡ true → MayStand p q m.dev
even_stands codec p q m ms was r is = record {
  is_live = r.is_live;
  number_is = r.number_is;
  taken = r.taken;
  takes = (r.seated zero m refl is).takes;
  held = λ s bytes needs. stands_held (r.stands zero m refl refl is s bytes needs);
}

-- the first member's calls
part_sparing : (codec : Codec) (p : Pool) (q : Rec) (m : Member) (ms : List Member) (c : Bool) (was : List Bool) (made : List Noted)
    → IsTurn (third_plan p.size q.commit m) true c made → AreReady codec p q (m ∷ ms) (true ∷ was)
    → Mays codec (after (Third q m.dev) p) (as_events made)
part_sparing codec p q m ms c was made turn r =
    turn_may codec (third_plan p.size q.commit m) true c made (after (Third q m.dev) p)
    (third_sparing codec (after (Third q m.dev) p) q m (between_turned p [] (at_device m.dev (Even q) p.status) r.between) r.fits
    (λ is. seated_turned p q m [] (at_device m.dev (Even q) p.status) (r.seated zero m refl is))
    (ap (λ t. cond t (Even q) (p.status m.dev)) (eq-eqb m.dev m.dev refl))) turn

-- A whole turn: the odd labels hold the new record too.
odd_stands : (codec : Codec) (p : Pool) (q : Rec) (m : Member) (ms : List Member) (was : List Bool) (made : List Noted)
    → IsTurn (third_plan p.size q.commit m) true true made → AreReady codec p q (m ∷ ms) (true ∷ was)
    → p.member m.dev ≡ true → MayEnd (with_calls made (after (Third q m.dev) p)) q m.dev
odd_stands codec p q m ms was made turn r is = record {
  began = ap (λ t. cond t (Even q) (p.status m.dev)) (eq-eqb m.dev m.dev refl);
  held = λ s bytes part. stands_held (by_part s bytes part);
}
  where
    seated : IsSeated p q m
    seated = r.seated zero m refl is

    few : sectors_in q.commit.blob ≤ 28
    few = few_of codec p.name p.pool p.room q r.fits

    by_part : (s : ℕ) (bytes : List ℕ) → InPart odd_part q s bytes → Stands (replay made m.dev s (p.sectors m.dev s)) bytes
    by_part s bytes (i, lt, e, b) =
        subst (λ t. Stands (replay made m.dev t (p.sectors m.dev t)) bytes) (sym e)
        (subst (Stands (replay made m.dev (68 + i) (p.sectors m.dev (68 + i)))) (sym b)
        (odd_lands m.dev (p.size m.dev) q.commit.blob i made _ seated.big few lt
        (whole_part (third_plan p.size q.commit m) true made turn)))

-- The events of the third phase are allowed.
pub thirds_may : (codec : Codec) (q : Rec) (ms : List Member) (was is : List Bool) (vs : List Event) (p : Pool)
    → AreReady codec p q ms was → IsThirds (third_plan p.size q.commit) q ms was is vs → Mays codec p vs
thirds_may codec q [] [] [] vs p r t = subst (Mays codec p) (sym t) tt
thirds_may codec q [] [] (c ∷ is) vs p r t = absurd t
thirds_may codec q [] (b ∷ was) is vs p r t = absurd t
thirds_may codec q (m ∷ ms) [] is vs p r t = absurd t
thirds_may codec q (m ∷ ms) (b ∷ was) [] vs p r t = absurd t
thirds_may codec q (m ∷ ms) (true ∷ was) (true ∷ is) vs p r t =
    subst (Mays codec p) (sym t.2) (
      even_stands codec p q m ms was r,
      mays_calls codec t.0 (Ends q m.dev ∷ t.1) (after (Third q m.dev) p) (part_sparing codec p q m ms true was t.0 t.3 r) (
        odd_stands codec p q m ms was t.0 t.3 r,
        thirds_may codec q ms was is t.1 (after (Ends q m.dev) (with_calls t.0 (after (Third q m.dev) p)))
            (ready_rest codec p q m ms true true was t.0 _ t.3 r) t.4,
      ),
    )
thirds_may codec q (m ∷ ms) (true ∷ was) (false ∷ is) vs p r t =
    subst (Mays codec p) (sym t.2) (
      even_stands codec p q m ms was r,
      mays_calls codec t.0 t.1 (after (Third q m.dev) p) (part_sparing codec p q m ms false was t.0 t.3 r)
          (thirds_may codec q ms was is t.1 (with_calls t.0 (after (Third q m.dev) p))
          (ready_rest codec p q m ms true false was t.0 _ t.3 r) t.4),
    )
thirds_may codec q (m ∷ ms) (false ∷ was) (c ∷ is) vs p r t =
    thirds_may codec q ms was is vs p (ready_off codec p q m ms false was r) t.1

-- an event of a turn: a call, or a mark
abbrev pub IsOfTurn : Event → Type 0
IsOfTurn (Calls noted) = Unit {0}
IsOfTurn (Third q d) = Unit {0}
IsOfTurn (Ends q d) = Unit {0}
IsOfTurn v = ⊥

-- They change the sectors by their calls, and the labels' statuses, and no more.
pub turns_pool : (vs : List Event) (p : Pool) → AllByRecursion IsOfTurn vs → pool_after vs p ≡ turned (calls_of vs) (pool_after vs p).status p
turns_pool [] p t = refl
turns_pool (Calls noted ∷ vs) p t = turns_pool vs (after (Calls noted) p) t.1
turns_pool (Third q d ∷ vs) p t = turns_pool vs (after (Third q d) p) t.1
turns_pool (Ends q d ∷ vs) p t = turns_pool vs (after (Ends q d) p) t.1
turns_pool (v ∷ vs) p t = absurd t.0

turns_ends : (c : Bool) (q : Rec) (d : ℕ) (vs : List Event) → AllByRecursion IsOfTurn vs → AllByRecursion IsOfTurn (ends_if c q d ++ vs)
turns_ends true q d vs t = (tt, t)
turns_ends false q d vs t = t

pub thirds_turns : (plan : Member → List Ask) (q : Rec) (ms : List Member) (was is : List Bool) (vs : List Event)
    → IsThirds plan q ms was is vs → AllByRecursion IsOfTurn vs
thirds_turns plan q [] [] [] vs t = subst (AllByRecursion IsOfTurn) (sym t) tt
thirds_turns plan q [] [] (c ∷ is) vs t = absurd t
thirds_turns plan q [] (b ∷ was) is vs t = absurd t
thirds_turns plan q (m ∷ ms) [] is vs t = absurd t
thirds_turns plan q (m ∷ ms) (b ∷ was) [] vs t = absurd t
thirds_turns plan q (m ∷ ms) (true ∷ was) (c ∷ is) vs t = subst (AllByRecursion IsOfTurn) (sym t.2) (
  tt,
  all_more IsOfTurn (as_events t.0) (ends_if c q m.dev ++ t.1) (all_calls IsOfTurn (λ noted. tt) t.0)
      (turns_ends c q m.dev t.1 (thirds_turns plan q ms was is t.1 t.4)),
)
thirds_turns plan q (m ∷ ms) (false ∷ was) (c ∷ is) vs t = thirds_turns plan q ms was is vs t.1

-- each member has a result
pub thirds_result : (plan : Member → List Ask) (q : Rec) (ms : List Member) (was is : List Bool) (vs : List Event)
    (i : ℕ) (m : Member) → slice_get ms i ≡ Some m
    → IsThirds plan q ms was is vs → (c : Bool) × (slice_get is i ≡ Some c)
thirds_result plan q [] was is vs i m e t = absurd (no_member m e)
thirds_result plan q (n ∷ ms) [] is vs i m e t = absurd t
thirds_result plan q (n ∷ ms) (b ∷ was) [] vs i m e t = absurd t
thirds_result plan q (n ∷ ms) (b ∷ was) (c ∷ is) vs zero m e t = (c, refl)
thirds_result plan q (n ∷ ms) (true ∷ was) (c ∷ is) vs (suc i) m e t = thirds_result plan q ms was is t.1 i m e t.4
thirds_result plan q (n ∷ ms) (false ∷ was) (c ∷ is) vs (suc i) m e t = thirds_result plan q ms was is vs i m e t.1

away : (d e : ℕ) (x : Status) (f : ℕ → Status) → d ≢ e → at_device d x f e ≡ f e
away d e x f ne = ap (λ t. cond t x (f e)) (ne_eqb d e ne)

-- a device of no such member keeps its status
pub thirds_away : (plan : Member → List Ask) (q : Rec) (ms : List Member) (was is : List Bool) (vs : List Event) (p : Pool) (d : ℕ)
    → ((j : ℕ) (m : Member) → slice_get ms j ≡ Some m → m.dev ≢ d) → IsThirds plan q ms was is vs → (pool_after vs p).status d ≡ p.status d
thirds_away plan q [] [] [] vs p d ne t = ap (λ l. (pool_after l p).status d) t
thirds_away plan q [] [] (c ∷ is) vs p d ne t = absurd t
thirds_away plan q [] (b ∷ was) is vs p d ne t = absurd t
thirds_away plan q (m ∷ ms) [] is vs p d ne t = absurd t
thirds_away plan q (m ∷ ms) (b ∷ was) [] vs p d ne t = absurd t
thirds_away plan q (m ∷ ms) (true ∷ was) (true ∷ is) vs p d ne t =
    ap (λ l. (pool_after l p).status d) t.2
    ∙ ap (λ x. x.status d) (calls_then t.0 (Ends q m.dev ∷ t.1) (after (Third q m.dev) p))
    ∙ thirds_away plan q ms was is t.1 (after (Ends q m.dev) (with_calls t.0 (after (Third q m.dev) p))) d (λ j n e. ne (suc j) n e) t.4
    ∙ away m.dev d (Odd q) (at_device m.dev (Even q) p.status) (ne zero m refl)
    ∙ away m.dev d (Even q) p.status (ne zero m refl)
thirds_away plan q (m ∷ ms) (true ∷ was) (false ∷ is) vs p d ne t =
    ap (λ l. (pool_after l p).status d) t.2
    ∙ ap (λ x. x.status d) (calls_then t.0 t.1 (after (Third q m.dev) p))
    ∙ thirds_away plan q ms was is t.1 (with_calls t.0 (after (Third q m.dev) p)) d (λ j n e. ne (suc j) n e) t.4
    ∙ away m.dev d (Even q) p.status (ne zero m refl)
thirds_away plan q (m ∷ ms) (false ∷ was) (c ∷ is) vs p d ne t = thirds_away plan q ms was is vs p d (λ j n e. ne (suc j) n e) t.1

-- A member that ends the phase has the new record in its odd labels.
pub thirds_odd : (plan : Member → List Ask) (q : Rec) (ms : List Member) (was is : List Bool) (vs : List Event) (p : Pool) (i : ℕ) (m : Member)
    → AreApart ms → slice_get ms i ≡ Some m → slice_get is i ≡ Some true → IsThirds plan q ms was is vs → (pool_after vs p).status m.dev ≡ Odd q
thirds_odd plan q [] was is vs p i m apart e on t = absurd (no_member m e)
thirds_odd plan q (n ∷ ms) [] is vs p i m apart e on t = absurd t
thirds_odd plan q (n ∷ ms) (b ∷ was) [] vs p i m apart e on t = absurd t
thirds_odd plan q (n ∷ ms) (true ∷ was) (true ∷ is) vs p zero m apart e on t =
    subst (λ x. (pool_after vs p).status x.dev ≡ Odd q) (same_member n m e)
    (ap (λ l. (pool_after l p).status n.dev) t.2
    ∙ ap (λ x. x.status n.dev) (calls_then t.0 (Ends q n.dev ∷ t.1) (after (Third q n.dev) p))
    ∙ thirds_away plan q ms was is t.1 (after (Ends q n.dev) (with_calls t.0 (after (Third q n.dev) p))) n.dev
    (λ j o f. others (n ∷ ms) zero (suc j) n o apart refl f (omega arith)) t.4
    ∙ ap (λ t. cond t (Odd q) (at_device n.dev (Even q) p.status n.dev)) (eq-eqb n.dev n.dev refl))
thirds_odd plan q (n ∷ ms) (true ∷ was) (false ∷ is) vs p zero m apart e on t = absurd (off on)
  where
    off : Some false ≡ Some true → ⊥
    off e = cc
thirds_odd plan q (n ∷ ms) (false ∷ was) (c ∷ is) vs p zero m apart e on t = absurd (off c on t.0)
  where
    off : (c : Bool) → Some c ≡ Some true → c ≡ false → ⊥
    off c e f = cc
thirds_odd plan q (n ∷ ms) (true ∷ was) (true ∷ is) vs p (suc i) m apart e on t =
    ap (λ l. (pool_after l p).status m.dev) t.2
    ∙ ap (λ x. x.status m.dev) (calls_then t.0 (Ends q n.dev ∷ t.1) (after (Third q n.dev) p))
    ∙ thirds_odd plan q ms was is t.1 (after (Ends q n.dev) (with_calls t.0 (after (Third q n.dev) p))) i m (apart_rest n ms apart) e on t.4
thirds_odd plan q (n ∷ ms) (true ∷ was) (false ∷ is) vs p (suc i) m apart e on t =
    ap (λ l. (pool_after l p).status m.dev) t.2
    ∙ ap (λ x. x.status m.dev) (calls_then t.0 t.1 (after (Third q n.dev) p))
    ∙ thirds_odd plan q ms was is t.1 (with_calls t.0 (after (Third q n.dev) p)) i m (apart_rest n ms apart) e on t.4
thirds_odd plan q (n ∷ ms) (false ∷ was) (c ∷ is) vs p (suc i) m apart e on t =
    thirds_odd plan q ms was is vs p i m (apart_rest n ms apart) e on t.1

was_or : {x y z w e : Status} → x ≡ y → z ≡ w → (y ≡ z) ⊎ (y ≡ e) → (x ≡ w) ⊎ (x ≡ e)
was_or xy zw (inl yz) = inl (xy ∙ yz ∙ zw)
was_or xy zw (inr ye) = inr (xy ∙ ye)

-- One that fails in it has it in the even labels at most.
pub thirds_failed : (plan : Member → List Ask) (q : Rec) (ms : List Member) (was is : List Bool) (vs : List Event) (p : Pool)
    (i : ℕ) (m : Member) → AreApart ms → slice_get ms i ≡ Some m → slice_get is i ≡ Some false → IsThirds plan q ms was is vs
    → ((pool_after vs p).status m.dev ≡ p.status m.dev) ⊎ ((pool_after vs p).status m.dev ≡ Even q)
thirds_failed plan q [] was is vs p i m apart e off t = absurd (no_member m e)
thirds_failed plan q (n ∷ ms) [] is vs p i m apart e off t = absurd t
thirds_failed plan q (n ∷ ms) (b ∷ was) [] vs p i m apart e off t = absurd t
thirds_failed plan q (n ∷ ms) (true ∷ was) (true ∷ is) vs p zero m apart e off t = absurd (on off)
  where
    on : Some true ≡ Some false → ⊥
    on e = cc
thirds_failed plan q (n ∷ ms) (true ∷ was) (false ∷ is) vs p zero m apart e off t =
    inr (subst (λ x. (pool_after vs p).status x.dev ≡ Even q) (same_member n m e)
    (ap (λ l. (pool_after l p).status n.dev) t.2
    ∙ ap (λ x. x.status n.dev) (calls_then t.0 t.1 (after (Third q n.dev) p))
    ∙ thirds_away plan q ms was is t.1 (with_calls t.0 (after (Third q n.dev) p)) n.dev
    (λ j o f. others (n ∷ ms) zero (suc j) n o apart refl f (omega arith)) t.4
    ∙ ap (λ t. cond t (Even q) (p.status n.dev)) (eq-eqb n.dev n.dev refl)))
thirds_failed plan q (n ∷ ms) (false ∷ was) (c ∷ is) vs p zero m apart e off t =
    inl (subst (λ x. (pool_after vs p).status x.dev ≡ p.status x.dev) (same_member n m e)
    (thirds_away plan q ms was is vs p n.dev (λ j o f. others (n ∷ ms) zero (suc j) n o apart refl f (omega arith)) t.1))
thirds_failed plan q (n ∷ ms) (true ∷ was) (true ∷ is) vs p (suc i) m apart e off t =
    was_or (ap (λ l. (pool_after l p).status m.dev) t.2
    ∙ ap (λ x. x.status m.dev) (calls_then t.0 (Ends q n.dev ∷ t.1) (after (Third q n.dev) p)))
    (away n.dev m.dev (Odd q) (at_device n.dev (Even q) p.status) ne ∙ away n.dev m.dev (Even q) p.status ne)
    (thirds_failed plan q ms was is t.1 (after (Ends q n.dev) (with_calls t.0 (after (Third q n.dev) p))) i m (apart_rest n ms apart) e off t.4)
  where
    ne : n.dev ≢ m.dev
    ne = λ same. others (n ∷ ms) zero (suc i) n m apart refl e (omega arith) (sym same)
thirds_failed plan q (n ∷ ms) (true ∷ was) (false ∷ is) vs p (suc i) m apart e off t =
    was_or (ap (λ l. (pool_after l p).status m.dev) t.2
    ∙ ap (λ x. x.status m.dev) (calls_then t.0 t.1 (after (Third q n.dev) p)))
    (away n.dev m.dev (Even q) p.status ne)
    (thirds_failed plan q ms was is t.1 (with_calls t.0 (after (Third q n.dev) p)) i m (apart_rest n ms apart) e off t.4)
  where
    ne : n.dev ≢ m.dev
    ne = λ same. others (n ∷ ms) zero (suc i) n m apart refl e (omega arith) (sym same)
thirds_failed plan q (n ∷ ms) (false ∷ was) (c ∷ is) vs p (suc i) m apart e off t =
    thirds_failed plan q ms was is vs p i m (apart_rest n ms apart) e off t.1
