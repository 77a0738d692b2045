-- The labels of a member go on promising a record.
use Rattle.std.proofs.Common.{◌≡◌, ◌≢◌, ◌⊎◌, ℕ, ◌==◌, Bool, true, false, cond, List, [], ◌∷◌, refl, sym, ap, ◌∙◌, subst, arith, inl, inr}
use Rattle.std.proofs.lemmas.Bool.Decides.{nat_tests}
use Rattle.mp_base.specs.declared.number.Guid.{Guid}
use Rattle.label_store.specs.Layout.{slot_of}
use Rattle.txg_history.specs.Events.{Event, Begins, Third, Ends, Acks, Joins, Loses}
use Rattle.txg_history.specs.Groups.{at_device}
use Rattle.txg_history.specs.Labels.{Status, Odd, Even, Lost, begun}
use Rattle.txg_history.specs.Moves.{Mays, MayAck}
use Rattle.txg_history.specs.Needs.{Held, NeedsLabel, InPart, odd_part}
use Rattle.txg_history.specs.Pages.{Codec}
use Rattle.txg_history.specs.Pools.{Pool, after, pool_after, other_than, seat}
use Rattle.txg_history.specs.Premises.{HoldsLabels}
use Rattle.txg_history.specs.Records.{Rec, number_of, takes_part}
use Rattle.txg_history.specs.Moves.{May}
use Rattle.txg_history.specs.Survival.{Survives, IsOf}
use Rattle.txg_history.specs.Tracking.{MayBegin, Keeps, KeepsLabels, HasPromise}
use Rattle.txg_history.proofs.Logging.{at_here, at_away}

-- the labels hold some record
abbrev IsSome : Status → Type 0
IsSome (Odd r) = Unit {0}
IsSome (Even r) = Unit {0}
IsSome Lost = ⊥

-- A member whose labels hold this.
record IsTracked (p : Pool) (d : ℕ) (m : Guid) (status : Status) : Type 0 where
  member : p.member d ≡ true
  number : p.guid d ≡ m
  status_is : p.status d ≡ status
  some : IsSome status

other_slot : (a b : ℕ) → a ≢ b → (a == b) ≡ false
other_slot a b ne = grind (arith, nat_tests)

begun_same : (status : Status) (q : Rec) → MayBegin status q → begun status q ≡ status
begun_same (Odd r) q may = ap (λ t. cond t Lost (Odd r)) (other_slot (slot_of (number_of r)) (slot_of (number_of q)) may)
begun_same (Even r) q may = absurd may
begun_same Lost q may = absurd may

-- a round that the member stays out of leaves its labels
part_same : (b : Bool) (status : Status) (q : Rec) → (b ≡ true → begun status q ≡ status) → cond b (begun status q) status ≡ status
part_same true status q same = same refl
part_same false status q same = refl

begins_tracked : (p : Pool) (d : ℕ) (m : Guid) (status : Status) (q : Rec) → IsTracked p d m status
    → (takes_part q m ≡ true → MayBegin status q) → IsTracked (after (Begins q) p) d m status
begins_tracked p d m status q t may = record {
  member = t.member;
  number = t.number;
  status_is = ap (λ s. cond (takes_part q (p.guid d)) (begun s q) s) t.status_is
      ∙ part_same (takes_part q (p.guid d)) status q (λ takes. begun_same status q (may (subst (λ g. takes_part q g ≡ true) t.number takes)));
  some = t.some;
}

some_if : (b : Bool) (new old : Status) → IsSome new → IsSome old → IsSome (cond b new old)
some_if true new old a b = a
some_if false new old a b = b

-- a third phase that begins or ends leaves this in them
stands_tracked : (p : Pool) (d e : ℕ) (m : Guid) (status new : Status) → IsTracked p d m status → IsSome new
    → IsTracked (record p { status = at_device e new p.status }) d m (cond (e == d) new status)
stands_tracked p d e m status new t is = record {
  member = t.member;
  number = t.number;
  status_is = ap (λ s. cond (e == d) new s) t.status_is;
  some = some_if (e == d) new status is t.some;
}

acks_tracked : (p : Pool) (d : ℕ) (m : Guid) (status : Status) (q : Rec) → IsTracked p d m status → MayAck p q
    → takes_part q m ≡ true → IsTracked (after (Acks q) p) d m (Odd q)
acks_tracked p d m status q t may takes =
    let part : takes_part q (p.guid d) ≡ true = subst (λ g. takes_part q g ≡ true) (sym t.number) takes in
    record { member = t.member; number = t.number; status_is = ap (λ b. cond b (p.status d) Lost) part ∙ may.all d t.member part; some = tt }

other_device : (e d : ℕ) → e ≢ d → (e == d) ≡ false
other_device e d ne = grind (arith, nat_tests)

loses_tracked : (p : Pool) (d e : ℕ) (m : Guid) (status : Status) → IsTracked p d m status → e ≢ d → IsTracked (after (Loses e) p) d m status
loses_tracked p d e m status t ne = record {
  member = at_away e d false p.member (other_device e d ne) ∙ t.member;
  number = t.number;
  status_is = at_away e d Lost p.status (other_device e d ne) ∙ t.status_is;
  some = t.some;
}

joins_tracked : (p : Pool) (d e : ℕ) (m n : Guid) (top : ℕ) (status : Status) → IsTracked p d m status → e ≢ d
    → m.0 ≢ n.0 → IsTracked (after (Joins e n top) p) d m status
joins_tracked p d e m n top status t ne other = record {
  member = at_away e d true (other_than n p.guid p.member) off
      ∙ (ap (λ b. cond b false (p.member d)) (other_device (p.guid d).0 n.0 (λ same. other (sym (ap (λ g. g.0) t.number) ∙ same))) ∙ t.member);
  number = at_away e d n p.guid off ∙ t.number;
  status_is = at_away e d Lost p.status off ∙ t.status_is;
  some = t.some;
}
  where
    off : (e == d) ≡ false
    off = other_device e d ne

promise_of : (p : Pool) (d : ℕ) (m : Guid) (status : Status) → IsTracked p d m status → HasPromise p d
promise_of p d m (Odd r) t = record { is_member = t.member; promised = r; status_is = inl t.status_is }
promise_of p d m (Even r) t = record { is_member = t.member; promised = r; status_is = inr t.status_is }
promise_of p d m Lost t = absurd t.some

same_tracked : (p q : Pool) (d : ℕ) (m : Guid) (status : Status) → q.member d ≡ p.member d → q.guid d ≡ p.guid d
    → q.status d ≡ p.status d → IsTracked p d m status → IsTracked q d m status
same_tracked p q d m status a b s t = record { member = a ∙ t.member; number = b ∙ t.number; status_is = s ∙ t.status_is; some = t.some }

-- They keep a record through all such events.
tracked : (c : Codec) (vs : List Event) (p : Pool) (d : ℕ) (m : Guid) (status : Status) → IsTracked p d m status
    → Mays c p vs → Keeps d m status vs → HasPromise (pool_after vs p) d
tracked c [] p d m status t mays keeps = promise_of p d m status t
tracked c (Begins q ∷ vs) p d m status t mays keeps = tracked c vs (after (Begins q) p) d m status (begins_tracked p d m status q t keeps.0) mays.1 keeps.1
tracked c (Third q e ∷ vs) p d m status t mays keeps =
    tracked c vs (after (Third q e) p) d m _ (stands_tracked p d e m status (Even q) t tt) mays.1 keeps
tracked c (Ends q e ∷ vs) p d m status t mays keeps = tracked c vs (after (Ends q e) p) d m _ (stands_tracked p d e m status (Odd q) t tt) mays.1 keeps
tracked c (Acks q ∷ vs) p d m status t mays keeps = tracked c vs (after (Acks q) p) d m (Odd q) (acks_tracked p d m status q t mays.0 keeps.0) mays.1 keeps.1
tracked c (Joins e n top ∷ vs) p d m status t mays keeps =
    tracked c vs (after (Joins e n top) p) d m status (joins_tracked p d e m n top status t keeps.0 keeps.1) mays.1 keeps.2
tracked c (Loses e ∷ vs) p d m status t mays keeps = tracked c vs (after (Loses e) p) d m status (loses_tracked p d e m status t keeps.0) mays.1 keeps.1
tracked c (v ∷ vs) p d m status t mays keeps = tracked c vs (after v p) d m status (same_tracked p (after v p) d m status refl refl refl t) mays.1 keeps

-- From a status with a record.
pub labels_stay : (c : Codec) (p : Pool) (d : ℕ) (vs : List Event) → HasPromise p d → Mays c p vs → KeepsLabels p d vs → HasPromise (pool_after vs p) d
labels_stay c p d vs has mays keeps =
    tracked c vs p d (p.guid d) (p.status d) (record { member = has.is_member; number = refl; status_is = refl; some = some_of has.status_is }) mays keeps
  where
    some_of : (p.status d ≡ Odd has.promised) ⊎ (p.status d ≡ Even has.promised) → IsSome (p.status d)
    some_of (inl e) = subst IsSome (sym e) tt
    some_of (inr e) = subst IsSome (sym e) tt

-- And from an acknowledgement on, in whose round the member takes part.
pub labels_stay_since : (c : Codec) (p : Pool) (d : ℕ) (q : Rec) (vs : List Event) → p.member d ≡ true → takes_part q (p.guid d) ≡ true → Mays c p (Acks q ∷ vs)
    → KeepsLabels (after (Acks q) p) d vs → HasPromise (pool_after (Acks q ∷ vs) p) d
labels_stay_since c p d q vs member takes mays keeps = labels_stay c (after (Acks q) p) d vs
    (record { is_member = member; promised = q; status_is = inl odd }) mays.1 keeps
  where
    odd : (after (Acks q) p).status d ≡ Odd q
    odd = ap (λ b. cond b (p.status d) Lost) takes ∙ mays.0.all d member takes

-- Labels that promise a record hold it.
pub promise_holds : (c : Codec) (p : Pool) (d : ℕ) → Survives c p → (has : HasPromise p d) → HoldsLabels p d has.promised
promise_holds c p d sv has = of has.status_is
  where
    needed : (status : Status) → p.status d ≡ status → (s : ℕ) (bytes : List ℕ) → NeedsLabel (seat p d) status s bytes → Held (p.sectors d s) bytes
    needed status e s bytes n = sv.labels d s bytes has.is_member (subst (λ st. NeedsLabel (seat p d) st s bytes) (sym e) n)

    live : (status : Status) → p.status d ≡ status → IsOf p.live (p.guid d) status
    live status e = subst (IsOf p.live (p.guid d)) e (sv.status_live d has.is_member)

    of : (p.status d ≡ Odd has.promised) ⊎ (p.status d ≡ Even has.promised) → HoldsLabels p d has.promised
    of (inl e) = let is = live (Odd has.promised) e in record {
      is_live = is.0;
      takes = is.1;
      ring = λ s bytes at. needed (Odd has.promised) e s bytes (inl at);
      part = inl (λ s bytes at. needed (Odd has.promised) e s bytes (inr at));
    }
    of (inr e) = let is = live (Even has.promised) e in record {
      is_live = is.0;
      takes = is.1;
      ring = λ s bytes at. needed (Even has.promised) e s bytes (inl at);
      part = inr (λ s bytes at. needed (Even has.promised) e s bytes (inr at));
    }

-- A third phase that was cut is made good where label 1 holds the configuration after all.
pub cut_phase_ends : (c : Codec) (p : Pool) (q : Rec) (d : ℕ) → Survives c p → p.status d ≡ Even q
    → ((s : ℕ) (bytes : List ℕ) → InPart odd_part q s bytes → Held (p.sectors d s) bytes) → May c p (Ends q d)
cut_phase_ends c p q d sv e odd is = record { began = e; held = odd }

-- behind its beginning a third phase has the record in the even labels
pub third_even : (p : Pool) (q : Rec) (d : ℕ) → (after (Third q d) p).status d ≡ Even q
third_even p q d = at_here d d (Even q) p.status (let same : (d == d) ≡ true = grind (arith, nat_tests) in same)

-- From a third phase on the labels go on promising a record.
pub labels_again : (c : Codec) (p : Pool) (d : ℕ) (q : Rec) (vs : List Event) → p.member d ≡ true → Mays c p (Third q d ∷ vs)
    → KeepsLabels (after (Third q d) p) d vs → HasPromise (pool_after (Third q d ∷ vs) p) d
labels_again c p d q vs member mays keeps = labels_stay c (after (Third q d) p) d vs
    (record { is_member = member; promised = q; status_is = inr (third_even p q d) }) mays.1 keeps
