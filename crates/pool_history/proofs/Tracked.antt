-- The labels of a member go on promising a record.
use Rattle.std.proofs.Common.{◌≡◌, ◌≢◌, ◌⊎◌, ℕ, ◌+◌, ◌%◌, ◌<◌, ◌≤◌, ◌==◌, Bool, true, false, cond, List, [], ◌∷◌, Option, refl, sym, ap, ◌∙◌, subst, arith, inl, inr}
use Rattle.std.proofs.lemmas.Bool.Decides.{nat_tests}
use Rattle.label_store.specs.declared.rule.Head.{Head}
use Rattle.mp_base.specs.declared.number.Guid.{Guid}
use Rattle.pool_history.specs.Events.{Event, Calls, Accepts, Looks, Opens, Begins, Third, Ends, Acks, Loses, Stops}
use Rattle.pool_history.specs.Labels.{Status, Odd, Even, Lost, begun}
use Rattle.pool_history.specs.Moves.{Mays, IsDrawnUp, MayAck}
use Rattle.pool_history.specs.Pools.{Pool, after, pool_after}
use Rattle.pool_history.specs.Records.{Rec, IsIn, number_of, takes_part}
use Rattle.pool_history.specs.Survival.{Survives, IsOf}
use Rattle.pool_history.specs.Tracking.{MayBegin, Keeps, KeepsLabels, AreNear, HasPromise}

-- two numbers less than 32 apart have two slots
slots_differ : (n a b : ℕ) → n ≤ a → a < n + 32 → n ≤ b → b < n + 32 → b ≢ a → (a % 32 == b % 32) ≡ false
slots_differ n a b la ha lb hb ne = let other : a % 32 ≢ b % 32 = λ e. ne (omega arith) in grind (arith, nat_tests)

-- the labels hold a live record, and the member takes part in it
abbrev IsLive : List Rec → (m : Guid) → Status → Type 0
IsLive live m (Odd r) = IsIn r live × (takes_part r m ≡ true)
IsLive live m (Even r) = IsIn r live × (takes_part r m ≡ true)
IsLive live m Lost = ⊥

-- A member whose labels hold this, and the numbers of the live records in which it takes part are near the
-- acknowledged one's.
record IsTracked (p : Pool) (d : ℕ) (status : Status) : Type 0 where
  member : p.member d ≡ true
  status_is : p.status d ≡ status
  is_live : IsLive p.live (p.guid d) status
  above : (r : Rec) → IsIn r p.live → number_of p.acked ≤ number_of r
  near : (r : Rec) → IsIn r p.live → takes_part r (p.guid d) ≡ true → number_of r < number_of p.acked + 32
  top : number_of p.acked ≤ p.top

more_live : (q : Rec) (live : List Rec) (m : Guid) (status : Status) → IsLive live m status → IsLive (q ∷ live) m status
more_live q live m (Odd r) l = (inr l.0, l.1)
more_live q live m (Even r) l = (inr l.0, l.1)
more_live q live m Lost l = l

still_odd : (t : Bool) (r : Rec) → t ≡ false → cond t Lost (Odd r) ≡ Odd r
still_odd t r e = rw e refl

-- the number of a round that may begin is near
begins_near : (acked : Rec) (status : Status) (q : Rec) → MayBegin acked status q → number_of q < number_of acked + 32
begins_near acked (Odd r) q may = may.0
begins_near acked (Even r) q may = absurd may
begins_near acked Lost q may = absurd may

-- its slot is another one
begun_same : (p : Pool) (d : ℕ) (status : Status) (q : Rec) → IsTracked p d status → number_of p.acked ≤ number_of q → MayBegin p.acked status q → begun status q ≡ status
begun_same p d (Odd r) q t over may =
    let low : number_of p.acked ≤ number_of r = t.above r t.is_live.0 in
    still_odd _ r (slots_differ (number_of p.acked) (number_of r) (number_of q) low (t.near r t.is_live.0 t.is_live.1) over may.0 may.1)
begun_same p d (Even r) q t over may = absurd may
begun_same p d Lost q t over may = absurd may

-- and one that the member stays out of leaves its labels
part_same : (b : Bool) (status : Status) (q : Rec) → (b ≡ true → begun status q ≡ status) → cond b (begun status q) status ≡ status
part_same true status q same = same refl
part_same false status q same = refl

-- a round that begins leaves them
begins_tracked : (head_of : List ℕ → Option Head) (p : Pool) (d : ℕ) (status : Status) (q : Rec) → IsTracked p d status → IsDrawnUp head_of p q
    → (takes_part q (p.guid d) ≡ true → MayBegin p.acked status q) → IsTracked (after (Begins q) p) d status
begins_tracked head_of p d status q t drawn may = record {
  member = t.member;
  status_is = ap (λ s. cond (takes_part q (p.guid d)) (begun s q) s) t.status_is ∙ part_same (takes_part q (p.guid d)) status q (λ takes. begun_same p d status q t over (may takes));
  is_live = more_live q p.live (p.guid d) status t.is_live;
  above = above;
  near = near;
  top = over;
}
  where
    over : number_of p.acked ≤ number_of q
    over = omega (arith, t.top, drawn.number_is)

    above : (k : Rec) → IsIn k (q ∷ p.live) → number_of p.acked ≤ number_of k
    above k (inl e) = subst (λ x. number_of p.acked ≤ number_of x) (sym e) over
    above k (inr i) = t.above k i

    near : (k : Rec) → IsIn k (q ∷ p.live) → takes_part k (p.guid d) ≡ true → number_of k < number_of p.acked + 32
    near k (inl e) = subst (λ x. takes_part x (p.guid d) ≡ true → number_of x < number_of p.acked + 32) (sym e) (λ takes. begins_near p.acked status q (may takes))
    near k (inr i) = t.near k i

live_if : (b : Bool) (live : List Rec) (m : Guid) (new old : Status) → (b ≡ true → IsLive live m new) → IsLive live m old → IsLive live m (cond b new old)
live_if true live m new old a b = a refl
live_if false live m new old a b = b

same_device : (e d : ℕ) → (e == d) ≡ true → e ≡ d
same_device e d is = grind (arith, nat_tests)

-- a third phase that begins or ends leaves this in them
stands_tracked : (p : Pool) (d e : ℕ) (status new : Status) → IsTracked p d status → (p.member e ≡ true → IsLive p.live (p.guid e) new)
    → IsTracked (record p { status = λ x. cond (e == x) new (p.status x) }) d (cond (e == d) new status)
stands_tracked p d e status new t live = record {
  member = t.member;
  status_is = ap (λ s. cond (e == d) new s) t.status_is;
  is_live = live_if (e == d) p.live (p.guid d) new status (λ is. subst (λ x. p.member x ≡ true → IsLive p.live (p.guid x) new) (same_device e d is) live t.member) t.is_live;
  above = t.above;
  near = t.near;
  top = t.top;
}

only_one : (P : Rec → Type 0) (q r : Rec) → P q → IsIn r (q ∷ []) → P r
only_one P q r is (inl e) = subst P (sym e) is
only_one P q r is (inr i) = absurd i

-- an acknowledgement leaves the labels of a member that took part
acked_status : (p : Pool) (d : ℕ) (q : Rec) → takes_part q (p.guid d) ≡ true → (after (Acks q) p).status d ≡ p.status d
acked_status p d q takes = ap (λ t. cond t (p.status d) Lost) takes

acks_tracked : (p : Pool) (d : ℕ) (status : Status) (q : Rec) → IsTracked p d status → MayAck p q → takes_part q (p.guid d) ≡ true → IsTracked (after (Acks q) p) d (Odd q)
acks_tracked p d status q t may takes = record {
  member = t.member;
  status_is = acked_status p d q takes ∙ may.all d t.member takes;
  is_live = (inl refl, takes);
  above = λ r i. only_one (λ x. number_of q ≤ number_of x) q r (omega arith) i;
  near = λ r i part. only_one (λ x. number_of x < number_of q + 32) q r (omega arith) i;
  top = let e : number_of q ≡ p.top = may.number_is in omega arith;
}

not_lost : {A : Type 0} (b : Bool) (x y : A) → b ≡ false → cond b x y ≡ y
not_lost b x y e = rw e refl

other_test : (e d : ℕ) → e ≢ d → (e == d) ≡ false
other_test e d ne = grind (arith, nat_tests)

loses_tracked : (p : Pool) (d e : ℕ) (status : Status) → IsTracked p d status → e ≢ d → IsTracked (after (Loses e) p) d status
loses_tracked p d e status t ne = record {
  member = not_lost (e == d) false (p.member d) (other_test e d ne) ∙ t.member;
  status_is = not_lost (e == d) Lost (p.status d) (other_test e d ne) ∙ t.status_is;
  is_live = t.is_live;
  above = t.above;
  near = t.near;
  top = t.top;
}

promise_of : (p : Pool) (d : ℕ) (status : Status) → IsTracked p d status → HasPromise p d
promise_of p d (Odd r) t = record { is_member = t.member; promised = r; status_is = inl t.status_is }
promise_of p d (Even r) t = record { is_member = t.member; promised = r; status_is = inr t.status_is }
promise_of p d Lost t = absurd t.is_live

-- they keep a record through all such events
tracked : (head_of : List ℕ → Option Head) (vs : List Event) (p : Pool) (d : ℕ) (status : Status) → IsTracked p d status → Mays head_of p vs → Keeps d (p.guid d) p.acked status vs
    → HasPromise (pool_after vs p) d
tracked head_of [] p d status t mays keeps = promise_of p d status t
tracked head_of (Calls noted ∷ vs) p d status t mays keeps =
    tracked head_of vs (after (Calls noted) p) d status (record { member = t.member; status_is = t.status_is; is_live = t.is_live; above = t.above; near = t.near; top = t.top }) mays.1 keeps
tracked head_of (Accepts a block ∷ vs) p d status t mays keeps =
    tracked head_of vs (after (Accepts a block) p) d status (record { member = t.member; status_is = t.status_is; is_live = t.is_live; above = t.above; near = t.near; top = t.top }) mays.1 keeps
tracked head_of (Looks known ∷ vs) p d status t mays keeps = tracked head_of vs p d status t mays.1 keeps
tracked head_of (Opens r ∷ vs) p d status t mays keeps =
    tracked head_of vs (after (Opens r) p) d status (record { member = t.member; status_is = t.status_is; is_live = t.is_live; above = t.above; near = t.near; top = t.above r mays.0 }) mays.1 keeps
tracked head_of (Begins q ∷ vs) p d status t mays keeps =
    tracked head_of vs (after (Begins q) p) d status (begins_tracked head_of p d status q t mays.0 keeps.0) mays.1 keeps.1
tracked head_of (Third q e ∷ vs) p d status t mays keeps =
    tracked head_of vs (after (Third q e) p) d _ (stands_tracked p d e status (Even q) t (λ is. ((mays.0 is).is_live, (mays.0 is).takes))) mays.1 keeps
tracked head_of (Ends q e ∷ vs) p d status t mays keeps =
    tracked head_of vs (after (Ends q e) p) d _ (stands_tracked p d e status (Odd q) t (λ is. ((mays.0 is).is_live, (mays.0 is).takes))) mays.1 keeps
tracked head_of (Acks q ∷ vs) p d status t mays keeps =
    tracked head_of vs (after (Acks q) p) d (Odd q) (acks_tracked p d status q t mays.0 keeps.0) mays.1 keeps.1
tracked head_of (Loses e ∷ vs) p d status t mays keeps =
    tracked head_of vs (after (Loses e) p) d status (loses_tracked p d e status t keeps.0) mays.1 keeps.1
tracked head_of (Stops sectors size ∷ vs) p d status t mays keeps =
    tracked head_of vs (after (Stops sectors size) p) d status (record { member = t.member; status_is = t.status_is; is_live = t.is_live; above = t.above; near = t.near; top = t.top }) mays.1 keeps

-- From a status with a record.
pub labels_stay : (head_of : List ℕ → Option Head) (p : Pool) (d : ℕ) (vs : List Event) → Survives head_of p → AreNear p → HasPromise p d → Mays head_of p vs → KeepsLabels p d vs
    → HasPromise (pool_after vs p) d
labels_stay head_of p d vs s near has mays keeps = tracked head_of vs p d (p.status d) (record {
  member = has.is_member;
  status_is = refl;
  is_live = by_status (p.status d) refl has.status_is;
  above = s.not_below;
  near = λ r i part. near r i;
  top = s.acked_top;
}) mays keeps
  where
    of : (status : Status) → p.status d ≡ status → IsOf head_of p d status
    of status e = subst (IsOf head_of p d) e (s.status_live d has.is_member)

    by_status : (status : Status) → p.status d ≡ status → (status ≡ Odd has.promised) ⊎ (status ≡ Even has.promised) → IsLive p.live (p.guid d) status
    by_status (Odd r) e is = let live = of (Odd r) e in (live.0, live.2)
    by_status (Even r) e is = let live = of (Even r) e in (live.0, live.2)
    by_status Lost e (inl is) = absurd (cc)
    by_status Lost e (inr is) = absurd (cc)

-- And from an acknowledgement on, in whose round the member takes part.
pub labels_stay_since : (head_of : List ℕ → Option Head) (p : Pool) (d : ℕ) (q : Rec) (vs : List Event) → p.member d ≡ true → takes_part q (p.guid d) ≡ true
    → Mays head_of p (Acks q ∷ vs)
    → KeepsLabels (after (Acks q) p) d vs → HasPromise (pool_after (Acks q ∷ vs) p) d
labels_stay_since head_of p d q vs member takes mays keeps = tracked head_of vs (after (Acks q) p) d (Odd q) (record {
  member = member;
  status_is = odd;
  is_live = (inl refl, takes);
  above = λ r i. only_one (λ x. number_of q ≤ number_of x) q r (omega arith) i;
  near = λ r i part. only_one (λ x. number_of x < number_of q + 32) q r (omega arith) i;
  top = let e : number_of q ≡ p.top = mays.0.number_is in omega arith;
}) mays.1 (subst (λ status. Keeps d (p.guid d) q status vs) odd keeps)
  where
    odd : (after (Acks q) p).status d ≡ Odd q
    odd = acked_status p d q takes ∙ mays.0.all d member takes
