-- The rule by numbers gives the rule by slots.
use Rattle.std.proofs.Common.{◌≡◌, ◌≢◌, ℕ, ◌+◌, ◌%◌, ◌<◌, ◌≤◌, ◌==◌, Bool, true, false, cond, List, [], ◌∷◌, refl, sym, ap, ◌∙◌, subst, arith, inl, inr}
use Rattle.std.proofs.lemmas.Bool.Decides.{nat_tests}
use Rattle.mp_base.specs.declared.number.Guid.{Guid}
use Rattle.label_store.specs.Layout.{slot_of}
use Rattle.label_store.specs.Records.{AreUnhurt}
use Rattle.txg_history.specs.Events.{Event, Known, Freezes, Draws, Burns, Begins, Third, Ends, Acks, Opens, Joins, Loses, Stops}
use Rattle.txg_history.specs.Groups.{at_device}
use Rattle.txg_history.specs.Labels.{Status, Odd, Even, Lost, begun}
use Rattle.txg_history.specs.Moves.{IsDrawnUp, MayStand, MayEnd, MayAck, Mays}
use Rattle.txg_history.specs.Openings.{IsReadWhole}
use Rattle.txg_history.specs.Pages.{Codec}
use Rattle.txg_history.specs.Pools.{Pool, after, pool_after, other_than}
use Rattle.txg_history.specs.Premises.{HasSoundLabels}
use Rattle.txg_history.specs.Records.{Rec, IsIn, number_of, takes_part}
use Rattle.txg_history.specs.Survival.{Survives}
use Rattle.txg_history.specs.Tracking.{MayBegin, Keeps, KeepsLabels, HasPromise, MayBeginNear, IsNotBelow, KeepsNear}
use Rattle.txg_history.proofs.Listing.{only_one, new_or}
use Rattle.txg_history.proofs.Logging.{true_not_false, at_away, same_device}
use Rattle.txg_history.proofs.Moving.{event_survives}
use Rattle.txg_history.proofs.Surviving.{history_survives}
use Rattle.txg_history.proofs.Tracked.{third_even, labels_stay_since, promise_holds}
use Rattle.txg_history.proofs.Verified.{labels_sound}

-- two numbers less than 32 apart have two slots
slots_differ : (n a b : ℕ) → n ≤ a → a < n + 32 → n ≤ b → b < n + 32 → a < b → a % 32 ≢ b % 32
slots_differ n a b la ha lb hb lt = λ e. omega (arith, la, ha, lb, hb, lt, e)

-- the record that the labels hold: a live one in which the member takes part, whose number was drawn, and which is below a
-- number that no round has taken yet
abbrev pub Holds : Pool → (m : Guid) → Rec → Type 0
Holds p m r = IsIn r p.live × (takes_part r m ≡ true) × (number_of r ≤ p.highest) × (p.group.frozen ≡ true → p.group.fresh ≡ true → number_of r < p.highest)

abbrev pub HoldsSome : Pool → (m : Guid) → Status → Type 0
HoldsSome p m (Odd r) = Holds p m r
HoldsSome p m (Even r) = Holds p m r
HoldsSome p m Lost = ⊥

pub record IsNear (p : Pool) (d : ℕ) (m : Guid) (acked : Rec) (status : Status) : Type 0 where
  pub member : p.member d ≡ true
  pub number : p.guid d ≡ m
  pub acked_is : p.acked ≡ acked
  pub status_is : p.status d ≡ status
  pub holds : HoldsSome p m status
  pub near : (r : Rec) → IsIn r p.live → takes_part r m ≡ true → number_of r < number_of acked + 32

pub map_holds : (p q : Pool) (m : Guid) (status : Status) → ((r : Rec) → Holds p m r → Holds q m r) → HoldsSome p m status → HoldsSome q m status
map_holds p q m (Odd r) f h = f r h
map_holds p q m (Even r) f h = f r h
map_holds p q m Lost f h = absurd h

-- where nothing of this changes
pub same_near : (p q : Pool) (d : ℕ) (m : Guid) (acked : Rec) (status : Status) → q.member d ≡ p.member d
    → q.guid d ≡ p.guid d → q.acked ≡ p.acked → q.status d ≡ p.status d
    → q.live ≡ p.live → ((r : Rec) → Holds p m r → Holds q m r) → IsNear p d m acked status → IsNear q d m acked status
same_near p q d m acked status a b e s l f t = record {
  member = a ∙ t.member;
  number = b ∙ t.number;
  acked_is = e ∙ t.acked_is;
  status_is = s ∙ t.status_is;
  holds = map_holds p q m status f t.holds;
  near = λ r i takes. t.near r (subst (IsIn r) l i) takes;
}

-- a further number is above it
pub drawn_holds : (p q : Pool) (m : Guid) (r : Rec) → q.live ≡ p.live → q.highest ≡ p.highest + 1 → Holds p m r → Holds q m r
drawn_holds p q m r l h holds = (
  subst (IsIn r) (sym l) holds.0,
  holds.1,
  (let le = holds.2 in omega (arith, le, h)),
  λ f n. let le = holds.2 in omega (arith, le, h),
)

-- no group is frozen any more
pub thawed_holds : (p q : Pool) (m : Guid) (r : Rec) → q.live ≡ p.live → q.highest ≡ p.highest → q.group.frozen ≡ false → Holds p m r → Holds q m r
thawed_holds p q m r l h f holds = (
  subst (IsIn r) (sym l) holds.0,
  holds.1,
  (let le = holds.2 in omega (arith, le, h)),
  λ frozen n. true_not_false q.group.frozen frozen f,
)

begins_holds : (p : Pool) (m : Guid) (q r : Rec) → Holds p m r → Holds (after (Begins q) p) m r
begins_holds p m q r holds = (inr holds.0, holds.1, holds.2, λ f n. true_not_false false n refl)

opened_holds : (p : Pool) (m : Guid) (status : Status) (r : Rec) → IsNotBelow status r → HoldsSome p m status → HoldsSome (after (Opens r) p) m status
opened_holds p m (Odd x) r low holds = (holds.0, holds.1, low, λ f n. true_not_false false f refl)
opened_holds p m (Even x) r low holds = (holds.0, holds.1, low, λ f n. true_not_false false f refl)
opened_holds p m Lost r low holds = absurd holds

-- A round begins: it takes another slot.
may_begin : (c : Codec) (p : Pool) (d : ℕ) (m : Guid) (acked : Rec) (status : Status) (q : Rec) → Survives c p → IsDrawnUp c p q → IsNear p d m acked status
    → MayBeginNear acked status q → MayBegin status q
may_begin c p d m acked (Odd r) q sv drawn t near =
    let low : number_of acked ≤ number_of r = subst (λ a. number_of a ≤ number_of r) t.acked_is (sv.order.not_below r t.holds.0) in
    let high = t.near r t.holds.0 t.holds.1 in
    let lt = t.holds.3 drawn.frozen drawn.fresh in
    slots_differ (number_of acked) (number_of r) (number_of q) low high (omega (arith, low, lt, drawn.number_is)) near (omega (arith, lt, drawn.number_is))
may_begin c p d m acked (Even r) q sv drawn t near = absurd near
may_begin c p d m acked Lost q sv drawn t near = absurd near

near_number : (acked : Rec) (status : Status) (q : Rec) → MayBeginNear acked status q → number_of q < number_of acked + 32
near_number acked (Odd r) q near = near
near_number acked (Even r) q near = absurd near
near_number acked Lost q near = absurd near

part_same : (b : Bool) (status new : Status) → (b ≡ true → new ≡ status) → cond b new status ≡ status
part_same true status new same = same refl
part_same false status new same = refl

begun_same : (status : Status) (q : Rec) → MayBegin status q → begun status q ≡ status
begun_same (Odd r) q may = ap (λ t. cond t Lost (Odd r)) (off (slot_of (number_of r)) (slot_of (number_of q)) may)
  where
    off : (a b : ℕ) → a ≢ b → (a == b) ≡ false
    off a b ne = grind (arith, nat_tests)
begun_same (Even r) q may = absurd may
begun_same Lost q may = absurd may

pub begins_near : (c : Codec) (p : Pool) (d : ℕ) (m : Guid) (acked : Rec) (status : Status) (q : Rec) → Survives c p → IsDrawnUp c p q
    → IsNear p d m acked status → (takes_part q m ≡ true → MayBeginNear acked status q) → IsNear (after (Begins q) p) d m acked status
begins_near c p d m acked status q sv drawn t may = record {
  member = t.member;
  number = t.number;
  acked_is = t.acked_is;
  status_is = ap (λ s. cond (takes_part q (p.guid d)) (begun s q) s) t.status_is
      ∙ part_same (takes_part q (p.guid d)) status _ (λ takes. begun_same status q
      (may_begin c p d m acked status q sv drawn t (may (subst (λ g. takes_part q g ≡ true) t.number takes))));
  holds = map_holds p (after (Begins q) p) m status (λ r h. begins_holds p m q r h) t.holds;
  near = λ r i takes. new_or (λ r. takes_part r m ≡ true → number_of r < number_of acked + 32) q r p.live (λ takes. near_number acked status q (may takes))
      (λ i takes. t.near r i takes) i takes;
}

holds_if : (p : Pool) (m : Guid) (b : Bool) (new old : Status) → (b ≡ true → HoldsSome p m new) → HoldsSome p m old → HoldsSome p m (cond b new old)
holds_if p m true new old a h = a refl
holds_if p m false new old a h = h

-- a third phase begins or ends
pub stands_near : (p : Pool) (d e : ℕ) (m : Guid) (acked : Rec) (status new : Status) → IsNear p d m acked status → ((e == d) ≡ true → HoldsSome p m new)
    → IsNear (record p { status = at_device e new p.status }) d m acked (cond (e == d) new status)
stands_near p d e m acked status new t is = record {
  member = t.member;
  number = t.number;
  acked_is = t.acked_is;
  status_is = ap (λ s. cond (e == d) new s) t.status_is;
  holds = holds_if (record p { status = at_device e new p.status }) m (e == d) new status
      (λ here. map_holds p (record p { status = at_device e new p.status }) m new (λ r h. h) (is here))
      (map_holds p (record p { status = at_device e new p.status }) m status (λ r h. h) t.holds);
  near = t.near;
}

pub third_holds : (p : Pool) (d e : ℕ) (m : Guid) (acked : Rec) (status : Status) (q : Rec) → IsNear p d m acked status → (p.member e ≡ true → MayStand p q e)
    → (e == d) ≡ true → HoldsSome p m (Even q)
third_holds p d e m acked status q t may here =
    let same = same_device e d here in
    let stand = may (ap p.member same ∙ t.member) in (
      stand.is_live,
      subst (λ g. takes_part q g ≡ true) (ap p.guid same ∙ t.number) stand.takes,
      (let number = stand.number_is in omega (arith, number)),
      λ f n. true_not_false p.group.fresh n stand.taken,
    )

pub ends_holds : (p : Pool) (d e : ℕ) (m : Guid) (acked : Rec) (status : Status) (q : Rec) → IsNear p d m acked status → (p.member e ≡ true → MayEnd p q e)
    → (e == d) ≡ true → HoldsSome p m (Odd q)
ends_holds p d e m acked status q t may here =
    let same = same_device e d here in
    let end = may (ap p.member same ∙ t.member) in
    map_even (sym t.status_is ∙ (ap p.status (sym same) ∙ end.began))
  where
    map_even : status ≡ Even q → HoldsSome p m (Odd q)
    map_even e = subst (HoldsSome p m) e t.holds

-- the rule begins with a round that is acknowledged, in which the member takes part
pub acked_near : (p : Pool) (d : ℕ) (q : Rec) → p.member d ≡ true → takes_part q (p.guid d) ≡ true → MayAck p q
    → IsNear (after (Acks q) p) d (p.guid d) q (Odd q)
acked_near p d q member takes may = record {
  member = member;
  number = refl;
  acked_is = refl;
  status_is = ap (λ b. cond b (p.status d) Lost) takes ∙ may.all d member takes;
  holds = (inl refl, takes, (let e = may.number_is in omega (arith, e)), λ f n. true_not_false false f refl);
  near = λ r i takes. only_one (λ r. number_of r < number_of q + 32) q r (omega arith) i;
}

acks_near : (p : Pool) (d : ℕ) (m : Guid) (acked : Rec) (status : Status) (q : Rec) → IsNear p d m acked status
    → MayAck p q → takes_part q m ≡ true → IsNear (after (Acks q) p) d m q (Odd q)
acks_near p d m acked status q t may takes =
    subst (λ g. IsNear (after (Acks q) p) d g q (Odd q)) t.number
    (acked_near p d q t.member (subst (λ g. takes_part q g ≡ true) (sym t.number) takes) may)

other_device : (e d : ℕ) → e ≢ d → (e == d) ≡ false
other_device e d ne = grind (arith, nat_tests)

pub loses_near : (p : Pool) (d e : ℕ) (m : Guid) (acked : Rec) (status : Status) → IsNear p d m acked status → e ≢ d
    → IsNear (after (Loses e) p) d m acked status
loses_near p d e m acked status t ne = record {
  member = at_away e d false p.member (other_device e d ne) ∙ t.member;
  number = t.number;
  acked_is = t.acked_is;
  status_is = at_away e d Lost p.status (other_device e d ne) ∙ t.status_is;
  holds = map_holds p (after (Loses e) p) m status (λ r h. h) t.holds;
  near = t.near;
}

pub joins_near : (p : Pool) (d e : ℕ) (m n : Guid) (top : ℕ) (acked : Rec) (status : Status) → IsNear p d m acked status
    → e ≢ d → m.0 ≢ n.0 → IsNear (after (Joins e n top) p) d m acked status
joins_near p d e m n top acked status t ne other = record {
  member = at_away e d true (other_than n p.guid p.member) away
      ∙ (ap (λ b. cond b false (p.member d)) (other_device (p.guid d).0 n.0 (λ same. other (sym (ap (λ g. g.0) t.number) ∙ same))) ∙ t.member);
  number = at_away e d n p.guid away ∙ t.number;
  acked_is = t.acked_is;
  status_is = at_away e d Lost p.status away ∙ t.status_is;
  holds = map_holds p (after (Joins e n top) p) m status (λ r h. h) t.holds;
  near = t.near;
}
  where
    away : (e == d) ≡ false
    away = other_device e d ne

pub opens_near : (p : Pool) (d : ℕ) (m : Guid) (acked : Rec) (status : Status) (r : Rec) → IsNear p d m acked status
    → IsNotBelow status r → IsNear (after (Opens r) p) d m acked status
opens_near p d m acked status r t low = record {
  member = t.member;
  number = t.number;
  acked_is = t.acked_is;
  status_is = t.status_is;
  holds = opened_holds p m status r low t.holds;
  near = t.near;
}

-- So each round takes another slot.
near_keeps : (c : Codec) (vs : List Event) (p : Pool) (d : ℕ) (m : Guid) (acked : Rec) (status : Status) → Survives c p
    → IsNear p d m acked status → Mays c p vs
    → KeepsNear d m acked status vs → Keeps d m status vs
near_keeps c [] p d m acked status sv t mays near = tt
near_keeps c (Freezes cells board ∷ vs) p d m acked status sv t mays near =
    near_keeps c vs (after (Freezes cells board) p) d m acked status (event_survives c p (Freezes cells board) sv mays.0)
    (same_near p (after (Freezes cells board) p) d m acked status refl refl refl refl refl
    (λ r. drawn_holds p (after (Freezes cells board) p) m r refl refl) t) mays.1 near
near_keeps c (Draws ∷ vs) p d m acked status sv t mays near =
    near_keeps c vs (after Draws p) d m acked status (event_survives c p Draws sv mays.0)
    (same_near p (after Draws p) d m acked status refl refl refl refl refl (λ r. drawn_holds p (after Draws p) m r refl refl) t) mays.1 near
near_keeps c (Burns ∷ vs) p d m acked status sv t mays near =
    near_keeps c vs (after Burns p) d m acked status (event_survives c p Burns sv mays.0)
    (same_near p (after Burns p) d m acked status refl refl refl refl refl (λ r. thawed_holds p (after Burns p) m r refl refl refl) t) mays.1 near
near_keeps c (Stops sectors size ∷ vs) p d m acked status sv t mays near =
    near_keeps c vs (after (Stops sectors size) p) d m acked status (event_survives c p (Stops sectors size) sv mays.0)
    (same_near p (after (Stops sectors size) p) d m acked status refl refl refl refl refl
    (λ r. thawed_holds p (after (Stops sectors size) p) m r refl refl refl) t) mays.1 near
near_keeps c (Begins q ∷ vs) p d m acked status sv t mays near = (
  λ takes. may_begin c p d m acked status q sv mays.0 t (near.0 takes),
  near_keeps c vs (after (Begins q) p) d m acked status (event_survives c p (Begins q) sv mays.0)
      (begins_near c p d m acked status q sv mays.0 t near.0) mays.1 near.1,
)
near_keeps c (Third q e ∷ vs) p d m acked status sv t mays near =
    near_keeps c vs (after (Third q e) p) d m acked _ (event_survives c p (Third q e) sv mays.0)
    (stands_near p d e m acked status (Even q) t (third_holds p d e m acked status q t mays.0)) mays.1 near
near_keeps c (Ends q e ∷ vs) p d m acked status sv t mays near =
    near_keeps c vs (after (Ends q e) p) d m acked _ (event_survives c p (Ends q e) sv mays.0)
    (stands_near p d e m acked status (Odd q) t (ends_holds p d e m acked status q t mays.0)) mays.1 near
near_keeps c (Acks q ∷ vs) p d m acked status sv t mays near = (
  near.0,
  near_keeps c vs (after (Acks q) p) d m q (Odd q) (event_survives c p (Acks q) sv mays.0)
      (acks_near p d m acked status q t mays.0 near.0) mays.1 near.1,
)
near_keeps c (Opens r ∷ vs) p d m acked status sv t mays near =
    near_keeps c vs (after (Opens r) p) d m acked status (event_survives c p (Opens r) sv mays.0) (opens_near p d m acked status r t near.0) mays.1 near.1
near_keeps c (Joins e n top ∷ vs) p d m acked status sv t mays near = (
  near.0,
  near.1,
  near_keeps c vs (after (Joins e n top) p) d m acked status
      (event_survives c p (Joins e n top) sv mays.0)
      (joins_near p d e m n top acked status t near.0 near.1) mays.1 near.2,
)
near_keeps c (Loses e ∷ vs) p d m acked status sv t mays near = (
  near.0,
  near_keeps c vs (after (Loses e) p) d m acked status (event_survives c p (Loses e) sv mays.0)
      (loses_near p d e m acked status t near.0) mays.1 near.1,
)
near_keeps c (v ∷ vs) p d m acked status sv t mays near =
    near_keeps c vs (after v p) d m acked status (event_survives c p v sv mays.0)
    (same_near p (after v p) d m acked status refl refl refl refl refl (λ r h. h) t) mays.1 near

-- From an acknowledgement on, in whose round the member takes part, the rule by numbers gives the rule by slots.
pub near_labels : (c : Codec) (p : Pool) (d : ℕ) (q : Rec) (vs : List Event) → Survives c p → p.member d ≡ true
    → takes_part q (p.guid d) ≡ true → Mays c p (Acks q ∷ vs)
    → KeepsNear d (p.guid d) q (Odd q) vs → KeepsLabels (after (Acks q) p) d vs
near_labels c p d q vs sv member takes mays near =
    subst (λ status. Keeps d (p.guid d) status vs) (sym start.status_is)
    (near_keeps c vs (after (Acks q) p) d (p.guid d) q (Odd q) (event_survives c p (Acks q) sv mays.0) start mays.1 near)
  where
    start : IsNear (after (Acks q) p) d (p.guid d) q (Odd q)
    start = acked_near p d q member takes mays.0

-- So it does from a third phase on, whatever the labels held before.
pub near_again : (c : Codec) (p : Pool) (d : ℕ) (q : Rec) (vs : List Event) → Survives c p → p.member d ≡ true → Mays c p (Third q d ∷ vs)
    → ((r : Rec) → IsIn r p.live → takes_part r (p.guid d) ≡ true → number_of r < number_of p.acked + 32)
    → KeepsNear d (p.guid d) p.acked (Even q) vs → KeepsLabels (after (Third q d) p) d vs
near_again c p d q vs sv member mays numbers near =
    subst (λ status. Keeps d (p.guid d) status vs) (sym even)
    (near_keeps c vs (after (Third q d) p) d (p.guid d) p.acked (Even q) (event_survives c p (Third q d) sv mays.0) (record {
      member = member;
      number = refl;
      acked_is = refl;
      status_is = even;
      holds = (stand.is_live, stand.takes, (let e = stand.number_is in omega (arith, e)), λ f n. true_not_false p.group.fresh n stand.taken);
      near = numbers;
    }) mays.1 near)
  where
    stand : MayStand p q d
    stand = mays.0 member

    even : (after (Third q d) p).status d ≡ Even q
    even = third_even p q d

-- So the labels of a member that kept the rule since an acknowledged round are sound, where they are undamaged and were read.
pub plain_labels : (c : Codec) (p : Pool) (d : ℕ) (q : Rec) (vs : List Event) (known : Known) → Survives c p → p.member d ≡ true
    → takes_part q (p.guid d) ≡ true → Mays c p (Acks q ∷ vs) → KeepsNear d (p.guid d) q (Odd q) vs
    → AreUnhurt ((pool_after (Acks q ∷ vs) p).size d) ((pool_after (Acks q ∷ vs) p).sectors d)
    → IsReadWhole ((pool_after (Acks q ∷ vs) p).size d) (known d) → HasSoundLabels (pool_after (Acks q ∷ vs) p) known d
plain_labels c p d q vs known sv member takes mays near unhurt whole =
    let behind : Pool = pool_after (Acks q ∷ vs) p in
    let here : Survives c behind = history_survives c (Acks q ∷ vs) p sv mays in
    let has : HasPromise behind d = labels_stay_since c p d q vs member takes mays (near_labels c p d q vs sv member takes mays near) in
    labels_sound c behind known d has.promised here has.is_member (promise_holds c behind d here has) unhurt whole
