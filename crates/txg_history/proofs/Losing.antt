-- Where a pool loses a device.
use Rattle.std.proofs.Common.{
  ◌≡◌,
  ◌≢◌,
  ◌⊎◌,
  ℕ,
  ◌+◌,
  ◌-◌,
  ◌<◌,
  ◌==◌,
  ◌&&◌,
  nat_le,
  nat_lt,
  Bool,
  true,
  false,
  cond,
  List,
  [],
  ◌∷◌,
  ◌++◌,
  Option,
  refl,
  sym,
  ap,
  ◌∙◌,
  subst,
  inl,
  inr,
  arith,
}
use Rattle.std.proofs.lemmas.Bool.{and_left, ne_eqb}
use Rattle.std.proofs.lemmas.Bool.Decides.{nat_tests}
use Rattle.mp_base.specs.declared.number.Guid.{Guid}
use Rattle.bank_core.specs.declared.bank.Fault.{Fault}
use Rattle.bank_core.specs.Asks.{Ask, Writes, IsPart, ask_of}
use Rattle.bank_core.specs.Disk.{Call, Read, Write, Flush, Admit, Eject, Noted, covers, sectors_in}
use Rattle.bank_core.specs.Standing.{Spares, touches}
use Rattle.label_store.specs.Layout.{ring_offset, slot_of}
use Rattle.label_store.specs.Plans.{zero_ring, blank_uberblock, no_guid, stamp_plan}
use Rattle.label_store.specs.Rounds.{uberblock_of}
use Rattle.label_store.specs.Uberblock.{uberblock_bytes}
use Rattle.label_store.proofs.Writing.{ring_sectors}
use Rattle.txg_history.specs.Events.{Event, Calls, Joins, Loses, as_events}
use Rattle.txg_history.specs.Groups.{at_device}
use Rattle.txg_history.specs.Labels.{Status, Odd, Even}
use Rattle.txg_history.specs.Losses.{IsStampCall, BeginsStamp, LoseJust, IsStampPlan, IsStamp, IsWipe, IsMark}
use Rattle.txg_history.specs.Losses.{IsLostBy, IsLostAmong, IsStampedAmong, IsReplacedAmong}
use Rattle.txg_history.specs.Moves.{Mays}
use Rattle.txg_history.specs.Needs.{NeedsLabel}
use Rattle.txg_history.specs.Pages.{Codec}
use Rattle.txg_history.specs.Pools.{Pool, after, pool_after, other_than, seat}
use Rattle.txg_history.specs.Records.{Rec, number_of}
use Rattle.txg_history.specs.Sparing.{ArePlain, AreElsewhere}
use Rattle.txg_history.specs.Survival.{Survives}
use Rattle.txg_history.specs.Tracking.{HasPromise}
use Rattle.txg_history.proofs.Logging.{by_bool, true_not_false, at_here, at_away}
use Rattle.txg_history.proofs.Sparing.{part_may, elsewhere_sparing}

-- a test that takes a member
other_lost : (m : Guid) (guid : ℕ → Guid) (member : ℕ → Bool) (d : ℕ) → member d ≡ true → other_than m guid member d ≡ false → (guid d).0 ≡ m.0
other_lost m guid member d is lost = of ((guid d).0 == m.0) refl lost
  where
    of : (t : Bool) → ((guid d).0 == m.0) ≡ t → cond t false (member d) ≡ false → (guid d).0 ≡ m.0
    of true e lost = let same : (guid d).0 ≡ m.0 = grind (arith, nat_tests) in same
    of false e lost = true_not_false (member d) is lost

other_stays : (m : Guid) (guid : ℕ → Guid) (member : ℕ → Bool) (d : ℕ) → other_than m guid member d ≡ true → (member d ≡ true) × ((guid d).0 ≢ m.0)
other_stays m guid member d is = of ((guid d).0 == m.0) refl is
  where
    of : (t : Bool) → ((guid d).0 == m.0) ≡ t → cond t false (member d) ≡ true → (member d ≡ true) × ((guid d).0 ≢ m.0)
    of true e is = absurd (cc)
    of false e is = (is, let ne : (guid d).0 ≢ m.0 = (λ same. let t : ((guid d).0 == m.0) ≡ true = grind (arith, nat_tests) in true_not_false _ t e) in ne)

lost_now : (v : Event) (p : Pool) (d : ℕ) → p.member d ≡ true → (after v p).member d ≡ false → IsLostBy p v d
lost_now (Loses e) p d is lost = by_bool (e == d) (λ here. let same : e ≡ d = grind (arith, nat_tests) in same)
    (λ away. true_not_false (p.member d) is (sym (at_away e d false p.member away) ∙ lost))
lost_now (Joins e m top) p d is lost = by_bool (e == d)
    (λ here. true_not_false _ (at_here e d true (other_than m p.guid p.member) here) lost)
    (λ away. (
      let ne : e ≢ d = (λ same. let t : (e == d) ≡ true = grind (arith, nat_tests) in true_not_false _ t away) in ne,
      other_lost m p.guid p.member d is (sym (at_away e d true (other_than m p.guid p.member) away) ∙ lost),
    ))
lost_now v p d is lost = true_not_false (p.member d) is lost

-- A member's device that is none any more was lost by one of the events.
pub lost_among : (vs : List Event) (p : Pool) (d : ℕ) → p.member d ≡ true → (pool_after vs p).member d ≡ false → IsLostAmong p vs d
lost_among [] p d is lost = true_not_false (p.member d) is lost
lost_among (v ∷ vs) p d is lost = by_bool ((after v p).member d)
    (λ still. let w = lost_among vs (after v p) d still lost in
    record { before = v ∷ w.before; v = w.v; later = w.later; all = ap (λ l. v ∷ l) w.all; by = w.by })
    (λ gone. record { before = []; v = v; later = vs; all = refl; by = lost_now v p d is gone })

-- In a history that says it just where a stamp begins, one began there, or another device came under its number.
just_behind : (before : List Event) (v : Event) (later : List Event) → LoseJust (before ++ (v ∷ later)) → LoseJust (v ∷ later)
just_behind [] v later just = just
just_behind (Loses d ∷ before) v later just = just_behind before v later just.1
just_behind (w ∷ before) v later just = just_behind before v later just

stamp_behind : (before : List Event) (d : ℕ) (later : List Event) → BeginsStamp d later → IsStampedAmong (before ++ (Loses d ∷ later)) d
stamp_behind before d [] begins = absurd begins
stamp_behind before d (Calls noted ∷ later) begins = record { before = before; noted = noted; later = later; all = refl; is_stamp = begins }
stamp_behind before d (v ∷ later) begins = absurd begins

lost_at : (p : Pool) (before : List Event) (v : Event) (later : List Event) (d : ℕ) → LoseJust (v ∷ later) → IsLostBy (pool_after before p) v d
    → IsStampedAmong (before ++ (v ∷ later)) d ⊎ IsReplacedAmong p (before ++ (v ∷ later)) d
lost_at p before (Loses e) later d just same = inl
    (subst (λ e. IsStampedAmong (before ++ (Loses e ∷ later)) d) (sym same) (stamp_behind before d later (subst (λ e. BeginsStamp e later) same just.0)))
lost_at p before (Joins e m top) later d just by = inr (record {
  before = before;
  e = e;
  top = top;
  m = m;
  later = later;
  all = refl;
  other = by.0;
  same_number = by.1;
})
lost_at p before v later d just by = absurd by

pub lost_just : (vs : List Event) (p : Pool) (d : ℕ) → LoseJust vs → p.member d ≡ true → (pool_after vs p).member d ≡ false
    → IsStampedAmong vs d ⊎ IsReplacedAmong p vs d
lost_just vs p d just is lost = of (lost_among vs p d is lost)
  where
    of : IsLostAmong p vs d → IsStampedAmong vs d ⊎ IsReplacedAmong p vs d
    of w = subst (λ vs. IsStampedAmong vs d ⊎ IsReplacedAmong p vs d) (sym w.all)
        (lost_at p w.before w.v w.later d (just_behind w.before w.v w.later (subst LoseJust w.all just)) w.by)

-- Such an event takes it.
pub lost_by : (v : Event) (p : Pool) (d : ℕ) → IsLostBy p v d → (after v p).member d ≡ false
lost_by (Loses e) p d same = at_here e d false p.member (let t : (e == d) ≡ true = grind (arith, nat_tests) in t)
lost_by (Joins e m top) p d by = at_away e d true (other_than m p.guid p.member) (ne_eqb e d by.0)
    ∙ ap (λ t. cond t false (p.member d)) (let same = by.1 in let t : ((p.guid d).0 == m.0) ≡ true = grind (arith, nat_tests) in t)
lost_by v p d by = absurd by

pub joined_or_other : (p : Pool) (e d : ℕ) (m : Guid) (top : ℕ) → (after (Joins e m top) p).member d ≡ true
    → (e ≡ d) ⊎ ((p.member d ≡ true) × ((p.guid d).0 ≢ m.0))
joined_or_other p e d m top is = by_bool (e == d) (λ here. inl (let same : e ≡ d = grind (arith, nat_tests) in same))
    (λ away. inr (other_stays m p.guid p.member d (sym (at_away e d true (other_than m p.guid p.member) away) ∙ is)))

-- A stamp's calls are on its device alone.
plan_plain : (d size : ℕ) (plan : List Ask) → IsStampPlan d size plan → ArePlain plan
plan_plain d size plan (IsStamp pool member) = tt
plan_plain d size plan IsWipe = tt
plan_plain d size plan IsMark = tt

stamp_elsewhere : (d size : ℕ) (pool member : Guid) (e s : ℕ) → d ≢ e → Spares (stamp_plan d size pool member) e s
stamp_elsewhere d size pool member e s ne =
    (z 32, (z 96, (z (size - 128 + 32), (z (size - 64 + 32), (u 32, (u 96, (u (size - 128 + 32), (u (size - 64 + 32), (refl, tt)))))))))
  where
    w : (at : ℕ) (bytes : List ℕ) → ((d == e) && covers at (sectors_in bytes) s) ≡ false
    w at bytes = and_left (d == e) (covers at (sectors_in bytes) s) (ne_eqb d e ne)

    z : (at : ℕ) → ((d == e) && covers at (sectors_in zero_ring) s) ≡ false
    z at = w at zero_ring

    u : (at : ℕ) → ((d == e) && covers at (sectors_in (uberblock_bytes (blank_uberblock pool member))) s) ≡ false
    u at = w at (uberblock_bytes (blank_uberblock pool member))

plan_elsewhere : (d size : ℕ) (plan : List Ask) → IsStampPlan d size plan → (e s : ℕ) → d ≢ e → Spares plan e s
plan_elsewhere d size plan (IsStamp pool member) e s ne = stamp_elsewhere d size pool member e s ne
plan_elsewhere d size plan IsMark e s ne = stamp_elsewhere d size no_guid no_guid e s ne
plan_elsewhere d size plan IsWipe e s ne = (w 32, (w 96, (w (size - 128 + 32), (w (size - 64 + 32), (refl, tt)))))
  where
    w : (at : ℕ) → ((d == e) && covers at (sectors_in zero_ring) s) ≡ false
    w at = and_left (d == e) (covers at (sectors_in zero_ring) s) (ne_eqb d e ne)

-- the first of its calls puts zeros over the ring of label 0
first_stamp : (d : ℕ) (call : Call) → ask_of call ≡ Writes d ring_offset zero_ring → IsStampCall d call
first_stamp d (Read dev at bytes fault) e = absurd (cc)
first_stamp d (Write dev at bytes fault) e = (fault, write_is dev at d ring_offset bytes zero_ring fault e)
  where
    write_is : (dev at d s : ℕ) (bytes ring : List ℕ) (fault : Option Fault) → Writes dev at bytes ≡ Writes d s ring
        → Write dev at bytes fault ≡ Write d s ring fault
    write_is dev at d s bytes ring fault e = cc
first_stamp d (Flush dev fault) e = absurd (cc)
first_stamp d (Admit dev holds) e = absurd (cc)
first_stamp d (Eject dev) e = absurd (cc)

begins : (d size : ℕ) (plan : List Ask) (made : List Noted) (outcome : Option Fault) → IsStampPlan d size plan → IsPart plan made outcome
    → BeginsStamp d (as_events made)
begins d size plan [] outcome (IsStamp pool member) part = absurd part
begins d size plan [] outcome IsWipe part = absurd part
begins d size plan [] outcome IsMark part = absurd part
begins d size plan (noted ∷ made) outcome (IsStamp pool member) part = first_stamp d noted.call part.0
begins d size plan (noted ∷ made) outcome IsWipe part = first_stamp d noted.call part.0
begins d size plan (noted ∷ made) outcome IsMark part = first_stamp d noted.call part.0

calls_lose_none : (made : List Noted) → LoseJust (as_events made)
calls_lose_none [] = tt
calls_lose_none (noted ∷ made) = calls_lose_none made

-- The device is lost before the first of the calls.
pub stamps_may : (c : Codec) (p : Pool) (d size : ℕ) (plan : List Ask) (made : List Noted) (outcome : Option Fault) → IsStampPlan d size plan
    → IsPart plan made outcome → Mays c p (Loses d ∷ as_events made) × LoseJust (Loses d ∷ as_events made)
stamps_may c p d size plan made outcome is part = (
  (tt, part_may c plan made outcome (after (Loses d) p) (elsewhere_sparing (after (Loses d) p) plan away) part),
  (begins d size plan made outcome is part, calls_lose_none made),
)
  where
    away : AreElsewhere (after (Loses d) p) plan
    away = (plan_plain d size plan is, λ e s member. plan_elsewhere d size plan is e s (not_lost e member))
      where
        not_lost : (e : ℕ) → at_device d false p.member e ≡ true → d ≢ e
        not_lost e member = λ same. true_not_false (at_device d false p.member e) member
            (at_here d e false p.member (let t : (d == e) ≡ true = grind (arith, nat_tests) in t))

-- No stamp begins on a member whose labels promise a record.
pub stamp_refused : (c : Codec) (p : Pool) (d : ℕ) (noted : Noted) → Survives c p → HasPromise p d → IsStampCall d noted.call
    → Mays c p (Calls noted ∷ []) → ⊥
stamp_refused c p d noted sv has stamp mays = of has.status_is
  where
    hits : (r : Rec) → touches noted.call d (32 + slot_of (number_of r)) ≡ true
    hits r = ap (λ call. touches call d (32 + slot_of (number_of r))) stamp.1 ∙ aimed (slot_of (number_of r))
        (let lt : slot_of (number_of r) < 32 = omega arith in lt)
      where
        aimed : (slot : ℕ) → slot < 32 → ((d == d) && covers ring_offset (sectors_in zero_ring) (32 + slot)) ≡ true
        aimed slot lt = rw (same, covers_slot slot lt (sectors_in zero_ring) (ring_sectors zero_ring refl)) refl
          where
            same : (d == d) ≡ true
            same = grind (arith, nat_tests)

            covers_slot : (slot : ℕ) → slot < 32 → (n : ℕ) → n ≡ 32 → covers 32 n (32 + slot) ≡ true
            covers_slot slot lt n e =
                let low : nat_le 32 (32 + slot) ≡ true = grind (arith, nat_tests) in
                let high : nat_lt (32 + slot) (32 + n) ≡ true = grind (arith, nat_tests) in rw (low, high) refl

    refused : (r : Rec) (status : Status) → p.status d ≡ status
        → NeedsLabel (seat p d) status (32 + slot_of (number_of r)) (uberblock_bytes (uberblock_of r.commit (seat p d))) → ⊥
    refused r status e needs = true_not_false (touches noted.call d (32 + slot_of (number_of r))) (hits r)
        (mays.0.firm d (32 + slot_of (number_of r)) (uberblock_bytes (uberblock_of r.commit (seat p d))) has.is_member
        (inl (subst (λ st. NeedsLabel (seat p d) st (32 + slot_of (number_of r)) (uberblock_bytes (uberblock_of r.commit (seat p d)))) (sym e) needs)))

    of : (p.status d ≡ Odd has.promised) ⊎ (p.status d ≡ Even has.promised) → ⊥
    of (inl e) = refused has.promised (Odd has.promised) e (inl (refl, refl))
    of (inr e) = refused has.promised (Even has.promised) e (inl (refl, refl))
