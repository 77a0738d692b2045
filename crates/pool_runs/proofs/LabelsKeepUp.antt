-- The labels of a member that keeps up promise a record, over any number of runs.
use Rattle.std.proofs.Common.{◌≡◌, ◌≢◌, inl, inr, ℕ, ◌==◌, true, false, cond, refl, sym, ap, ◌∙◌, subst, arith}
use Rattle.std.proofs.lemmas.Bool.Decides.{nat_tests}
use Rattle.mp_base.specs.declared.number.Guid.{Guid}
use Rattle.label_store.specs.Records.{AreUnhurt}
use Rattle.txg_history.specs.Events.{Known, Freezes, Draws, Burns, Begins, Third, Ends, Acks, Opens, Joins, Loses, Stops}
use Rattle.txg_history.specs.Labels.{Status, Odd, Even, Lost}
use Rattle.txg_history.specs.Numbering.{renumbered}
use Rattle.txg_history.specs.Openings.{IsReadWhole}
use Rattle.txg_history.specs.Pages.{Codec}
use Rattle.txg_history.specs.Pools.{Pool, after, other_than}
use Rattle.txg_history.specs.Premises.{HasSoundLabels}
use Rattle.txg_history.specs.Records.{Rec}
use Rattle.txg_history.specs.Tracking.{HasPromise}
use Rattle.txg_history.proofs.Logging.{by_bool, true_not_false, at_here, at_away}
use Rattle.txg_history.proofs.Nearing.{IsNear, map_holds, same_near, drawn_holds, thawed_holds, begins_near}
use Rattle.txg_history.proofs.Nearing.{stands_near, third_holds, ends_holds, acked_near, opens_near, joins_near}
use Rattle.txg_history.proofs.Nearing.{loses_near}
use Rattle.txg_history.proofs.Tracked.{promise_holds}
use Rattle.txg_history.proofs.Verified.{labels_sound}
use Rattle.pool_runs.specs.Pasts.{Past, Born, Then, Numbered, pool_of, IsAllowed}
use Rattle.pool_runs.specs.PlainPremises.{labels_in, KeepsUp}
use Rattle.pool_runs.proofs.Acting.{same_number}
use Rattle.pool_runs.proofs.Pasting.{past_survives}

-- A device that is a member behind this was one before, and is not the device that is lost, nor has it the number of one that comes in.
differ : (a b : ℕ) → (a == b) ≡ false → a ≢ b
differ a b off = λ same. true_not_false (a == b) (same_number a b same) off

stays_lost : (p : Pool) (d e : ℕ) → (after (Loses e) p).member d ≡ true → (e ≢ d) × (p.member d ≡ true)
stays_lost p d e is = by_bool (e == d)
    (λ here. absurd (let no : false ≡ true = sym (at_here e d false p.member here) ∙ is in cc))
    (λ away. (differ e d away, sym (at_away e d false p.member away) ∙ is))

stays_joined : (p : Pool) (d e : ℕ) (m : Guid) (top : ℕ) → e ≢ d → (after (Joins e m top) p).member d ≡ true
    → ((p.guid d).0 ≢ m.0) × (p.member d ≡ true) × ((after (Joins e m top) p).guid d ≡ p.guid d)
stays_joined p d e m top ne is = by_bool ((p.guid d).0 == m.0)
    (λ same. absurd (let no : false ≡ true = sym (ap (λ t. cond t false (p.member d)) same) ∙ still in cc))
    (λ other. (
      differ (p.guid d).0 m.0 other,
      sym (ap (λ t. cond t false (p.member d)) other) ∙ still,
      at_away e d m p.guid away,
    ))
  where
    away : (e == d) ≡ false
    away = let off : (e == d) ≡ false = grind (arith, nat_tests) in off

    still : other_than m p.guid p.member d ≡ true
    still = sym (at_away e d true (other_than m p.guid p.member) away) ∙ is

-- it holds a record by the rule, under its own number
abbrev Near : Past → (d : ℕ) → Type 0
Near past d = IsNear (pool_of past) d ((pool_of past).guid d) (pool_of past).acked (labels_in past d)

-- the same device under another number
renumbered_near : (p : Pool) (was : ℕ → ℕ) (d : ℕ) (m : Guid) (acked : Rec) (status : Status) → IsNear p (was d) m acked status
    → IsNear (renumbered was p) d m acked status
renumbered_near p was d m acked status t = record {
  member = t.member;
  number = t.number;
  acked_is = t.acked_is;
  status_is = t.status_is;
  holds = map_holds p (renumbered was p) m status (λ r h. h) t.holds;
  near = t.near;
}

keeps_near : (c : Codec) (past : Past) (d : ℕ) → IsAllowed c past → (pool_of past).member d ≡ true → KeepsUp past d → Near past d
keeps_near c (Born birth sectors) d ok is up = absurd up
keeps_near c (Then past (Freezes cells board)) d ok is up =
    same_near (pool_of past) (pool_of (Then past (Freezes cells board))) d ((pool_of past).guid d) (pool_of past).acked (labels_in past d)
    refl refl refl refl refl (λ r. drawn_holds (pool_of past) (pool_of (Then past (Freezes cells board))) ((pool_of past).guid d) r refl refl)
    (keeps_near c past d ok.0 is up)
keeps_near c (Then past Draws) d ok is up =
    same_near (pool_of past) (pool_of (Then past Draws)) d ((pool_of past).guid d) (pool_of past).acked (labels_in past d)
    refl refl refl refl refl (λ r. drawn_holds (pool_of past) (pool_of (Then past Draws)) ((pool_of past).guid d) r refl refl)
    (keeps_near c past d ok.0 is up)
keeps_near c (Then past Burns) d ok is up =
    same_near (pool_of past) (pool_of (Then past Burns)) d ((pool_of past).guid d) (pool_of past).acked (labels_in past d)
    refl refl refl refl refl (λ r. thawed_holds (pool_of past) (pool_of (Then past Burns)) ((pool_of past).guid d) r refl refl refl)
    (keeps_near c past d ok.0 is up)
keeps_near c (Then past (Stops sectors size)) d ok is up =
    same_near (pool_of past) (pool_of (Then past (Stops sectors size))) d ((pool_of past).guid d) (pool_of past).acked (labels_in past d)
    refl refl refl refl refl
    (λ r. thawed_holds (pool_of past) (pool_of (Then past (Stops sectors size))) ((pool_of past).guid d) r refl refl refl)
    (keeps_near c past d ok.0 is up)
keeps_near c (Then past (Begins q)) d ok is up =
    begins_near c (pool_of past) d ((pool_of past).guid d) (pool_of past).acked (labels_in past d) q (past_survives c past ok.0) ok.1
    (keeps_near c past d ok.0 is up.0) up.1
keeps_near c (Then past (Third q e)) d ok is up = let near = keeps_near c past d ok.0 is up in
    stands_near (pool_of past) d e ((pool_of past).guid d) (pool_of past).acked (labels_in past d) (Even q) near
    (third_holds (pool_of past) d e ((pool_of past).guid d) (pool_of past).acked (labels_in past d) q near ok.1)
keeps_near c (Then past (Ends q e)) d ok is up = let near = keeps_near c past d ok.0 is up in
    stands_near (pool_of past) d e ((pool_of past).guid d) (pool_of past).acked (labels_in past d) (Odd q) near
    (ends_holds (pool_of past) d e ((pool_of past).guid d) (pool_of past).acked (labels_in past d) q near ok.1)
keeps_near c (Then past (Acks q)) d ok is up = acked_near (pool_of past) d q is up ok.1
keeps_near c (Then past (Opens r)) d ok is up =
    opens_near (pool_of past) d ((pool_of past).guid d) (pool_of past).acked (labels_in past d) r (keeps_near c past d ok.0 is up.0) up.1
keeps_near c (Then past (Joins e m top)) d ok is up = let stays = stays_joined (pool_of past) d e m top up.1 is in
    subst (λ g. IsNear (pool_of (Then past (Joins e m top))) d g (pool_of past).acked (labels_in past d)) (sym stays.2)
    (joins_near (pool_of past) d e ((pool_of past).guid d) m top (pool_of past).acked (labels_in past d)
    (keeps_near c past d ok.0 stays.1 up.0) up.1 stays.0)
keeps_near c (Then past (Loses e)) d ok is up = let stays = stays_lost (pool_of past) d e is in
    loses_near (pool_of past) d e ((pool_of past).guid d) (pool_of past).acked (labels_in past d) (keeps_near c past d ok.0 stays.1 up) stays.0
keeps_near c (Then past v) d ok is up =
    same_near (pool_of past) (pool_of (Then past v)) d ((pool_of past).guid d) (pool_of past).acked (labels_in past d)
    refl refl refl refl refl (λ r h. h) (keeps_near c past d ok.0 is up)
keeps_near c (Numbered past was called) d ok is up =
    renumbered_near (pool_of past) was d ((pool_of past).guid (was d)) (pool_of past).acked (labels_in past (was d))
    (keeps_near c past (was d) ok.0 is up)

near_promises : (p : Pool) (d : ℕ) (m : Guid) (acked : Rec) (status : Status) → IsNear p d m acked status → HasPromise p d
near_promises p d m acked (Odd r) t = record { is_member = t.member; promised = r; status_is = inl t.status_is }
near_promises p d m acked (Even r) t = record { is_member = t.member; promised = r; status_is = inr t.status_is }
near_promises p d m acked Lost t = absurd t.holds

-- So they are sound, where they are undamaged and were read.
pub labels_keep_up : (c : Codec) (past : Past) (known : Known) (d : ℕ) → IsAllowed c past → (pool_of past).member d ≡ true → KeepsUp past d
    → AreUnhurt ((pool_of past).size d) ((pool_of past).sectors d) → IsReadWhole ((pool_of past).size d) (known d)
    → HasSoundLabels (pool_of past) known d
labels_keep_up c past known d ok is up unhurt whole =
    let p = pool_of past in
    let sv = past_survives c past ok in
    let has = near_promises p d (p.guid d) p.acked (labels_in past d) (keeps_near c past d ok is up) in
    labels_sound c p known d has.promised sv is (promise_holds c p d sv has) unhurt whole
