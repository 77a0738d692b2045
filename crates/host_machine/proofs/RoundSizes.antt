-- The events of a round, where the devices of its members have the same sizes.
use Rattle.std.proofs.Common.{◌≡◌, ℕ, zero, suc, Bool, true, false, List, [], ◌∷◌, Some, refl, ap, subst}
use Rattle.std.specs.Prelude.{slice_get}
use Rattle.bank_core.specs.Asks.{Ask}
use Rattle.bank_core.specs.Disk.{Noted}
use Rattle.label_store.specs.declared.member.Member.{Member}
use Rattle.label_store.specs.Layout.{even_labels, odd_labels}
use Rattle.label_store.specs.Phases.{IsTurn, IsPhase}
use Rattle.label_store.specs.Plans.{config_plan, ring_plan}
use Rattle.label_store.specs.Rounds.{uberblock_of, first_plan, second_plan, third_plan}
use Rattle.pool_history.specs.Events.{Event}
use Rattle.pool_history.specs.Records.{Rec}
use Rattle.pool_history.specs.Rounds.{IsThirds, IsRoundEvents}

-- the two plans are one for each of these members
abbrev ArePlanned : (plan other : Member → List Ask) → List Member → Type 0
ArePlanned plan other ms = (i : ℕ) (m : Member) → slice_get ms i ≡ Some m → plan m ≡ other m

phase_planned : (plan other : Member → List Ask) (ms : List Member) (was is : List Bool) (made : List Noted) → ArePlanned plan other ms → IsPhase plan ms was is made → IsPhase other ms was is made
phase_planned plan other [] [] [] made same ph = ph
phase_planned plan other [] [] (c ∷ is) made same ph = absurd ph
phase_planned plan other [] (b ∷ was) is made same ph = absurd ph
phase_planned plan other (m ∷ ms) [] is made same ph = absurd ph
phase_planned plan other (m ∷ ms) (b ∷ was) [] made same ph = absurd ph
phase_planned plan other (m ∷ ms) (b ∷ was) (c ∷ is) made same (mine, rest, all, turn, more) =
    (mine, rest, all, subst (λ asks. IsTurn asks b c mine) (same zero m refl) turn, phase_planned plan other ms was is rest (λ i n e. same (suc i) n e) more)

thirds_planned : (plan other : Member → List Ask) (q : Rec) (ms : List Member) (was is : List Bool) (vs : List Event) → ArePlanned plan other ms → IsThirds plan q ms was is vs
    → IsThirds other q ms was is vs
thirds_planned plan other q [] [] [] vs same th = th
thirds_planned plan other q (m ∷ ms) (true ∷ was) (c ∷ is) vs same (mine, rest, all, turn, more) =
    (mine, rest, all, subst (λ asks. IsTurn asks true c mine) (same zero m refl) turn, thirds_planned plan other q ms was is rest (λ i n e. same (suc i) n e) more)
thirds_planned plan other q (m ∷ ms) (false ∷ was) (c ∷ is) vs same (none, more) = (none, thirds_planned plan other q ms was is vs (λ i n e. same (suc i) n e) more)
thirds_planned plan other q [] [] (c ∷ is) vs same th = absurd th
thirds_planned plan other q [] (b ∷ was) is vs same th = absurd th
thirds_planned plan other q (m ∷ ms) [] is vs same th = absurd th
thirds_planned plan other q (m ∷ ms) (b ∷ was) [] vs same th = absurd th

pub round_sized : (size room : ℕ → ℕ) (q : Rec) (members : List Member) (results : List Bool) (vs : List Event)
    → ((i : ℕ) (m : Member) → slice_get members i ≡ Some m → size m.dev ≡ room m.dev) → IsRoundEvents size q members results vs → IsRoundEvents room q members results vs
round_sized size room q members results vs same r = record {
  first = r.first;
  second = r.second;
  thirds = r.thirds;
  in_first = r.in_first;
  in_second = r.in_second;
  all = r.all;
  configs = phase_planned (first_plan size q.commit) (first_plan room q.commit) members _ r.in_first r.first
      (λ i m e. ap (λ n. config_plan m.dev (even_labels n) q.commit.blob) (same i m e)) r.configs;
  uberblocks = phase_planned (second_plan size q.commit) (second_plan room q.commit) members r.in_first r.in_second r.second
      (λ i m e. ap (λ n. ring_plan m.dev n (uberblock_of q.commit m)) (same i m e)) r.uberblocks;
  copies = thirds_planned (third_plan size q.commit) (third_plan room q.commit) q members r.in_second results r.thirds
      (λ i m e. ap (λ n. config_plan m.dev (odd_labels n) q.commit.blob) (same i m e)) r.copies;
}
