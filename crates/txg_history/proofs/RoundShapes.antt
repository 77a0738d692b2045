-- The calls of a round as events, and what a round leaves of a pool.
use Rattle.std.proofs.Common.{◌≡◌, ℕ, Bool, true, false, List, [], ◌∷◌, ◌++◌, refl, sym, ap, ◌∙◌, append-nil}
use Rattle.bank_core.specs.Asks.{Ask}
use Rattle.bank_core.specs.Disk.{Noted}
use Rattle.label_store.specs.declared.member.Member.{Member}
use Rattle.label_store.specs.Phases.{IsPhase}
use Rattle.label_store.specs.Rounds.{IsRound, third_plan}
use Rattle.txg_history.specs.Events.{Event, Begins, Third, calls_of, as_events}
use Rattle.txg_history.specs.Records.{Rec}
use Rattle.txg_history.specs.Rounds.{ends_if, IsThirds, all_true, acks_or, IsRoundEvents}
use Rattle.txg_history.proofs.Leaving.{leavers_no_call}
use Rattle.txg_history.proofs.Folding.{calls_more, calls_are}

ends_no_call : (c : Bool) (q : Rec) (d : ℕ) (vs : List Event) → calls_of (ends_if c q d ++ vs) ≡ calls_of vs
ends_no_call true q d vs = refl
ends_no_call false q d vs = refl

pub acks_no_call : (c : Bool) (q : Rec) (ms : List Member) (results : List Bool) → calls_of (acks_or c q ms results) ≡ []
acks_no_call true q ms results = refl
acks_no_call false q ms results = leavers_no_call ms results

-- calls, and then events
calls_then_of : (made : List Noted) (vs : List Event) → calls_of (as_events made ++ vs) ≡ made ++ calls_of vs
calls_then_of made vs = calls_more (as_events made) vs ∙ ap (λ l. l ++ calls_of vs) (calls_are made)

-- A third phase's calls, with their marks.
thirds_marked : (plan : Member → List Ask) (q : Rec) (ms : List Member) (was is : List Bool) (made : List Noted) → IsPhase plan ms was is made
    → (vs : List Event) × (calls_of vs ≡ made) × IsThirds plan q ms was is vs
thirds_marked plan q [] [] [] made p = ([], sym p, refl)
thirds_marked plan q [] [] (c ∷ is) made p = absurd p
thirds_marked plan q [] (b ∷ was) is made p = absurd p
thirds_marked plan q (m ∷ ms) [] is made p = absurd p
thirds_marked plan q (m ∷ ms) (b ∷ was) [] made p = absurd p
thirds_marked plan q (m ∷ ms) (true ∷ was) (c ∷ is) made p =
    let more = thirds_marked plan q ms was is p.1 p.4 in (
      Third q m.dev ∷ (as_events p.0 ++ (ends_if c q m.dev ++ more.0)),
      calls_then_of p.0 (ends_if c q m.dev ++ more.0) ∙ ap (λ l. p.0 ++ l) (ends_no_call c q m.dev more.0 ∙ more.1) ∙ sym p.2,
      (p.0, more.0, refl, p.3, more.2),
    )
thirds_marked plan q (m ∷ ms) (false ∷ was) (c ∷ is) made p =
    let more = thirds_marked plan q ms was is p.1 p.4 in
    (more.0, more.1 ∙ sym (p.2 ∙ ap (λ l. l ++ p.1) p.3.0), (p.3.1, more.2))

-- The calls of a round have a round's events.
pub round_marked : (size : ℕ → ℕ) (q : Rec) (members : List Member) (results : List Bool) (made : List Noted) → IsRound size q.commit members results made
    → (vs : List Event) × (calls_of vs ≡ made) × IsRoundEvents size q members results vs
round_marked size q members results made r =
    let marked = thirds_marked (third_plan size q.commit) q members r.in_second results r.third r.copies in
    let acks = acks_or (all_true results) q members results in (
      Begins q ∷ (as_events r.first ++ (as_events r.second ++ (marked.0 ++ acks))),
      calls_then_of r.first (as_events r.second ++ (marked.0 ++ acks))
          ∙ ap (λ l. r.first ++ l) (calls_then_of r.second (marked.0 ++ acks)
          ∙ ap (λ l. r.second ++ l) (calls_more marked.0 acks ∙ ap (λ l. calls_of marked.0 ++ l)
          (acks_no_call (all_true results) q members results) ∙ append-nil (calls_of marked.0) ∙ marked.1))
          ∙ sym r.all,
      record {
        first = r.first;
        second = r.second;
        thirds = marked.0;
        in_first = r.in_first;
        in_second = r.in_second;
        all = refl;
        configs = r.configs;
        uberblocks = r.uberblocks;
        copies = marked.2;
      },
    )
