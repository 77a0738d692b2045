-- A member that left a phase had a failed call.
use Rattle.std.proofs.Common.{◌≡◌, ◌⊎◌, ℕ, zero, suc, ◌≤◌, Bool, true, false, List, [], ◌∷◌, ◌++◌, map, Option, Some, None, is_none, refl, sym, ap, ◌∙◌, subst, arith, inl, inr, ⊎_elim}
use Rattle.std.specs.Prelude.{slice_get}
use Rattle.std.proofs.lemmas.Option.{none-some, same_Some}
use Rattle.std.proofs.lemmas.Bool.{false≢true, true≢false}
use Rattle.mp_base.specs.Outside.{Rose}
use Rattle.bank_core.specs.declared.bank.Fault.{Fault}
use Rattle.bank_core.specs.Asks.{Ask, Reads, Writes, Flushes, Admits, Ejects, ask_of, IsPart}
use Rattle.bank_core.specs.Calls.{AllCaused, device_of}
use Rattle.bank_core.proofs.Composing.{caused_counts, caused_split}
use Rattle.bank_core.specs.Disk.{Noted, Call, Read, Write, Flush, Admit, Eject}
use Rattle.label_store.specs.declared.member.Member.{Member}
use Rattle.label_store.specs.Committing.{AreExcused}
use Rattle.label_store.specs.Phases.{IsTurn, IsPhase}
use Rattle.label_store.specs.Rounds.{Commit, IsRound, first_plan, second_plan, third_plan}

dev_asked : Ask → ℕ
dev_asked (Reads dev at sectors) = dev
dev_asked (Writes dev at bytes) = dev
dev_asked (Flushes dev) = dev
dev_asked (Admits dev) = dev
dev_asked (Ejects dev) = dev

abbrev AllOn : ℕ → List Ask → Type 0
AllOn d [] = Unit {0}
AllOn d (ask ∷ asks) = (dev_asked ask ≡ d) × AllOn d asks

device_asked : (call : Call) → device_of call ≡ dev_asked (ask_of call)
unfolding dev_asked
device_asked (Read dev at bytes fault) = refl
device_asked (Write dev at bytes fault) = refl
device_asked (Flush dev fault) = refl
device_asked (Admit dev holds) = refl
device_asked (Eject dev) = refl

earlier : (x y z : ℕ) → x ≤ y → Rose y z → Rose x z
earlier x y z le r = omega arith

later : (x y z : ℕ) → Rose x y → y ≤ z → Rose x z
later x y z r le = omega arith

part_cause : (asks : List Ask) (made : List Noted) (fault : Fault) (d : ℕ) (f g : ℕ → ℕ) → IsPart asks made (Some fault) → AllOn d asks → AllCaused made f g → Rose (f d) (g d)
part_cause [] [] fault d f g p on c = absurd (none-some fault (sym p))
part_cause [] (noted ∷ made) fault d f g p on c = absurd p
part_cause (ask ∷ asks) [] fault d f g p on c = absurd p
part_cause (ask ∷ asks) (noted ∷ made) fault d f g (is, inl (ok, more)) on c =
    earlier (f d) (c.0 d) (g d) (c.1.counts d) (part_cause asks made fault d c.0 g more on.1 c.2)
part_cause (ask ∷ asks) (noted ∷ made) fault d f g (is, inr (fault', failed, none, end)) on c =
    let here : device_of noted.call ≡ d = device_asked noted.call ∙ ap dev_asked is ∙ on.0 in
    later (f d) (c.0 d) (g d) (subst (λ n. Rose (f n) (c.0 n)) here (c.1.cause fault' failed)) (caused_counts made c.0 g c.2 d)

turn_cause : (asks : List Ask) (was is : Bool) (made : List Noted) (d : ℕ) (f g : ℕ → ℕ) → is ≡ false → AllOn d asks → AllCaused made f g → IsTurn asks was is made
    → (was ≡ false) ⊎ Rose (f d) (g d)
turn_cause asks true is made d f g e on c t = by_outcome t.0 t.1 (sym e ∙ t.2)
  where
    by_outcome : (outcome : Option Fault) → IsPart asks made outcome → false ≡ is_none outcome → (true ≡ false) ⊎ Rose (f d) (g d)
    by_outcome None p none = absurd (false≢true none)
    by_outcome (Some fault) p none = inr (part_cause asks made fault d f g p on c)
turn_cause asks false is made d f g e on c t = inl refl

-- who left a phase was off the board before, or its count rose
phase_cause : (plan : Member → List Ask) (ms : List Member) (was is : List Bool) (made : List Noted) (i : ℕ) (m : Member) (f g : ℕ → ℕ)
    → ((n : Member) → AllOn n.dev (plan n)) → slice_get ms i ≡ Some m → slice_get is i ≡ Some false → AllCaused made f g → IsPhase plan ms was is made
    → (slice_get was i ≡ Some false) ⊎ Rose (f m.dev) (g m.dev)
phase_cause plan [] was is made i m f g on e off c p = absurd (none-some m e)
phase_cause plan (n ∷ ms) [] is made i m f g on e off c p = absurd p
phase_cause plan (n ∷ ms) (w ∷ was) [] made i m f g on e off c p = absurd p
phase_cause plan (n ∷ ms) (w ∷ was) (x ∷ is) made zero m f g on e off c p =
    let s = caused_split p.0 p.1 f g (subst (λ calls. AllCaused calls f g) p.2 c) in
    ⊎_elim {A = w ≡ false} {B = Rose (f n.dev) (s.0 n.dev)}
    (λ no. inl (ap Some no))
    (λ rose. inr (subst (λ q. Rose (f q.dev) (g q.dev)) (same_Some n m e) (later (f n.dev) (s.0 n.dev) (g n.dev) rose (caused_counts p.1 s.0 g s.2 n.dev))))
    (turn_cause (plan n) w x p.0 n.dev f s.0 (same_Some x false off) (on n) s.1 p.3)
phase_cause plan (n ∷ ms) (w ∷ was) (x ∷ is) made (suc i) m f g on e off c p =
    let s = caused_split p.0 p.1 f g (subst (λ calls. AllCaused calls f g) p.2 c) in
    ⊎_elim {A = slice_get was i ≡ Some false} {B = Rose (s.0 m.dev) (g m.dev)}
    inl (λ rose. inr (earlier (f m.dev) (s.0 m.dev) (g m.dev) (caused_counts p.0 f s.0 s.1 m.dev) rose))
    (phase_cause plan ms was is p.1 i m s.0 g on e off s.2 p.4)

on_first : (size : ℕ → ℕ) (commit : Commit) (m : Member) → AllOn m.dev (first_plan size commit m)
unfolding dev_asked
on_first size commit m = (refl, (refl, (refl, tt)))

on_second : (size : ℕ → ℕ) (commit : Commit) (m : Member) → AllOn m.dev (second_plan size commit m)
unfolding dev_asked
on_second size commit m = (refl, (refl, (refl, (refl, (refl, tt)))))

on_third : (size : ℕ → ℕ) (commit : Commit) (m : Member) → AllOn m.dev (third_plan size commit m)
unfolding dev_asked
on_third size commit m = (refl, (refl, (refl, tt)))

all_true : (ms : List Member) (i : ℕ) → slice_get (map (λ m. true) ms) i ≡ Some false → ⊥
all_true [] i e = none-some false e
all_true (m ∷ ms) zero e = absurd (true≢false (same_Some true false e))
all_true (m ∷ ms) (suc i) e = all_true ms i e

-- Each member that left a round had a failed call.
pub round_excused : (size : ℕ → ℕ) (commit : Commit) (ms : List Member) (results : List Bool) (made : List Noted) (f g : ℕ → ℕ)
    → IsRound size commit ms results made → AllCaused made f g → AreExcused ms results f g
round_excused size commit ms results made f g r c i m e off =
    let s = caused_split r.first (r.second ++ r.third) f g (subst (λ calls. AllCaused calls f g) r.all c) in
    let t = caused_split r.second r.third s.0 g s.2 in
    let up = caused_counts r.first f s.0 s.1 m.dev in
    let mid = caused_counts r.second s.0 t.0 t.1 m.dev in
    let top = caused_counts r.third t.0 g t.2 m.dev in
    ⊎_elim {A = slice_get r.in_second i ≡ Some false} {B = Rose (t.0 m.dev) (g m.dev)}
    (λ off2. ⊎_elim {A = slice_get r.in_first i ≡ Some false} {B = Rose (s.0 m.dev) (t.0 m.dev)}
    (λ off1. ⊎_elim {A = slice_get (map (λ q. true) ms) i ≡ Some false} {B = Rose (f m.dev) (s.0 m.dev)}
    (λ no. absurd (all_true ms i no))
    (λ rose. omega (arith, rose, mid, top))
    (phase_cause (first_plan size commit) ms (map (λ q. true) ms) r.in_first r.first i m f s.0 (on_first size commit) e off1 s.1 r.configs))
    (λ rose. omega (arith, rose, up, top))
    (phase_cause (second_plan size commit) ms r.in_first r.in_second r.second i m s.0 t.0 (on_second size commit) e off2 t.1 r.uberblocks))
    (λ rose. omega (arith, rose, up, mid))
    (phase_cause (third_plan size commit) ms r.in_second results r.third i m t.0 g (on_third size commit) e off t.2 r.copies)
