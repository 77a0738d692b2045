-- Turns, one after another.
use Rattle.std.proofs.Common.{◌≡◌, ℕ, zero, suc, ◌+◌, ◌<◌, Bool, true, false, List, [], ◌∷◌, ◌++◌, length, take, drop, get_or, set, refl, sym, ap, ◌∙◌, subst, arith, append_assoc, append-nil, Result, Ok, Err, is_none, is_ok}
use Rattle.std.proofs.lemmas.List.{take_more, take_more_set, get_or-drop, drop-set-lt, drop-drop}
use Rattle.bank_core.specs.declared.bank.Fault.{Fault}
use Rattle.bank_core.specs.Asks.{Ask}
use Rattle.bank_core.specs.BankView.{BankView}
use Rattle.bank_core.specs.Disk.{Noted}
use Rattle.bank_core.specs.Parts.{Part}
use Rattle.bank_core.specs.Story.{fault_in}
use Rattle.bank_core.proofs.Framing.{makes_none, makes_more, part_makes}
use Rattle.label_store.specs.declared.member.Member.{Member}
use Rattle.label_store.specs.declared.round.Phase.{Phase}
use Rattle.label_store.specs.declared.round.Phase.TheVariants as phase
use Rattle.label_store.specs.Phases.{IsTurn, IsPhase}
use Rattle.label_store.specs.Rounds.{Commit}
use Rattle.label_store.specs.Turns.{plan_of, MakesTurn, MakesPhase}

is_phase_more : (plan : Member → List Ask) (ms : List Member) (bs cs : List Bool) (made mine : List Noted) (m : Member) (b c : Bool)
    → IsPhase plan ms bs cs made → IsTurn (plan m) b c mine → IsPhase plan (ms ++ m ∷ []) (bs ++ b ∷ []) (cs ++ c ∷ []) (made ++ mine)
is_phase_more plan [] [] [] made mine m b c p t = (mine, [], ap (λ l. l ++ mine) p ∙ sym (append-nil mine), t, refl)
is_phase_more plan [] [] (c' ∷ cs) made mine m b c p t = absurd p
is_phase_more plan [] (b' ∷ bs) cs made mine m b c p t = absurd p
is_phase_more plan (m' ∷ ms) [] cs made mine m b c p t = absurd p
is_phase_more plan (m' ∷ ms) (b' ∷ bs) [] made mine m b c p t = absurd p
is_phase_more plan (m' ∷ ms) (b' ∷ bs) (c' ∷ cs) made mine m b c p t =
    (p.0, p.1 ++ mine, ap (λ l. l ++ mine) p.2 ∙ append_assoc p.0 p.1 mine, p.3, is_phase_more plan ms bs cs p.1 mine m b c p.4 t)

pub phase_none : {plan : Member → List Ask} {bank : BankView} → MakesPhase plan [] [] [] bank bank
phase_none {plan} {bank} = record { made = []; calls = makes_none; phase = refl }

pub phase_more : {plan : Member → List Ask} {ms : List Member} {bs cs : List Bool} {m : Member} {b c : Bool} {old mid new : BankView}
    → MakesPhase plan ms bs cs old mid → MakesTurn (plan m) b c mid new
    → MakesPhase plan (ms ++ m ∷ []) (bs ++ b ∷ []) (cs ++ c ∷ []) old new
phase_more {plan} {ms} {bs} {cs} {m} {b} {c} {old} {mid} {new} p t = record {
  made = p.made ++ t.made;
  calls = makes_more p.calls t.calls;
  phase = is_phase_more plan ms bs cs p.made t.made m b c p.phase t.turn;
}

-- a member that isn't on the board makes no call
pub turn_off : (asks : List Ask) (was is : Bool) (bank : BankView) → was ≡ false → is ≡ false → MakesTurn asks was is bank bank
turn_off asks was is bank e f = rw (e, f) (record { made = []; calls = makes_none; turn = (refl, refl) })

ok_none : (r : Result (Unit {0}) Fault) → is_ok r ≡ is_none (fault_in r)
ok_none (Ok x) = refl
ok_none (Err fault) = refl

-- one that is makes its part
pub turn_on : (asks : List Ask) (dev : ℕ) (was is : Bool) (r : Result (Unit {0}) Fault) (old new : BankView) → was ≡ true → is ≡ is_ok r
    → Part dev asks old new (fault_in r) → MakesTurn asks was is old new
turn_on asks dev was is r old new e i p =
    rw e (record { made = p.made; calls = part_makes p; turn = (fault_in r, p.part, i ∙ ok_none r) })

-- a plan reads the size of the member's own device alone
pub plan_same : (phase : Phase) (size size' : ℕ → ℕ) (commit : Commit) (m : Member) → size m.dev ≡ size' m.dev → plan_of phase size commit m ≡ plan_of phase size' commit m
plan_same phase.First size size' commit m e = rw e refl
plan_same phase.Second size size' commit m e = rw e refl
plan_same phase.Third size size' commit m e = rw e refl

first_left : {X : Type 0} (i : ℕ) (xs : List X) (d : X) → get_or (drop i xs) 0 d ≡ get_or xs i d
first_left i xs d = get_or-drop i xs 0 d ∙ ap (λ n. get_or xs n d) (omega arith)

same_there : {X : Type 0} (i : ℕ) (xs ys : List X) (d : X) → drop i xs ≡ drop i ys → get_or xs i d ≡ get_or ys i d
same_there i xs ys d e = sym (first_left i xs d) ∙ ap (λ l. get_or l 0 d) e ∙ first_left i ys d

pub left_next : {X : Type 0} (i : ℕ) (xs ys : List X) (y : X) → drop i xs ≡ drop i ys → drop (i + 1) (set xs i y) ≡ drop (i + 1) ys
left_next i xs ys y e = drop-set-lt (i + 1) xs i y (omega arith) ∙ sym (drop-drop 1 i xs) ∙ ap (drop 1) e ∙ drop-drop 1 i ys

pub got_there : {X : Type 0} (xs : List X) (i : ℕ) (d e : X) → i < length xs → get_or xs i d ≡ get_or xs i e
got_there [] i d e lt = absurd (omega arith)
got_there (x ∷ xs) zero d e lt = refl
got_there (x ∷ xs) (suc i) d e lt = got_there xs i d e (omega arith)

-- one more turn of a phase, in the list of results
pub phase_turns : (phase : Phase) (size size' : ℕ → ℕ) (commit : Commit) (ms : List Member) (was is : List Bool) (i : ℕ) (m : Member) (c : Bool)
    → {old mid new : BankView}
    → i < length ms → i < length was → length is ≡ length was → m ≡ get_or ms i m → size' m.dev ≡ size m.dev → drop i is ≡ drop i was
    → MakesPhase (plan_of phase size commit) (take i ms) (take i was) (take i is) old mid
    → MakesTurn (plan_of phase size' commit m) (get_or is i false) c mid new
    → MakesPhase (plan_of phase size commit) (take (i + 1) ms) (take (i + 1) was) (take (i + 1) (set is i c)) old new
phase_turns phase size size' commit ms was is i m c {old} {mid} {new} lt_ms lt_was long at same left p t =
    let lt_is : i < length is = omega arith in
    let b : get_or is i false ≡ get_or was i false = same_there i is was false left in
    rw (take_more ms i m lt_ms, take_more was i false lt_was, take_more_set is i c lt_is)
    (phase_more p (subst (λ asks. MakesTurn asks (get_or was i false) c mid new)
    (plan_same phase size' size commit m same ∙ ap (plan_of phase size commit) at)
    (subst (λ was'. MakesTurn (plan_of phase size' commit m) was' c mid new) b t)))
