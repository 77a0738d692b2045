-- A part whose asks spare what is needed makes calls that the pool may make.
use Rattle.std.proofs.Common.{◌≡◌, ℕ, zero, suc, Bool, true, false, List, [], ◌∷◌, Option, Some, refl, sym, ap, ◌∙◌, subst, inl, inr}
use Rattle.std.specs.Prelude.{slice_get}
use Rattle.bank_core.specs.declared.bank.Fault.{Fault}
use Rattle.bank_core.specs.Asks.{Ask, Reads, Writes, Flushes, Admits, Ejects, ask_of, IsPart}
use Rattle.bank_core.specs.Disk.{Call, Read, Write, Flush, Admit, Eject, Noted}
use Rattle.bank_core.specs.Standing.{touches, aims, Spares}
use Rattle.label_store.specs.declared.member.Member.{Member}
use Rattle.label_store.specs.declared.rule.Head.{Head}
use Rattle.label_store.specs.Phases.{IsTurn, IsPhase}
use Rattle.label_store.specs.Records.{place_at}
use Rattle.pool_history.specs.Events.{Calls, as_events}
use Rattle.pool_history.specs.Moves.{IsPlain, puts, IsSparing, ArePlain, lays, AreKnown, AreSparing, Mays}
use Rattle.pool_history.specs.Pools.{Pool, after}
use Rattle.pool_history.specs.Survival.{IsKnownUber}
use Rattle.pool_history.proofs.Folding.{events_more, with_calls, mays_calls}

-- asks that aim at none of a sector
pub spared_known : (p : Pool) (asks : List Ask) (d s : ℕ) → Spares asks d s → AreKnown p d s asks
spared_known p [] d s sp = tt
spared_known p (ask ∷ asks) d s sp = (λ is. absurd (both (aims ask d s) sp.0 is), spared_known p asks d s sp.1)
  where
    both : (t : Bool) → t ≡ false → t ≡ true → ⊥
    both t e f = cc

plain_first : (call : Call) (asks : List Ask) → ArePlain (ask_of call ∷ asks) → IsPlain call
plain_first (Read dev at bytes fault) asks a = tt
plain_first (Write dev at bytes fault) asks a = tt
plain_first (Flush dev fault) asks a = tt
plain_first (Admit dev holds) asks a = a
plain_first (Eject dev) asks a = a

plain_rest : (ask : Ask) (asks : List Ask) → ArePlain (ask ∷ asks) → ArePlain asks
plain_rest (Reads dev at sectors) asks a = a
plain_rest (Writes dev at bytes) asks a = a
plain_rest (Flushes dev) asks a = a
plain_rest (Admits dev) asks a = absurd a
plain_rest (Ejects dev) asks a = absurd a

touches_aims : (call : Call) (d s : ℕ) → touches call d s ≡ aims (ask_of call) d s
touches_aims (Read dev at bytes fault) d s = refl
touches_aims (Write dev at bytes fault) d s = refl
touches_aims (Flush dev fault) d s = refl
touches_aims (Admit dev holds) d s = refl
touches_aims (Eject dev) d s = refl

puts_lays : (call : Call) (s : ℕ) → puts call s ≡ lays (ask_of call) s
puts_lays (Read dev at bytes fault) s = refl
puts_lays (Write dev at bytes fault) s = refl
puts_lays (Flush dev fault) s = refl
puts_lays (Admit dev holds) s = refl
puts_lays (Eject dev) s = refl

-- the first of these calls
call_sparing : (p : Pool) (call : Call) (ask : Ask) (asks : List Ask) → ask_of call ≡ ask → AreSparing p (ask ∷ asks) → IsSparing p call
call_sparing p call ask asks is sp = record {
  plain = plain_first call asks (subst (λ a. ArePlain (a ∷ asks)) (sym is) sp.plain);
  off = λ d s bytes needs. touches_aims call d s ∙ ap (λ a. aims a d s) is ∙ (sp.off d s bytes needs).0;
  known = λ d place member inside touched.
      subst (IsKnownUber p d) (sym (puts_lays call (place_at (p.size d) place) ∙ ap (λ a. lays a (place_at (p.size d) place)) is))
      ((sp.known d place member inside).0 (sym (touches_aims call d (place_at (p.size d) place) ∙ ap (λ a. aims a d (place_at (p.size d) place)) is) ∙ touched));
}

-- the asks behind it, behind its call
rest_sparing : (p : Pool) (noted : Noted) (ask : Ask) (asks : List Ask) → AreSparing p (ask ∷ asks) → AreSparing (after (Calls noted) p) asks
rest_sparing p noted ask asks sp = record {
  plain = plain_rest ask asks sp.plain;
  off = λ d s bytes needs. (sp.off d s bytes needs).1;
  known = λ d place member inside. (sp.known d place member inside).1;
}

pub part_may : (head_of : List ℕ → Option Head) (asks : List Ask) (made : List Noted) (outcome : Option Fault) (p : Pool)
    → AreSparing p asks → IsPart asks made outcome → Mays head_of p (as_events made)
part_may head_of [] [] outcome p sp part = tt
part_may head_of [] (noted ∷ made) outcome p sp part = absurd part
part_may head_of (ask ∷ asks) [] outcome p sp part = tt
part_may head_of (ask ∷ asks) (noted ∷ made) outcome p sp (is, inl (ok, more)) =
    (call_sparing p noted.call ask asks is sp, part_may head_of asks made outcome (after (Calls noted) p) (rest_sparing p noted ask asks sp) more)
part_may head_of (ask ∷ asks) (noted ∷ made) outcome p sp (is, inr (fault, failed, none, end)) =
    (call_sparing p noted.call ask asks is sp, subst (λ l. Mays head_of (after (Calls noted) p) (as_events l)) (sym none) tt)

pub turn_may : (head_of : List ℕ → Option Head) (asks : List Ask) (was is : Bool) (made : List Noted) (p : Pool)
    → AreSparing p asks → IsTurn asks was is made → Mays head_of p (as_events made)
turn_may head_of asks true is made p sp t = part_may head_of asks made t.0 p sp t.1
turn_may head_of asks false is made p sp t = subst (λ l. Mays head_of p (as_events l)) (sym t.0) tt

-- asks that spare do so behind any calls
pub still_sparing : (made : List Noted) (p : Pool) (asks : List Ask) → AreSparing p asks → AreSparing (with_calls made p) asks
still_sparing made p asks sp = record { plain = sp.plain; off = sp.off; known = sp.known }

-- A phase whose parts all spare.
pub phase_may : (head_of : List ℕ → Option Head) (plan : Member → List Ask) (ms : List Member) (was is : List Bool) (made : List Noted) (p : Pool)
    → ((j : ℕ) (m : Member) → slice_get ms j ≡ Some m → AreSparing p (plan m)) → IsPhase plan ms was is made → Mays head_of p (as_events made)
phase_may head_of plan [] [] [] made p sp ph = subst (λ l. Mays head_of p (as_events l)) (sym ph) tt
phase_may head_of plan [] [] (c ∷ is) made p sp ph = absurd ph
phase_may head_of plan [] (b ∷ was) is made p sp ph = absurd ph
phase_may head_of plan (m ∷ ms) [] is made p sp ph = absurd ph
phase_may head_of plan (m ∷ ms) (b ∷ was) [] made p sp ph = absurd ph
phase_may head_of plan (m ∷ ms) (b ∷ was) (c ∷ is) made p sp ph =
    subst (Mays head_of p) (sym (ap as_events ph.2 ∙ events_more ph.0 ph.1))
    (mays_calls head_of ph.0 (as_events ph.1) p (turn_may head_of (plan m) b c ph.0 p (sp zero m refl) ph.3)
    (phase_may head_of plan ms was is ph.1 (with_calls ph.0 p) (λ j n e. still_sparing ph.0 p (plan n) (sp (suc j) n e)) ph.4))
