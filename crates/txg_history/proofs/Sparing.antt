-- A part whose asks spare what is needed makes calls that the pool may make.
use Rattle.std.proofs.Common.{◌≡◌, ℕ, ◌+◌, zero, suc, Bool, true, false, List, [], ◌∷◌, ◌++◌, Option, Some, refl, sym, ap, ◌∙◌, subst, inl, inr}
use Rattle.std.specs.Prelude.{slice_get}
use Rattle.bank_core.specs.declared.bank.Fault.{Fault}
use Rattle.bank_core.specs.Asks.{Ask, Reads, Writes, Flushes, Admits, Ejects, ask_of, IsPart}
use Rattle.bank_core.specs.Disk.{Call, Read, Write, Flush, Admit, Eject, Noted}
use Rattle.bank_core.specs.Standing.{touches, aims, Spares}
use Rattle.bank_core.proofs.Standing.{spares_more}
use Rattle.label_store.specs.declared.member.Member.{Member}
use Rattle.label_store.specs.Phases.{IsTurn, IsPhase}
use Rattle.label_store.specs.Records.{place_at}
use Rattle.txg_history.specs.Events.{Calls, as_events}
use Rattle.txg_history.specs.Moves.{IsPlain, puts, IsSparing, Mays}
use Rattle.txg_history.specs.Pages.{Codec}
use Rattle.txg_history.specs.Pools.{Pool, after, drawn, seat}
use Rattle.txg_history.specs.Records.{data_start}
use Rattle.txg_history.specs.Sparing.{ArePlain, lays, LayJust, AreSparing, AreElsewhere, WriteNothing}
use Rattle.txg_history.specs.Survival.{IsKnownUber}
use Rattle.txg_history.proofs.Folding.{events_more, with_calls, mays_calls}

-- asks that aim at none of a sector
pub spared_lay : (P : List ℕ → Type 0) (asks : List Ask) (d s : ℕ) → Spares asks d s → LayJust P d s asks
spared_lay P [] d s sp = tt
spared_lay P (ask ∷ asks) d s sp = (λ is. absurd (both (aims ask d s) sp.0 is), spared_lay P asks d s sp.1)
  where
    both : (t : Bool) → t ≡ false → t ≡ true → ⊥
    both t e f = cc

plain_first : (call : Call) (asks : List Ask) → ArePlain (ask_of call ∷ asks) → IsPlain call
plain_first (Read dev at bytes fault) asks a = tt
plain_first (Write dev at bytes fault) asks a = tt
plain_first (Flush dev fault) asks a = tt
plain_first (Admit dev holds) asks a = a
plain_first (Eject dev) asks a = a

plain_rest : (ask : Ask) (asks : List Ask) → ArePlain (ask ∷ asks) → ArePlain asks
plain_rest (Reads dev at sectors) asks a = a
plain_rest (Writes dev at bytes) asks a = a
plain_rest (Flushes dev) asks a = a
plain_rest (Admits dev) asks a = absurd a
plain_rest (Ejects dev) asks a = absurd a

pub touches_aims : (call : Call) (d s : ℕ) → touches call d s ≡ aims (ask_of call) d s
touches_aims (Read dev at bytes fault) d s = refl
touches_aims (Write dev at bytes fault) d s = refl
touches_aims (Flush dev fault) d s = refl
touches_aims (Admit dev holds) d s = refl
touches_aims (Eject dev) d s = refl

puts_lays : (call : Call) (s : ℕ) → puts call s ≡ lays (ask_of call) s
puts_lays (Read dev at bytes fault) s = refl
puts_lays (Write dev at bytes fault) s = refl
puts_lays (Flush dev fault) s = refl
puts_lays (Admit dev holds) s = refl
puts_lays (Eject dev) s = refl

-- the first of these calls
call_sparing : (p : Pool) (call : Call) (ask : Ask) (asks : List Ask) → ask_of call ≡ ask → AreSparing p (ask ∷ asks) → IsSparing p call
call_sparing p call ask asks is sp = record {
  plain = plain_first call asks (subst (λ a. ArePlain (a ∷ asks)) (sym is) sp.plain);
  firm = λ d s bytes member needs. spared d s (sp.firm d s bytes member needs).0;
  soft = λ d s bytes member needs. inl (spared d s (sp.soft d s bytes member needs).0);
  true_to = λ r d k cell i member at top touched. laid (λ bytes. bytes ≡ cell.block) d (data_start + cell.sector)
      (sp.true_to r d k cell i member at top).0 touched;
  known = λ d place member inside touched. laid (IsKnownUber (drawn p) p.pool (seat p d)) d (place_at (p.size d) place)
      (sp.known d place member inside).0 touched;
}
  where
    spared : (d s : ℕ) → aims ask d s ≡ false → touches call d s ≡ false
    spared d s off = touches_aims call d s ∙ ap (λ a. aims a d s) is ∙ off

    laid : (P : List ℕ → Type 0) (d s : ℕ) → (aims ask d s ≡ true → P (lays ask s)) → touches call d s ≡ true → P (puts call s)
    laid P d s lay touched = subst P (sym (puts_lays call s ∙ ap (λ a. lays a s) is)) (lay (sym (touches_aims call d s ∙ ap (λ a. aims a d s) is) ∙ touched))

-- the asks behind it, behind its call
rest_sparing : (p : Pool) (noted : Noted) (ask : Ask) (asks : List Ask) → AreSparing p (ask ∷ asks) → AreSparing (after (Calls noted) p) asks
rest_sparing p noted ask asks sp = record {
  plain = plain_rest ask asks sp.plain;
  firm = λ d s bytes member needs. (sp.firm d s bytes member needs).1;
  soft = λ d s bytes member needs. (sp.soft d s bytes member needs).1;
  true_to = λ r d k cell i member at top. (sp.true_to r d k cell i member at top).1;
  known = λ d place member inside. (sp.known d place member inside).1;
}

pub part_may : (c : Codec) (asks : List Ask) (made : List Noted) (outcome : Option Fault) (p : Pool)
    → AreSparing p asks → IsPart asks made outcome → Mays c p (as_events made)
part_may c [] [] outcome p sp part = tt
part_may c [] (noted ∷ made) outcome p sp part = absurd part
part_may c (ask ∷ asks) [] outcome p sp part = tt
part_may c (ask ∷ asks) (noted ∷ made) outcome p sp (is, inl (ok, more)) =
    (call_sparing p noted.call ask asks is sp, part_may c asks made outcome (after (Calls noted) p) (rest_sparing p noted ask asks sp) more)
part_may c (ask ∷ asks) (noted ∷ made) outcome p sp (is, inr (fault, failed, none, end)) =
    (call_sparing p noted.call ask asks is sp, subst (λ l. Mays c (after (Calls noted) p) (as_events l)) (sym none) tt)

pub turn_may : (c : Codec) (asks : List Ask) (was is : Bool) (made : List Noted) (p : Pool)
    → AreSparing p asks → IsTurn asks was is made → Mays c p (as_events made)
turn_may c asks true is made p sp t = part_may c asks made t.0 p sp t.1
turn_may c asks false is made p sp t = subst (λ l. Mays c p (as_events l)) (sym t.0) tt

-- asks that spare do so behind any calls
pub still_sparing : (made : List Noted) (p : Pool) (asks : List Ask) → AreSparing p asks → AreSparing (with_calls made p) asks
still_sparing made p asks sp = record { plain = sp.plain; firm = sp.firm; soft = sp.soft; true_to = sp.true_to; known = sp.known }

-- A phase whose parts all spare.
pub phase_may : (c : Codec) (plan : Member → List Ask) (ms : List Member) (was is : List Bool) (made : List Noted) (p : Pool)
    → ((j : ℕ) (m : Member) → slice_get ms j ≡ Some m → AreSparing p (plan m)) → IsPhase plan ms was is made → Mays c p (as_events made)
phase_may c plan [] [] [] made p sp ph = subst (λ l. Mays c p (as_events l)) (sym ph) tt
phase_may c plan [] [] (r ∷ is) made p sp ph = absurd ph
phase_may c plan [] (b ∷ was) is made p sp ph = absurd ph
phase_may c plan (m ∷ ms) [] is made p sp ph = absurd ph
phase_may c plan (m ∷ ms) (b ∷ was) [] made p sp ph = absurd ph
phase_may c plan (m ∷ ms) (b ∷ was) (r ∷ is) made p sp ph =
    subst (Mays c p) (sym (ap as_events ph.2 ∙ events_more ph.0 ph.1))
    (mays_calls c ph.0 (as_events ph.1) p (turn_may c (plan m) b r ph.0 p (sp zero m refl) ph.3)
    (phase_may c plan ms was is ph.1 (with_calls ph.0 p) (λ j n e. still_sparing ph.0 p (plan n) (sp (suc j) n e)) ph.4))

-- Asks that aim at no member spare all that is needed.
pub elsewhere_sparing : (p : Pool) (asks : List Ask) → AreElsewhere p asks → AreSparing p asks
elsewhere_sparing p asks e = record {
  plain = e.0;
  firm = λ d s bytes member needs. e.1 d s member;
  soft = λ d s bytes member needs. e.1 d s member;
  true_to = λ r d k cell i member at top. spared_lay (λ bytes. bytes ≡ cell.block) asks d (data_start + cell.sector) (e.1 d (data_start + cell.sector) member);
  known = λ d place member inside. spared_lay (IsKnownUber (drawn p) p.pool (seat p d)) asks d
      (place_at (p.size d) place) (e.1 d (place_at (p.size d) place) member);
}

plain_more : (first second : List Ask) → ArePlain first → ArePlain second → ArePlain (first ++ second)
plain_more [] second a b = b
plain_more (Reads dev at sectors ∷ first) second a b = plain_more first second a b
plain_more (Writes dev at bytes ∷ first) second a b = plain_more first second a b
plain_more (Flushes dev ∷ first) second a b = plain_more first second a b
plain_more (Admits dev ∷ first) second a b = absurd a
plain_more (Ejects dev ∷ first) second a b = absurd a

lay_more : (P : List ℕ → Type 0) (d s : ℕ) (first second : List Ask) → LayJust P d s first → LayJust P d s second → LayJust P d s (first ++ second)
lay_more P d s [] second a b = b
lay_more P d s (ask ∷ first) second a b = (a.0, lay_more P d s first second a.1 b)

-- One plan and then another.
pub sparing_more : (p : Pool) (first second : List Ask) → AreSparing p first → AreSparing p second → AreSparing p (first ++ second)
sparing_more p first second a b = record {
  plain = plain_more first second a.plain b.plain;
  firm = λ d s bytes member needs. spares_more first second d s (a.firm d s bytes member needs) (b.firm d s bytes member needs);
  soft = λ d s bytes member needs. spares_more first second d s (a.soft d s bytes member needs) (b.soft d s bytes member needs);
  true_to = λ r d k cell i member at top. lay_more (λ bytes. bytes ≡ cell.block) d
      (data_start + cell.sector) first second (a.true_to r d k cell i member at top)
      (b.true_to r d k cell i member at top);
  known = λ d place member inside. lay_more (IsKnownUber (drawn p) p.pool (seat p d)) d
      (place_at (p.size d) place) first second (a.known d place member inside) (b.known d place member inside);
}

writes_nothing : (asks : List Ask) → WriteNothing asks → ArePlain asks × ((d s : ℕ) → Spares asks d s)
writes_nothing [] w = (tt, λ d s. tt)
writes_nothing (Reads dev at sectors ∷ asks) w = let more = writes_nothing asks w in (more.0, λ d s. (refl, more.1 d s))
writes_nothing (Writes dev at bytes ∷ asks) w = absurd w
writes_nothing (Flushes dev ∷ asks) w = let more = writes_nothing asks w in (more.0, λ d s. (refl, more.1 d s))
writes_nothing (Admits dev ∷ asks) w = absurd w
writes_nothing (Ejects dev ∷ asks) w = absurd w

-- So do reads and flushes.
pub reading_sparing : (p : Pool) (asks : List Ask) → WriteNothing asks → AreSparing p asks
reading_sparing p asks w = let both = writes_nothing asks w in elsewhere_sparing p asks (both.0, λ d s member. both.1 d s)
