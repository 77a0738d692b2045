-- Calls that put nothing on a pool's members: reads, and all calls of a pool that is on other devices.
use Rattle.std.proofs.Common.{◌≡◌, ◌≢◌, ℕ, ◌+◌, ◌==◌, Bool, true, false, List, [], ◌∷◌, ◌++◌, Option, Some, None, Result, Ok, Err, refl, sym, ap, ◌∙◌, subst, inl, inr}
use Rattle.std.specs.Prelude.{take}
use Rattle.std.proofs.lemmas.Bool.{and_left, ne_eqb}
use Rattle.mp_base.specs.declared.number.Guid.{Guid}
use Rattle.bank_core.specs.declared.bank.Fault.{Fault}
use Rattle.bank_core.specs.Asks.{Ask, Reads, Writes, Flushes, Admits, Ejects, ask_of, IsPart}
use Rattle.bank_core.specs.Disk.{Call, Read, Write, Flush, Admit, Eject, Noted, sectors_in, covers}
use Rattle.bank_core.specs.Standing.{touches}
use Rattle.label_store.specs.declared.member.Member.{Member}
use Rattle.label_store.specs.declared.rule.Head.{Head}
use Rattle.label_store.specs.Identities.{AreMisses, IsSearch, rings_of}
use Rattle.label_store.specs.Layout.{labels_of, even_labels, odd_labels, config_offset, ring_offset, slot_of}
use Rattle.label_store.specs.Newest.{IsRead, AreReads}
use Rattle.label_store.specs.Phases.{IsTurn, IsPhase}
use Rattle.label_store.specs.Plans.{label_writes, config_plan, ring_plan, stamp_plan, blank_uberblock, zero_ring}
use Rattle.label_store.specs.Rounds.{Commit, uberblock_of, IsRound, first_plan, second_plan, third_plan}
use Rattle.label_store.specs.Uberblock.{uberblock_bytes}
use Rattle.label_store.specs.declared.uberblock.Uberblock.{Uberblock}
use Rattle.label_store.proofs.Reading.{IsReadAsk, is_read, are_reads_more}
use Rattle.pool_history.specs.Events.{Calls, as_events}
use Rattle.pool_history.specs.Moves.{IsPlain, Mays}
use Rattle.pool_history.specs.Pools.{Pool, after}
use Rattle.config_codec.specs.Fields.{Fields}
use Rattle.config_codec.specs.declared.config.LeafConfig.{LeafConfig}
use Rattle.pool_core.specs.Opening.{IsLooked, IsIdentified}

-- The call is one on a device that stays, and puts nothing on a member.
pub record IsAway (member : ℕ → Bool) (call : Call) : Type 0 where
  pub plain : IsPlain call
  pub off : (d s : ℕ) → member d ≡ true → touches call d s ≡ false

abbrev pub AreAway : (ℕ → Bool) → List Noted → Type 0
AreAway member [] = Unit {0}
AreAway member (noted ∷ more) = IsAway member noted.call × AreAway member more

pub away_more : (member : ℕ → Bool) (first second : List Noted) → AreAway member first → AreAway member second → AreAway member (first ++ second)
away_more member [] second a b = b
away_more member (noted ∷ first) second a b = (a.0, away_more member first second a.1 b)

pub not_both : (t : Bool) → t ≡ false → t ≡ true → ⊥
not_both t e f = cc

-- So a history of the pool may have them.
pub away_may : (head_of : List ℕ → Option Head) (made : List Noted) (p : Pool) → AreAway p.member made → Mays head_of p (as_events made)
away_may head_of [] p a = tt
away_may head_of (noted ∷ made) p a = (
  record {
    plain = a.0.plain;
    off = λ d s bytes needs. a.0.off d s needs.0;
    known = λ d place is inside touched. absurd (not_both _ (a.0.off d _ is) touched);
  },
  away_may head_of made (after (Calls noted) p) a.1,
)

read_away : (member : ℕ → Bool) (call : Call) → IsRead call → IsAway member call
read_away member (Read dev at bytes fault) r = record { plain = tt; off = λ d s is. refl }
read_away member (Write dev at bytes fault) r = absurd r
read_away member (Flush dev fault) r = absurd r
read_away member (Admit dev holds) r = absurd r
read_away member (Eject dev) r = absurd r

pub reads_away : (member : ℕ → Bool) (made : List Noted) → AreReads made → AreAway member made
reads_away member [] r = tt
reads_away member (noted ∷ made) r = (read_away member noted.call r.0, reads_away member made r.1)

ask_read : (call : Call) (dev at n : ℕ) → ask_of call ≡ Reads dev at n → IsRead call
ask_read call dev at n e = is_read call (subst IsReadAsk (sym e) tt)

misses_read : (pool member : Guid) (dev : ℕ) (rings : List ℕ) (made : List Noted) → AreMisses pool member dev rings made → AreReads made
misses_read pool member dev [] made m = subst AreReads (sym m) tt
misses_read pool member dev (at ∷ rings) [] m = absurd m
misses_read pool member dev (at ∷ rings) (noted ∷ made) m = (ask_read noted.call dev at _ m.0, misses_read pool member dev rings made m.2)

pub search_reads : (pool member : Guid) (dev size : ℕ) (made : List Noted) (result : Result Bool Fault) → IsSearch pool member dev size made result → AreReads made
search_reads pool member dev size made (Ok true) s =
    subst AreReads (sym s.all) (are_reads_more s.misses (s.hit ∷ []) (misses_read pool member dev (take s.before (rings_of size)) s.misses s.are_misses) (ask_read s.hit.call dev _ _ s.ask, tt))
search_reads pool member dev size made (Ok false) s = misses_read pool member dev (rings_of size) made s.0
search_reads pool member dev size made (Err fault) s = misses_read pool member dev (rings_of size) made s.0

looked_reads : (c : Fields) (leaf : LeafConfig) (seat : Option ℕ) (size : ℕ → ℕ) (made : List Noted) (found : Option ℕ) → IsLooked c leaf seat size made found → AreReads made
looked_reads c leaf None size made found l = subst AreReads (sym l.0) tt
looked_reads c leaf (Some dev) size made (Some at) l = search_reads c.pool leaf.member dev (size dev) made (Ok true) l.1
looked_reads c leaf (Some dev) size made None l = search_reads c.pool leaf.member dev (size dev) made l.0 l.2

-- and so does the search for the leaves' identities
pub identified_reads : (size : ℕ → ℕ) (c : Fields) (seats found : Option ℕ × Option ℕ) (made : List Noted) → IsIdentified size c seats found made → AreReads made
identified_reads size c seats found made i =
    subst AreReads (sym i.2) (are_reads_more i.0 i.1 (looked_reads c c.first seats.0 size i.0 found.0 i.3) (looked_reads c c.second seats.1 size i.1 found.1 i.4))

-- such a call is asked
abbrev pub IsAskAway : (ℕ → Bool) → Ask → Type 0
IsAskAway member (Reads dev at n) = Unit {0}
IsAskAway member (Writes dev at bytes) = member dev ≡ false
IsAskAway member (Flushes dev) = Unit {0}
IsAskAway member (Admits dev) = ⊥
IsAskAway member (Ejects dev) = ⊥

abbrev pub AreAsksAway : (ℕ → Bool) → List Ask → Type 0
AreAsksAway member [] = Unit {0}
AreAsksAway member (ask ∷ asks) = IsAskAway member ask × AreAsksAway member asks

pub asks_away_more : (member : ℕ → Bool) (first second : List Ask) → AreAsksAway member first → AreAsksAway member second → AreAsksAway member (first ++ second)
asks_away_more member [] second a b = b
asks_away_more member (ask ∷ first) second a b = (a.0, asks_away_more member first second a.1 b)

apart : (member : ℕ → Bool) (dev d : ℕ) → member dev ≡ false → member d ≡ true → dev ≢ d
apart member dev d a b e = not_both (member d) (ap member (sym e) ∙ a) b

call_away : (member : ℕ → Bool) (call : Call) → IsAskAway member (ask_of call) → IsAway member call
call_away member (Read dev at bytes fault) a = record { plain = tt; off = λ d s is. refl }
call_away member (Write dev at bytes fault) a = record {
  plain = tt;
  off = λ d s is. and_left (dev == d) (covers at (sectors_in bytes) s) (ne_eqb dev d (apart member dev d a is));
}
call_away member (Flush dev fault) a = record { plain = tt; off = λ d s is. refl }
call_away member (Admit dev holds) a = absurd a
call_away member (Eject dev) a = absurd a

pub part_away : (member : ℕ → Bool) (asks : List Ask) (made : List Noted) (outcome : Option Fault) → AreAsksAway member asks → IsPart asks made outcome → AreAway member made
part_away member [] [] outcome a part = tt
part_away member [] (noted ∷ made) outcome a part = absurd part
part_away member (ask ∷ asks) [] outcome a part = tt
part_away member (ask ∷ asks) (noted ∷ made) outcome a (is, inl (ok, more)) =
    (call_away member noted.call (subst (IsAskAway member) (sym is) a.0), part_away member asks made outcome a.1 more)
part_away member (ask ∷ asks) (noted ∷ made) outcome a (is, inr (fault, failed, none, end)) =
    (call_away member noted.call (subst (IsAskAway member) (sym is) a.0), subst (AreAway member) (sym none) tt)

turn_away : (member : ℕ → Bool) (asks : List Ask) (was is : Bool) (made : List Noted) → AreAsksAway member asks → IsTurn asks was is made → AreAway member made
turn_away member asks true is made a t = part_away member asks made t.0 a t.1
turn_away member asks false is made a t = subst (AreAway member) (sym t.0) tt

-- none of these members' devices is one of the pool's
abbrev pub AreElsewhere : (ℕ → Bool) → List Member → Type 0
AreElsewhere member [] = Unit {0}
AreElsewhere member (m ∷ ms) = (member m.dev ≡ false) × AreElsewhere member ms

phase_away : (member : ℕ → Bool) (plan : Member → List Ask) (ms : List Member) (was is : List Bool) (made : List Noted)
    → ((m : Member) → member m.dev ≡ false → AreAsksAway member (plan m)) → AreElsewhere member ms → IsPhase plan ms was is made → AreAway member made
phase_away member plan [] [] [] made a e ph = subst (AreAway member) (sym ph) tt
phase_away member plan [] [] (c ∷ is) made a e ph = absurd ph
phase_away member plan [] (b ∷ was) is made a e ph = absurd ph
phase_away member plan (m ∷ ms) [] is made a e ph = absurd ph
phase_away member plan (m ∷ ms) (b ∷ was) [] made a e ph = absurd ph
phase_away member plan (m ∷ ms) (b ∷ was) (c ∷ is) made a e ph =
    subst (AreAway member) (sym ph.2) (away_more member ph.0 ph.1 (turn_away member (plan m) b c ph.0 (a m e.0) ph.3) (phase_away member plan ms was is ph.1 a e.1 ph.4))

writes_away : (member : ℕ → Bool) (dev : ℕ) (labels : List ℕ) (offset : ℕ) (bytes : List ℕ) → member dev ≡ false → AreAsksAway member (label_writes dev labels offset bytes)
writes_away member dev [] offset bytes is = tt
writes_away member dev (at ∷ labels) offset bytes is = (is, writes_away member dev labels offset bytes is)

config_away : (member : ℕ → Bool) (dev : ℕ) (labels : List ℕ) (config : List ℕ) → member dev ≡ false → AreAsksAway member (config_plan dev labels config)
config_away member dev labels config is =
    asks_away_more member (label_writes dev labels config_offset config) (Flushes dev ∷ []) (writes_away member dev labels config_offset config is) (tt, tt)

ring_away : (member : ℕ → Bool) (dev size : ℕ) (u : Uberblock) → member dev ≡ false → AreAsksAway member (ring_plan dev size u)
ring_away member dev size u is =
    asks_away_more member (label_writes dev (labels_of size) (ring_offset + slot_of u.number.0) (uberblock_bytes u)) (Flushes dev ∷ [])
    (writes_away member dev (labels_of size) (ring_offset + slot_of u.number.0) (uberblock_bytes u) is) (tt, tt)

pub stamp_away : (member : ℕ → Bool) (dev size : ℕ) (pool guid : Guid) → member dev ≡ false → AreAsksAway member (stamp_plan dev size pool guid)
stamp_away member dev size pool guid is =
    asks_away_more member (label_writes dev (labels_of size) ring_offset zero_ring) (ring_plan dev size (blank_uberblock pool guid))
    (writes_away member dev (labels_of size) ring_offset zero_ring is) (ring_away member dev size (blank_uberblock pool guid) is)

-- A round over other devices.
pub round_away : (member : ℕ → Bool) (size : ℕ → ℕ) (commit : Commit) (ms : List Member) (results : List Bool) (made : List Noted)
    → AreElsewhere member ms → IsRound size commit ms results made → AreAway member made
round_away member size commit ms results made e r =
    subst (AreAway member) (sym r.all)
    (away_more member r.first (r.second ++ r.third)
    (phase_away member (first_plan size commit) ms _ r.in_first r.first (λ m is. config_away member m.dev (even_labels (size m.dev)) commit.blob is) e r.configs)
    (away_more member r.second r.third
    (phase_away member (second_plan size commit) ms r.in_first r.in_second r.second (λ m is. ring_away member m.dev (size m.dev) (uberblock_of commit m) is) e r.uberblocks)
    (phase_away member (third_plan size commit) ms r.in_second results r.third (λ m is. config_away member m.dev (odd_labels (size m.dev)) commit.blob is) e r.copies)))
