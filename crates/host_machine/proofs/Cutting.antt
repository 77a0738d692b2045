-- A stop within a line: the pool stands in a closed host that knows the records of the line.
use Rattle.std.proofs.Common.{◌≡◌, ℕ, zero, suc, ◌≤◌, true, Some, List, [], ◌∷◌, ◌++◌, take, sym, ap, ◌∙◌, subst, inl, inr}
use Rattle.bank_core.specs.Disk.{Noted}
use Rattle.config_codec.specs.declared.config.LeafConfig.{LeafConfig}
use Rattle.config_codec.specs.Fields.{Fields}
use Rattle.pool_history.specs.Events.{Event, Calls, Accepts, Looks, Opens, Begins, Third, Ends, Acks, Loses, Stops, IsOneRun}
use Rattle.pool_history.specs.Moves.{May, Mays}
use Rattle.pool_history.specs.Pools.{Pool, after, pool_after, drawn}
use Rattle.pool_history.specs.Premises.{AreGood}
use Rattle.pool_history.specs.Records.{Rec, IsIn, number_of, rest_of}
use Rattle.pool_history.specs.Survival.{Survives}
use Rattle.pool_history.proofs.Folding.{name_kept, guid_kept, size_kept, member_ever}
use Rattle.pool_core.specs.Heads.{head_of}
use Rattle.host_machine.specs.Devices.{number_in}
use Rattle.host_machine.specs.Fitness.{IsFit}
use Rattle.host_machine.specs.Machine.{HostState, started}
use Rattle.host_machine.specs.Records.{IsDrawn}
use Rattle.host_machine.proofs.Running.{front_one}
use Rattle.host_machine.specs.Tracking.{Cost, Place, IsPlaceOf, IsKept, Tracks, Follows, HasNoTwins}

acked_drawn : (live rest given : List Rec) (q r : Rec) → live ≡ q ∷ rest → IsIn r (live ++ given) → IsIn r (q ∷ (rest_of live ++ given))
acked_drawn live rest given q r e is = subst (λ l. IsIn r (q ∷ (rest_of l ++ given))) (sym e) (subst (λ l. IsIn r (l ++ given)) e is)

-- a record that was drawn stays so
drawn_after : (v : Event) (p : Pool) (r : Rec) → May head_of p v → IsIn r (drawn p) → IsIn r (drawn (after v p))
drawn_after (Calls noted) p r may is = is
drawn_after (Accepts a block) p r may is = is
drawn_after (Looks known) p r may is = is
drawn_after (Opens q) p r may is = is
drawn_after (Begins q) p r may is = inr is
drawn_after (Third q d) p r may is = is
drawn_after (Ends q d) p r may is = is
drawn_after (Acks q) p r may is = acked_drawn p.live may.rest p.given q r may.newest is
drawn_after (Loses d) p r may is = is
drawn_after (Stops sectors size) p r may is = is

drawn_through : (vs : List Event) (p : Pool) (r : Rec) → Mays head_of p vs → IsIn r (drawn p) → IsIn r (drawn (pool_after vs p))
drawn_through [] p r mays is = is
drawn_through (v ∷ vs) p r mays is = drawn_through vs (after v p) r mays.1 (drawn_after v p r mays.0 is)

-- so what was drawn at a moment is drawn at the end
drawn_cut : (vs : List Event) (j : ℕ) (p : Pool) (r : Rec) → Mays head_of p vs → IsIn r (drawn (pool_after (take j vs) p)) → IsIn r (drawn (pool_after vs p))
drawn_cut [] zero p r mays is = is
drawn_cut [] (suc j) p r mays is = is
drawn_cut (v ∷ vs) zero p r mays is = drawn_through (v ∷ vs) p r mays is
drawn_cut (v ∷ vs) (suc j) p r mays is = drawn_cut vs j (after v p) r mays.1 is

-- where the pool keeps its devices
whole_cut : (p : Pool) (vs : List Event) (next : HostState) (j : ℕ) → IsOneRun vs → Mays head_of p vs → ((d : ℕ) → p.member d ≡ true → (pool_after vs p).member d ≡ true)
    → Tracks (pool_after vs p) next → Tracks (pool_after (take j vs) p) (started next.table next.size next.records)
whole_cut p vs next j one mays whole t = record {
  sizes = λ d has. ap (λ f. f d) (size_kept (take j vs) p (front_one vs j one) ∙ sym (size_kept vs p one)) ∙ t.sizes d has;
  first = t.first;
  second = t.second;
  apart = t.apart;
  numbers = t.numbers;
  members = λ d is. t.members d (whole d (member_ever (take j vs) p d is));
  first_guid = ap (λ f. f t.first.dev) (guid_kept (take j vs) p ∙ sym (guid_kept vs p)) ∙ t.first_guid;
  second_guid = ap (λ f. f t.second.dev) (guid_kept (take j vs) p ∙ sym (guid_kept vs p)) ∙ t.second_guid;
  first_number = t.first_number;
  second_number = t.second_number;
  known = λ r is some. t.known r (drawn_cut vs j p r mays is) some;
  own = λ r c is draws.
      let o = t.own r c (drawn_cut vs j p r mays is) draws in (o.0 ∙ name_kept vs p ∙ sym (name_kept (take j vs) p), o.1, o.2);
  stands = tt;
}

-- a leaf at its later place, which a record has at its early place too, is at the early one
early_place : (leaf known : LeafConfig) (early late : Place) → IsPlaceOf late leaf → IsPlaceOf late known → IsPlaceOf early known → IsPlaceOf early leaf
early_place leaf known early late is now was = (is.0 ∙ sym now.0 ∙ was.0, is.1 ∙ sym now.1 ∙ was.1)

-- where a record of it was drawn before, which tells its leaves
known_cut : (p : Pool) (h : HostState) (vs : List Event) (next : HostState) (j : ℕ) (q : Rec) (b : Fields) → IsOneRun vs → Mays head_of p vs → next.table ≡ h.table → next.size ≡ h.size
    → Tracks p h → Tracks (pool_after vs p) next → IsIn q (drawn p) → IsDrawn q b → Tracks (pool_after (take j vs) p) (started next.table next.size next.records)
known_cut p h vs next j q b one mays table size s t is_q draws_q = record {
  sizes = λ d has. ap (λ f. f d) (size_kept (take j vs) p (front_one vs j one)) ∙ s.sizes d (subst (λ (f : ℕ → ℕ). 1 ≤ f d) size has) ∙ ap (λ f. f d) (sym size);
  first = s.first;
  second = s.second;
  apart = s.apart;
  numbers = s.numbers;
  members = λ d is. s.members d (member_ever (take j vs) p d is);
  first_guid = ap (λ f. f s.first.dev) (guid_kept (take j vs) p) ∙ s.first_guid;
  second_guid = ap (λ f. f s.second.dev) (guid_kept (take j vs) p) ∙ s.second_guid;
  first_number = subst (λ at. (d : ℕ) → number_in s.first.name at ≡ Some d → d ≡ s.first.dev) (sym table) s.first_number;
  second_number = subst (λ at. (d : ℕ) → number_in s.second.name at ≡ Some d → d ≡ s.second.dev) (sym table) s.second_number;
  known = λ r is some. t.known r (drawn_cut vs j p r mays is) some;
  own = λ r c is draws.
      let o = t.own r c (drawn_cut vs j p r mays is) draws in
      let early = s.own q b is_q draws_q in
      let late = t.own q b (drawn_through vs p q mays is_q) draws_q in (
        o.0 ∙ name_kept vs p ∙ sym (name_kept (take j vs) p),
        early_place c.first b.first s.first t.first o.1 late.1 early.1,
        early_place c.second b.second s.second t.second o.2 late.2 early.2,
      );
  stands = tt;
}

-- The two laws of a stop within a line.
pub line_cut : (T : Cost → Type 0) (p : Pool) (h : HostState) (made : List Noted) (next : HostState) (f : Follows p h T made next) → IsFit h → Tracks p h → HasNoTwins next.records
    → Survives head_of p → AreGood head_of p f.vs → (q : Rec) → IsIn q (drawn p) → 1 ≤ number_of q → (j : ℕ)
    → Tracks (pool_after (take j f.vs) p) (started next.table next.size next.records)
line_cut T p h made next f fit tracks twins sv good q is some j =
    let moved = f.safe tracks twins sv good in
    let known = fit.drawn q (tracks.known q is some) in
    known_cut p h f.vs next j q known.0 f.one_run moved.0 f.devices.0 f.devices.1 tracks moved.1 is known.1

still : {p : Pool} {h : HostState} {made : List Noted} {next : HostState} (f : Follows p h (λ cost. ⊥) made next) (d : ℕ) → IsKept (pool_after f.vs p) (λ cost. ⊥) d → (pool_after f.vs p).member d ≡ true
still f d (inl is) = is
still f d (inr (inl none)) = absurd none
still f d (inr (inr none)) = absurd none

pub born_cut : (p : Pool) (h : HostState) (made : List Noted) (next : HostState) (f : Follows p h (λ cost. ⊥) made next) → Tracks p h → HasNoTwins next.records
    → Survives head_of p → AreGood head_of p f.vs → (j : ℕ) → Tracks (pool_after (take j f.vs) p) (started next.table next.size next.records)
born_cut p h made next f tracks twins sv good j =
    let moved = f.safe tracks twins sv good in
    whole_cut p f.vs next j f.one_run moved.0 (λ d is. still f d (f.keeps d is)) moved.1
