-- Lines that put nothing on a pool's members, but for devices that they take: such a line follows the pool.
use Rattle.std.proofs.Common.{[], ◌≡◌, ◌⊎◌, ⊎_elim, ℕ, ◌==◌, ◌||◌, Bool, true, false, cond, List, ◌∷◌, Option, Some, None, refl, sym, ap, ◌∙◌, subst, inl, inr}
use Rattle.std.specs.Prelude.{is_some}
use Rattle.std.proofs.lemmas.Bool.{eqb-true}
use Rattle.bank_core.specs.Disk.{Noted}
use Rattle.label_store.specs.Newest.{AreReads}
use Rattle.pool_history.specs.Events.{Event, Loses, as_events, calls_of, IsOneRun}
use Rattle.pool_history.specs.Moves.{Mays}
use Rattle.pool_history.specs.Pools.{Pool, drawn, after, pool_after}
use Rattle.pool_history.specs.Records.{Rec, IsIn}
use Rattle.pool_history.proofs.Folding.{calls_are, calls_never_stop, calls_after, with_calls, taken_false}
use Rattle.pool_history.proofs.LooksFound.{alike}
use Rattle.pool_core.specs.Heads.{head_of}
use Rattle.pool_core.specs.State.{PoolState}
use Rattle.host_machine.specs.declared.device.HostDevice.{HostDevice}
use Rattle.host_machine.specs.Devices.{number_in}
use Rattle.host_machine.specs.Machine.{HostState}
use Rattle.host_machine.specs.Tracking.{Cost, Device, Brought, Place, is_member, LosesLast, AreLooked, OpensNone, StandsIn, Tracks, Follows}
use Rattle.host_machine.proofs.Away.{AreAway, away_may, reads_away, not_both}
use Rattle.host_machine.proofs.RoundMarks.{calls_open_none, calls_marked, marks_looked}
use Rattle.host_machine.proofs.Settling.{same_some}
use Rattle.host_machine.proofs.Standings.{tracks_fewer, stands_calls, tracks_calls}

-- where all members stay, none is lost
pub kept_last : (T : Cost → Type 0) (p behind : Pool) → behind.member ≡ p.member → LosesLast p behind T
kept_last T p behind same d e is other gone = absurd (not_both (p.member d) (sym (ap (λ f. f d) same) ∙ gone) is)

-- A line that makes reads alone and leaves the host as it was.
pub reads_follow : (T : Cost → Type 0) (p : Pool) (h : HostState) (made : List Noted) (next : HostState) → AreReads made → next ≡ h → Follows p h T made next
reads_follow T p h made next reads same = record {
  vs = as_events made;
  calls = calls_are made;
  one_run = calls_never_stop made;
  devices = (ap (λ (n : HostState). n.table) same, ap (λ (n : HostState). n.size) same);
  looked = marks_looked h [] (as_events made) (calls_marked made);
  asked = inl (calls_open_none made);
  keeps = λ d is. inl (ap (λ (q : Pool). q.member d) (calls_after made p) ∙ is);
  safe = λ t twins sv good. (
    away_may head_of made p (reads_away p.member made reads),
    subst (λ n. Tracks (pool_after (as_events made) p) n) (sym same) (subst (λ x. Tracks x h) (sym (calls_after made p)) (tracks_calls made p h t)),
  );
  last = λ t twins sv good. kept_last T p (pool_after (as_events made) p) (ap (λ (q : Pool). q.member) (calls_after made p));
}

-- Devices that a pool loses.

abbrev pub Among : ℕ → List ℕ → Type 0
Among d [] = ⊥
Among d (e ∷ ds) = (d ≡ e) ⊎ Among d ds

-- it loses these before some events
abbrev pub losing : List ℕ → List Event → List Event
losing [] vs = vs
losing (d ∷ ds) vs = Loses d ∷ losing ds vs

-- the pool without these
abbrev pub without : List ℕ → Pool → Pool
without [] p = p
without (d ∷ ds) p = without ds (after (Loses d) p)

losing_calls : (ds : List ℕ) (vs : List Event) → calls_of (losing ds vs) ≡ calls_of vs
losing_calls [] vs = refl
losing_calls (d ∷ ds) vs = losing_calls ds vs

losing_one_run : (ds : List ℕ) (vs : List Event) → IsOneRun vs → IsOneRun (losing ds vs)
losing_one_run [] vs run = run
losing_one_run (d ∷ ds) vs run = losing_one_run ds vs run

losing_looked : (h : HostState) (ds : List ℕ) (vs : List Event) → AreLooked h [] vs → AreLooked h [] (losing ds vs)
losing_looked h [] vs l = l
losing_looked h (d ∷ ds) vs l = losing_looked h ds vs l

losing_none : (ds : List ℕ) (vs : List Event) → OpensNone vs → OpensNone (losing ds vs)
losing_none [] vs none = none
losing_none (d ∷ ds) vs none = losing_none ds vs none

losing_may : (ds : List ℕ) (vs : List Event) (p : Pool) → Mays head_of (without ds p) vs → Mays head_of p (losing ds vs)
losing_may [] vs p mays = mays
losing_may (d ∷ ds) vs p mays = (tt, losing_may ds vs (after (Loses d) p) mays)

losing_pool : (ds : List ℕ) (vs : List Event) (p : Pool) → pool_after (losing ds vs) p ≡ pool_after vs (without ds p)
losing_pool [] vs p = refl
losing_pool (d ∷ ds) vs p = losing_pool ds vs (after (Loses d) p)

-- The pool is as it was, but that it may have fewer members.
pub record IsFewer (p behind : Pool) : Type 0 where
  pub name : behind.name ≡ p.name
  pub guid : behind.guid ≡ p.guid
  pub size : behind.size ≡ p.size
  pub drawn : drawn behind ≡ drawn p
  pub member : (d : ℕ) → behind.member d ≡ true → p.member d ≡ true

pub fewer : (ds : List ℕ) (p : Pool) → IsFewer p (without ds p)
fewer [] p = record { name = refl; guid = refl; size = refl; drawn = refl; member = λ d is. is }
fewer (e ∷ ds) p =
    let more = fewer ds (after (Loses e) p) in
    record { name = more.name; guid = more.guid; size = more.size; drawn = more.drawn; member = λ d is. taken_false e d p.member (more.member d is) }

not_true : (b : Bool) → (b ≡ true → ⊥) → b ≡ false
not_true true never = absurd (never refl)
not_true false never = refl

-- what was no member is none
pub still_gone : (ds : List ℕ) (p : Pool) (d : ℕ) → p.member d ≡ false → (without ds p).member d ≡ false
still_gone ds p d gone = not_true ((without ds p).member d) (λ is. not_both (p.member d) gone ((fewer ds p).member d is))

-- each of these devices is lost
pub among_lost : (ds : List ℕ) (p : Pool) (d : ℕ) → Among d ds → (without ds p).member d ≡ false
among_lost [] p d at = absurd at
among_lost (e ∷ ds) p d (inl same) =
    still_gone ds (after (Loses e) p) d (ap (λ x. cond (e == x) false (p.member x)) same ∙ ap (λ t. cond t false (p.member e)) (alike e))
among_lost (e ∷ ds) p d (inr at) = among_lost ds (after (Loses e) p) d at

-- and each other member stays one
pub stays_or : (ds : List ℕ) (p : Pool) (d : ℕ) → p.member d ≡ true → ((without ds p).member d ≡ true) ⊎ Among d ds
stays_or [] p d is = inl is
stays_or (e ∷ ds) p d is = by (e == d) refl (stays_or ds (after (Loses e) p) d)
  where
    by : (t : Bool) → (e == d) ≡ t → ((after (Loses e) p).member d ≡ true → ((without ds (after (Loses e) p)).member d ≡ true) ⊎ Among d ds)
        → ((without ds (after (Loses e) p)).member d ≡ true) ⊎ ((d ≡ e) ⊎ Among d ds)
    by true t more = inr (inl (sym (eqb-true e d t)))
    by false t more = ⊎_elim {A = (without ds (after (Loses e) p)).member d ≡ true} {B = Among d ds} (λ still. inl still) (λ at. inr (inr at))
        (more (ap (λ u. cond u false (p.member d)) t ∙ is))

-- A line that takes these devices, and puts something on no others.
pub losing_follow : (T : Cost → Type 0) (p : Pool) (h : HostState) (ds : List ℕ) (made : List Noted) (next : HostState)
    → ((d : ℕ) → p.member d ≡ true → Among d ds → T (Device d) ⊎ T (Brought d)) → AreAway (without ds p).member made
    → next.table ≡ h.table → next.size ≡ h.size → ((r : Rec) → IsIn r h.records → IsIn r next.records)
    → ((tr : Tracks p h) → StandsIn (without ds p) tr.first tr.second next.table next.pool) → (Tracks p h → LosesLast p (without ds p) T) → Follows p h T made next
losing_follow T p h ds made next takes away table size kept stands last = record {
  vs = losing ds (as_events made);
  calls = losing_calls ds (as_events made) ∙ calls_are made;
  one_run = losing_one_run ds (as_events made) (calls_never_stop made);
  devices = (table, size);
  looked = losing_looked h ds (as_events made) (marks_looked h [] (as_events made) (calls_marked made));
  asked = inl (losing_none ds (as_events made) (calls_open_none made));
  keeps = λ d is. ⊎_elim {A = (without ds p).member d ≡ true} {B = Among d ds} (λ still. inl (ap (λ f. f d) same_member ∙ still)) (λ at. inr (takes d is at)) (stays_or ds p d is);
  safe = λ tr twins sv good. (
    losing_may ds (as_events made) p (away_may head_of made (without ds p) away),
    subst (λ x. Tracks x next) (sym behind)
        (tracks_fewer p (with_calls made (without ds p)) h next tr (fewer ds p).name (fewer ds p).member (fewer ds p).guid (fewer ds p).size table size
        (λ r i some. kept r (tr.known r (subst (IsIn r) (fewer ds p).drawn i) some)) (λ r c i drawn_of. tr.own r c (subst (IsIn r) (fewer ds p).drawn i) drawn_of)
        (stands_calls made (without ds p) tr.first tr.second next.table next.pool (stands tr))),
  );
  last = λ tr twins sv good d e is other gone. last tr d e is other (sym (ap (λ f. f d) same_member) ∙ gone);
}
  where
    behind : pool_after (losing ds (as_events made)) p ≡ with_calls made (without ds p)
    behind = losing_pool ds (as_events made) p ∙ calls_after made (without ds p)

    same_member : (pool_after (losing ds (as_events made)) p).member ≡ (without ds p).member
    same_member = ap (λ (q : Pool). q.member) behind

-- each device that was lost was taken
taken_last : (T : Cost → Type 0) (p : Pool) (ds : List ℕ) → ((d : ℕ) → Among d ds → T (Device d)) → LosesLast p (without ds p) T
taken_last T p ds takes d e is other gone =
    ⊎_elim {A = (without ds p).member d ≡ true} {B = Among d ds} (λ still. absurd (not_both ((without ds p).member d) gone still)) (λ at. inr (inl (takes d at))) (stays_or ds p d is)

-- A line that takes these devices for another pool, which is open or not.
pub taking_follow : (T : Cost → Type 0) (p : Pool) (h : HostState) (ds : List ℕ) (made : List Noted) (next : HostState) → ((d : ℕ) → Among d ds → T (Device d))
    → AreAway (without ds p).member made → next.table ≡ h.table → next.size ≡ h.size → ((r : Rec) → IsIn r h.records → IsIn r next.records)
    → ((tr : Tracks p h) → StandsIn (without ds p) tr.first tr.second next.table next.pool) → Follows p h T made next
taking_follow T p h ds made next takes away table size kept stands =
    losing_follow T p h ds made next (λ d is at. inl (takes d at)) away table size kept stands (λ tr. taken_last T p ds takes)

-- no leaf of the open pool is on a member where its devices were lost
pub none_member : (ds : List ℕ) (p : Pool) (dev : Option ℕ) → ((d : ℕ) → dev ≡ Some d → (without ds p).member d ≡ false) → is_member (without ds p) dev ≡ false
none_member ds p None lost = refl
none_member ds p (Some d) lost = lost d refl

-- The pool that is open, if any, is on these two devices, which have the names of its leaves.
pub record IsOnTwo (a b : ℕ) (table : List HostDevice) (s : PoolState) : Type 0 where
  pub first : s.first.dev ≡ Some a
  pub second : s.second.dev ≡ Some b
  pub first_number : number_in s.first.name table ≡ Some a
  pub second_number : number_in s.second.name table ≡ Some b

abbrev pub IsOn : (a b : ℕ) → List HostDevice → Option PoolState → Type 0
IsOn a b table None = Unit {0}
IsOn a b table (Some s) = IsOnTwo a b table s

stands_without : (p : Pool) (a b : ℕ) (first second : Place) (table : List HostDevice) (pool : Option PoolState) → IsOn a b table pool
    → StandsIn (without (a ∷ b ∷ []) p) first second table pool
stands_without p a b first second table None on = tt
stands_without p a b first second table (Some s) on = inr (record {
  seated = λ same. ap (λ (dev : Option ℕ). is_some dev || is_some s.second.dev) on.first;
  first = none_member (a ∷ b ∷ []) p s.first.dev (λ d e. gone_first d (same_some a d (sym on.first ∙ e)));
  second = none_member (a ∷ b ∷ []) p s.second.dev (λ d e. gone_second d (same_some b d (sym on.second ∙ e)));
  alone_first = λ same d e is. absurd (not_both _ (gone_first d (same_some a d (sym on.first_number ∙ e))) is);
  alone_second = λ same d e is. absurd (not_both _ (gone_second d (same_some b d (sym on.second_number ∙ e))) is);
})
  where
    gone_first : (d : ℕ) → a ≡ d → (without (a ∷ b ∷ []) p).member d ≡ false
    gone_first d same = among_lost (a ∷ b ∷ []) p d (inl (sym same))

    gone_second : (d : ℕ) → b ≡ d → (without (a ∷ b ∷ []) p).member d ≡ false
    gone_second d same = among_lost (a ∷ b ∷ []) p d (inr (inl (sym same)))

-- A line that takes two devices for another pool, and puts something on no others.
pub taken_follow : (T : Cost → Type 0) (p : Pool) (h : HostState) (a b : ℕ) (made : List Noted) (next : HostState) → ((d : ℕ) → (d ≡ a) ⊎ (d ≡ b) → T (Device d))
    → AreAway (without (a ∷ b ∷ []) p).member made → next.table ≡ h.table → next.size ≡ h.size → ((r : Rec) → IsIn r h.records → IsIn r next.records)
    → IsOn a b next.table next.pool → Follows p h T made next
taken_follow T p h a b made next takes away table size kept on =
    taking_follow T p h (a ∷ b ∷ []) made next two away table size kept (λ tr. stands_without p a b tr.first tr.second next.table next.pool on)
  where
    two : (d : ℕ) → Among d (a ∷ b ∷ []) → T (Device d)
    two d (inl one) = takes d (inl one)
    two d (inr (inl other)) = takes d (inr other)
    two d (inr (inr none)) = absurd none
