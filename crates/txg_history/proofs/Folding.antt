-- The fold over a history's events: over two lists of events, over calls alone, and what stays the same.
use Rattle.std.proofs.Common.{◌≡◌, ◌⊎◌, ℕ, ◌==◌, Bool, true, false, cond, List, [], ◌∷◌, ◌++◌, take, zero, suc, refl, sym, ap, ◌∙◌, subst, inl, inr, arith}
use Rattle.std.proofs.lemmas.Bool.Decides.{nat_tests}
use Rattle.std.specs.List.{AllByRecursion}
use Rattle.mp_base.specs.declared.number.Guid.{Guid}
use Rattle.bank_core.specs.Disk.{Noted, run}
use Rattle.txg_history.specs.Events.{Event, Calls, Joins, Loses, Stops, calls_of, as_events, NeverStops, IsOneRun, TakesNone, Brings, BringsIn}
use Rattle.txg_history.specs.Moves.{Mays}
use Rattle.txg_history.specs.Pages.{Codec}
use Rattle.txg_history.specs.Pools.{Pool, since_after, copies_after, other_than, after, pool_after}

-- some events, and more
pub pool_more : (first second : List Event) (p : Pool) → pool_after (first ++ second) p ≡ pool_after second (pool_after first p)
pool_more [] second p = refl
pool_more (v ∷ first) second p = pool_more first second (after v p)

pub mays_more : (c : Codec) (first second : List Event) (p : Pool)
    → Mays c p first → Mays c (pool_after first p) second → Mays c p (first ++ second)
mays_more c [] second p a b = b
mays_more c (v ∷ first) second p a b = (a.0, mays_more c first second (after v p) a.1 b)

pub mays_first : (c : Codec) (first second : List Event) (p : Pool) → Mays c p (first ++ second) → Mays c p first
mays_first c [] second p m = tt
mays_first c (v ∷ first) second p m = (m.0, mays_first c first second (after v p) m.1)

pub mays_second : (c : Codec) (first second : List Event) (p : Pool) → Mays c p (first ++ second) → Mays c (pool_after first p) second
mays_second c [] second p m = m
mays_second c (v ∷ first) second p m = mays_second c first second (after v p) m.1

pub mays_front : (c : Codec) (vs : List Event) (k : ℕ) (p : Pool) → Mays c p vs → Mays c p (take k vs)
mays_front c vs zero p m = tt
mays_front c [] (suc k) p m = tt
mays_front c (v ∷ vs) (suc k) p m = (m.0, mays_front c vs k (after v p) m.1)

pub calls_more : (first second : List Event) → calls_of (first ++ second) ≡ calls_of first ++ calls_of second
calls_more [] second = refl
calls_more (Calls noted ∷ first) second = ap (λ made. noted ∷ made) (calls_more first second)
calls_more (v ∷ first) second = calls_more first second

-- Calls as events are these calls.
pub calls_are : (made : List Noted) → calls_of (as_events made) ≡ made
calls_are [] = refl
calls_are (noted ∷ made) = ap (λ more. noted ∷ more) (calls_are made)

pub events_more : (first second : List Noted) → as_events (first ++ second) ≡ as_events first ++ as_events second
events_more [] second = refl
events_more (noted ∷ first) second = ap (λ more. Calls noted ∷ more) (events_more first second)

-- a pool behind calls: its devices have made them, and all else is as it was
abbrev pub with_calls : List Noted → Pool → Pool
with_calls made p = record p {
  sectors = run made p.sectors;
  since = since_after made p.since;
  copies = copies_after made p.copies;
}

pub calls_after : (made : List Noted) (p : Pool) → pool_after (as_events made) p ≡ with_calls made p
calls_after [] p = refl
calls_after (noted ∷ made) p = calls_after made (after (Calls noted) p)

-- calls, and then other events
pub calls_then : (made : List Noted) (vs : List Event) (p : Pool) → pool_after (as_events made ++ vs) p ≡ pool_after vs (with_calls made p)
calls_then made vs p = pool_more (as_events made) vs p ∙ ap (pool_after vs) (calls_after made p)

pub calls_sectors : (made : List Noted) (p : Pool) → (pool_after (as_events made) p).sectors ≡ run made p.sectors
calls_sectors made p = ap (λ q. q.sectors) (calls_after made p)

-- A goal about calls and more events, with the pool behind the calls.
pub mays_calls : (c : Codec) (made : List Noted) (vs : List Event) (p : Pool)
    → Mays c p (as_events made) → Mays c (with_calls made p) vs → Mays c p (as_events made ++ vs)
mays_calls c made vs p a b = mays_more c (as_events made) vs p a (subst (λ q. Mays c q vs) (sym (calls_after made p)) b)

-- What each event of a kind leaves, all events of that kind leave.
pub kept_along : {A : Type 0} (f : Pool → A) (Kind : Event → Type 0) → ((v : Event) (p : Pool) → Kind v → f (after v p) ≡ f p) → (vs : List Event) (p : Pool)
    → AllByRecursion Kind vs → f (pool_after vs p) ≡ f p
kept_along f Kind same [] p all = refl
kept_along f Kind same (v ∷ vs) p all = kept_along f Kind same vs (after v p) all.1 ∙ same v p all.0

pub all_more : (Kind : Event → Type 0) (first second : List Event) → AllByRecursion Kind first
    → AllByRecursion Kind second → AllByRecursion Kind (first ++ second)
all_more Kind [] second a b = b
all_more Kind (v ∷ first) second a b = (a.0, all_more Kind first second a.1 b)

pub all_calls : (Kind : Event → Type 0) → ((noted : Noted) → Kind (Calls noted)) → (made : List Noted) → AllByRecursion Kind (as_events made)
all_calls Kind is [] = tt
all_calls Kind is (noted ∷ made) = (is noted, all_calls Kind is made)

-- any event
abbrev pub IsAny : Event → Type 0
IsAny v = Unit {0}

any_all : (vs : List Event) → AllByRecursion IsAny vs
any_all [] = tt
any_all (v ∷ vs) = (tt, any_all vs)

-- No event changes a pool's name, its number, or its tops' rooms.
name_same : (v : Event) (p : Pool) → IsAny v → (after v p).name ≡ p.name
name_same (Calls noted) p is = refl
name_same v p is = refl

pub name_kept : (vs : List Event) (p : Pool) → (pool_after vs p).name ≡ p.name
name_kept vs p = kept_along (λ p. p.name) IsAny name_same vs p (any_all vs)

pool_same : (v : Event) (p : Pool) → IsAny v → (after v p).pool ≡ p.pool
pool_same (Calls noted) p is = refl
pool_same v p is = refl

pub pool_kept : (vs : List Event) (p : Pool) → (pool_after vs p).pool ≡ p.pool
pool_kept vs p = kept_along (λ p. p.pool) IsAny pool_same vs p (any_all vs)

room_same : (v : Event) (p : Pool) → IsAny v → (after v p).room ≡ p.room
room_same (Calls noted) p is = refl
room_same v p is = refl

pub room_kept : (vs : List Event) (p : Pool) → (pool_after vs p).room ≡ p.room
room_kept vs p = kept_along (λ p. p.room) IsAny room_same vs p (any_all vs)

-- within a run no device changes its size
size_same : (v : Event) (p : Pool) → NeverStops v → (after v p).size ≡ p.size
size_same (Calls noted) p one = refl
size_same (Stops sectors size) p one = absurd one
size_same v p one = refl

pub size_kept : (vs : List Event) (p : Pool) → IsOneRun vs → (pool_after vs p).size ≡ p.size
size_kept vs p one = kept_along (λ p. p.size) NeverStops size_same vs p one

-- Where no device comes or goes the members stay, with their numbers.
member_same : (v : Event) (p : Pool) → TakesNone v → (after v p).member ≡ p.member
member_same (Joins d m top) p none = absurd none
member_same (Loses d) p none = absurd none
member_same v p none = refl

pub member_kept : (vs : List Event) (p : Pool) → AllByRecursion TakesNone vs → (pool_after vs p).member ≡ p.member
member_kept vs p none = kept_along (λ p. p.member) TakesNone member_same vs p none

guid_same : (v : Event) (p : Pool) → TakesNone v → (after v p).guid ≡ p.guid
guid_same (Joins d m top) p none = absurd none
guid_same (Loses d) p none = absurd none
guid_same v p none = refl

pub guid_kept : (vs : List Event) (p : Pool) → AllByRecursion TakesNone vs → (pool_after vs p).guid ≡ p.guid
guid_kept vs p none = kept_along (λ p. p.guid) TakesNone guid_same vs p none

pub other_was : (m : Guid) (guid : ℕ → Guid) (member : ℕ → Bool) (e : ℕ) → other_than m guid member e ≡ true → member e ≡ true
other_was m guid member e is = by_test ((guid e).0 == m.0) is
  where
    by_test : (t : Bool) → cond t false (member e) ≡ true → member e ≡ true
    by_test true is = absurd (cc)
    by_test false is = is

pub taken_false : (d e : ℕ) (f : ℕ → Bool) → cond (d == e) false (f e) ≡ true → f e ≡ true
taken_false d e f is = by_test (d == e) is
  where
    by_test : (t : Bool) → cond t false (f e) ≡ true → f e ≡ true
    by_test true is = absurd (cc)
    by_test false is = is

pub member_before : (v : Event) (p : Pool) (d : ℕ) → (after v p).member d ≡ true → (p.member d ≡ true) ⊎ Brings v d
member_before (Joins e m top) p d is = by_test (e == d) refl is
  where
    by_test : (t : Bool) → (e == d) ≡ t → cond t true (other_than m p.guid p.member d) ≡ true → (p.member d ≡ true) ⊎ (e ≡ d)
    by_test true same is = inr (let e : e ≡ d = grind (arith, nat_tests) in e)
    by_test false same is = inl (other_was m p.guid p.member d is)
member_before (Loses e) p d is = inl (taken_false e d p.member is)
member_before v p d is = inl is

-- A member was one before, or one of the events brought it in.
pub member_ever : (vs : List Event) (p : Pool) (d : ℕ) → (pool_after vs p).member d ≡ true → (p.member d ≡ true) ⊎ BringsIn vs d
member_ever [] p d is = inl is
member_ever (v ∷ vs) p d is = by (member_ever vs (after v p) d is)
  where
    now : (p.member d ≡ true) ⊎ Brings v d → (p.member d ≡ true) ⊎ (Brings v d ⊎ BringsIn vs d)
    now (inl was) = inl was
    now (inr here) = inr (inl here)

    by : ((after v p).member d ≡ true) ⊎ BringsIn vs d → (p.member d ≡ true) ⊎ (Brings v d ⊎ BringsIn vs d)
    by (inl was) = now (member_before v p d was)
    by (inr later) = inr (inr later)

-- Each front of the calls is that of some front of the events, so a law at each front of these holds at each moment of the bank.
pub moment_of : (vs : List Event) (k : ℕ) → (j : ℕ) × (calls_of (take j vs) ≡ take k (calls_of vs))
moment_of vs zero = (0, refl)
moment_of [] (suc k) = (0, refl)
moment_of (Calls noted ∷ vs) (suc k) = let m = moment_of vs k in (suc m.0, ap (λ made. noted ∷ made) m.1)
moment_of (v ∷ vs) (suc k) = let m = moment_of vs (suc k) in (suc m.0, m.1)

-- within one run the devices are as its calls leave them
pub run_sectors : (vs : List Event) (p : Pool) → IsOneRun vs → (pool_after vs p).sectors ≡ run (calls_of vs) p.sectors
run_sectors [] p one = refl
run_sectors (Calls noted ∷ vs) p one = run_sectors vs (after (Calls noted) p) one.1
run_sectors (Stops sectors size ∷ vs) p one = absurd one.0
run_sectors (v ∷ vs) p one = run_sectors vs (after v p) one.1
