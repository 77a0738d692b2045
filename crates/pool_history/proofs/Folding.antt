-- The fold over a history's events: over two lists of events, over calls alone, and what stays the same.
use Rattle.std.proofs.Common.{◌≡◌, ℕ, ◌==◌, Bool, true, false, cond, List, [], ◌∷◌, ◌++◌, take, zero, suc, Option, refl, sym, ap, ◌∙◌, subst}
use Rattle.bank_core.specs.Disk.{Noted, run}
use Rattle.label_store.specs.declared.rule.Head.{Head}
use Rattle.pool_history.specs.Events.{Event, Calls, Accepts, Looks, Opens, Begins, Third, Ends, Acks, Loses, Stops, calls_of, as_events, IsOneRun}
use Rattle.pool_history.specs.Moves.{Mays}
use Rattle.pool_history.specs.Pools.{Pool, noted_since, after, pool_after}

-- some events, and more
pub pool_more : (first second : List Event) (p : Pool) → pool_after (first ++ second) p ≡ pool_after second (pool_after first p)
pool_more [] second p = refl
pool_more (v ∷ first) second p = pool_more first second (after v p)

pub mays_more : (head_of : List ℕ → Option Head) (first second : List Event) (p : Pool)
    → Mays head_of p first → Mays head_of (pool_after first p) second → Mays head_of p (first ++ second)
mays_more head_of [] second p a b = b
mays_more head_of (v ∷ first) second p a b = (a.0, mays_more head_of first second (after v p) a.1 b)

pub mays_first : (head_of : List ℕ → Option Head) (first second : List Event) (p : Pool) → Mays head_of p (first ++ second) → Mays head_of p first
mays_first head_of [] second p m = tt
mays_first head_of (v ∷ first) second p m = (m.0, mays_first head_of first second (after v p) m.1)

pub mays_second : (head_of : List ℕ → Option Head) (first second : List Event) (p : Pool) → Mays head_of p (first ++ second) → Mays head_of (pool_after first p) second
mays_second head_of [] second p m = m
mays_second head_of (v ∷ first) second p m = mays_second head_of first second (after v p) m.1

pub mays_front : (head_of : List ℕ → Option Head) (vs : List Event) (k : ℕ) (p : Pool) → Mays head_of p vs → Mays head_of p (take k vs)
mays_front head_of vs zero p m = tt
mays_front head_of [] (suc k) p m = tt
mays_front head_of (v ∷ vs) (suc k) p m = (m.0, mays_front head_of vs k (after v p) m.1)

pub calls_more : (first second : List Event) → calls_of (first ++ second) ≡ calls_of first ++ calls_of second
calls_more [] second = refl
calls_more (Calls noted ∷ first) second = ap (λ made. noted ∷ made) (calls_more first second)
calls_more (Accepts a block ∷ first) second = calls_more first second
calls_more (Looks known ∷ first) second = calls_more first second
calls_more (Opens r ∷ first) second = calls_more first second
calls_more (Begins q ∷ first) second = calls_more first second
calls_more (Third q d ∷ first) second = calls_more first second
calls_more (Ends q d ∷ first) second = calls_more first second
calls_more (Acks q ∷ first) second = calls_more first second
calls_more (Loses d ∷ first) second = calls_more first second
calls_more (Stops sectors size ∷ first) second = calls_more first second

-- Calls as events are these calls.
pub calls_are : (made : List Noted) → calls_of (as_events made) ≡ made
calls_are [] = refl
calls_are (noted ∷ made) = ap (λ more. noted ∷ more) (calls_are made)

pub events_more : (first second : List Noted) → as_events (first ++ second) ≡ as_events first ++ as_events second
events_more [] second = refl
events_more (noted ∷ first) second = ap (λ more. Calls noted ∷ more) (events_more first second)

-- what these calls wrote to each sector, before what was written there
abbrev pub since_after : List Noted → (ℕ → ℕ → List (List ℕ)) → ℕ → ℕ → List (List ℕ)
since_after [] since = since
since_after (noted ∷ made) since = since_after made (noted_since noted.call since)

-- a pool behind calls: its devices have made them, and all else is as it was
abbrev pub with_calls : List Noted → Pool → Pool
with_calls made p = record p { sectors = run made p.sectors; since = since_after made p.since }

pub calls_after : (made : List Noted) (p : Pool) → pool_after (as_events made) p ≡ with_calls made p
calls_after [] p = refl
calls_after (noted ∷ made) p = calls_after made (after (Calls noted) p)

-- calls, and then other events
pub calls_then : (made : List Noted) (vs : List Event) (p : Pool) → pool_after (as_events made ++ vs) p ≡ pool_after vs (with_calls made p)
calls_then made vs p = pool_more (as_events made) vs p ∙ ap (pool_after vs) (calls_after made p)

pub calls_sectors : (made : List Noted) (p : Pool) → (pool_after (as_events made) p).sectors ≡ run made p.sectors
calls_sectors made p = ap (λ q. q.sectors) (calls_after made p)

-- A goal about calls and more events, with the pool behind the calls.
pub mays_calls : (head_of : List ℕ → Option Head) (made : List Noted) (vs : List Event) (p : Pool)
    → Mays head_of p (as_events made) → Mays head_of (with_calls made p) vs → Mays head_of p (as_events made ++ vs)
mays_calls head_of made vs p a b = mays_more head_of (as_events made) vs p a (subst (λ q. Mays head_of q vs) (sym (calls_after made p)) b)

-- No event changes a pool's name, its number, its devices' member numbers or their sizes.
pub name_same : (v : Event) (p : Pool) → (after v p).name ≡ p.name
name_same (Calls noted) p = refl
name_same v p = refl

pub pool_same : (v : Event) (p : Pool) → (after v p).pool ≡ p.pool
pool_same (Calls noted) p = refl
pool_same v p = refl

pub guid_same : (v : Event) (p : Pool) → (after v p).guid ≡ p.guid
guid_same (Calls noted) p = refl
guid_same v p = refl

-- within a run no device changes its size
pub size_same : (v : Event) (p : Pool) → IsOneRun (v ∷ []) → (after v p).size ≡ p.size
size_same (Calls noted) p one = refl
size_same (Stops sectors size) p one = absurd one
size_same v p one = refl

one_first : (v : Event) (vs : List Event) → IsOneRun (v ∷ vs) → IsOneRun (v ∷ [])
one_first (Calls noted) vs one = tt
one_first (Stops sectors size) vs one = one
one_first v vs one = tt

one_rest : (v : Event) (vs : List Event) → IsOneRun (v ∷ vs) → IsOneRun vs
one_rest (Calls noted) vs one = one
one_rest (Stops sectors size) vs one = absurd one
one_rest v vs one = one

pub name_kept : (vs : List Event) (p : Pool) → (pool_after vs p).name ≡ p.name
name_kept [] p = refl
name_kept (v ∷ vs) p = name_kept vs (after v p) ∙ name_same v p

pub pool_kept : (vs : List Event) (p : Pool) → (pool_after vs p).pool ≡ p.pool
pool_kept [] p = refl
pool_kept (v ∷ vs) p = pool_kept vs (after v p) ∙ pool_same v p

pub guid_kept : (vs : List Event) (p : Pool) → (pool_after vs p).guid ≡ p.guid
guid_kept [] p = refl
guid_kept (v ∷ vs) p = guid_kept vs (after v p) ∙ guid_same v p

pub size_kept : (vs : List Event) (p : Pool) → IsOneRun vs → (pool_after vs p).size ≡ p.size
size_kept [] p one = refl
size_kept (v ∷ vs) p one = size_kept vs (after v p) (one_rest v vs one) ∙ size_same v p (one_first v vs one)

-- no other pool takes a device
abbrev pub TakesNone : List Event → Type 0
TakesNone [] = Unit {0}
TakesNone (Calls noted ∷ vs) = TakesNone vs
TakesNone (Accepts a block ∷ vs) = TakesNone vs
TakesNone (Looks known ∷ vs) = TakesNone vs
TakesNone (Opens r ∷ vs) = TakesNone vs
TakesNone (Begins q ∷ vs) = TakesNone vs
TakesNone (Third q d ∷ vs) = TakesNone vs
TakesNone (Ends q d ∷ vs) = TakesNone vs
TakesNone (Acks q ∷ vs) = TakesNone vs
TakesNone (Loses d ∷ vs) = ⊥
TakesNone (Stops sectors size ∷ vs) = TakesNone vs

pub takes_none_more : (first second : List Event) → TakesNone first → TakesNone second → TakesNone (first ++ second)
takes_none_more [] second a b = b
takes_none_more (Calls noted ∷ first) second a b = takes_none_more first second a b
takes_none_more (Accepts x block ∷ first) second a b = takes_none_more first second a b
takes_none_more (Looks known ∷ first) second a b = takes_none_more first second a b
takes_none_more (Opens r ∷ first) second a b = takes_none_more first second a b
takes_none_more (Begins q ∷ first) second a b = takes_none_more first second a b
takes_none_more (Third q d ∷ first) second a b = takes_none_more first second a b
takes_none_more (Ends q d ∷ first) second a b = takes_none_more first second a b
takes_none_more (Acks q ∷ first) second a b = takes_none_more first second a b
takes_none_more (Loses d ∷ first) second a b = absurd a
takes_none_more (Stops sectors size ∷ first) second a b = takes_none_more first second a b

pub calls_take_none : (made : List Noted) → TakesNone (as_events made)
calls_take_none [] = tt
calls_take_none (noted ∷ made) = calls_take_none made

-- so its members stay
pub member_kept : (vs : List Event) (p : Pool) → TakesNone vs → (pool_after vs p).member ≡ p.member
member_kept [] p none = refl
member_kept (Calls noted ∷ vs) p none = member_kept vs (after (Calls noted) p) none
member_kept (Accepts a block ∷ vs) p none = member_kept vs (after (Accepts a block) p) none
member_kept (Looks known ∷ vs) p none = member_kept vs p none
member_kept (Opens r ∷ vs) p none = member_kept vs (after (Opens r) p) none
member_kept (Begins q ∷ vs) p none = member_kept vs (after (Begins q) p) none
member_kept (Third q d ∷ vs) p none = member_kept vs (after (Third q d) p) none
member_kept (Ends q d ∷ vs) p none = member_kept vs (after (Ends q d) p) none
member_kept (Acks q ∷ vs) p none = member_kept vs (after (Acks q) p) none
member_kept (Loses d ∷ vs) p none = absurd none
member_kept (Stops sectors size ∷ vs) p none = member_kept vs (after (Stops sectors size) p) none

-- a member was one before
pub taken_false : (d e : ℕ) (f : ℕ → Bool) → cond (d == e) false (f e) ≡ true → f e ≡ true
taken_false d e f is = by_test (d == e) is
  where
    by_test : (t : Bool) → cond t false (f e) ≡ true → f e ≡ true
    by_test true is = absurd (cc)
    by_test false is = is

pub member_before : (v : Event) (p : Pool) (d : ℕ) → (after v p).member d ≡ true → p.member d ≡ true
member_before (Loses e) p d is = taken_false e d p.member is
member_before (Calls noted) p d is = is
member_before v p d is = is

pub member_ever : (vs : List Event) (p : Pool) (d : ℕ) → (pool_after vs p).member d ≡ true → p.member d ≡ true
member_ever [] p d is = is
member_ever (v ∷ vs) p d is = member_before v p d (member_ever vs (after v p) d is)

-- Each front of the calls is that of some front of the events, so a law at each front of these holds at each moment of the bank.
pub moment_of : (vs : List Event) (k : ℕ) → (j : ℕ) × (calls_of (take j vs) ≡ take k (calls_of vs))
moment_of vs zero = (0, refl)
moment_of [] (suc k) = (0, refl)
moment_of (Calls noted ∷ vs) (suc k) = let m = moment_of vs k in (suc m.0, ap (λ made. noted ∷ made) m.1)
moment_of (Accepts a block ∷ vs) (suc k) = let m = moment_of vs (suc k) in (suc m.0, m.1)
moment_of (Looks known ∷ vs) (suc k) = let m = moment_of vs (suc k) in (suc m.0, m.1)
moment_of (Opens r ∷ vs) (suc k) = let m = moment_of vs (suc k) in (suc m.0, m.1)
moment_of (Begins q ∷ vs) (suc k) = let m = moment_of vs (suc k) in (suc m.0, m.1)
moment_of (Third q d ∷ vs) (suc k) = let m = moment_of vs (suc k) in (suc m.0, m.1)
moment_of (Ends q d ∷ vs) (suc k) = let m = moment_of vs (suc k) in (suc m.0, m.1)
moment_of (Acks q ∷ vs) (suc k) = let m = moment_of vs (suc k) in (suc m.0, m.1)
moment_of (Loses d ∷ vs) (suc k) = let m = moment_of vs (suc k) in (suc m.0, m.1)
moment_of (Stops sectors size ∷ vs) (suc k) = let m = moment_of vs (suc k) in (suc m.0, m.1)

-- within one run the devices are as its calls leave them
pub run_sectors : (vs : List Event) (p : Pool) → IsOneRun vs → (pool_after vs p).sectors ≡ run (calls_of vs) p.sectors
run_sectors [] p one = refl
run_sectors (Calls noted ∷ vs) p one = run_sectors vs (after (Calls noted) p) one
run_sectors (Accepts a block ∷ vs) p one = run_sectors vs (after (Accepts a block) p) one
run_sectors (Looks known ∷ vs) p one = run_sectors vs p one
run_sectors (Opens r ∷ vs) p one = run_sectors vs (after (Opens r) p) one
run_sectors (Begins q ∷ vs) p one = run_sectors vs (after (Begins q) p) one
run_sectors (Third q d ∷ vs) p one = run_sectors vs (after (Third q d) p) one
run_sectors (Ends q d ∷ vs) p one = run_sectors vs (after (Ends q d) p) one
run_sectors (Acks q ∷ vs) p one = run_sectors vs (after (Acks q) p) one
run_sectors (Loses d ∷ vs) p one = run_sectors vs (after (Loses d) p) one
run_sectors (Stops sectors size ∷ vs) p one = absurd one

pub stops_never_more : (first second : List Event) → IsOneRun first → IsOneRun second → IsOneRun (first ++ second)
stops_never_more [] second a b = b
stops_never_more (Calls noted ∷ first) second a b = stops_never_more first second a b
stops_never_more (Accepts x block ∷ first) second a b = stops_never_more first second a b
stops_never_more (Looks known ∷ first) second a b = stops_never_more first second a b
stops_never_more (Opens r ∷ first) second a b = stops_never_more first second a b
stops_never_more (Begins q ∷ first) second a b = stops_never_more first second a b
stops_never_more (Third q d ∷ first) second a b = stops_never_more first second a b
stops_never_more (Ends q d ∷ first) second a b = stops_never_more first second a b
stops_never_more (Acks q ∷ first) second a b = stops_never_more first second a b
stops_never_more (Loses d ∷ first) second a b = stops_never_more first second a b
stops_never_more (Stops sectors size ∷ first) second a b = absurd a

pub calls_never_stop : (made : List Noted) → IsOneRun (as_events made)
calls_never_stop [] = tt
calls_never_stop (noted ∷ made) = calls_never_stop made
