-- Pasts: the invariant, the next run, and what live records contain.
use Rattle.std.proofs.Common.{◌≡◌, ◌⊎◌, inl, inr, ℕ, ◌+◌, ◌≤◌, ◌==◌, ◌||◌, nat_le, Bool, true, false, cond, List, [], ◌∷◌, map, Some, None, refl, sym, ap, ◌∙◌, subst, arith}
use mathlib.Core.Path.{fun_ext}
use Rattle.std.proofs.lemmas.Bool.Decides.{nat_tests}
use Rattle.bank_core.specs.Disk.{after_crash}
use Rattle.txg_history.specs.Events.{Event, Freezes, Burns, Begins, Acks, Opens, Stops}
use Rattle.txg_history.specs.Moves.{Mays, MayStop, AreUnforged}
use Rattle.txg_history.specs.Numbering.{renumbered}
use Rattle.txg_history.specs.Pages.{Codec}
use Rattle.txg_history.specs.Pools.{Pool, pool_after}
use Rattle.txg_history.specs.Records.{Rec, IsIn, block_at, nothing}
use Rattle.txg_history.specs.Survival.{Survives, IsAmong}
use Rattle.label_store.specs.Records.{place_at}
use Rattle.label_store.specs.Uberblock.{IsUberblock}
use Rattle.txg_history.proofs.Containing.{drawn_contents}
use Rattle.txg_history.proofs.Folding.{pool_kept}
use Rattle.txg_history.proofs.Logging.{by_bool, same_device}
use Rattle.txg_history.proofs.Moving.{event_survives}
use Rattle.txg_history.proofs.Numbering.{renumbered_survives}
use Rattle.txg_history.proofs.Stamping.{stamped_survives}
use Rattle.pool_moves.specs.Rosters.{IsListed}
use Rattle.pool_moves.proofs.Rosters.{roster_anew}
use Rattle.pool_runs.specs.Devices.{size_in}
use Rattle.pool_runs.specs.Hosts.{Host, IsOpen}
use Rattle.pool_runs.specs.Knowing.{HasRoster}
use Rattle.pool_runs.proofs.Known.{Knows}
use Rattle.pool_runs.proofs.Knowing.{roster_by_events}
use Rattle.pool_runs.specs.Pasts.{Past, Born, Then, Numbered, pool_of, called_in, IsAllowed, then_all, BeginsRun, IsFoundAs, IsNext, AreNamed, in_size, met, next_past, WasFrozen, HasFrozen}

-- A pool has its invariant behind its past.
pub past_survives : (c : Codec) (past : Past) → IsAllowed c past → Survives c (pool_of past)
past_survives c (Born birth sectors) ok = stamped_survives c birth.name birth.pool birth.member birth.guid birth.size birth.room birth.home sectors ok.0
past_survives c (Then past v) ok = event_survives c (pool_of past) v (past_survives c past ok.0) ok.1
past_survives c (Numbered past was called) ok = renumbered_survives c (pool_of past) was (past_survives c past ok.0)

-- Its members stand on a list.
pub past_roster : (c : Codec) (past : Past) → IsAllowed c past → HasRoster (pool_of past)
past_roster c (Born birth sectors) ok = ok.1
past_roster c (Then past v) ok = roster_by_events (v ∷ []) (pool_of past) (past_roster c past ok.0)
past_roster c (Numbered past was called) ok = let has = past_roster c past ok.0 in
    (map ok.1.0 has.0, roster_anew (pool_of past) was ok.1.0 has.0 has.1 ok.1.1)

-- So some device is none of them.
abbrev above_all : List ℕ → ℕ
above_all [] = 0
above_all (d ∷ devs) = d + 1 + above_all devs

not_listed : (n : ℕ) (devs : List ℕ) → above_all devs ≤ n → IsListed n devs → ⊥
not_listed n [] most is = is
not_listed n (d ∷ devs) most (inl here) = above_first n d (above_all devs) most (same_device n d here)
  where
    above_first : (n d k : ℕ) → d + 1 + k ≤ n → n ≡ d → ⊥
    above_first n d k most same = absurd (omega (arith, most, same))
not_listed n (d ∷ devs) most (inr more) = not_listed n devs (fewer n d (above_all devs) most) more
  where
    fewer : (n d k : ℕ) → d + 1 + k ≤ n → k ≤ n
    fewer n d k most = omega (arith, most)

pub past_stranger : (c : Codec) (past : Past) → IsAllowed c past → (other : ℕ) × ((pool_of past).member other ≡ false)
past_stranger c past ok = let has = past_roster c past ok in let n = above_all has.0 in
    (n, by_bool ((pool_of past).member n) (λ is. absurd (not_listed n has.0 (most n) (has.1.all n is))) (λ no. no))
  where
    most : (n : ℕ) → n ≤ n
    most n = omega arith

-- More events.
pub then_pool : (past : Past) (vs : List Event) → pool_of (then_all past vs) ≡ pool_after vs (pool_of past)
then_pool past [] = refl
then_pool past (v ∷ vs) = then_pool (Then past v) vs

pub then_called : (past : Past) (vs : List Event) → called_in (then_all past vs) ≡ called_in past
then_called past [] = refl
then_called past (v ∷ vs) = then_called (Then past v) vs

pub then_allowed : (c : Codec) (past : Past) (vs : List Event) → IsAllowed c past → Mays c (pool_of past) vs → IsAllowed c (then_all past vs)
then_allowed c past [] ok may = ok
then_allowed c past (v ∷ vs) ok may = then_allowed c (Then past v) vs (ok, may.0) may.1

-- A run begins knowing the pool.
pub begins_known : (c : Codec) (past : Past) (h : Host) → BeginsRun c past h → Knows c h (pool_of past)
begins_known c past h begins = record {
  survives = past_survives c past begins.left.allowed;
  roster = past_roster c past begins.left.allowed;
  stands = λ s is number. absurd (subst (IsOpen s) begins.closed is);
  once = λ s u is at one other. absurd (subst (IsOpen s) begins.closed is);
  apart = λ d g is off. absurd (let no : None ≡ Some g = sym (begins.unknown d) ∙ is in cc);
  sizes = begins.left.sizes;
  disk = begins.left.disk;
}

-- The next run.
met_here : (p : Pool) (images : ℕ → ℕ → List ℕ) (h : Host) (d s : ℕ) → 1 ≤ size_in h.table d → met p images h d s ≡ h.disk d s
met_here p images h d s one = let yes : nat_le 1 (size_in h.table d) ≡ true = grind (arith, nat_tests) in ap (λ t. cond t (h.disk d s) (after_crash p.sectors images d s)) yes

low_of : (n : ℕ) → nat_le 1 n ≡ true → 1 ≤ n
low_of n is = grind (arith, nat_tests)

-- a member's sector behind the stop shows its image
met_as : (p : Pool) (images : ℕ → ℕ → List ℕ) (h : Host) → IsNext p images h → (d s : ℕ) → p.member d ≡ true → IsFoundAs (met p images h d s) (images d s) (p.sectors d s).damaged
met_as p images h next d s member = by_bool (nat_le 1 (size_in h.table d))
    (λ yes. let one = low_of (size_in h.table d) yes in
    let found = next.disk d s member one in
    subst (λ x. IsFoundAs x (images d s) (p.sectors d s).damaged) (sym (met_here p images h d s one)) found)
    (λ no. subst (λ x. IsFoundAs x (images d s) (p.sectors d s).damaged) (sym (ap (λ t. cond t (h.disk d s) (after_crash p.sectors images d s)) no))
    (record { stable = refl; still = refl; damage = λ is. is }))

unforged_met : (p : Pool) (images : ℕ → ℕ → List ℕ) (h : Host) → IsNext p images h → AreUnforged p (λ d s. (met p images h d s).stable)
unforged_met p images h next d place u member inside uber =
    let same : (met p images h d (place_at (p.size d) place)).stable ≡ images d (place_at (p.size d) place) = (met_as p images h next d (place_at (p.size d) place) member).stable in
    subst (λ bytes. (bytes ≡ (p.sectors d (place_at (p.size d) place)).stable) ⊎ IsAmong bytes (p.since d (place_at (p.size d) place))) (sym same)
    (next.unforged d place u member inside (subst (λ bytes. IsUberblock u bytes) same uber))

may_stop : (p : Pool) (images : ℕ → ℕ → List ℕ) (h : Host) → IsNext p images h → MayStop p (met p images h)
may_stop p images h next = record {
  still = λ d s member. (met_as p images h next d s member).still;
  shows = λ d s member clean. (met_as p images h next d s member).stable ∙ next.crash d member s clean;
  damage = λ d s member is. (met_as p images h next d s member).damage is;
  unforged = unforged_met p images h next;
}

-- Each device that is a member's under these numbers is in its size.
module _ (past : Past) (was : ℕ → ℕ) (called : ℕ → List ℕ) (h : Host) (other : ℕ) (none : (pool_of past).member other ≡ false) where
  abbrev now : ℕ → ℕ
  now = in_size past was other h

  pub is_in_size : (d : ℕ) → (pool_of past).member (now d) ≡ true
      → (now d ≡ was d) × (((size_in h.table d == 0) || ((pool_of past).size (was d) == size_in h.table d)) ≡ true)
  is_in_size d is = of ((size_in h.table d == 0) || ((pool_of past).size (was d) == size_in h.table d)) is
    where
      of : (t : Bool) → (pool_of past).member (cond t (was d) other) ≡ true → (cond t (was d) other ≡ was d) × (t ≡ true)
      of true is = (refl, refl)
      of false is = absurd (let no : true ≡ false = sym is ∙ none in cc)

  size_next : (d : ℕ) → 1 ≤ size_in h.table d → cond ((pool_of past).member (now d)) ((pool_of past).size (now d)) (size_in h.table d) ≡ size_in h.table d
  size_next d one = by_bool ((pool_of past).member (now d)) (λ is. let at = is_in_size d is in
      ap (λ t. cond t ((pool_of past).size (now d)) (size_in h.table d)) is ∙ (ap (pool_of past).size at.0 ∙ same ((pool_of past).size (was d)) (size_in h.table d) one at.1))
      (λ no. ap (λ t. cond t ((pool_of past).size (now d)) (size_in h.table d)) no)
    where
      same : (a b : ℕ) → 1 ≤ b → ((b == 0) || (a == b)) ≡ true → a ≡ b
      same a b one is = grind (arith, nat_tests)

  named_now : AreNamed past was called h → AreNamed past now called h
  named_now names = record {
    numbers = (
      names.numbers.0,
      λ d is. let at = (is_in_size d is).0 in
          ap names.numbers.0 at ∙ names.numbers.1 d (subst (λ n. (pool_of past).member n ≡ true) at is),
    );
    kept = λ d is. let at = (is_in_size d is).0 in
        names.kept d (subst (λ n. (pool_of past).member n ≡ true) at is) ∙ ap (called_in past) (sym at);
    here = names.here;
  }

pub next_begins : (c : Codec) (past : Past) (was : ℕ → ℕ) (called : ℕ → List ℕ) (images : ℕ → ℕ → List ℕ) (h : Host) (other : ℕ) → IsAllowed c past
    → AreNamed past was called h → (pool_of past).member other ≡ false → IsNext (renumbered (in_size past was other h) (pool_of past)) images h
    → BeginsRun c (next_past past (in_size past was other h) called images h) h
next_begins c past was called images h other ok are none next =
    let behind = renumbered (in_size past was other h) (pool_of past) in
    let names = named_now past was called h other none are in
    record {
      left = record {
        allowed = ((ok, names.numbers, names.kept), may_stop behind images h next);
        names = names.here;
        sizes = λ d one. size_next past was called h other none d one;
        disk = λ d s one. met_here behind images h d s one;
        stands = λ s is number. absurd (subst (IsOpen s) next.closed is);
      };
      closed = next.closed;
      unknown = next.unknown;
      at_rest = refl;
    }

-- What live records contain.
same_frozen : (f g : ℕ → List ℕ) (past : Past) → ((a : ℕ) → f a ≡ g a) → WasFrozen f past → WasFrozen g past
same_frozen f g past same was = subst (λ k. WasFrozen k past) (fun_ext same) was

group_frozen : (c : Codec) (past : Past) → IsAllowed c past → (pool_of past).group.frozen ≡ true → WasFrozen (pool_of past).group.content past
group_frozen c (Born birth sectors) ok f = absurd (cc)
group_frozen c (Then past (Freezes cells board)) ok f = λ a. refl
group_frozen c (Then past Burns) ok f = absurd (cc)
group_frozen c (Then past (Acks q)) ok f = absurd (cc)
group_frozen c (Then past (Opens r)) ok f = absurd (cc)
group_frozen c (Then past (Stops sectors size)) ok f = absurd (cc)
group_frozen c (Then past v) ok f = group_frozen c past ok.0 f
group_frozen c (Numbered past was called) ok f = group_frozen c past ok.0 f

frozen_more : (past : Past) (v : Event) (r : Rec) → HasFrozen past r → HasFrozen (Then past v) r
frozen_more past v r (inl first) = inl (first ∙ ap nothing (sym (pool_kept (v ∷ []) (pool_of past))))
frozen_more past v r (inr has) = inr (has.0, inr has.1, has.2)

pub live_frozen : (c : Codec) (past : Past) → IsAllowed c past → (r : Rec) → IsIn r (pool_of past).live → HasFrozen past r
live_frozen c (Born birth sectors) ok r (inl is) = inl is
live_frozen c (Born birth sectors) ok r (inr none) = absurd none
live_frozen c (Then past (Begins q)) ok r (inl is) = inr (
  past,
  inl (ap (λ x. Then past (Begins x)) is),
  same_frozen (pool_of past).group.content (block_at r) past (λ a. sym (ap (λ x. block_at x a) is ∙ drawn_contents c (pool_of past) q (past_survives c past ok.0) ok.1 a))
      (group_frozen c past ok.0 ok.1.frozen),
)
live_frozen c (Then past (Begins q)) ok r (inr more) = frozen_more past (Begins q) r (live_frozen c past ok.0 r more)
live_frozen c (Then past (Acks q)) ok r (inl is) = frozen_more past (Acks q) r (live_frozen c past ok.0 r (subst (λ x. IsIn x (pool_of past).live) (sym is) (subst (IsIn q) (sym ok.1.newest) (inl refl))))
live_frozen c (Then past (Acks q)) ok r (inr none) = absurd none
live_frozen c (Then past v) ok r is = frozen_more past v r (live_frozen c past ok.0 r is)
live_frozen c (Numbered past was called) ok r is = more (live_frozen c past ok.0 r is)
  where
    more : HasFrozen past r → HasFrozen (Numbered past was called) r
    more (inl first) = inl first
    more (inr has) = inr (has.0, inr has.1, has.2)
