-- A group is settled exactly where the log had it at each moment since the last acknowledged round began, or since the leaf came.
use Rattle.std.proofs.Common.{◌≡◌, ◌≢◌, ◌↔◌, ℕ, ◌+◌, ◌==◌, ◌&&◌, Bool, true, false, cond, List, [], ◌∷◌, ◌++◌, refl, sym, ap, ◌∙◌, subst, arith}
use Rattle.std.proofs.lemmas.Bool.{and_parts}
use Rattle.std.proofs.lemmas.Bool.Decides.{nat_tests}
use Rattle.std.specs.List.{AllByRecursion}
use Rattle.mp_base.specs.declared.number.Guid.{Guid}
use Rattle.txg_history.specs.Events.{Event, Freezes, Draws, Leaves, Grows, Burns, Begins, Acks, Opens, Joins, Clears}
use Rattle.txg_history.specs.Groups.{Logs, at_device, between, cleared, off}
use Rattle.txg_history.specs.Moves.{May, Mays}
use Rattle.txg_history.specs.Pages.{Codec}
use Rattle.txg_history.specs.Pools.{Pool, kept_in, whole_log, after, pool_after}
use Rattle.txg_history.specs.Records.{Rec, IsIn}
use Rattle.txg_history.specs.Scans.{scanned_log}
use Rattle.txg_history.specs.Settled.{OwesThroughout, BeginsNone, AcksNone}
use Rattle.txg_history.specs.Survival.{Survives}
use Rattle.txg_history.proofs.Folding.{pool_more, mays_first, mays_second}
use Rattle.txg_history.proofs.Logging.{by_bool, not_true, at_here, at_away, same_device, grown_more, cleared_of, cleared_both}

-- A log that lost just what another one, in which it lies, lost: it was, and now is, where it was and the other now is.
abbrev Follows : (was now other : Bool) → Type 0
Follows was now other = (now ≡ true → (was ≡ true) × (other ≡ true)) × (was ≡ true → other ≡ true → now ≡ true)

more_follows : (was old new : Bool) → (was ≡ true → old ≡ true) → (old ≡ true → new ≡ true) → Follows was was new
more_follows was old new still more = (λ e. (e, more (still e)), λ e n. e)

same_follows : (a was now b other : Bool) → now ≡ was → other ≡ b → (was ≡ true → b ≡ true) → Follows was now other
same_follows a was now b other e f still = (λ n. (sym e ∙ n, f ∙ still (sym e ∙ n)), λ w o. e ∙ w)

burn_follows : (first last : ℕ) (logs owes : Logs) (d g : ℕ) → (logs d g ≡ true → owes d g ≡ true)
    → Follows (logs d g) (cleared first last logs d g) (cleared first last owes d g)
burn_follows first last logs owes d g still = (
  λ e. (cleared_of first last logs d g e, cleared_both first last logs owes d g still e),
  λ e n. cleared_both first last owes logs d g (λ o. e) n,
)

both_true : (a b : Bool) → a ≡ true → b ≡ true → (a && b) ≡ true
both_true a b x y = rw (x, y) refl

-- a scan's end
clear_follows : (p : Pool) (e d g : ℕ) (logs : Logs) → (logs d g ≡ true → p.owes d g ≡ true)
    → Follows (logs d g) (at_device e (kept_in (scanned_log p.scan e (p.owes e)) (logs e)) logs d g)
    (at_device e (scanned_log p.scan e (p.owes e)) p.owes d g)
clear_follows p e d g logs still = by_bool (e == d) (λ here. at_it here)
    (λ away. same_follows true (logs d g) _ (p.owes d g) _ (ap (λ log. log g) (at_away e d (kept_in (scanned_log p.scan e (p.owes e)) (logs e)) logs away))
    (ap (λ log. log g) (at_away e d (scanned_log p.scan e (p.owes e)) p.owes away)) still)
  where
    at_it : (e == d) ≡ true → Follows (logs d g) (at_device e (kept_in (scanned_log p.scan e (p.owes e)) (logs e)) logs d g)
        (at_device e (scanned_log p.scan e (p.owes e)) p.owes d g)
    at_it here = (
      λ n. let both = and_parts (scanned_log p.scan e (p.owes e) g) (logs e g) (sym log_is ∙ n) in
          (ap (λ e. logs e g) (sym (same_device e d here)) ∙ both.1, owes_is ∙ both.0),
      λ w o. log_is ∙ both_true (scanned_log p.scan e (p.owes e) g) (logs e g) (sym owes_is ∙ o) (ap (λ e. logs e g) (same_device e d here) ∙ w),
    )
      where
        log_is : at_device e (kept_in (scanned_log p.scan e (p.owes e)) (logs e)) logs d g ≡ (scanned_log p.scan e (p.owes e) g && logs e g)
        log_is = ap (λ log. log g) (at_here e d (kept_in (scanned_log p.scan e (p.owes e)) (logs e)) logs here)

        owes_is : at_device e (scanned_log p.scan e (p.owes e)) p.owes d g ≡ scanned_log p.scan e (p.owes e) g
        owes_is = ap (λ log. log g) (at_here e d (scanned_log p.scan e (p.owes e)) p.owes here)

off_test : (e d : ℕ) → e ≢ d → (e == d) ≡ false
off_test e d ne = not_true (e == d) (λ is. ne (same_device e d is))

-- another leaf is brought in
join_follows : (e d g : ℕ) (new : ℕ → Bool) (logs owes : Logs) → e ≢ d → (logs d g ≡ true → owes d g ≡ true)
    → Follows (logs d g) (at_device e new logs d g) (at_device e new owes d g)
join_follows e d g new logs owes ne still = same_follows true (logs d g) _ (owes d g) _ (ap (λ log. log g) (at_away e d new logs (off_test e d ne)))
    (ap (λ log. log g) (at_away e d new owes (off_test e d ne))) still

-- What a log has held unbroken follows it, and so do the settled groups.
unbroken_follows : (c : Codec) (d g : ℕ) (v : Event) (p : Pool) → May c p v → BeginsNone d v → (p.unbroken d g ≡ true → p.owes d g ≡ true)
    → Follows (p.unbroken d g) ((after v p).unbroken d g) ((after v p).owes d g)
unbroken_follows c d g (Freezes cells board) p m k still = more_follows (p.unbroken d g) (p.owes d g) _ still
    (grown_more (off board) (p.highest + 1) (p.highest + 1) p.owes d g)
unbroken_follows c d g Draws p m k still = more_follows (p.unbroken d g) (p.owes d g) _ still
    (grown_more (off p.group.board) (p.highest + 1) (p.highest + 1) p.owes d g)
unbroken_follows c d g (Leaves e) p m k still = more_follows (p.unbroken d g) (p.owes d g) _ still (grown_more (λ x. e == x) p.group.first p.highest p.owes d g)
unbroken_follows c d g (Grows owes) p m k still = more_follows (p.unbroken d g) (p.owes d g) _ still (m.more d g)
unbroken_follows c d g Burns p m k still = burn_follows p.group.first p.highest p.unbroken p.owes d g still
unbroken_follows c d g (Begins q) p m k still = absurd k
unbroken_follows c d g (Opens r) p m k still = absurd k
unbroken_follows c d g (Joins e n top) p m k still = join_follows e d g (whole_log p.highest) p.unbroken p.owes k still
unbroken_follows c d g (Clears e) p m k still = clear_follows p e d g p.unbroken still
unbroken_follows c d g v p m k still = (λ e. (e, still e), λ e n. e)

settled_follows : (c : Codec) (d g : ℕ) (v : Event) (p : Pool) → May c p v → AcksNone d v → (p.settled d g ≡ true → p.owes d g ≡ true)
    → Follows (p.settled d g) ((after v p).settled d g) ((after v p).owes d g)
settled_follows c d g (Freezes cells board) p m k still = more_follows (p.settled d g) (p.owes d g) _ still
    (grown_more (off board) (p.highest + 1) (p.highest + 1) p.owes d g)
settled_follows c d g Draws p m k still = more_follows (p.settled d g) (p.owes d g) _ still
    (grown_more (off p.group.board) (p.highest + 1) (p.highest + 1) p.owes d g)
settled_follows c d g (Leaves e) p m k still = more_follows (p.settled d g) (p.owes d g) _ still (grown_more (λ x. e == x) p.group.first p.highest p.owes d g)
settled_follows c d g (Grows owes) p m k still = more_follows (p.settled d g) (p.owes d g) _ still (m.more d g)
settled_follows c d g Burns p m k still = burn_follows p.group.first p.highest p.settled p.owes d g still
settled_follows c d g (Acks q) p m k still = absurd k
settled_follows c d g (Opens r) p m k still = absurd k
settled_follows c d g (Joins e n top) p m k still = join_follows e d g (whole_log p.highest) p.settled p.owes k still
settled_follows c d g (Clears e) p m k still = clear_follows p e d g p.settled still
settled_follows c d g v p m k still = (λ e. (e, still e), λ e n. e)

owes_first : (p : Pool) (d g : ℕ) (vs : List Event) → OwesThroughout p d g vs → p.owes d g ≡ true
owes_first p d g [] o = o
owes_first p d g (v ∷ vs) o = o.0

owes_last : (p : Pool) (d g : ℕ) (vs : List Event) → OwesThroughout p d g vs → (pool_after vs p).owes d g ≡ true
owes_last p d g [] o = o
owes_last p d g (v ∷ vs) o = owes_last (after v p) d g vs o.1

throughout_more : (p : Pool) (d g : ℕ) (first second : List Event)
    → OwesThroughout p d g (first ++ second) ↔ (OwesThroughout p d g first × OwesThroughout (pool_after first p) d g second)
throughout_more p d g [] second = (λ o. (owes_first p d g second o, o), λ o. o.1)
throughout_more p d g (v ∷ first) second = (
  λ o. let r = (throughout_more (after v p) d g first second).0 o.1 in ((o.0, r.0), r.1),
  λ o. (o.0.0, (throughout_more (after v p) d g first second).1 (o.0.1, o.1)),
)

-- What follows a log behind each event is what the log had throughout.
along : (c : Codec) (d g : ℕ) (f : Pool → Bool) (Kind : Event → Type 0)
    → ((v : Event) (p : Pool) → May c p v → Kind v → (f p ≡ true → p.owes d g ≡ true) → Follows (f p) (f (after v p)) ((after v p).owes d g))
    → (vs : List Event) (p : Pool) → Mays c p vs → AllByRecursion Kind vs → (f p ≡ true → p.owes d g ≡ true)
    → (f (pool_after vs p) ≡ true) ↔ ((f p ≡ true) × OwesThroughout p d g vs)
along c d g f Kind step [] p mays all still = (λ e. (e, still e), λ o. o.0)
along c d g f Kind step (v ∷ vs) p mays all still = both (along c d g f Kind step vs (after v p) mays.1 all.1 (λ e. (now.0 e).1))
  where
    now : Follows (f p) (f (after v p)) ((after v p).owes d g)
    now = step v p mays.0 all.0 still

    both : (f (pool_after vs (after v p)) ≡ true) ↔ ((f (after v p) ≡ true) × OwesThroughout (after v p) d g vs)
        → (f (pool_after vs (after v p)) ≡ true) ↔ ((f p ≡ true) × ((p.owes d g ≡ true) × OwesThroughout (after v p) d g vs))
    both rest = (λ e. let r = rest.0 e in let s = now.0 r.0 in (s.0, (still s.0, r.1)), λ o. rest.1 (now.1 o.0 (owes_first (after v p) d g vs o.1.1), o.1.1))

-- since the beginning of the round of the last acknowledged record
pub settled_since : (c : Codec) (p : Pool) (q : Rec) (d g : ℕ) (between later : List Event) → Mays c p (Begins q ∷ (between ++ (Acks q ∷ later)))
    → AllByRecursion (BeginsNone d) between → AllByRecursion (AcksNone d) later
    → ((pool_after (Begins q ∷ (between ++ (Acks q ∷ later))) p).settled d g ≡ true) ↔ OwesThroughout (after (Begins q) p) d g (between ++ (Acks q ∷ later))
settled_since c p q d g between later mays none unacked = subst (λ x. (x.settled d g ≡ true) ↔ OwesThroughout p1 d g (between ++ (Acks q ∷ later)))
    (sym (pool_more between (Acks q ∷ later) p1)) (λ e. whole (second.0 e), λ o. parts o)
  where
    p1 : Pool
    p1 = after (Begins q) p

    p2 : Pool
    p2 = pool_after between p1

    first : (p2.unbroken d g ≡ true) ↔ ((p1.unbroken d g ≡ true) × OwesThroughout p1 d g between)
    first = along c d g (λ p. p.unbroken d g) (BeginsNone d) (unbroken_follows c d g) between p1 (mays_first c between (Acks q ∷ later) p1 mays.1) none (λ e. e)

    second : ((pool_after later (after (Acks q) p2)).settled d g ≡ true) ↔ ((p2.unbroken d g ≡ true) × OwesThroughout (after (Acks q) p2) d g later)
    second = along c d g (λ p. p.settled d g) (AcksNone d) (settled_follows c d g) later (after (Acks q) p2)
        (mays_second c between (Acks q ∷ later) p1 mays.1).1 unacked (λ e. owes_last p1 d g between (first.0 e).1)

    whole : (p2.unbroken d g ≡ true) × OwesThroughout (after (Acks q) p2) d g later → OwesThroughout p1 d g (between ++ (Acks q ∷ later))
    whole r = let f = (first.0 r.0).1 in (throughout_more p1 d g between (Acks q ∷ later)).1 (f, (owes_last p1 d g between f, r.1))

    parts : OwesThroughout p1 d g (between ++ (Acks q ∷ later)) → (pool_after later (after (Acks q) p2)).settled d g ≡ true
    parts o = let r = (throughout_more p1 d g between (Acks q ∷ later)).0 o in second.1 (first.1 (owes_first p1 d g between r.0, r.0), r.1.1)

-- until a round begins the settled groups of a leaf that was brought in are those that its log held
alike_by : (d g : ℕ) (v : Event) (p : Pool) → BeginsNone d v → p.settled d g ≡ p.unbroken d g → (after v p).settled d g ≡ (after v p).unbroken d g
alike_by d g (Begins q) p k e = absurd k
alike_by d g (Opens r) p k e = absurd k
alike_by d g (Acks q) p k e = refl
alike_by d g Burns p k e = ap (λ t. cond (between p.group.first p.highest g) false t) e
alike_by d g (Joins f n top) p k e = ap (λ log. log g) (at_away f d (whole_log p.highest) p.settled (off_test f d k)) ∙ (e
    ∙ sym (ap (λ log. log g) (at_away f d (whole_log p.highest) p.unbroken (off_test f d k))))
alike_by d g (Clears f) p k e = by_bool (f == d)
    (λ here. ap (λ log. log g) (at_here f d (kept_in log (p.settled f)) p.settled here) ∙ (ap (λ t. log g && t) (same here)
    ∙ sym (ap (λ log. log g) (at_here f d (kept_in log (p.unbroken f)) p.unbroken here))))
    (λ away. ap (λ log. log g) (at_away f d (kept_in log (p.settled f)) p.settled away) ∙ (e
    ∙ sym (ap (λ log. log g) (at_away f d (kept_in log (p.unbroken f)) p.unbroken away))))
  where
    log : ℕ → Bool
    log = scanned_log p.scan f (p.owes f)

    same : (f == d) ≡ true → p.settled f g ≡ p.unbroken f g
    same here = subst (λ d. p.settled d g ≡ p.unbroken d g) (sym (same_device f d here)) e
alike_by d g v p k e = e

alike : (d g : ℕ) (vs : List Event) (p : Pool) → AllByRecursion (BeginsNone d) vs → p.settled d g ≡ p.unbroken d g
    → (pool_after vs p).settled d g ≡ (pool_after vs p).unbroken d g
alike d g [] p all e = e
alike d g (v ∷ vs) p all e = alike d g vs (after v p) all.1 (alike_by d g v p all.0 e)

-- since the leaf was brought in, behind whose coming no round was both begun and acknowledged
pub settled_since_joined : (c : Codec) (p : Pool) (d : ℕ) (m : Guid) (top g : ℕ) (first second : List Event) → Mays c p (Joins d m top ∷ (first ++ second))
    → AllByRecursion (BeginsNone d) first → AllByRecursion (AcksNone d) second
    → ((pool_after (Joins d m top ∷ (first ++ second)) p).settled d g ≡ true) ↔ OwesThroughout (after (Joins d m top) p) d g (first ++ second)
settled_since_joined c p d m top g first second mays none unacked = subst (λ x. (x.settled d g ≡ true) ↔ OwesThroughout p1 d g (first ++ second))
    (sym (pool_more first second p1)) (λ e. whole (back.0 e), λ o. parts o)
  where
    p1 : Pool
    p1 = after (Joins d m top) p

    p2 : Pool
    p2 = pool_after first p1

    same : (d == d) ≡ true
    same = grind (arith, nat_tests)

    unbroken_is : p1.unbroken d g ≡ p1.owes d g
    unbroken_is = ap (λ log. log g) (at_here d d (whole_log p.highest) p.unbroken same)
        ∙ sym (ap (λ log. log g) (at_here d d (whole_log p.highest) p.owes same))

    settled_is : p1.settled d g ≡ p1.unbroken d g
    settled_is = ap (λ log. log g) (at_here d d (whole_log p.highest) p.settled same)
        ∙ sym (ap (λ log. log g) (at_here d d (whole_log p.highest) p.unbroken same))

    front : (p2.unbroken d g ≡ true) ↔ ((p1.unbroken d g ≡ true) × OwesThroughout p1 d g first)
    front = along c d g (λ p. p.unbroken d g) (BeginsNone d) (unbroken_follows c d g) first p1
        (mays_first c first second p1 mays.1) none (λ e. sym unbroken_is ∙ e)

    one : p2.settled d g ≡ p2.unbroken d g
    one = alike d g first p1 none settled_is

    back : ((pool_after second p2).settled d g ≡ true) ↔ ((p2.settled d g ≡ true) × OwesThroughout p2 d g second)
    back = along c d g (λ p. p.settled d g) (AcksNone d) (settled_follows c d g) second p2 (mays_second c first second p1 mays.1) unacked
        (λ e. owes_last p1 d g first (front.0 (sym one ∙ e)).1)

    whole : (p2.settled d g ≡ true) × OwesThroughout p2 d g second → OwesThroughout p1 d g (first ++ second)
    whole r = (throughout_more p1 d g first second).1 ((front.0 (sym one ∙ r.0)).1, r.1)

    parts : OwesThroughout p1 d g (first ++ second) → (pool_after second p2).settled d g ≡ true
    parts o = let r = (throughout_more p1 d g first second).0 o in
        back.1 (one ∙ front.1 (unbroken_is ∙ owes_first p1 d g first r.0, r.0), r.1)

-- behind an opening nothing is, until an acknowledgement
pub opening_settles_none : (c : Codec) (p : Pool) (r : Rec) (d g : ℕ) (vs : List Event) → Mays c p (Opens r ∷ vs) → AllByRecursion (AcksNone d) vs
    → (pool_after (Opens r ∷ vs) p).settled d g ≡ false
opening_settles_none c p r d g vs mays none = not_true ((pool_after (Opens r ∷ vs) p).settled d g) (λ e. not_now (all.0 e).0)
  where
    not_now : false ≡ true → ⊥
    not_now e = cc

    all : ((pool_after vs (after (Opens r) p)).settled d g ≡ true) ↔ ((false ≡ true) × OwesThroughout (after (Opens r) p) d g vs)
    all = along c d g (λ p. p.settled d g) (AcksNone d) (settled_follows c d g) vs (after (Opens r) p) mays.1 none (λ e. absurd (not_now e))

-- Each live record has a settled group in the log of a member.
pub settled_recorded : (c : Codec) (p : Pool) (d g : ℕ) (r : Rec) → Survives c p → p.member d ≡ true → p.settled d g ≡ true → IsIn r p.live
    → r.owes (p.guid d) g ≡ true
settled_recorded c p d g r sv is held i = sv.unbroken.settled_live d g is held r i
