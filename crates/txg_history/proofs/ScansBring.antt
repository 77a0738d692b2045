-- What a scan came past was brought to each eligible leaf, told by the history.
use Rattle.std.proofs.Common.{
  ◌≡◌,
  ◌⊎◌,
  ℕ,
  ◌+◌,
  ◌≤◌,
  ◌==◌,
  nat_le,
  Bool,
  true,
  false,
  cond,
  List,
  [],
  ◌∷◌,
  ◌++◌,
  Some,
  refl,
  sym,
  ap,
  ◌∙◌,
  subst,
  inl,
  inr,
  arith,
  ⊎_elim,
}
use Rattle.std.proofs.lemmas.Bool.Decides.{nat_tests}
use Rattle.std.specs.List.{AllByRecursion}
use Rattle.mp_base.specs.declared.place.Key.{Key}
use Rattle.txg_history.specs.Copies.{NeverScans, WasBrought, IsCopiedGroup, MayTakeGroup}
use Rattle.txg_history.specs.Events.{Event, Freezes, Draws, Leaves, Grows, Burns, Acks, Opens, Joins, Loses, Scans, Passes, Drops, Clears, Rests, Stops}
use Rattle.txg_history.specs.Groups.{Logs, at_device, off, grown}
use Rattle.txg_history.specs.Moves.{WasCopied, MayPass, MayClear, May, Mays}
use Rattle.txg_history.specs.Pages.{Codec}
use Rattle.txg_history.specs.Pools.{Pool, other_than, whole_log, after, pool_after}
use Rattle.txg_history.specs.Records.{Cell, data_start}
use Rattle.txg_history.specs.Scans.{scanned_log}
use Rattle.txg_history.specs.Survival.{Survives}
use Rattle.txg_history.proofs.Folding.{pool_more, mays_first, mays_second, taken_false, other_was}
use Rattle.txg_history.proofs.Listing.{same_cell}
use Rattle.txg_history.proofs.Logging.{by_bool, true_not_false, not_true, at_here, at_away, grown_more, cleared_false}
use Rattle.txg_history.proofs.Moving.{event_survives}
use Rattle.txg_history.proofs.RoundsSurvive.{acked_tree, acked_cell}

-- This is so of each key that the running scan came past, on each eligible leaf of its top whose SCRUB log lacks its birth.
abbrev IsOfPassed : (P : ℕ → Key → Cell → Type 0) → Pool → Type 0
IsOfPassed P p = p.scan.running ≡ true → (d : ℕ) (k : Key) (cell : Cell) → p.member d ≡ true → p.scan.eligible d ≡ true
    → p.reads.cells k ≡ Some cell → p.in_top d ≡ cell.top → p.scan.passed k ≡ true → cell.birth ≤ p.scan.hi
    → p.scan.scrub d cell.birth ≡ false → P d k cell

-- the event passes the key
record PassesNow (p : Pool) (v : Event) (d : ℕ) (k : Key) (cell : Cell) : Type 0 where
  scrub : Logs
  is : v ≡ Passes k scrub
  was_key : p.reads.cells k ≡ Some cell
  was_eligible : p.scan.eligible d ≡ true
  brought : (p.owes d cell.birth ≡ false) ⊎ WasCopied p d cell

-- it was so before the event, which starts no scan, or the event passes the key
abbrev IsSoOrNow : (P : ℕ → Key → Cell → Type 0) → Pool → Event → (d : ℕ) → Key → Cell → Type 0
IsSoOrNow P p v d k cell = (P d k cell × NeverScans v) ⊎ PassesNow p v d k cell

passed_now : (c : Codec) (p : Pool) (j : Key) (scrub : Logs) (d : ℕ) (k : Key) (cell : Cell) → (m : MayPass p j scrub) → p.member d ≡ true
    → p.scan.eligible d ≡ true → p.reads.cells k ≡ Some cell → p.in_top d ≡ cell.top → scrub d cell.birth ≡ false → k ≡ j
    → PassesNow p (Passes j scrub) d k cell
passed_now c p j scrub d k cell m is on at top clean same = record {
  scrub = scrub;
  is = ap (λ k. Passes k scrub) (sym same);
  was_key = at;
  was_eligible = on;
  brought = subst (λ cell. (p.owes d cell.birth ≡ false) ⊎ WasCopied p d cell) one
      (of (m.each d is on (top ∙ ap (λ cell. cell.top) (sym one))));
}
  where
    one : m.cell ≡ cell
    one = same_cell m.cell cell (sym m.cell_is ∙ (sym (ap p.reads.cells same) ∙ at))

    of : (p.owes d m.cell.birth ≡ false) ⊎ ((scrub d m.cell.birth ≡ true) ⊎ WasCopied p d m.cell)
        → (p.owes d m.cell.birth ≡ false) ⊎ WasCopied p d m.cell
    of (inl lacks) = inl lacks
    of (inr (inl failed)) = true_not_false (scrub d m.cell.birth) failed (ap (λ cell. scrub d cell.birth) one ∙ clean)
    of (inr (inr copied)) = inr copied

event_brings : (c : Codec) (P : ℕ → Key → Cell → Type 0) (v : Event) (p : Pool) → Survives c p → May c p v → IsOfPassed P p
    → IsOfPassed (IsSoOrNow P p v) (after v p)
event_brings c P (Scans hi eligible) p sv m h = λ on d k cell is el at top passed low clean. absurd (cc)
event_brings c P (Rests) p sv m h = λ on d k cell is el at top passed low clean. absurd (cc)
event_brings c P (Opens r) p sv m h = λ on d k cell is el at top passed low clean. absurd (cc)
event_brings c P (Stops sectors size) p sv m h = λ on d k cell is el at top passed low clean. absurd (cc)
event_brings c P (Passes j scrub) p sv m h = λ on d k cell is el at top passed low clean. by_bool (p.scan.passed k)
    (λ old. inl (
      h on d k cell is el at top old low
          (not_true (p.scan.scrub d cell.birth) (λ has. true_not_false (scrub d cell.birth) (m.more d cell.birth has) clean)),
      tt,
    ))
    (λ new. inr (passed_now c p j scrub d k cell m is el at top clean (m.next k cell passed new at low)))
event_brings c P (Acks q) p sv m h = λ on d k cell is el at top passed low clean.
    inl (h on d k cell is el (acked_cell c p q sv m k cell on low at) (acked_tree c p q sv m d k cell is at top) passed low clean, tt)
event_brings c P (Joins e n t) p sv m h = λ on d k cell is el at top passed low clean. by_bool (e == d)
    (λ here. true_not_false (at_device e false p.scan.eligible d) el (at_here e d false p.scan.eligible here))
    (λ away. inl (
      h on d k cell (other_was n p.guid p.member d (sym (at_away e d true (other_than n p.guid p.member) away) ∙ is))
          (sym (at_away e d false p.scan.eligible away) ∙ el) at (sym (at_away e d t p.in_top away) ∙ top) passed low clean,
      tt,
    ))
event_brings c P (Loses e) p sv m h = λ on d k cell is el at top passed low clean.
    inl (h on d k cell (taken_false e d p.member is) el at top passed low clean, tt)
event_brings c P (Drops e) p sv m h = λ on d k cell is el at top passed low clean.
    inl (h on d k cell is (taken_false e d p.scan.eligible el) at top passed low clean, tt)
event_brings c P v p sv m h = λ on d k cell is el at top passed low clean. inl (h on d k cell is el at top passed low clean, tt)

history_brings : (c : Codec) (P : ℕ → Key → Cell → Type 0) (vs : List Event) (p : Pool) → Survives c p → Mays c p vs → IsOfPassed P p
    → IsOfPassed (λ d k cell. (P d k cell × AllByRecursion NeverScans vs) ⊎ WasBrought p vs d k cell) (pool_after vs p)
history_brings c P [] p sv mays h = λ on d k cell is el at top passed low clean. inl (h on d k cell is el at top passed low clean, tt)
history_brings c P (v ∷ vs) p sv mays h = λ on d k cell is el at top passed low clean.
    of d k cell (history_brings c (IsSoOrNow P p v) vs (after v p) (event_survives c p v sv mays.0) mays.1 (event_brings c P v p sv mays.0 h)
    on d k cell is el at top passed low clean)
  where
    of : (d : ℕ) (k : Key) (cell : Cell) → (IsSoOrNow P p v d k cell × AllByRecursion NeverScans vs) ⊎ WasBrought (after v p) vs d k cell
        → (P d k cell × (NeverScans v × AllByRecursion NeverScans vs)) ⊎ WasBrought p (v ∷ vs) d k cell
    of d k cell (inl (inl so, never)) = inl (so.0, (so.1, never))
    of d k cell (inl (inr now, never)) = inr (record {
      before = [];
      scrub = now.scrub;
      later = vs;
      all = ap (λ v. v ∷ vs) now.is;
      same_scan = never;
      was_key = now.was_key;
      was_eligible = now.was_eligible;
      brought = now.brought;
    })
    of d k cell (inr w) = inr (record {
      before = v ∷ w.before;
      scrub = w.scrub;
      later = w.later;
      all = ap (λ l. v ∷ l) w.all;
      same_scan = w.same_scan;
      was_key = w.was_key;
      was_eligible = w.was_eligible;
      brought = w.brought;
    })

-- A scan's end takes a group from a leaf's log only where it copied the group.
pub cleared_copied : (c : Codec) (p : Pool) (vs : List Event) (d g : ℕ) → Survives c p → p.scan.running ≡ false → Mays c p (vs ++ Clears d ∷ [])
    → (pool_after vs p).member d ≡ true → (pool_after vs p).owes d g ≡ true → (pool_after (vs ++ Clears d ∷ []) p).owes d g ≡ false
    → IsCopiedGroup p vs d g
cleared_copied c p vs d g sv off mays is owed lost = record {
  low = low;
  not_scrubbed = clean;
  is_eligible = m.is_eligible;
  brought = λ k cell at born top. ⊎_elim (λ none. absurd (none.0)) (λ w. w)
      (history_brings c (λ d k cell. ⊥) vs p sv (mays_first c vs (Clears d ∷ []) p mays) (λ on. true_not_false p.scan.running on off)
      m.running d k cell is m.is_eligible at top (m.all k cell at (below cell born)) (below cell born) (clean_at cell born));
  kept = λ k cell at born top. m.kept (data_start + cell.sector) cell.block is (record {
    running = m.running;
    is_eligible = m.is_eligible;
    k = k;
    cell = cell;
    cell_is = at;
    top_is = top;
    is_passed = m.all k cell at (below cell born);
    low = below cell born;
    not_scrubbed = clean_at cell born;
    at = record { sector_is = refl; bytes_are = refl };
  });
}
  where
    q : Pool
    q = pool_after vs p

    m : MayClear q d
    m = (mays_second c vs (Clears d ∷ []) p mays).0

    same : (d == d) ≡ true
    same = grind (arith, nat_tests)

    left : scanned_log q.scan d (q.owes d) g ≡ false
    left = sym (ap (λ log. log g) (at_here d d (scanned_log q.scan d (q.owes d)) q.owes same))
        ∙ (sym (ap (λ x. x.owes d g) (pool_more vs (Clears d ∷ []) p)) ∙ lost)

    both : (nat_le g q.scan.hi ≡ true) × (q.scan.scrub d g ≡ false)
    both = of (nat_le g q.scan.hi) refl left
      where
        of : (t : Bool) → nat_le g q.scan.hi ≡ t → cond t (q.scan.scrub d g) (q.owes d g) ≡ false → (nat_le g q.scan.hi ≡ true) × (q.scan.scrub d g ≡ false)
        of true e f = (e, f)
        of false e f = true_not_false (q.owes d g) owed f

    low : g ≤ q.scan.hi
    low = let e : nat_le g q.scan.hi ≡ true = both.0 in grind (arith, nat_tests)

    clean : q.scan.scrub d g ≡ false
    clean = both.1

    below : (cell : Cell) → cell.birth ≡ g → cell.birth ≤ q.scan.hi
    below cell born = let le = low in omega (arith, born, le)

    clean_at : (cell : Cell) → cell.birth ≡ g → q.scan.scrub d cell.birth ≡ false
    clean_at cell born = ap (q.scan.scrub d) born ∙ clean

taken_here : (e d : ℕ) (x : ℕ → Bool) (f : ℕ → ℕ → Bool) (g : ℕ) → f d g ≡ true → at_device e x f d g ≡ false → e ≡ d
taken_here e d x f g has lost = by_bool (e == d) (λ here. let same : e ≡ d = grind (arith, nat_tests) in same)
    (λ away. true_not_false (f d g) has (sym (ap (λ log. log g) (at_away e d x f away)) ∙ lost))

-- Which events take a group from a log.
pub groups_leave : (c : Codec) (p : Pool) (v : Event) (d g : ℕ) → May c p v → p.owes d g ≡ true → (after v p).owes d g ≡ false → MayTakeGroup p v d g
groups_leave c p (Clears e) d g m has lost = taken_here e d (scanned_log p.scan e (p.owes e)) p.owes g has lost
groups_leave c p Burns d g m has lost = ⊎_elim (λ in_group. in_group) (λ lacks. true_not_false (p.owes d g) has lacks)
    (cleared_false p.group.first p.highest p.owes d g lost)
groups_leave c p (Opens r) d g m has lost = (m, lost)
groups_leave c p (Joins e n t) d g m has lost = taken_here e d (whole_log p.highest) p.owes g has lost
groups_leave c p (Freezes cells board) d g m has lost =
    true_not_false (grown (off board) (p.highest + 1) (p.highest + 1) p.owes d g)
    (grown_more (off board) (p.highest + 1) (p.highest + 1) p.owes d g has) lost
groups_leave c p Draws d g m has lost = true_not_false (grown (off p.group.board) (p.highest + 1) (p.highest + 1) p.owes d g)
    (grown_more (off p.group.board) (p.highest + 1) (p.highest + 1) p.owes d g has) lost
groups_leave c p (Leaves e) d g m has lost = true_not_false (grown (λ f. e == f) p.group.first p.highest p.owes d g)
    (grown_more (λ f. e == f) p.group.first p.highest p.owes d g has) lost
groups_leave c p (Grows owes) d g m has lost = true_not_false (owes d g) (m.more d g has) lost
groups_leave c p v d g m has lost = true_not_false (p.owes d g) has lost
