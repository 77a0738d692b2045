-- Logs that the engine widens are widened by moves.
use Rattle.std.proofs.Common.{◌≡◌, ◌⊎◌, inl, inr, ℕ, zero, suc, ◌+◌, ◌<◌, ◌≤◌, ◌^◌, ◌==◌, ◌&&◌, not, cond, Bool, true, false, List, [], ◌∷◌, ◌++◌, length, map, Some, refl, sym, ap, ◌∙◌, subst, arith, append_assoc, append-nil}
use Rattle.std.proofs.Math.Path.{fun_ext}
use Rattle.std.specs.Prelude.{All, nat_lt}
use Rattle.std.specs.List.{AllByRecursion, AllZip}
use Rattle.std.proofs.lemmas.Bool.{true≢false, false_from_ne_true, true_from_ne_false}
use Rattle.std.proofs.lemmas.Bool.Decides.{nat_tests}
use Rattle.std.proofs.lemmas.List.Elements.{recursion_from_All}
use Rattle.mp_base.specs.declared.number.Guid.{Guid}
use Rattle.group_set.specs.Groups.{Groups, holds, IsWidened}
use Rattle.group_set.specs.Ranges.{ranges_upto}
use Rattle.group_set.proofs.Counted.{upto_counted, upto_whole, upto_some}
use Rattle.vdev_tree.specs.declared.vdev.LeafVdev.{LeafVdev}
use Rattle.dtl_rules.specs.Widening.{IsCounted, ranges_of, total_ranges, most_ranges, none_has, WidensLeaf, WidensFirst, Widenings, none, more}
use Rattle.dtl_rules.proofs.Totals.{total_of_few}
use Rattle.txg_engine.proofs.Ready.{nothing}
use Rattle.txg_history.specs.Groups.{between}
use Rattle.pool_moves.specs.Leaves.{LeafSeen}
use Rattle.pool_moves.specs.Moves.{Move, Widen, leaf_step, step, log_grown}
use Rattle.pool_moves.specs.States.{ScanSeen, PoolSeen}
use Rattle.pool_moves.specs.Widening.{ranges_in, ranges_together, widest_of, widest, IsSpanned, IsWidening, AreWidens, seen_along}
use Rattle.open_pool.proofs.NumbersApart.{Differ, leaf_numbers, itself, turned_test}

-- a leaf of the state has this leaf's number and log
pub record IsLogged (leaf : LeafSeen) (vdev : LeafVdev) : Type 0 where
  pub guid : leaf.guid ≡ vdev.guid
  pub owes : leaf.owes ≡ holds vdev.log

abbrev pub AreLogged : List LeafSeen → List LeafVdev → Type 0
AreLogged leaves vdevs = AllZip IsLogged leaves vdevs

-- the state's leaves with these leaves' logs
abbrev pub with_log : LeafVdev → LeafSeen → LeafSeen
with_log vdev leaf = record leaf { owes = holds vdev.log }

abbrev pub with_logs : List LeafVdev → List LeafSeen → List LeafSeen
with_logs [] leaves = []
with_logs (vdev ∷ vdevs) [] = []
with_logs (vdev ∷ vdevs) (leaf ∷ leaves) = with_log vdev leaf ∷ with_logs vdevs leaves

abbrev pub relogged : List LeafVdev → PoolSeen → PoolSeen
relogged vdevs s = record s { leaves = with_logs vdevs s.leaves }

-- a log within the numbers up to this one
abbrev pub IsWithin : (number : ℕ) → LeafVdev → Type 0
IsWithin number vdev = (g : ℕ) → holds vdev.log g ≡ true → (1 ≤ g) × (g ≤ number)

-- the same leaf, but for its log
abbrev pub IsLikeIt : LeafVdev → LeafVdev → Type 0
IsLikeIt old new = (log : Groups) → record old { log = log } ≡ record new { log = log }

-- the log is within the numbers, and has as many ranges as the code counts
pub record IsRanged (number : ℕ) (vdev : LeafVdev) : Type 0 where
  pub within : IsWithin number vdev
  pub ranges : length (ranges_upto (holds vdev.log) number) ≡ ranges_of vdev

ranged_leaf : (number : ℕ) (vdev : LeafVdev) → number ≤ 2 ^ 62 → IsWithin number vdev → IsCounted vdev
    → IsRanged number vdev
ranged_leaf number vdev low within counted = record {
  within = within;
  ranges = upto_counted vdev.log number
      (ranges_of vdev) low within counted;
}

ranged_all : (number : ℕ) (vdevs : List LeafVdev) → number ≤ 2 ^ 62 → AllByRecursion (IsWithin number) vdevs
    → AllByRecursion IsCounted vdevs → AllByRecursion (IsRanged number) vdevs
ranged_all number [] low within counted = tt
ranged_all number (vdev ∷ vdevs) low within counted = (ranged_leaf number vdev low within.0 counted.0, ranged_all number vdevs low within.1 counted.1)

-- Ranges are counted alike.
logged_ranges : (number : ℕ) (leaf : LeafSeen) (vdev : LeafVdev) → IsLogged leaf vdev → IsRanged number vdev
    → ranges_in number leaf ≡ ranges_of vdev
logged_ranges number leaf vdev is ranged = ap (λ log. length (ranges_upto log number)) is.owes ∙ ranged.ranges

total_is : (number : ℕ) (leaves : List LeafSeen) (vdevs : List LeafVdev) → AreLogged leaves vdevs
    → AllByRecursion (IsRanged number) vdevs
    → ranges_together number leaves ≡ total_ranges vdevs
total_is number [] [] logged ranged = refl
total_is number [] (vdev ∷ vdevs) logged ranged = absurd logged
total_is number (leaf ∷ leaves) [] logged ranged = absurd logged
total_is number (leaf ∷ leaves) (vdev ∷ vdevs) logged ranged =
    ap (λ n. n + ranges_together number leaves) (logged_ranges number leaf vdev logged.0 ranged.0)
    ∙ ap (λ n. ranges_of vdev + n) (total_is number leaves vdevs logged.1 ranged.1)

-- The log with the most ranges, the first on a tie.
abbrev HasFewer : (number most : ℕ) → LeafSeen → Type 0
HasFewer number most leaf = ranges_in number leaf ≤ most

few_seen : (number most : ℕ) (leaves : List LeafSeen) (vdevs : List LeafVdev) → AreLogged leaves vdevs
    → AllByRecursion (IsRanged number) vdevs → most_ranges vdevs ≤ most
    → AllByRecursion (HasFewer number most) leaves
few_seen number most [] vdevs logged ranged few = tt
few_seen number most (leaf ∷ leaves) [] logged ranged few = absurd logged
few_seen number most (leaf ∷ leaves) (vdev ∷ vdevs) logged ranged few = (
  (let is = logged_ranges number leaf vdev logged.0 ranged.0 in omega (arith, is, few)),
  few_seen number most leaves vdevs logged.1 ranged.1 (omega (arith, few)),
)

not_more : (a b : ℕ) → b ≤ a → nat_lt a b ≡ false
not_more a b le = false_from_ne_true (nat_lt a b)
    (λ yes. let lt : a < b = grind (arith, nat_tests) in omega (arith, lt, le))

is_more : (a b : ℕ) → a < b → nat_lt a b ≡ true
is_more a b lt = true_from_ne_false (nat_lt a b)
    (λ other. let le : b ≤ a = grind (arith, nat_tests) in omega (arith, lt, le))

stays_widest : (number most : ℕ) (best : LeafSeen) (leaves : List LeafSeen) → ranges_in number best ≡ most
    → AllByRecursion (HasFewer number most) leaves
    → widest_of number best leaves ≡ best
stays_widest number most best [] is few = refl
stays_widest number most best (leaf ∷ leaves) is few =
    ap (λ b. widest_of number (cond b leaf best) leaves) (not_more (ranges_in number best) (ranges_in number leaf) (let n = few.0 in omega (arith, is, n)))
    ∙ stays_widest number most best leaves is few.1

-- the leaf of the state that stands where this one does
pub record IsAt (number : ℕ) (leaves : List LeafSeen) (vdev : LeafVdev) : Type 0 where
  pub leaf : LeafSeen
  pub logged : IsLogged leaf vdev
  pub widest : widest number leaves ≡ Some leaf

record ComesToBest (number : ℕ) (best : LeafSeen) (leaves : List LeafSeen) (vdev : LeafVdev) : Type 0 where
  leaf : LeafSeen
  logged : IsLogged leaf vdev
  widest : widest_of number best leaves ≡ leaf

none_first : (r : ℕ) (x : LeafVdev) (before : List LeafVdev) → none_has r (x ∷ before) ≡ true
    → ((ranges_of x == r) ≡ false) × (none_has r before ≡ true)
none_first r x before is = one (ranges_of x == r) (none_has r before) is
  where
    one : (a b : Bool) → (not a && b) ≡ true → (a ≡ false) × (b ≡ true)
    one true b e = absurd (true≢false (sym e))
    one false b e = (refl, e)

fewer_than : (n r : ℕ) → (n == r) ≡ false → n ≤ r → n < r
fewer_than n r other le = grind (arith, nat_tests)

comes_to : (number r : ℕ) (before behind : List LeafVdev) (vdev : LeafVdev) (best : LeafSeen) (leaves : List LeafSeen)
    → ranges_in number best < r
    → AreLogged leaves (before ++ vdev ∷ behind) → AllByRecursion (IsRanged number) (before ++ vdev ∷ behind)
    → none_has r before ≡ true → ranges_of vdev ≡ r
    → most_ranges (before ++ vdev ∷ behind) ≤ r → ComesToBest number best leaves vdev
comes_to number r [] behind vdev best [] fewer logged ranged earlier large few = absurd logged
comes_to number r [] behind vdev best (leaf ∷ leaves) fewer logged ranged earlier large few =
    let is = logged_ranges number leaf vdev logged.0 ranged.0 in
    record {
      leaf = leaf;
      logged = logged.0;
      widest = ap (λ b. widest_of number (cond b leaf best) leaves)
          (is_more (ranges_in number best) (ranges_in number leaf) (omega (arith, fewer, is, large)))
          ∙ stays_widest number r leaf leaves (is ∙ large)
          (few_seen number r leaves behind logged.1 ranged.1 (omega (arith, few)));
    }
comes_to number r (x ∷ before) behind vdev best [] fewer logged ranged earlier large few = absurd logged
comes_to number r (x ∷ before) behind vdev best (leaf ∷ leaves) fewer logged ranged earlier large few =
    let parts = none_first r x before earlier in
    let is = logged_ranges number leaf x logged.0 ranged.0 in
    let here : ranges_in number leaf < r = (let lt = fewer_than (ranges_of x) r parts.0 (omega (arith, few)) in omega
    (arith, is, lt)) in
    let go = comes_to number r before behind vdev
    (cond (nat_lt (ranges_in number best) (ranges_in number leaf)) leaf best) leaves
    (either (nat_lt (ranges_in number best) (ranges_in number leaf)) here fewer) logged.1 ranged.1 parts.1 large
    (omega (arith, few)) in
    record { leaf = go.leaf; logged = go.logged; widest = go.widest }
  where
    either : (t : Bool) → ranges_in number leaf < r → ranges_in number best < r
        → ranges_in number (cond t leaf best) < r
    either true a b = a
    either false a b = b

found_widest : (number r : ℕ) (before behind : List LeafVdev) (vdev : LeafVdev) (leaves : List LeafSeen)
    → AreLogged leaves (before ++ vdev ∷ behind)
    → AllByRecursion (IsRanged number) (before ++ vdev ∷ behind) → none_has r before ≡ true → ranges_of vdev ≡ r
    → most_ranges (before ++ vdev ∷ behind) ≤ r → IsAt number leaves vdev
found_widest number r [] behind vdev [] logged ranged earlier large few = absurd logged
found_widest number r [] behind vdev (leaf ∷ leaves) logged ranged earlier large few =
    let is = logged_ranges number leaf vdev logged.0 ranged.0 in
    record {
      leaf = leaf;
      logged = logged.0;
      widest = ap (λ l. Some l)
          (stays_widest number r leaf leaves (is ∙ large)
          (few_seen number r leaves behind logged.1 ranged.1 (omega (arith, few))));
    }
found_widest number r (x ∷ before) behind vdev [] logged ranged earlier large few = absurd logged
found_widest number r (x ∷ before) behind vdev (leaf ∷ leaves) logged ranged earlier large few =
    let parts = none_first r x before earlier in
    let is = logged_ranges number leaf x logged.0 ranged.0 in
    let lt = fewer_than (ranges_of x) r parts.0 (omega (arith, few)) in
    let go = comes_to number r before behind vdev leaf leaves (omega (arith, is, lt)) logged.1 ranged.1 parts.1 large
    (omega (arith, few)) in
    record { leaf = go.leaf; logged = go.logged; widest = ap (λ l. Some l) go.widest }

-- The least and the greatest group of a log.
record SpansUpTo (set : ℕ → Bool) (n : ℕ) : Type 0 where
  low : ℕ
  high : ℕ
  below : low ≤ n
  low_in : set low ≡ true
  high_in : set high ≡ true
  inside : (g : ℕ) → g ≤ n → set g ≡ true → (low ≤ g) × (g ≤ high)

abbrev MaySpan : (set : ℕ → Bool) (n : ℕ) → Type 0
MaySpan set n = ((g : ℕ) → g ≤ n → set g ≡ false) ⊎ SpansUpTo set n

last_or_before : (g n : ℕ) → g ≤ suc n → (g ≡ suc n) ⊎ (g ≤ n)
last_or_before g n le = one (g == suc n) refl
  where
    one : (t : Bool) → (g == suc n) ≡ t → (g ≡ suc n) ⊎ (g ≤ n)
    one true e = inl (let same : g ≡ suc n = grind (arith, nat_tests) in same)
    one false e = inr (let other : (g ≡ suc n) → ⊥ =
        (λ same. true≢false (sym (let yes : (g == suc n) ≡ true = grind (arith, nat_tests) in yes) ∙ e)) in grind
        (arith, nat_tests))

span_up_to : (set : ℕ → Bool) (n : ℕ) → MaySpan set n
span_up_to set zero = at (set 0) refl
  where
    at : (t : Bool) → set 0 ≡ t → MaySpan set 0
    at true is = inr (record {
      low = 0;
      high = 0;
      below = omega arith;
      low_in = is;
      high_in = is;
      inside = λ g le has.
          (omega arith, omega (arith, le));
    })
    at false is = inl (λ g le. ap set (let z : g ≡ 0 = omega (arith, le) in z) ∙ is)
span_up_to set (suc n) = at (set (suc n)) refl (span_up_to set n)
  where
    at : (t : Bool) → set (suc n) ≡ t → MaySpan set n → MaySpan set (suc n)
    at true is (inl out) = inr (record {
      low = suc n;
      high = suc n;
      below = omega arith;
      low_in = is;
      high_in = is;
      inside = λ g le has. elim (last_or_before g n le) [
        | inl e ↦ (omega (arith, e), omega (arith, e))
        | inr before ↦ absurd (true≢false (sym has ∙ out g before))
      ];
    })
    at false is (inl out) = inl (λ g le. elim (last_or_before g n le) [
      | inl e ↦ ap set e ∙ is
      | inr before ↦ out g before
    ])
    at true is (inr span) = inr (record {
      low = span.low;
      high = suc n;
      below = omega (arith, span.below);
      low_in = span.low_in;
      high_in = is;
      inside = λ g le has. elim (last_or_before g n le) [
        | inl e ↦ (omega (arith, e, span.below), omega (arith, e))
        | inr before ↦ ((span.inside g before has).0, omega (arith, before))
      ];
    })
    at false is (inr span) = inr (record {
      low = span.low;
      high = span.high;
      below = omega (arith, span.below);
      low_in = span.low_in;
      high_in = span.high_in;
      inside = λ g le has. elim (last_or_before g n le) [
        | inl e ↦ absurd (true≢false (sym has ∙ ap set e ∙ is))
        | inr before ↦ span.inside g before has
      ];
    })

record HasSpan (set : ℕ → Bool) : Type 0 where
  low : ℕ
  high : ℕ
  spans : IsSpanned set low high

spanned : (set : ℕ → Bool) (n g : ℕ) → ((h : ℕ) → set h ≡ true → h ≤ n) → set g ≡ true → HasSpan set
spanned set n g top has = elim (span_up_to set n) [
  | inl out ↦ absurd (true≢false (sym has ∙ out g (top g has)))
  | inr span ↦ record {
    low = span.low;
    high = span.high;
    spans = record {
      low_in = span.low_in;
      high_in = span.high_in;
      inside = λ h in_it. span.inside h
          (top h in_it) in_it;
    };
  }
]

-- A log that became one range has all from the least to the greatest of its groups.
between_is : (low high g : ℕ) → low ≤ g → g ≤ high → between low high g ≡ true
between_is low high g a b = grind (arith, nat_tests)

between_parts : (low high g : ℕ) → between low high g ≡ true → (low ≤ g) × (g ≤ high)
between_parts low high g is = (grind (arith, nat_tests), grind (arith, nat_tests))

grown_to : (old new : Groups) (low high : ℕ) → IsSpanned (holds old) low high → IsWidened old new → (g : ℕ)
    → cond (between low high g) true (holds old g) ≡ holds new g
grown_to old new low high spans widened g = one (between low high g) refl
  where
    outside : (b : Bool) → between low high g ≡ b → b ≡ false → (h : Bool) → holds new g ≡ h → holds old g ≡ h
    outside b is off true has =
        let w = widened.only g has in
        let a = (spans.inside w.0 w.2).0 in
        let c = (spans.inside w.1 w.3).1 in
        absurd (true≢false (sym (between_is low high g (omega (arith, a, w.4)) (omega (arith, c, w.5))) ∙ is ∙ off))
    outside b is off false has = false_from_ne_true (holds old g)
        (λ there. true≢false (sym (widened.between g g g there there (omega arith) (omega arith)) ∙ has))

    one : (b : Bool) → between low high g ≡ b → cond b true (holds old g) ≡ holds new g
    one true is = let p = between_parts low high g is in sym
        (widened.between low g high spans.low_in spans.high_in p.0 p.1)
    one false is = outside false is refl (holds new g) refl

-- Its widening leaves it within the numbers, with one range.
widened_ranged : (number : ℕ) (old new : LeafVdev) → 1 ≤ ranges_of old → WidensLeaf old new → IsRanged number old
    → IsRanged number new
widened_ranged number old new some w ranged =
    let within : IsWithin number new = (λ g has. let h = w.groups.only g has in
    let a = (ranged.within h.0 h.2).0 in let b = (ranged.within h.1 h.3).1 in
    (omega (arith, a, h.4), omega (arith, b, h.5))) in
    let first = upto_some (holds old.log) number (omega (arith, some, ranged.ranges)) in
    let one = upto_whole (holds new.log) number first.0 within
    (λ a h b in_a in_b low high. let x = w.groups.only a in_a in let y = w.groups.only b in_b in
    w.groups.between x.0 h y.1 x.2 y.3 (omega (arith, x.4, low)) (omega (arith, y.5, high)))
    (w.groups.between first.0 first.0 first.0 first.1 first.1 (omega arith) (omega arith)) in
    record { within = within; ranges = (let few = w.ranges in omega (arith, one, few, some)) }

-- Other leaves have another number.
abbrev IsOther : Guid → LeafVdev → Type 0
IsOther m vdev = (vdev.guid.0 == m.0) ≡ false

behind_others : (vdev : LeafVdev) (behind : List LeafVdev)
    → AllByRecursion (λ k. (vdev.guid.0 == k) ≡ false) (leaf_numbers behind) → AllByRecursion (IsOther vdev.guid) behind
behind_others vdev [] differ = tt
behind_others vdev (x ∷ behind) differ = (turned_test vdev.guid.0 x.guid.0 differ.0, behind_others vdev behind differ.1)

at_middle : (n : ℕ) (before behind : List LeafVdev) (vdev : LeafVdev)
    → AllByRecursion (λ k. (n == k) ≡ false) (leaf_numbers (before ++ vdev ∷ behind)) → (n == vdev.guid.0) ≡ false
at_middle n [] behind vdev differ = differ.0
at_middle n (x ∷ before) behind vdev differ = at_middle n before behind vdev differ.1

others_before : (before behind : List LeafVdev) (vdev : LeafVdev) → Differ (leaf_numbers (before ++ vdev ∷ behind))
    → AllByRecursion (IsOther vdev.guid) before
others_before [] behind vdev differ = tt
others_before (x ∷ before) behind vdev differ = (at_middle x.guid.0 before behind vdev differ.0, others_before before behind vdev differ.1)

others_behind : (before behind : List LeafVdev) (vdev : LeafVdev) → Differ (leaf_numbers (before ++ vdev ∷ behind))
    → AllByRecursion (IsOther vdev.guid) behind
others_behind [] behind vdev differ = behind_others vdev behind differ.0
others_behind (x ∷ before) behind vdev differ = others_behind before behind vdev differ.1

-- The move gives each leaf the log that it has behind it.
other_stays : (m : Guid) (low high number first : ℕ) (scan : ScanSeen) (leaf : LeafSeen) (vdev : LeafVdev) → IsLogged leaf vdev
    → IsOther m vdev
    → leaf_step (Widen m low high) number first scan leaf ≡ with_log vdev leaf
other_stays m low high number first scan leaf vdev is other =
    let off : (leaf.guid.0 == m.0) ≡ false = ap (λ (g : Guid). g.0 == m.0) is.guid ∙ other in
    ap (λ b. record leaf { owes = log_grown b low high leaf.owes }) off ∙ ap (λ log. record leaf { owes = log }) is.owes

others_stay : (m : Guid) (low high number first : ℕ) (scan : ScanSeen) (leaves : List LeafSeen) (vdevs : List LeafVdev)
    → AreLogged leaves vdevs → AllByRecursion (IsOther m) vdevs
    → map (leaf_step (Widen m low high) number first scan) leaves ≡ with_logs vdevs leaves
others_stay m low high number first scan [] [] logged others = refl
others_stay m low high number first scan [] (vdev ∷ vdevs) logged others = absurd logged
others_stay m low high number first scan (leaf ∷ leaves) [] logged others = absurd logged
others_stay m low high number first scan (leaf ∷ leaves) (vdev ∷ vdevs) logged others =
    ap (λ l. l ∷ map (leaf_step (Widen m low high) number first scan) leaves)
    (other_stays m low high number first scan leaf vdev logged.0 others.0)
    ∙ ap (λ ls. with_log vdev leaf ∷ ls) (others_stay m low high number first scan leaves vdevs logged.1 others.1)

leaf_widens : (low high number first : ℕ) (scan : ScanSeen) (leaf : LeafSeen) (old new : LeafVdev) → IsLogged leaf old
    → IsSpanned (holds old.log) low high → IsWidened old.log new.log
    → leaf_step (Widen old.guid low high) number first scan leaf ≡ with_log new leaf
leaf_widens low high number first scan leaf old new is spans widened =
    let here : (leaf.guid.0 == old.guid.0) ≡ true = ap (λ (g : Guid). g.0 == old.guid.0) is.guid ∙ itself old.guid.0 in
    ap (λ b. record leaf { owes = log_grown b low high leaf.owes }) here
    ∙ ap (λ log. record leaf { owes = log_grown true low high log }) is.owes
    ∙ ap (λ log. record leaf { owes = log }) (fun_ext (grown_to old.log new.log low high spans widened))

leaves_widen : (low high number first : ℕ) (scan : ScanSeen) (before behind : List LeafVdev) (old new : LeafVdev)
    (leaves : List LeafSeen) → AreLogged leaves (before ++ old ∷ behind)
    → IsSpanned (holds old.log) low high → IsWidened old.log new.log → AllByRecursion (IsOther old.guid) before
    → AllByRecursion (IsOther old.guid) behind
    → map (leaf_step (Widen old.guid low high) number first scan) leaves ≡ with_logs (before ++ new ∷ behind) leaves
leaves_widen low high number first scan [] behind old new [] logged spans widened others others_too = absurd logged
leaves_widen low high number first scan [] behind old new
    (leaf ∷ leaves) logged spans widened others others_too =
    ap (λ l. l ∷ map (leaf_step (Widen old.guid low high) number first scan) leaves)
    (leaf_widens low high number first scan leaf old new logged.0 spans widened)
    ∙ ap (λ ls. with_log new leaf ∷ ls)
    (others_stay old.guid low high number first scan leaves behind logged.1 others_too)
leaves_widen low high number first scan (x ∷ before) behind old new [] logged spans widened others others_too = absurd logged
leaves_widen low high number first scan (x ∷ before) behind old new
    (leaf ∷ leaves) logged spans widened others others_too =
    ap (λ l. l ∷ map (leaf_step (Widen old.guid low high) number first scan) leaves)
    (other_stays old.guid low high number first scan leaf x logged.0 others.0)
    ∙ ap (λ ls. with_log x leaf ∷ ls)
    (leaves_widen low high number first scan before behind old new leaves logged.1 spans widened others.1 others_too)

-- What one widening keeps of leaves.
ranged_widened : (number : ℕ) (before behind : List LeafVdev) (old new : LeafVdev)
    → (IsRanged number old → IsRanged number new) → AllByRecursion (IsRanged number) (before ++ old ∷ behind)
    → AllByRecursion (IsRanged number) (before ++ new ∷ behind)
ranged_widened number [] behind old new f all = (f all.0, all.1)
ranged_widened number (x ∷ before) behind old new f all = (all.0, ranged_widened number before behind old new f all.1)

ranged_there : (number : ℕ) (before behind : List LeafVdev) (vdev : LeafVdev)
    → AllByRecursion (IsRanged number) (before ++ vdev ∷ behind) → IsRanged number vdev
ranged_there number [] behind vdev all = all.0
ranged_there number (x ∷ before) behind vdev all = ranged_there number before behind vdev all.1

abbrev pub AreLikeThem : List LeafVdev → List LeafVdev → Type 0
AreLikeThem old new = AllZip IsLikeIt old new

pub like_same : (vdevs : List LeafVdev) → AreLikeThem vdevs vdevs
like_same [] = tt
like_same (vdev ∷ vdevs) = ((λ log. refl), like_same vdevs)

pub like_widened : (all before behind : List LeafVdev) (old new : LeafVdev) → IsLikeIt old new
    → AreLikeThem all (before ++ old ∷ behind) → AreLikeThem all (before ++ new ∷ behind)
like_widened [] [] behind old new like are = absurd are
like_widened (y ∷ all) [] behind old new like are = ((λ log. are.0 log ∙ like log), are.1)
like_widened [] (x ∷ before) behind old new like are = absurd are
like_widened (y ∷ all) (x ∷ before) behind old new like are = (are.0, like_widened all before behind old new like are.1)

pub like_numbers : (old new : List LeafVdev) → AreLikeThem old new → leaf_numbers old ≡ leaf_numbers new
like_numbers [] [] like = refl
like_numbers [] (y ∷ new) like = absurd like
like_numbers (x ∷ old) [] like = absurd like
like_numbers (x ∷ old) (y ∷ new) like =
    ap (λ (v : LeafVdev). v.guid.0 ∷ leaf_numbers old) (like.0 nothing)
    ∙ ap (λ ns. y.guid.0 ∷ ns) (like_numbers old new like.1)

pub like_length : (old new : List LeafVdev) → AreLikeThem old new → length old ≡ length new
like_length [] [] like = refl
like_length [] (y ∷ new) like = absurd like
like_length (x ∷ old) [] like = absurd like
like_length (x ∷ old) (y ∷ new) like = omega (arith, like_length old new like.1)

relogged_logged : (leaves : List LeafSeen) (old new : List LeafVdev) → AreLogged leaves old → AreLikeThem old new
    → AreLogged (with_logs new leaves) new
relogged_logged [] [] [] logged like = tt
relogged_logged [] [] (y ∷ new) logged like = absurd like
relogged_logged [] (x ∷ old) new logged like = absurd logged
relogged_logged (leaf ∷ leaves) [] new logged like = absurd logged
relogged_logged (leaf ∷ leaves) (x ∷ old) [] logged like = absurd like
relogged_logged (leaf ∷ leaves) (x ∷ old) (y ∷ new) logged like = (
  record {
    guid = logged.0.guid ∙ ap (λ (v : LeafVdev). v.guid)
        (like.0 nothing);
    owes = refl;
  },
  relogged_logged leaves old new logged.1 like.1,
)

relogged_twice : (leaves : List LeafSeen) (old now new : List LeafVdev) → AreLogged leaves old → AreLikeThem old now
    → with_logs new (with_logs now leaves) ≡ with_logs new leaves
relogged_twice [] [] [] [] logged like = refl
relogged_twice [] [] [] (z ∷ new) logged like = refl
relogged_twice [] [] (y ∷ now) new logged like = absurd like
relogged_twice [] (x ∷ old) now new logged like = absurd logged
relogged_twice (leaf ∷ leaves) [] now new logged like = absurd logged
relogged_twice (leaf ∷ leaves) (x ∷ old) [] new logged like = absurd like
relogged_twice (leaf ∷ leaves) (x ∷ old) (y ∷ now) [] logged like = refl
relogged_twice (leaf ∷ leaves) (x ∷ old) (y ∷ now) (z ∷ new) logged like = ap (λ ls. with_log z leaf ∷ ls)
    (relogged_twice leaves old now new logged.1 like.1)

relogged_same : (leaves : List LeafSeen) (vdevs : List LeafVdev) → AreLogged leaves vdevs
    → with_logs vdevs leaves ≡ leaves
relogged_same [] [] logged = refl
relogged_same [] (vdev ∷ vdevs) logged = absurd logged
relogged_same (leaf ∷ leaves) [] logged = absurd logged
relogged_same (leaf ∷ leaves) (vdev ∷ vdevs) logged =
    ap (λ log. record leaf { owes = log } ∷ with_logs vdevs leaves) (sym logged.0.owes)
    ∙ ap (λ ls. leaf ∷ ls) (relogged_same leaves vdevs logged.1)

-- One widening of the engine is a move.
record IsOneWidening (s : PoolSeen) (new : List LeafVdev) : Type 0 where
  m : Guid
  low : ℕ
  high : ℕ
  large : 4096 < ranges_together s.number s.leaves
  widening : IsWidening s m low high
  leads : step (Widen m low high) s ≡ relogged new s

some_ranges : (vdevs : List LeafVdev) → length vdevs ≤ 128 → 4096 < total_ranges vdevs → 1 ≤ most_ranges vdevs
some_ranges vdevs few large = one (most_ranges vdevs == 0) refl
  where
    one : (t : Bool) → (most_ranges vdevs == 0) ≡ t → 1 ≤ most_ranges vdevs
    one true e = absurd (let z : most_ranges vdevs ≡ 0 = grind (arith, nat_tests) in
        let total = total_of_few vdevs (omega (arith, z)) in omega (arith, total, large, few))
    one false e =
        let other : (most_ranges vdevs ≡ 0) → ⊥ = (λ z. true≢false
        (sym (let yes : (most_ranges vdevs == 0) ≡ true = grind (arith, nat_tests) in yes) ∙ e)) in
        grind (arith, nat_tests)

one_widening : (s : PoolSeen) (now new : List LeafVdev) → AreLogged s.leaves now
    → AllByRecursion (IsRanged s.number) now → Differ (leaf_numbers now) → length now ≤ 128
    → 4096 < total_ranges now → WidensFirst (most_ranges now) now new → IsOneWidening s new
one_widening s now new logged ranged differ few large w =
    let several = some_ranges now few large in
    let logged' : AreLogged s.leaves (w.before ++ w.leaf ∷ w.behind) = subst (AreLogged s.leaves) w.was logged in
    let ranged' : AllByRecursion (IsRanged s.number) (w.before ++ w.leaf ∷ w.behind) = subst
    (AllByRecursion (IsRanged s.number)) w.was ranged in
    let differ' : Differ (leaf_numbers (w.before ++ w.leaf ∷ w.behind)) = subst
    (λ vs. Differ (leaf_numbers vs)) w.was differ in
    let here = ranged_there s.number w.before w.behind w.leaf ranged' in
    let first = upto_some (holds w.leaf.log) s.number
    (let is = here.ranges in let l = w.large in omega (arith, is, l, several)) in
    let span = spanned (holds w.leaf.log) s.number first.0 (λ h has. (here.within h has).1) first.1 in
    let at = found_widest s.number (most_ranges now) w.before w.behind w.leaf s.leaves logged' ranged' w.earlier w.large
    (let e = ap most_ranges w.was in omega (arith, e)) in
    record {
      m = w.leaf.guid;
      low = span.low;
      high = span.high;
      large = (let is = total_is s.number s.leaves now logged ranged in omega (arith, is, large));
      widening = record {
        leaf = at.leaf;
        most = at.widest;
        number_is = at.logged.guid;
        spans = subst (λ log. IsSpanned log span.low span.high) (sym at.logged.owes) span.spans;
      };
      leads = ap (λ ls. record s { leaves = ls })
          (leaves_widen span.low span.high s.number s.group.first s.scan w.before w.behind w.leaf w.widened s.leaves logged'
          span.spans w.widens.groups (others_before w.before w.behind w.leaf differ')
          (others_behind w.before w.behind w.leaf differ')
          ∙ ap (λ vs. with_logs vs s.leaves) (sym w.is));
    }

-- All of them, up to here.
record IsWidenedSoFar (s : PoolSeen) (grown now : List LeafVdev) : Type 0 where
  moves : List Move
  joins : (ws : List Move) → AreWidens (relogged now s) ws → AreWidens s (moves ++ ws)
  leads : seen_along moves s ≡ relogged now s
  ranged : AllByRecursion (IsRanged s.number) now
  like : AreLikeThem grown now

seen_more : (vs ws : List Move) (s : PoolSeen) → seen_along (vs ++ ws) s ≡ seen_along ws (seen_along vs s)
seen_more [] ws s = refl
seen_more (v ∷ vs) ws s = seen_more vs ws (step v s)

so_far : (s : PoolSeen) (grown now : List LeafVdev) → AreLogged s.leaves grown
    → AllByRecursion (IsRanged s.number) grown → Differ (leaf_numbers grown) → length grown ≤ 128
    → Widenings grown now → IsWidenedSoFar s grown now
so_far s grown now logged ranged differ few none = record {
  moves = [];
  joins = λ ws are. subst (λ ls. AreWidens (record s { leaves = ls }) ws) (relogged_same s.leaves grown logged) are;
  leads = sym (ap (λ ls. record s { leaves = ls }) (relogged_same s.leaves grown logged));
  ranged = ranged;
  like = like_same grown;
}
so_far s grown new logged ranged differ few (more {now = now} earlier large w) = step_more
    (so_far s grown now logged ranged differ few earlier)
  where
    step_more : IsWidenedSoFar s grown now → IsWidenedSoFar s grown new
    step_more r =
        let one = one_widening (relogged now s) now new (relogged_logged s.leaves grown now logged r.like) r.ranged
        (subst Differ (like_numbers grown now r.like) differ) (let same = like_length grown now r.like in omega
        (arith, same, few)) large w in
        let twice : relogged new (relogged now s) ≡ relogged new s = ap (λ ls. record s { leaves = ls })
        (relogged_twice s.leaves grown now new logged r.like) in
        record {
          moves = r.moves ++ Widen one.m one.low one.high ∷ [];
          joins = λ ws are. subst (AreWidens s) (sym (append_assoc r.moves (Widen one.m one.low one.high ∷ []) ws))
              (r.joins (Widen one.m one.low one.high ∷ ws)
              (one.large, one.widening, subst (λ t. AreWidens t ws) (sym (one.leads ∙ twice)) are));
          leads = seen_more r.moves (Widen one.m one.low one.high ∷ []) s
              ∙ ap (step (Widen one.m one.low one.high)) r.leads ∙ one.leads ∙ twice;
          ranged = subst (AllByRecursion (IsRanged s.number)) (sym w.is)
              (ranged_widened s.number w.before w.behind w.leaf w.widened
              (widened_ranged s.number w.leaf w.widened (let l = w.large in let some = some_ranges now
              (let same = like_length grown now r.like in omega (arith, same, few)) large in omega
              (arith, l, some)) w.widens)
              (subst (AllByRecursion (IsRanged s.number)) w.was r.ranged));
          like = subst (AreLikeThem grown) (sym w.is)
              (like_widened grown w.before w.behind w.leaf w.widened w.widens.rest
              (subst (AreLikeThem grown) w.was r.like));
        }

-- The moves of widenings, and what they leave.
pub record WidensTo (s : PoolSeen) (grown new : List LeafVdev) : Type 0 where
  pub widens : List Move
  pub are : AreWidens s widens
  pub leads : seen_along widens s ≡ relogged new s
  pub like : AreLikeThem grown new
  pub within : AllByRecursion (IsWithin s.number) new

within_all : (number : ℕ) (vdevs : List LeafVdev) → AllByRecursion (IsRanged number) vdevs
    → AllByRecursion (IsWithin number) vdevs
within_all number [] ranged = tt
within_all number (vdev ∷ vdevs) ranged = (ranged.0.within, within_all number vdevs ranged.1)

-- Where logs grew to these, and the engine widened them to those, moves widen the state's logs so.
pub widens_to : (s : PoolSeen) (grown new : List LeafVdev) → s.number ≤ 2 ^ 62 → AreLogged s.leaves grown
    → AllByRecursion (IsWithin s.number) grown
    → Differ (leaf_numbers grown) → All IsCounted grown → Widenings grown new
    → (length new ≤ 128 → total_ranges new ≤ 4096) → length grown ≤ 128 → WidensTo s grown new
widens_to s grown new low logged within differ counted widened small few =
    let r = so_far s grown new logged
    (ranged_all s.number grown low within (recursion_from_All IsCounted grown counted)) differ few widened in
    let long = like_length grown new r.like in
    record {
      widens = r.moves;
      are = subst (AreWidens s) (append-nil r.moves)
          (r.joins [] (let is = total_is s.number (with_logs new s.leaves) new
          (relogged_logged s.leaves grown new logged r.like) r.ranged in
          let fits = small (omega (arith, long, few)) in omega (arith, is, fits)));
      leads = r.leads;
      like = r.like;
      within = within_all s.number new r.ranged;
    }
