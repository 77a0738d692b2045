-- The ranges of a set's groups are as many as its maximal runs.
use Rattle.std.proofs.Common.{◌≡◌, ◌≢◌, ℕ, ◌+◌, ◌-◌, ◌^◌, ◌≤◌, Bool, true, false, ◌&&◌, ◌||◌, not, List, [], ◌∷◌, map, length, refl, ap, sym, ◌∙◌, arith, AllPairs, Contains}
use Rattle.std.proofs.lemmas.Bool.{false≢true}
use Rattle.std.proofs.lemmas.Bool.Decides.{nat_tests, same_from_decides, Decides-eqb}
use Rattle.std.proofs.lemmas.Cmp.{nat_eq_equiv}
use Rattle.std.proofs.lemmas.List.{length-map}
use Rattle.std.proofs.lemmas.Map.Made.{IsDistinct-from_AllPairs, is_member-Decides, length-from_same_keys}
use Rattle.mp_base.specs.declared.range.GroupRange.{GroupRange}
use Rattle.group_set.specs.Groups.{Groups, holds, begins, CountsRuns}
use Rattle.mp_base.specs.Ranges.{Rises}
use Rattle.group_set.specs.Ranges.{in_range, in_ranges, run_of, ranges_upto}
use Rattle.group_set.specs.Runs.{between}
use Rattle.group_set.proofs.Among.{or_true, or_true_right}
use Rattle.group_set.proofs.Listed.{AreRuns-rising, in_runs_of}
use Rattle.group_set.proofs.Maximal.{CountsRuns-length, and_right}
use Rattle.group_set.proofs.Upto.{in_ranges_below, inside, not_in, upto_has, upto_rises}

-- lists of different numbers with the same numbers are as long
same_length : (xs ys : List ℕ) → AllPairs (λ a b. a ≢ b) xs → AllPairs (λ a b. a ≢ b) ys → ((g : ℕ) → Contains xs g → Contains ys g)
    → ((g : ℕ) → Contains ys g → Contains xs g) → length xs ≡ length ys
same_length xs ys one other to back =
    length-from_same_keys nat_eq_equiv xs ys (IsDistinct-from_AllPairs Decides-eqb xs one) (IsDistinct-from_AllPairs Decides-eqb ys other) (λ g.
    let d = is_member-Decides Decides-eqb ys g in
    same_from_decides _ _ (is_member-Decides Decides-eqb xs g) (λ h. back g (d.0 h), λ h. d.1 (to g h)))

same_begins : (a b : Groups) → ((g : ℕ) → holds a g ≡ holds b g) → (g : ℕ) → begins a g ≡ begins b g
same_begins a b same g = ap (λ x. x && not (holds a (g - 1))) (same g) ∙ ap (λ x. holds b g && not x) (same (g - 1))

-- sets with the same groups have as many maximal runs
pub same_count : (a b : Groups) (m n : ℕ) → ((g : ℕ) → holds a g ≡ holds b g) → CountsRuns a m → CountsRuns b n → m ≡ n
same_count a b m n same one other =
    sym one.count
    ∙ same_length one.lows other.lows one.differ other.differ
    (λ g h. other.all g (sym (same_begins a b same g) ∙ one.only g h)) (λ g h. one.all g (same_begins a b same g ∙ other.only g h))
    ∙ other.count

between_true : (n g : ℕ) → (1 ≤ g) × (g ≤ n) → between 1 n g ≡ true
between_true n g h = let a = h.0 in let b = h.1 in grind (arith, nat_tests)

and_false : (a : Bool) → (a && false) ≡ false
and_false true = refl
and_false false = refl

and_between : (n g : ℕ) (b : Bool) → (b ≡ true → (1 ≤ g) × (g ≤ n)) → (between 1 n g && b) ≡ b
and_between n g true h = ap (λ x. x && true) (between_true n g (h refl))
and_between n g false h = and_false (between 1 n g)

-- the ranges up to a number have all groups of a set that has none beyond it
pub upto_all : (set : ℕ → Bool) (n : ℕ) → ((g : ℕ) → set g ≡ true → (1 ≤ g) × (g ≤ n)) → (g : ℕ) → in_ranges (ranges_upto set n) g ≡ set g
upto_all set n top g = upto_has set n g ∙ and_between n g (set g) (top g)

abbrev written : List GroupRange → Groups
written ranges = record { runs = map run_of ranges; spare = 0 }

written_holds : (ranges : List GroupRange) (g : ℕ) → holds (written ranges) g ≡ in_ranges ranges g
unfolding holds
written_holds ranges g = in_runs_of ranges g

-- they are as many as its maximal runs
pub upto_counted : (set : Groups) (n k : ℕ) → n ≤ 2 ^ 62 → ((g : ℕ) → holds set g ≡ true → (1 ≤ g) × (g ≤ n)) → CountsRuns set k → length (ranges_upto (holds set) n) ≡ k
upto_counted set n k last top counts =
    let ranges = ranges_upto (holds set) n in
    sym (length-map ranges run_of)
    ∙ same_count (written ranges) set (length (map run_of ranges)) k (λ g. written_holds ranges g ∙ upto_all (holds set) n top g)
    (CountsRuns-length (written ranges) (AreRuns-rising 1 n ranges (omega arith) (upto_rises (holds set) n) last)) counts

one_of : (n g : ℕ) (ranges : List GroupRange) → Rises 1 n ranges
    → ((a h b : ℕ) → in_ranges ranges a ≡ true → in_ranges ranges b ≡ true → a ≤ h → h ≤ b → in_ranges ranges h ≡ true)
    → in_ranges ranges g ≡ true → length ranges ≡ 1
one_of n g [] rises whole has = absurd (false≢true has)
one_of n g (r ∷ []) rises whole has = refl
one_of n g (r ∷ (s ∷ ranges)) rises whole has =
    let next = r.high.0 + 1 in
    let first = or_true (in_range r r.high.0) (in_ranges (s ∷ ranges) r.high.0) (inside r r.high.0 rises.1 (omega arith)) in
    let second = or_true_right (in_range r s.low.0) (in_ranges (s ∷ ranges) s.low.0) (or_true (in_range s s.low.0) (in_ranges ranges s.low.0) (inside s s.low.0 (omega arith) rises.3.1)) in
    let there = whole r.high.0 next s.low.0 first second (omega arith) (omega (arith, rises.3.0)) in
    let gone : in_ranges (r ∷ (s ∷ ranges)) next ≡ false =
    ap (λ b. b || in_ranges (s ∷ ranges) next) (not_in r next (omega arith)) ∙ in_ranges_below (r.high.0 + 2) n (s ∷ ranges) next rises.3 (omega arith) in
    absurd (false≢true (sym gone ∙ there))

-- a set of all from its least to its greatest group is one range
pub upto_whole : (set : ℕ → Bool) (n g : ℕ) → ((h : ℕ) → set h ≡ true → (1 ≤ h) × (h ≤ n))
    → ((a h b : ℕ) → set a ≡ true → set b ≡ true → a ≤ h → h ≤ b → set h ≡ true) → set g ≡ true → length (ranges_upto set n) ≡ 1
upto_whole set n g top whole has =
    let ranges = ranges_upto set n in
    let same = upto_all set n top in
    one_of n g ranges (upto_rises set n)
    (λ a h b one other low high. same h ∙ whole a h b (sym (same a) ∙ one) (sym (same b) ∙ other) low high) (same g ∙ has)

some_in : (n : ℕ) (ranges : List GroupRange) → Rises 1 n ranges → 1 ≤ length ranges → (g : ℕ) × (in_ranges ranges g ≡ true)
some_in n [] rises some = absurd (omega arith)
some_in n (r ∷ ranges) rises some = (r.low.0, or_true (in_range r r.low.0) (in_ranges ranges r.low.0) (inside r r.low.0 (omega arith) rises.1))

-- a set with a range has a group
pub upto_some : (set : ℕ → Bool) (n : ℕ) → 1 ≤ length (ranges_upto set n) → (g : ℕ) × (set g ≡ true)
upto_some set n some =
    let f = some_in n (ranges_upto set n) (upto_rises set n) some in
    (f.0, and_right (between 1 n f.0) (set f.0) (sym (upto_has set n f.0) ∙ f.1))
