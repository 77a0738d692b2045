-- A log that is widened is one range, and so two logs are small enough once both are.
use Rattle.std.proofs.Common.{◌≡◌, ℕ, zero, suc, ◌+◌, ◌<◌, ◌≤◌, ◌⊎◌, inl, inr, ◌&&◌, ◌||◌, Bool, true, false, cond, nat_le, length, List, [], ◌∷◌, refl, sym, ◌∙◌, arith}
use Rattle.std.proofs.lemmas.Bool.{or_cases, or_left, or_right, and_parts, and_from, leb-true, leb-false, le-leb, true≢false}
use Rattle.std.proofs.lemmas.Bool.Decides.{nat_tests}
use Rattle.mp_base.specs.declared.range.GroupRange.{GroupRange}
use Rattle.mp_base.specs.Ranges.{Rises}
use Rattle.group_set.specs.Ranges.{in_range, in_ranges, ranges_upto}
use Rattle.group_set.specs.Runs.{between}
use Rattle.group_set.proofs.Upto.{in_ranges_below, upto_has, upto_rises}
use Rattle.pool_core.specs.Logs.{any_upto, hull_upto, count_upto, widened, fitted_once, fitted}
use Rattle.pool_core.specs.State.{PoolState}

any_more : (p q : ℕ → Bool) (n : ℕ) → ((k : ℕ) → p k ≡ true → q k ≡ true) → any_upto p n ≡ true → any_upto q n ≡ true
any_more p q zero more e = e
any_more p q (suc n) more e = elim (or_cases (p (suc n)) (any_upto p n) e) [
  | inl here ↦ or_left (q (suc n)) (any_upto q n) (more (suc n) here)
  | inr there ↦ or_right (q (suc n)) (any_upto q n) (any_more p q n more there)
]

-- a group that some is, lies from 1 to n
any_within : (p : ℕ → Bool) (n : ℕ) → any_upto p n ≡ true → (k : ℕ) × (1 ≤ k) × (k ≤ n) × (p k ≡ true)
any_within p zero e = absurd cc
any_within p (suc n) e = elim (or_cases (p (suc n)) (any_upto p n) e) [
  | inl here ↦ (suc n, omega arith, omega arith, here)
  | inr there ↦ let k = any_within p n there in (k.0, k.1, omega (arith, k.2), k.3)
]

below_later : (has : ℕ → Bool) (a g k : ℕ) → a ≤ g → (has k && nat_le k a) ≡ true → (has k && nat_le k g) ≡ true
below_later has a g k le e =
    let p = and_parts (has k) (nat_le k a) e in
    and_from (has k) (nat_le k g) p.0 (le-leb k g (omega (arith, leb-true k a p.1)))

above_sooner : (has : ℕ → Bool) (g b k : ℕ) → g ≤ b → (has k && nat_le b k) ≡ true → (has k && nat_le g k) ≡ true
above_sooner has g b k le e =
    let p = and_parts (has k) (nat_le b k) e in
    and_from (has k) (nat_le g k) p.0 (le-leb g k (omega (arith, leb-true b k p.1)))

-- between two groups of it a widened log has each
pub hull_between : (has : ℕ → Bool) (n a g b : ℕ) → a ≤ g → g ≤ b → hull_upto has n a ≡ true → hull_upto has n b ≡ true → hull_upto has n g ≡ true
hull_between has n a g b low high at_a at_b =
    let from = (and_parts _ _ at_a).0 in
    let to = (and_parts _ _ at_b).1 in
    and_from _ _ (any_more (λ k. has k && nat_le k a) (λ k. has k && nat_le k g) n (λ k. below_later has a g k low) from)
    (any_more (λ k. has k && nat_le b k) (λ k. has k && nat_le g k) n (λ k. above_sooner has g b k high) to)

-- its groups are from 1 to n
pub hull_within : (has : ℕ → Bool) (n g : ℕ) → hull_upto has n g ≡ true → (1 ≤ g) × (g ≤ n)
hull_within has n g e =
    let p = and_parts _ _ e in
    let low = any_within (λ k. has k && nat_le k g) n p.0 in
    let high = any_within (λ k. has k && nat_le g k) n p.1 in
    (omega (arith, low.1, leb-true low.0 g (and_parts (has low.0) _ low.3).1), omega (arith, high.2, leb-true g high.0 (and_parts (has high.0) _ high.3).1))

in_here : (r : GroupRange) (g : ℕ) → r.low.0 ≤ g → g ≤ r.high.0 → in_range r g ≡ true
in_here r g low high = grind (arith, nat_tests)

out_behind : (r : GroupRange) (g : ℕ) → r.high.0 < g → in_range r g ≡ false
out_behind r g above = grind (arith, nat_tests)

between_is : (a b g : ℕ) → a ≤ g → g ≤ b → between a b g ≡ true
between_is a b g low high = grind (arith, nat_tests)

-- ranges of a set that has all between two of its groups are one at most
one_range : (set : ℕ → Bool) (n : ℕ) (ranges : List GroupRange)
    → ((a g b : ℕ) → a ≤ g → g ≤ b → set a ≡ true → set b ≡ true → set g ≡ true)
    → Rises 1 n ranges → ((g : ℕ) → in_ranges ranges g ≡ (between 1 n g && set g)) → length ranges ≤ 1
one_range set n [] whole rises is = omega arith
one_range set n (r ∷ []) whole rises is = omega arith
one_range set n (r ∷ (s ∷ ranges)) whole rises is =
    let more = in_range s r.high.0 || in_ranges ranges r.high.0 in
    let here : in_ranges (r ∷ (s ∷ ranges)) r.high.0 ≡ true = or_left (in_range r r.high.0) more (in_here r r.high.0 rises.1 (omega arith)) in
    let there : in_ranges (r ∷ (s ∷ ranges)) s.low.0 ≡ true =
    or_right (in_range r s.low.0) _ (or_left (in_range s s.low.0) (in_ranges ranges s.low.0) (in_here s s.low.0 (omega arith) rises.3.1)) in
    let has_here = (and_parts (between 1 n r.high.0) (set r.high.0) (sym (is r.high.0) ∙ here)).1 in
    let has_there = (and_parts (between 1 n s.low.0) (set s.low.0) (sym (is s.low.0) ∙ there)).1 in
    let next = r.high.0 + 1 in
    let has_next : set next ≡ true = whole r.high.0 next s.low.0 (omega arith) (omega (arith, rises.3.0)) has_here has_there in
    let inside : between 1 n next ≡ true = between_is 1 n next (omega arith) (omega (arith, rises.3.0, rises.3.1, rises.3.2)) in
    let in_next : in_ranges (r ∷ (s ∷ ranges)) next ≡ true = is next ∙ and_from (between 1 n next) (set next) inside has_next in
    let behind : in_ranges (s ∷ ranges) next ≡ false = in_ranges_below (r.high.0 + 2) n (s ∷ ranges) next rises.3 (omega arith) in
    absurd (elim (or_cases (in_range r next) (in_ranges (s ∷ ranges) next) in_next) [
      | inl e ↦ true≢false (sym e ∙ out_behind r next (omega arith))
      | inr e ↦ true≢false (sym e ∙ behind)
    ])

pub one_counted : (has : ℕ → Bool) (n : ℕ) → count_upto (hull_upto has n) n ≤ 1
one_counted has n =
    one_range (hull_upto has n) n (ranges_upto (hull_upto has n) n) (hull_between has n) (upto_rises (hull_upto has n) n) (upto_has (hull_upto has n) n)

abbrev firsts : PoolState → ℕ
firsts s = count_upto s.first.owes s.number

abbrev seconds : PoolState → ℕ
seconds s = count_upto s.second.owes s.number

-- the two logs have few ranges
abbrev pub AreFew : PoolState → Type 0
AreFew s = firsts s + seconds s ≤ 4096

-- few, or one of the logs is one range at most
abbrev AreFewer : PoolState → Type 0
AreFewer s = AreFew s ⊎ ((firsts s ≤ 1) ⊎ (seconds s ≤ 1))

abbrev once_by : (few more : Bool) → PoolState → PoolState
once_by few more s = cond few s (cond more (record s { first = widened s.number s.first }) (record s { second = widened s.number s.second }))

fewer_by : (few more : Bool) (s : PoolState) → nat_le (firsts s + seconds s) 4096 ≡ few → AreFewer (once_by few more s)
fewer_by true more s is = inl (leb-true (firsts s + seconds s) 4096 is)
fewer_by false true s is = inr (inl (one_counted s.first.owes s.number))
fewer_by false false s is = inr (inr (one_counted s.second.owes s.number))

few_by : (few more : Bool) (s : PoolState) → nat_le (firsts s + seconds s) 4096 ≡ few → nat_le (seconds s) (firsts s) ≡ more
    → AreFewer s → AreFew (once_by few more s)
few_by true more s few_is more_is fewer = leb-true (firsts s + seconds s) 4096 few_is
few_by false true s few_is more_is fewer =
    let one = one_counted s.first.owes s.number in
    let many = leb-false (firsts s + seconds s) 4096 few_is in
    let less = leb-true (seconds s) (firsts s) more_is in
    elim fewer [
      | inl few ↦ absurd (omega arith)
      | inr (inl narrow) ↦ omega arith
      | inr (inr narrow) ↦ omega arith
    ]
few_by false false s few_is more_is fewer =
    let one = one_counted s.second.owes s.number in
    let many = leb-false (firsts s + seconds s) 4096 few_is in
    let less = leb-false (seconds s) (firsts s) more_is in
    elim fewer [
      | inl few ↦ absurd (omega arith)
      | inr (inl narrow) ↦ omega arith
      | inr (inr narrow) ↦ omega arith
    ]

-- logs that were fitted are small enough
pub fitted_few : (s : PoolState) → AreFew (fitted s)
fitted_few s =
    few_by (nat_le (firsts (fitted_once s) + seconds (fitted_once s)) 4096) (nat_le (seconds (fitted_once s)) (firsts (fitted_once s))) (fitted_once s) refl refl
    (fewer_by (nat_le (firsts s + seconds s) 4096) (nat_le (seconds s) (firsts s)) s refl)
