-- The maximal ranges of the groups up to a number.
use Rattle.std.proofs.Common.{◌≡◌, ◌≢◌, ℕ, zero, suc, ◌+◌, ◌<◌, ◌≤◌, min, Bool, true, false, cond, ◌&&◌, ◌||◌, ◌==◌, nat_le, inl, inr, List, [], ◌∷◌, refl, ap, sym, ◌∙◌, arith, add-zero, add-suc}
use Rattle.std.proofs.lemmas.Bool.Decides.{nat_tests}
use Rattle.std.proofs.lemmas.Bool.{and_parts, cases_lt, false_from_ne_true, false≢true}
use Rattle.mp_base.specs.declared.range.GroupRange.{GroupRange}
use Rattle.mp_base.specs.Ranges.{Rises}
use Rattle.group_set.specs.Ranges.{in_range, in_ranges, range_of_one, range_up_to, extended, ranges_upto}
use Rattle.group_set.specs.Runs.{between}
use Rattle.group_set.proofs.Among.{or_cases, or_true, or_true_right}
use Rattle.group_set.proofs.Placed.{or_step, or_false}

in_range_within : (r : GroupRange) (g : ℕ) → in_range r g ≡ true → (r.low.0 ≤ g) × (g ≤ r.high.0)
in_range_within r g h = (grind (arith, nat_tests), grind (arith, nat_tests))

-- a group of rising ranges is none before the first
in_ranges_least : (least most : ℕ) (ranges : List GroupRange) (g : ℕ) → Rises least most ranges → in_ranges ranges g ≡ true → least ≤ g
in_ranges_least least most [] g rises h = absurd (false≢true h)
in_ranges_least least most (r ∷ ranges) g rises h = elim (or_cases (in_range r g) (in_ranges ranges g) h) [
  | inl a ↦ omega (arith, (in_range_within r g a).0, rises.0)
  | inr b ↦ omega (arith, in_ranges_least (r.high.0 + 2) most ranges g rises.3 b, rises.0, rises.1)
]

pub in_ranges_below : (least most : ℕ) (ranges : List GroupRange) (g : ℕ) → Rises least most ranges → g < least → in_ranges ranges g ≡ false
in_ranges_below least most ranges g rises below = false_from_ne_true (in_ranges ranges g) (λ h. omega (arith, in_ranges_least least most ranges g rises h))

-- the ranges as far as a group
abbrev cut : ℕ → List GroupRange → List GroupRange
cut n [] = []
cut n (r ∷ ranges) = cond (nat_le r.low.0 n) (range_up_to r (min r.high.0 n) ∷ cut n ranges) []

cut_within : (n : ℕ) (r : GroupRange) (ranges : List GroupRange) → r.low.0 ≤ n → cut n (r ∷ ranges) ≡ range_up_to r (min r.high.0 n) ∷ cut n ranges
cut_within n r ranges low =
    let test : nat_le r.low.0 n ≡ true = grind (arith, nat_tests) in
    ap (λ b. cond b (range_up_to r (min r.high.0 n) ∷ cut n ranges) []) test

cut_beyond : (n : ℕ) (r : GroupRange) (ranges : List GroupRange) → n < r.low.0 → cut n (r ∷ ranges) ≡ []
cut_beyond n r ranges low =
    let test : nat_le r.low.0 n ≡ false = grind (arith, nat_tests) in
    ap (λ b. cond b (range_up_to r (min r.high.0 n) ∷ cut n ranges) []) test

-- none begins so early
cut_none : (n least most : ℕ) (ranges : List GroupRange) → Rises least most ranges → n < least → cut n ranges ≡ []
cut_none n least most [] rises below = refl
cut_none n least most (r ∷ ranges) rises below = cut_beyond n r ranges (omega (arith, rises.0))

up_to_end : (r : GroupRange) (n : ℕ) → n ≡ r.high.0 → range_up_to r n ≡ r
up_to_end r n is = ap (range_up_to r) is

-- all of them end by then
cut_all : (n least most : ℕ) (ranges : List GroupRange) → Rises least most ranges → most ≤ n → cut n ranges ≡ ranges
cut_all n least most [] rises late = refl
cut_all n least most (r ∷ ranges) rises late =
    cut_within n r ranges (omega (arith, rises.1, rises.2))
    ∙ ap (λ x. x ∷ cut n ranges) (up_to_end r (min r.high.0 n) (omega (arith, rises.2)))
    ∙ ap (λ xs. r ∷ xs) (cut_all n (r.high.0 + 2) most ranges rises.3 late)

one_behind-step : (b : Bool) (g : ℕ) (r : GroupRange) → (r.high.0 + 1 == g) ≡ b → r.high.0 + 1 ≢ g
    → cond b (range_up_to r g ∷ []) (r ∷ range_of_one g ∷ []) ≡ r ∷ range_of_one g ∷ []
one_behind-step true g r is apart = absurd (apart (grind (arith, nat_tests)))
one_behind-step false g r is apart = refl

-- a range that doesn't end just before the group stays as it is
extended_behind : (g : ℕ) (r : GroupRange) (ranges : List GroupRange) → r.high.0 + 1 ≢ g → extended g (r ∷ ranges) ≡ r ∷ extended g ranges
extended_behind g r [] apart = one_behind-step (r.high.0 + 1 == g) g r refl apart
extended_behind g r (s ∷ ranges) apart = refl

joined-step : (b : Bool) (g : ℕ) (r : GroupRange) → (r.high.0 + 1 == g) ≡ b → r.high.0 + 1 ≡ g
    → cond b (range_up_to r g ∷ []) (r ∷ range_of_one g ∷ []) ≡ range_up_to r g ∷ []
joined-step true g r is near = refl
joined-step false g r is near = absurd (false≢true (grind (arith, nat_tests)))

extended_joined : (g : ℕ) (r : GroupRange) → r.high.0 + 1 ≡ g → extended g (r ∷ []) ≡ range_up_to r g ∷ []
extended_joined g r near = joined-step (r.high.0 + 1 == g) g r refl near

abbrev more_if : Bool → ℕ → List GroupRange → List GroupRange
more_if b g ranges = cond b (extended g ranges) ranges

behind-step : (b : Bool) (g : ℕ) (r : GroupRange) (ranges : List GroupRange) → (b ≡ true → r.high.0 + 1 ≢ g) → r ∷ more_if b g ranges ≡ more_if b g (r ∷ ranges)
behind-step true g r ranges apart = sym (extended_behind g r ranges (apart refl))
behind-step false g r ranges apart = refl

pub not_in : (r : GroupRange) (g : ℕ) → r.high.0 < g → in_range r g ≡ false
not_in r g above = grind (arith, nat_tests)

before_all : (r : GroupRange) (g : ℕ) → g < r.low.0 → in_range r g ≡ false
before_all r g below = grind (arith, nat_tests)

pub inside : (r : GroupRange) (g : ℕ) → r.low.0 ≤ g → g ≤ r.high.0 → in_range r g ≡ true
inside r g low high = grind (arith, nat_tests)

or_rest : (a b : Bool) → a ≡ false → (a || b) ≡ b
or_rest a b h = ap (λ x. x || b) h

-- the first range ends before the next group
step_ended : (n most : ℕ) (r : GroupRange) (ranges : List GroupRange) → Rises (r.high.0 + 2) most ranges → r.low.0 ≤ r.high.0 → r.high.0 ≤ n
    → cut (suc n) ranges ≡ more_if (in_ranges ranges (suc n)) (suc n) (cut n ranges)
    → cut (suc n) (r ∷ ranges) ≡ more_if (in_ranges (r ∷ ranges) (suc n)) (suc n) (cut n (r ∷ ranges))
step_ended n most r ranges rises some ended rest =
    cut_within (suc n) r ranges (omega arith)
    ∙ ap (λ x. x ∷ cut (suc n) ranges) (up_to_end r (min r.high.0 (suc n)) (omega arith))
    ∙ ap (λ xs. r ∷ xs) rest
    ∙ behind-step (in_ranges ranges (suc n)) (suc n) r (cut n ranges) (λ is e. omega (arith, in_ranges_least (r.high.0 + 2) most ranges (suc n) rises is))
    ∙ ap (λ b. more_if b (suc n) (r ∷ cut n ranges)) (sym (or_rest (in_range r (suc n)) (in_ranges ranges (suc n)) (not_in r (suc n) (omega arith))))
    ∙ ap (λ x. more_if (in_ranges (r ∷ ranges) (suc n)) (suc n) (x ∷ cut n ranges)) (sym (up_to_end r (min r.high.0 n) (omega arith)))
    ∙ ap (more_if (in_ranges (r ∷ ranges) (suc n)) (suc n)) (sym (cut_within n r ranges (omega arith)))

-- the first range goes on with the next group
step_inside : (n most : ℕ) (r : GroupRange) (ranges : List GroupRange) → Rises (r.high.0 + 2) most ranges → r.low.0 ≤ n → n < r.high.0
    → cut (suc n) (r ∷ ranges) ≡ more_if (in_ranges (r ∷ ranges) (suc n)) (suc n) (cut n (r ∷ ranges))
step_inside n most r ranges rises begun more =
    cut_within (suc n) r ranges (omega arith)
    ∙ ap (λ m. range_up_to r m ∷ cut (suc n) ranges) (let e : min r.high.0 (suc n) ≡ suc n = omega arith in e)
    ∙ ap (λ xs. range_up_to r (suc n) ∷ xs) (cut_none (suc n) (r.high.0 + 2) most ranges rises (omega arith))
    ∙ sym (extended_joined (suc n) (range_up_to r n) (omega arith))
    ∙ ap (λ m. extended (suc n) (range_up_to r m ∷ [])) (let e : n ≡ min r.high.0 n = omega arith in e)
    ∙ ap (λ xs. extended (suc n) (range_up_to r (min r.high.0 n) ∷ xs)) (sym (cut_none n (r.high.0 + 2) most ranges rises (omega arith)))
    ∙ ap (extended (suc n)) (sym (cut_within n r ranges begun))
    ∙ ap (λ b. more_if b (suc n) (cut n (r ∷ ranges))) (sym (or_true (in_range r (suc n)) (in_ranges ranges (suc n)) (inside r (suc n) (omega arith) (omega arith))))

range_here : (r : GroupRange) (g : ℕ) → r.low.0 ≡ g → range_up_to r g ≡ range_of_one g
range_here r g is = let at : GroupRange → ℕ → GroupRange = λ s l. record { low = record { 0 = l }; high = record { 0 = g } } in ap (at r) is

-- the first range begins with the next group
step_begins : (n most : ℕ) (r : GroupRange) (ranges : List GroupRange) → Rises (r.high.0 + 2) most ranges → r.low.0 ≤ r.high.0 → r.low.0 ≡ suc n
    → cut (suc n) (r ∷ ranges) ≡ more_if (in_ranges (r ∷ ranges) (suc n)) (suc n) (cut n (r ∷ ranges))
step_begins n most r ranges rises some begins =
    cut_within (suc n) r ranges (omega arith)
    ∙ ap (λ m. range_up_to r m ∷ cut (suc n) ranges) (let e : min r.high.0 (suc n) ≡ suc n = omega arith in e)
    ∙ ap (λ xs. range_up_to r (suc n) ∷ xs) (cut_none (suc n) (r.high.0 + 2) most ranges rises (omega arith))
    ∙ ap (λ x. x ∷ []) (range_here r (suc n) begins)
    ∙ ap (extended (suc n)) (sym (cut_beyond n r ranges (omega arith)))
    ∙ ap (λ b. more_if b (suc n) (cut n (r ∷ ranges))) (sym (or_true (in_range r (suc n)) (in_ranges ranges (suc n)) (inside r (suc n) (omega arith) (omega arith))))

-- all ranges begin behind the next group
step_later : (n most : ℕ) (r : GroupRange) (ranges : List GroupRange) → Rises (r.high.0 + 2) most ranges → r.low.0 ≤ r.high.0 → suc n < r.low.0
    → cut (suc n) (r ∷ ranges) ≡ more_if (in_ranges (r ∷ ranges) (suc n)) (suc n) (cut n (r ∷ ranges))
step_later n most r ranges rises some later =
    cut_beyond (suc n) r ranges later
    ∙ sym (cut_beyond n r ranges (omega arith))
    ∙ ap (λ b. more_if b (suc n) (cut n (r ∷ ranges)))
    (sym (or_rest (in_range r (suc n)) (in_ranges ranges (suc n)) (before_all r (suc n) later) ∙ in_ranges_below (r.high.0 + 2) most ranges (suc n) rises (omega arith)))

-- one group more
cut_step : (n least most : ℕ) (ranges : List GroupRange) → Rises least most ranges → cut (suc n) ranges ≡ more_if (in_ranges ranges (suc n)) (suc n) (cut n ranges)
cut_step n least most [] rises = refl
cut_step n least most (r ∷ ranges) rises = elim (cases_lt n r.high.0) [
  | inr ended ↦ step_ended n most r ranges rises.3 rises.1 ended (cut_step n (r.high.0 + 2) most ranges rises.3)
  | inl more ↦ elim (cases_lt n r.low.0) [
    | inr begun ↦ step_inside n most r ranges rises.3 begun more
    | inl ahead ↦ elim (cases_lt (suc n) r.low.0) [
      | inr begins ↦ step_begins n most r ranges rises.3 rises.1 (omega arith)
      | inl later ↦ step_later n most r ranges rises.3 rises.1 later
    ]
  ]
]

cut_upto : (n most : ℕ) (ranges : List GroupRange) → Rises 1 most ranges → ranges_upto (in_ranges ranges) n ≡ cut n ranges
unfolding ranges_upto
cut_upto zero most ranges rises = sym (cut_none 0 1 most ranges rises (omega arith))
cut_upto (suc n) most ranges rises =
    ap (more_if (in_ranges ranges (suc n)) (suc n)) (cut_upto n most ranges rises) ∙ sym (cut_step n 1 most ranges rises)

-- rising ranges are those of their groups
pub upto_back : (most : ℕ) (ranges : List GroupRange) → Rises 1 most ranges → ranges_upto (in_ranges ranges) most ≡ ranges
upto_back most ranges rises = cut_upto most most ranges rises ∙ cut_all most 1 most ranges rises (omega arith)

pub Rises-later : (least most later : ℕ) (ranges : List GroupRange) → Rises least most ranges → most ≤ later → Rises least later ranges
Rises-later least most later [] rises le = tt
Rises-later least most later (r ∷ ranges) rises le = (rises.0, rises.1, omega (arith, rises.2), Rises-later (r.high.0 + 2) most later ranges rises.3 le)

Rises-last : (b : Bool) (g least most : ℕ) (r : GroupRange) → (r.high.0 + 1 == g) ≡ b → least ≤ r.low.0 → r.low.0 ≤ r.high.0 → r.high.0 < g
    → Rises least g (cond b (range_up_to r g ∷ []) (r ∷ range_of_one g ∷ []))
Rises-last true g least most r is low some above = (low, omega arith, omega arith, tt)
Rises-last false g least most r is low some above = (low, some, omega arith, (grind (arith, nat_tests), omega arith, omega arith, tt))

Rises-extended : (g least most : ℕ) (ranges : List GroupRange) → Rises least most ranges → least ≤ g → most < g → Rises least g (extended g ranges)
Rises-extended g least most [] rises low above = (low, omega arith, omega arith, tt)
Rises-extended g least most (r ∷ []) rises low above = Rises-last (r.high.0 + 1 == g) g least most r refl rises.0 rises.1 (omega (arith, rises.2))
Rises-extended g least most (r ∷ (s ∷ ranges)) rises low above =
    (rises.0, rises.1, omega (arith, rises.2), Rises-extended g (r.high.0 + 2) most (s ∷ ranges) rises.3 (omega (arith, rises.3.0, rises.3.1, rises.3.2)) above)

Rises-step : (b : Bool) (n : ℕ) (ranges : List GroupRange) → Rises 1 n ranges → Rises 1 (suc n) (more_if b (suc n) ranges)
Rises-step true n ranges rises = Rises-extended (suc n) 1 n ranges rises (omega arith) (omega arith)
Rises-step false n ranges rises = Rises-later 1 n (suc n) ranges rises (omega arith)

pub upto_rises : (set : ℕ → Bool) (n : ℕ) → Rises 1 n (ranges_upto set n)
unfolding ranges_upto
upto_rises set zero = tt
upto_rises set (suc n) = Rises-step (set (suc n)) n (ranges_upto set n) (upto_rises set n)

in_last : (b : Bool) (g h : ℕ) (r : GroupRange) → (r.high.0 + 1 == g) ≡ b → r.low.0 ≤ r.high.0
    → in_ranges (cond b (range_up_to r g ∷ []) (r ∷ range_of_one g ∷ [])) h ≡ (in_range r h || (g == h))
in_last true g h r is some = grind (arith, nat_tests)
in_last false g h r is some = grind (arith, nat_tests)

in_one : (g h : ℕ) → in_ranges (range_of_one g ∷ []) h ≡ (g == h)
in_one g h = grind (arith, nat_tests)

-- one group more
in_extended : (g least most h : ℕ) (ranges : List GroupRange) → Rises least most ranges → in_ranges (extended g ranges) h ≡ (in_ranges ranges h || (g == h))
in_extended g least most h [] rises = in_one g h
in_extended g least most h (r ∷ []) rises =
    in_last (r.high.0 + 1 == g) g h r refl rises.1 ∙ sym (ap (λ b. b || (g == h)) (or_false (in_range r h)))
in_extended g least most h (r ∷ (s ∷ ranges)) rises =
    ap (λ b. in_range r h || b) (in_extended g (r.high.0 + 2) most h (s ∷ ranges) rises.3)
    ∙ or_step (in_range r h) (in_ranges (s ∷ ranges) h) (g == h)

has-none : (g : ℕ) (b : Bool) → false ≡ (nat_le 1 g && (nat_le g 0 && b))
has-none g b = grind (arith, nat_tests)

has-near : (n g : ℕ) (b last : Bool) → g ≤ n → ((nat_le 1 g && (nat_le g n && b)) || (last && (suc n == g))) ≡ (nat_le 1 g && (nat_le g (suc n) && b))
has-near n g b last near = grind (arith, nat_tests)

has-past : (n g : ℕ) (b last : Bool) → suc n < g → ((nat_le 1 g && (nat_le g n && b)) || (last && (suc n == g))) ≡ (nat_le 1 g && (nat_le g (suc n) && b))
has-past n g b last past = grind (arith, nat_tests)

has-here : (n g : ℕ) (b last : Bool) → g ≡ suc n → b ≡ last → ((nat_le 1 g && (nat_le g n && b)) || (last && (suc n == g))) ≡ (nat_le 1 g && (nat_le g (suc n) && b))
has-here n g b last here is = grind (arith, nat_tests)

has-more : (set : ℕ → Bool) (n g : ℕ) (last : Bool) → set (suc n) ≡ last
    → ((nat_le 1 g && (nat_le g n && set g)) || (last && (suc n == g))) ≡ (nat_le 1 g && (nat_le g (suc n) && set g))
has-more set n g last is = elim (cases_lt n g) [
  | inr near ↦ has-near n g (set g) last near
  | inl behind ↦ elim (cases_lt (suc n) g) [
    | inl past ↦ has-past n g (set g) last past
    | inr here ↦ has-here n g (set g) last (omega arith) (ap set (let e : g ≡ suc n = omega arith in e) ∙ is)
  ]
]

in_more : (b : Bool) (g least most h : ℕ) (ranges : List GroupRange) → Rises least most ranges → in_ranges (more_if b g ranges) h ≡ (in_ranges ranges h || (b && (g == h)))
in_more true g least most h ranges rises = in_extended g least most h ranges rises
in_more false g least most h ranges rises = sym (or_false (in_ranges ranges h))

has-step : (set : ℕ → Bool) (n g : ℕ) (ranges : List GroupRange) → Rises 1 n ranges → in_ranges ranges g ≡ (nat_le 1 g && (nat_le g n && set g))
    → in_ranges (more_if (set (suc n)) (suc n) ranges) g ≡ (nat_le 1 g && (nat_le g (suc n) && set g))
has-step set n g ranges rises so_far =
    in_more (set (suc n)) (suc n) 1 n g ranges rises ∙ ap (λ b. b || (set (suc n) && (suc n == g))) so_far ∙ has-more set n g (set (suc n)) refl

has-all : (set : ℕ → Bool) (n g : ℕ) → in_ranges (ranges_upto set n) g ≡ (nat_le 1 g && (nat_le g n && set g))
unfolding ranges_upto
has-all set zero g = has-none g (set g)
has-all set (suc n) g = has-step set n g (ranges_upto set n) (upto_rises set n) (has-all set n g)

and_turn : (a b c : Bool) → (a && (b && c)) ≡ ((a && b) && c)
and_turn true b c = refl
and_turn false b c = refl

-- they have the groups of the set from 1 to n
pub upto_has : (set : ℕ → Bool) (n g : ℕ) → in_ranges (ranges_upto set n) g ≡ (between 1 n g && set g)
upto_has set n g = has-all set n g ∙ and_turn (nat_le 1 g) (nat_le g n) (set g)

-- the groups of rising ranges are from the least to the most
pub ranges_within : (n g : ℕ) (ranges : List GroupRange) → Rises 1 n ranges → in_ranges ranges g ≡ true → (1 ≤ g) × (g ≤ n)
ranges_within n g ranges rises e = between_ends n g (sym (upto_has (in_ranges ranges) n g) ∙ ap (λ some. in_ranges some g) (upto_back n ranges rises) ∙ e)
  where
    between_ends : (n g : ℕ) → (between 1 n g && in_ranges ranges g) ≡ true → (1 ≤ g) × (g ≤ n)
    between_ends n g inside = let ends = (and_parts (between 1 n g) (in_ranges ranges g) inside).0 in (grind (arith, nat_tests), grind (arith, nat_tests))

same-step : (a b : Bool) (g : ℕ) (xs ys : List GroupRange) → a ≡ b → xs ≡ ys → more_if a g xs ≡ more_if b g ys
same-step a b g xs ys is same = ap (λ x. more_if x g xs) is ∙ ap (more_if b g) same

-- sets that agree up to n have the same ranges there
pub upto_same : (one other : ℕ → Bool) (n : ℕ) → ((g : ℕ) → 1 ≤ g → g ≤ n → one g ≡ other g) → ranges_upto one n ≡ ranges_upto other n
unfolding ranges_upto
upto_same one other zero same = refl
upto_same one other (suc n) same =
    same-step (one (suc n)) (other (suc n)) (suc n) (ranges_upto one n) (ranges_upto other n)
    (same (suc n) (omega arith) (omega arith)) (upto_same one other n (λ g low high. same g low (omega arith)))

further-step : (b : Bool) (g : ℕ) (xs ys : List GroupRange) → b ≡ false → xs ≡ ys → more_if b g xs ≡ ys
further-step b g xs ys out same = ap (λ x. more_if x g xs) out ∙ same

-- a set without a group behind n has the same ranges further on
pub upto_further : (set : ℕ → Bool) (n k : ℕ) → ((g : ℕ) → n < g → set g ≡ false) → ranges_upto set (n + k) ≡ ranges_upto set n
unfolding ranges_upto
upto_further set n zero none = ap (ranges_upto set) (add-zero n)
upto_further set n (suc k) none =
    ap (ranges_upto set) (add-suc n k)
    ∙ further-step (set (suc (n + k))) (suc (n + k)) (ranges_upto set (n + k)) (ranges_upto set n) (none (suc (n + k)) (omega arith)) (upto_further set n k none)

-- ranges whose groups all come by n rise up to n
pub Rises-within : (least most n : ℕ) (ranges : List GroupRange) → Rises least most ranges → ((g : ℕ) → in_ranges ranges g ≡ true → g ≤ n) → Rises least n ranges
Rises-within least most n [] rises top = tt
Rises-within least most n (r ∷ ranges) rises top = (
  rises.0,
  rises.1,
  top r.high.0 (or_true (in_range r r.high.0) (in_ranges ranges r.high.0) (inside r r.high.0 rises.1 (omega arith))),
  Rises-within (r.high.0 + 2) most n ranges rises.3 (λ g h. top g (or_true_right (in_range r g) (in_ranges ranges g) h)),
)
