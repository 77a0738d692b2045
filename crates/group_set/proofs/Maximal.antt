-- The runs of a list that neither overlap nor touch are the maximal runs of its groups.
use Rattle.std.proofs.Common.{◌≡◌, ◌≢◌, ℕ, ◌+◌, ◌-◌, ◌^◌, ◌<◌, ◌≤◌, zero, suc, Bool, true, false, ◌&&◌, not, ◌⊎◌, inl, inr, List, [], ◌∷◌, map, length, get_or, refl, ap, sym, ◌∙◌, subst, arith, All, AllPairs, Contains}
use Rattle.std.proofs.lemmas.Bool.Decides.{nat_tests}
use Rattle.std.proofs.lemmas.Bool.{cases_lt, false_from_ne_true, false≢true}
use Rattle.std.proofs.lemmas.List.Kept.{AllPairs-cons}
use Rattle.std.proofs.lemmas.List.{length-map}
use Rattle.std.proofs.lemmas.List.Elements.{All-cons}
use Rattle.group_set.specs.declared.run.Run.{Run}
use Rattle.group_set.specs.Runs.{spans, in_runs, touches, IsRun, StandsApart, AreRuns}
use Rattle.group_set.specs.Choice.{IsAmong, FirstFrom}
use Rattle.group_set.specs.Groups.{Groups, holds, begins, IsMaximalRun, CountsRuns}
use Rattle.group_set.proofs.Placed.{touches_comm}
use Rattle.group_set.proofs.Among.{or_cases, or_true, or_true_right, spans_low, spans_within}

pub IsRun-among : (r : Run) (runs : List Run) → AreRuns runs → IsAmong r runs → IsRun r
IsRun-among r [] are among = absurd among
IsRun-among r (x ∷ runs) are (inl e) = subst IsRun e are.0
IsRun-among r (x ∷ runs) are (inr h) = IsRun-among r runs are.2 h

pub apart_among : (q r : Run) (runs : List Run) → StandsApart q runs → IsAmong r runs → touches q r ≡ false
apart_among q r [] apart among = absurd among
apart_among q r (x ∷ runs) apart (inl e) = subst (λ s. touches q s ≡ false) e apart.0
apart_among q r (x ∷ runs) apart (inr h) = apart_among q r runs apart.1 h

-- two of them are one, or don't touch
same_or_apart : (q r : Run) (runs : List Run) → AreRuns runs → IsAmong q runs → IsAmong r runs → (q ≡ r) ⊎ (touches q r ≡ false)
same_or_apart q r [] are a b = absurd a
same_or_apart q r (x ∷ runs) are (inl e) (inl f) = inl (sym e ∙ f)
same_or_apart q r (x ∷ runs) are (inl e) (inr b) = inr (subst (λ s. touches s r ≡ false) e (apart_among x r runs are.1 b))
same_or_apart q r (x ∷ runs) are (inr a) (inl f) = inr (touches_comm q r ∙ subst (λ s. touches s q ≡ false) f (apart_among x q runs are.1 a))
same_or_apart q r (x ∷ runs) are (inr a) (inr b) = same_or_apart q r runs are.2 a b

-- a group that lies in one of them, and the one
pub found_in : (runs : List Run) (g : ℕ) → in_runs runs g ≡ true → (r : Run) × IsAmong r runs × (spans r g ≡ true)
found_in [] g h = absurd (false≢true h)
found_in (x ∷ runs) g h = elim (or_cases (spans x g) (in_runs runs g) h) [
  | inl a ↦ (x, inl refl, a)
  | inr b ↦ (let f = found_in runs g b in (f.0, inr f.1, f.2))
]

pub in_among : (runs : List Run) (r : Run) (g : ℕ) → IsAmong r runs → spans r g ≡ true → in_runs runs g ≡ true
in_among [] r g among h = absurd among
in_among (x ∷ runs) r g (inl e) h = or_true (spans x g) (in_runs runs g) (subst (λ s. spans s g ≡ true) (sym e) h)
in_among (x ∷ runs) r g (inr a) h = or_true_right (spans x g) (in_runs runs g) (in_among runs r g a h)

not_before : (q r : Run) (g : ℕ) → IsRun q → IsRun r → touches q r ≡ false → g + 1 ≡ r.low → spans q g ≡ true → ⊥
not_before q r g is_q is_r apart e h = let a = is_q.some in let b = is_r.some in grind (arith, nat_tests)

not_behind : (q r : Run) (g : ℕ) → IsRun q → IsRun r → touches q r ≡ false → g ≡ r.high + 1 → spans q g ≡ true → ⊥
not_behind q r g is_q is_r apart e h = let a = is_q.some in let b = is_r.some in grind (arith, nat_tests)

out_before : (runs : List Run) (r : Run) → AreRuns runs → IsAmong r runs → in_runs runs (r.low - 1) ≡ false
out_before runs r are among = false_from_ne_true (in_runs runs (r.low - 1)) (λ h.
    let f = found_in runs (r.low - 1) h in
    let is_q = IsRun-among f.0 runs are f.1 in
    let is_r = IsRun-among r runs are among in
    let inside = spans_within f.0 (r.low - 1) f.2 in
    elim (same_or_apart f.0 r runs are f.1 among) [
      | inl e ↦ omega (arith, ap (λ (q : Run). q.low) e, inside.0, is_r.first)
      | inr apart ↦ not_before f.0 r (r.low - 1) is_q is_r apart (let b = is_r.first in omega arith) f.2
    ])

out_behind : (runs : List Run) (r : Run) → AreRuns runs → IsAmong r runs → in_runs runs (r.high + 1) ≡ false
out_behind runs r are among = false_from_ne_true (in_runs runs (r.high + 1)) (λ h.
    let f = found_in runs (r.high + 1) h in
    let is_q = IsRun-among f.0 runs are f.1 in
    let is_r = IsRun-among r runs are among in
    let inside = spans_within f.0 (r.high + 1) f.2 in
    elim (same_or_apart f.0 r runs are f.1 among) [
      | inl e ↦ omega (arith, ap (λ (q : Run). q.high) e, inside.1)
      | inr apart ↦ not_behind f.0 r (r.high + 1) is_q is_r apart refl f.2
    ])

inside_spans : (r : Run) (g : ℕ) → r.low ≤ g → g ≤ r.high → spans r g ≡ true
inside_spans r g a b = grind (arith, nat_tests)

-- each of them is a maximal run
pub IsMaximalRun-among : (set : Groups) (r : Run) → AreRuns set.runs → IsAmong r set.runs → IsMaximalRun set r.low r.high
unfolding holds
IsMaximalRun-among set r are among = record {
  some = (IsRun-among r set.runs are among).some;
  inside = λ g a b. in_among set.runs r g among (inside_spans r g a b);
  before = out_before set.runs r are among;
  behind = out_behind set.runs r are among;
}

not_true : (b : Bool) → not b ≡ true → b ≡ false
not_true true h = absurd (false≢true h)
not_true false h = refl

and_left : (a b : Bool) → (a && b) ≡ true → a ≡ true
and_left true b h = refl
and_left false b h = h

pub and_right : (a b : Bool) → (a && b) ≡ true → b ≡ true
and_right true b h = h
and_right false b h = absurd (false≢true h)

both_true : (a b : Bool) → a ≡ true → b ≡ true → (a && b) ≡ true
both_true true b x y = y
both_true false b x y = x

-- a group that begins a run is the low end of one of them
pub low_of : (set : Groups) (g : ℕ) → begins set g ≡ true → (r : Run) × IsAmong r set.runs × (r.low ≡ g)
unfolding holds
low_of set g h =
    let f = found_in set.runs g (and_left (in_runs set.runs g) (not (in_runs set.runs (g - 1))) h) in
    let out = not_true (in_runs set.runs (g - 1)) (and_right (in_runs set.runs g) (not (in_runs set.runs (g - 1))) h) in
    let inside = spans_within f.0 g f.2 in
    elim (cases_lt f.0.low g) [
      | inl below ↦ absurd (false≢true (sym out ∙ in_among set.runs f.0 (g - 1) f.1 (inside_spans f.0 (g - 1) (omega arith) (let b = inside.1 in omega arith))))
      | inr above ↦ (f.0, f.1, (let a = inside.0 in omega arith))
    ]

-- the low end of each begins a run
pub begins_low : (set : Groups) (r : Run) → AreRuns set.runs → IsAmong r set.runs → begins set r.low ≡ true
unfolding holds
begins_low set r are among =
    both_true (in_runs set.runs r.low) (not (in_runs set.runs (r.low - 1)))
    (in_among set.runs r r.low among (spans_low r (IsRun-among r set.runs are among)))
    (ap not (out_before set.runs r are among))

abbrev pub low_end : Run → ℕ
low_end r = r.low

low_differs : (x r : Run) → IsRun x → IsRun r → touches x r ≡ false → x.low ≢ r.low
low_differs x r is_x is_r apart e = let a = is_x.some in let b = is_r.some in grind (arith, nat_tests)

All-lows : (x : Run) (runs : List Run) → IsRun x → AreRuns runs → StandsApart x runs → All (λ low. x.low ≢ low) (map low_end runs)
All-lows x [] is are apart = λ k d h. absurd (omega arith)
All-lows x (r ∷ runs) is are apart = All-cons (λ low. x.low ≢ low) r.low (map low_end runs) (low_differs x r is are.0 apart.0) (All-lows x runs is are.2 apart.1)

AllPairs-lows : (runs : List Run) → AreRuns runs → AllPairs (λ a b. a ≢ b) (map low_end runs)
AllPairs-lows [] are = λ i j d h k. absurd (omega arith)
AllPairs-lows (x ∷ runs) are = AllPairs-cons (λ a b. a ≢ b) x.low (map low_end runs) (All-lows x runs are.0 are.2 are.1) (AllPairs-lows runs are.2)

low_among : (runs : List Run) (r : Run) → IsAmong r runs → Contains (map low_end runs) r.low
low_among [] r among = absurd among
low_among (x ∷ runs) r (inl e) = (0, omega (arith, length-map runs low_end), ap low_end e)
low_among (x ∷ runs) r (inr a) = let c = low_among runs r a in (suc c.0, omega (arith, c.1), c.2)

among_low : (runs : List Run) (k g : ℕ) → k < length (map low_end runs) → get_or (map low_end runs) k g ≡ g → (r : Run) × IsAmong r runs × (r.low ≡ g)
among_low [] k g h e = absurd (omega arith)
among_low (x ∷ runs) zero g h e = (x, inl refl, e)
among_low (x ∷ runs) (suc k) g h e = let f = among_low runs k g (omega arith) e in (f.0, inr f.1, f.2)

-- there are as many of them as maximal runs
pub CountsRuns-length : (set : Groups) → AreRuns set.runs → CountsRuns set (length set.runs)
CountsRuns-length set are = record {
  lows = map low_end set.runs;
  count = length-map set.runs low_end;
  differ = AllPairs-lows set.runs are;
  all = λ g h. (let f = low_of set g h in subst (Contains (map low_end set.runs)) f.2 (low_among set.runs f.0 f.1));
  only = λ g c. (let f = among_low set.runs c.0 g c.1 c.2 in subst (λ low. begins set low ≡ true) f.2 (begins_low set f.0 are f.1));
}

-- what was found among the runs, said of the set's groups
pub first_run : (set : Groups) (from : ℕ) (r : Run) → AreRuns set.runs → FirstFrom set.runs from r → (g : ℕ) → from ≤ g → g < r.low → begins set g ≡ false
first_run set from r are found g late before = false_from_ne_true (begins set g) (λ h.
    let f = low_of set g h in omega (arith, found.first f.0 f.1 (subst (λ low. from ≤ low) (sym f.2) late), f.2))

pub no_run : (set : Groups) (from : ℕ) → ((r : Run) → IsAmong r set.runs → r.low < from) → (g : ℕ) → from ≤ g → begins set g ≡ false
no_run set from none g late = false_from_ne_true (begins set g) (λ h.
    let f = low_of set g h in omega (arith, none f.0 f.1, f.2))

-- a group that lies in a run is one from 1 to 2^62
pub group_range : (runs : List Run) (g : ℕ) → AreRuns runs → in_runs runs g ≡ true → (1 ≤ g) × (g ≤ 2 ^ 62)
group_range runs g are h =
    let f = found_in runs g h in
    let is = IsRun-among f.0 runs are f.1 in
    let inside = spans_within f.0 g f.2 in
    (let a = is.first in let b = inside.0 in omega arith, let a = is.last in let b = inside.1 in omega arith)
