-- Looking for a run or a group.
use Rattle.std.proofs.Common.{◌≡◌, ℕ, ◌+◌, ◌<◌, ◌≤◌, zero, suc, Bool, true, false, cond, ◌||◌, nat_le, nat_lt, min, max, ◌⊎◌, inl, inr, List, [], ◌∷◌, ◌++◌, Option, Some, None, length, get_or, take, refl, ap, sym, ◌∙◌, subst, arith}
use Rattle.std.proofs.lemmas.List.{take_more, take_all}
use Rattle.std.proofs.lemmas.List.Folds.{list_any-append}
use Rattle.std.proofs.lemmas.Bool.Decides.{nat_tests}
use Rattle.std.proofs.lemmas.Bool.{cases_lt, false≢true}
use Rattle.group_set.specs.declared.run.Run.{Run}
use Rattle.group_set.specs.Runs.{spans, in_runs, joined, IsRun, AreRuns}
use Rattle.group_set.specs.Choice.{IsLeastFrom, LeastFrom, IsAmong, FirstFrom, IsFirstFrom, HullOf, IsHull, nearest, sooner, wider}

-- each of them is a run
pub IsRun-at : (runs : List Run) (i : ℕ) (d : Run) → AreRuns runs → i < length runs → IsRun (get_or runs i d)
IsRun-at [] i d are inside = absurd (omega arith)
IsRun-at (run ∷ runs) zero d are inside = are.0
IsRun-at (run ∷ runs) (suc i) d are inside = IsRun-at runs i d are.2 (omega arith)

pub or_nil : (a b : Bool) → (a || (b || false)) ≡ (a || b)
or_nil true b = refl
or_nil false true = refl
or_nil false false = refl

-- one run more at the end
pub in_runs_more : (runs : List Run) (i : ℕ) (d : Run) (g : ℕ) → i < length runs
    → in_runs (take (i + 1) runs) g ≡ (in_runs (take i runs) g || spans (get_or runs i d) g)
in_runs_more runs i d g inside =
    ap (λ rs. in_runs rs g) (take_more runs i d inside) ∙ list_any-append (λ r. spans r g) (take i runs) (get_or runs i d ∷ [])
    ∙ or_nil (in_runs (take i runs) g) (spans (get_or runs i d) g)

pub or_true : (a b : Bool) → a ≡ true → (a || b) ≡ true
or_true a b h = ap (λ x. x || b) h

pub or_true_right : (a b : Bool) → b ≡ true → (a || b) ≡ true
or_true_right true b h = refl
or_true_right false b h = h

nearest-none : (b : Bool) (has next : ℕ → Bool) (from : ℕ) (run : Run) → nat_lt run.high from ≡ b → IsRun run
    → ((g : ℕ) → next g ≡ (has g || spans run g)) → ((g : ℕ) → from ≤ g → has g ≡ false)
    → IsLeastFrom next from (cond b None (Some (max run.low from)))
nearest-none true has next from run is is_run more none = λ g late. more g ∙ (let h = none g late in grind (arith, nat_tests))
nearest-none false has next from run is is_run more none = record {
  holds = more (max run.low from) ∙ (let h = none (max run.low from) (omega arith) in grind (arith, nat_tests));
  late = omega arith;
  least = λ g late before. more g ∙ (let h = none g late in grind (arith, nat_tests));
}

nearest-some : (b : Bool) (has next : ℕ → Bool) (from group : ℕ) (run : Run) → nat_lt run.high from ≡ b → IsRun run
    → ((g : ℕ) → next g ≡ (has g || spans run g)) → LeastFrom has from group
    → IsLeastFrom next from (cond b (Some group) (Some (min group (max run.low from))))
nearest-some true has next from group run is is_run more found = record {
  holds = more group ∙ (let h = found.holds in grind (arith, nat_tests));
  late = found.late;
  least = λ g late before. more g ∙ (let h = found.least g late before in grind (arith, nat_tests));
}
nearest-some false has next from group run is is_run more found = record {
  holds = more m ∙ (elim (cases_lt group at) [
    | inl before ↦ (let e : m ≡ group = omega arith in let h : has m ≡ true = ap has e ∙ found.holds in or_true (has m) (spans run m) h)
    | inr behind ↦ (let e : m ≡ at = omega arith in let h : spans run m ≡ true = grind (arith, nat_tests) in or_true_right (has m) (spans run m) h)
  ]);
  late = let h = found.late in omega arith;
  least = λ g late before. more g ∙ (let h = found.least g late (omega arith) in grind (arith, nat_tests));
} where
  at : ℕ
  at = max run.low from

  m : ℕ
  m = min group at

nearest-step : (has next : ℕ → Bool) (from : ℕ) (run : Run) (found : Option ℕ) → IsRun run → ((g : ℕ) → next g ≡ (has g || spans run g))
    → IsLeastFrom has from found → IsLeastFrom next from (nearest from found run)
nearest-step has next from run None is_run more none = nearest-none (nat_lt run.high from) has next from run refl is_run more none
nearest-step has next from run (Some group) is_run more found = nearest-some (nat_lt run.high from) has next from group run refl is_run more found

-- the step of a loop that looks for the least group
pub nearest_more : (runs : List Run) (i : ℕ) (d : Run) (from : ℕ) (found next : Option ℕ) → i < length runs → AreRuns runs
    → IsLeastFrom (in_runs (take i runs)) from found → next ≡ nearest from found (get_or runs i d)
    → IsLeastFrom (in_runs (take (i + 1) runs)) from next
nearest_more runs i d from found next inside are now is =
    subst (IsLeastFrom (in_runs (take (i + 1) runs)) from) (sym is)
    (nearest-step (in_runs (take i runs)) (in_runs (take (i + 1) runs)) from (get_or runs i d) found (IsRun-at runs i d are inside)
    (λ g. in_runs_more runs i d g inside) now)

pub nearest_all : (runs : List Run) (i from : ℕ) (found : Option ℕ) → length runs ≤ i → IsLeastFrom (in_runs (take i runs)) from found → IsLeastFrom (in_runs runs) from found
nearest_all runs i from found all now = subst (λ rs. IsLeastFrom (in_runs rs) from found) (take_all i runs all) now

IsAmong-more : (r : Run) (runs rest : List Run) → IsAmong r runs → IsAmong r (runs ++ rest)
IsAmong-more r (x ∷ runs) rest (inl e) = inl e
IsAmong-more r (x ∷ runs) rest (inr h) = inr (IsAmong-more r runs rest h)
IsAmong-more r [] rest h = absurd h

IsAmong-last : (r : Run) (runs : List Run) → IsAmong r (runs ++ r ∷ [])
IsAmong-last r [] = inl refl
IsAmong-last r (x ∷ runs) = inr (IsAmong-last r runs)

IsAmong-push : (r x : Run) (runs : List Run) → IsAmong r (runs ++ x ∷ []) → IsAmong r runs ⊎ (x ≡ r)
IsAmong-push r x [] (inl e) = inr e
IsAmong-push r x [] (inr h) = absurd h
IsAmong-push r x (y ∷ runs) (inl e) = inl (inl e)
IsAmong-push r x (y ∷ runs) (inr h) = elim (IsAmong-push r x runs h) [ inl a ↦ inl (inr a) | inr e ↦ inr e ]

late_low : (x r : Run) (from : ℕ) → x ≡ r → x.low < from → r.low < from
late_low x r from e h = subst (λ q. q.low < from) e h

sooner-none : (b : Bool) (runs : List Run) (from : ℕ) (run : Run) → nat_lt run.low from ≡ b → ((r : Run) → IsAmong r runs → r.low < from)
    → IsFirstFrom (runs ++ run ∷ []) from (cond b None (Some run))
sooner-none true runs from run is none = λ r among. elim (IsAmong-push r run runs among) [ inl a ↦ none r a | inr e ↦ late_low run r from e (grind (arith, nat_tests)) ]
sooner-none false runs from run is none = record {
  among = IsAmong-last run runs;
  late = grind (arith, nat_tests);
  first = λ r among late. elim (IsAmong-push r run runs among) [ inl a ↦ absurd (let h = none r a in omega arith) | inr e ↦ omega (arith, ap (λ (q : Run). q.low) e) ];
}

sooner-some : (b c : Bool) (runs : List Run) (from : ℕ) (first run : Run) → nat_lt run.low from ≡ b → nat_le first.low run.low ≡ c → FirstFrom runs from first
    → IsFirstFrom (runs ++ run ∷ []) from (cond b (Some first) (cond c (Some first) (Some run)))
sooner-some true c runs from first run is order found = record {
  among = IsAmong-more first runs (run ∷ []) found.among;
  late = found.late;
  first = λ r among late. elim (IsAmong-push r run runs among) [ inl a ↦ found.first r a late | inr e ↦ absurd (let h = late_low run r from e (grind (arith, nat_tests)) in omega arith) ];
}
sooner-some false true runs from first run is order found = record {
  among = IsAmong-more first runs (run ∷ []) found.among;
  late = found.late;
  first = λ r among late. elim (IsAmong-push r run runs among) [ inl a ↦ found.first r a late | inr e ↦ (let l : first.low ≤ run.low = grind (arith, nat_tests) in omega (arith, ap (λ (q : Run). q.low) e)) ];
}
sooner-some false false runs from first run is order found = record {
  among = IsAmong-last run runs;
  late = grind (arith, nat_tests);
  first = λ r among late. elim (IsAmong-push r run runs among) [
    | inl a ↦ (let l : run.low < first.low = grind (arith, nat_tests) in omega (arith, found.first r a late))
    | inr e ↦ omega (arith, ap (λ (q : Run). q.low) e)
  ];
}

sooner-step : (runs : List Run) (from : ℕ) (run : Run) (found : Option Run) → IsFirstFrom runs from found → IsFirstFrom (runs ++ run ∷ []) from (sooner from found run)
sooner-step runs from run None none = sooner-none (nat_lt run.low from) runs from run refl none
sooner-step runs from run (Some first) found = sooner-some (nat_lt run.low from) (nat_le first.low run.low) runs from first run refl refl found

-- the step of a loop that looks for the first run
pub sooner_more : (runs : List Run) (i : ℕ) (d : Run) (from : ℕ) (found next : Option Run) → i < length runs
    → IsFirstFrom (take i runs) from found → next ≡ sooner from found (get_or runs i d) → IsFirstFrom (take (i + 1) runs) from next
sooner_more runs i d from found next inside now is =
    subst (IsFirstFrom (take (i + 1) runs) from) (sym is)
    (subst (λ rs. IsFirstFrom rs from (sooner from found (get_or runs i d))) (sym (take_more runs i d inside))
    (sooner-step (take i runs) from (get_or runs i d) found now))

pub sooner_all : (runs : List Run) (i from : ℕ) (found : Option Run) → length runs ≤ i → IsFirstFrom (take i runs) from found → IsFirstFrom runs from found
sooner_all runs i from found all now = subst (λ rs. IsFirstFrom rs from found) (take_all i runs all) now

in_runs_push : (runs : List Run) (run : Run) (g : ℕ) → in_runs (runs ++ run ∷ []) g ≡ (in_runs runs g || spans run g)
in_runs_push runs run g = list_any-append (λ r. spans r g) runs (run ∷ []) ∙ or_nil (in_runs runs g) (spans run g)

pub spans_low : (run : Run) → IsRun run → spans run run.low ≡ true
spans_low run is = let h = is.some in grind (arith, nat_tests)

pub spans_high : (run : Run) → IsRun run → spans run run.high ≡ true
spans_high run is = let h = is.some in grind (arith, nat_tests)

pub spans_within : (run : Run) (g : ℕ) → spans run g ≡ true → (run.low ≤ g) × (g ≤ run.high)
spans_within run g h = (grind (arith, nat_tests), grind (arith, nat_tests))

pub or_cases : (a b : Bool) → (a || b) ≡ true → (a ≡ true) ⊎ (b ≡ true)
or_cases true b h = inl refl
or_cases false b h = inr h

hull_one : (runs : List Run) (run : Run) → IsRun run → runs ≡ [] → HullOf (runs ++ run ∷ []) run
hull_one runs run is none = subst (λ rs. HullOf (rs ++ run ∷ []) run) (sym none) (record {
  is_run = is;
  low = or_true (spans run run.low) false (spans_low run is);
  high = or_true (spans run run.high) false (spans_high run is);
  above = λ g h. (spans_within run g (elim (or_cases (spans run g) false h) [ inl a ↦ a | inr b ↦ absurd (false≢true b) ])).0;
  below = λ g h. (spans_within run g (elim (or_cases (spans run g) false h) [ inl a ↦ a | inr b ↦ absurd (false≢true b) ])).1;
})

hull_more : (runs : List Run) (hull run : Run) → IsRun run → HullOf runs hull → HullOf (runs ++ run ∷ []) (joined hull run)
hull_more runs hull run is found = record {
  is_run = record { first = (let a = found.is_run.first in let b = is.first in grind arith); some = (let a = found.is_run.some in let b = is.some in grind arith); last = (let a = found.is_run.last in let b = is.last in grind arith) };
  low = in_runs_push runs run (min hull.low run.low) ∙ (elim (cases_lt hull.low run.low) [
    | inl a ↦ (let e : min hull.low run.low ≡ hull.low = omega arith in or_true (in_runs runs (min hull.low run.low)) (spans run (min hull.low run.low)) (ap (in_runs runs) e ∙ found.low))
    | inr b ↦ (let e : min hull.low run.low ≡ run.low = omega arith in or_true_right (in_runs runs (min hull.low run.low)) (spans run (min hull.low run.low)) (ap (spans run) e ∙ spans_low run is))
  ]);
  high = in_runs_push runs run (max hull.high run.high) ∙ (elim (cases_lt run.high hull.high) [
    | inl a ↦ (let e : max hull.high run.high ≡ hull.high = omega arith in or_true (in_runs runs (max hull.high run.high)) (spans run (max hull.high run.high)) (ap (in_runs runs) e ∙ found.high))
    | inr b ↦ (let e : max hull.high run.high ≡ run.high = omega arith in or_true_right (in_runs runs (max hull.high run.high)) (spans run (max hull.high run.high)) (ap (spans run) e ∙ spans_high run is))
  ]);
  above = λ g h. elim (or_cases (in_runs runs g) (spans run g) (sym (in_runs_push runs run g) ∙ h)) [ inl a ↦ omega (arith, found.above g a) | inr b ↦ omega (arith, (spans_within run g b).0) ];
  below = λ g h. elim (or_cases (in_runs runs g) (spans run g) (sym (in_runs_push runs run g) ∙ h)) [ inl a ↦ omega (arith, found.below g a) | inr b ↦ omega (arith, (spans_within run g b).1) ];
}

wider-step : (runs : List Run) (run : Run) (found : Option Run) → IsRun run → IsHull runs found → IsHull (runs ++ run ∷ []) (wider found run)
wider-step runs run None is none = hull_one runs run is none
wider-step runs run (Some hull) is found = hull_more runs hull run is found

-- the step of a loop that looks for the least and the greatest group
pub wider_more : (runs : List Run) (i : ℕ) (d : Run) (found next : Option Run) → i < length runs → AreRuns runs
    → IsHull (take i runs) found → next ≡ wider found (get_or runs i d) → IsHull (take (i + 1) runs) next
wider_more runs i d found next inside are now is =
    subst (IsHull (take (i + 1) runs)) (sym is)
    (subst (λ rs. IsHull rs (wider found (get_or runs i d))) (sym (take_more runs i d inside))
    (wider-step (take i runs) (get_or runs i d) found (IsRun-at runs i d are inside) now))

pub wider_all : (runs : List Run) (i : ℕ) (found : Option Run) → length runs ≤ i → IsHull (take i runs) found → IsHull runs found
wider_all runs i found all now = subst (λ rs. IsHull rs found) (take_all i runs all) now
