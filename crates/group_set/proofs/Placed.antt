-- A run that is put among runs which neither overlap nor touch.
use Rattle.std.proofs.Common.{◌≡◌, ℕ, ◌+◌, ◌<◌, ◌≤◌, suc, Bool, true, false, cond, ◌||◌, List, [], ◌∷◌, ◌++◌, length, get_or, take, drop, refl, ap, sym, ◌∙◌, arith, add-one, append_assoc, take_all}
use Rattle.std.specs.List.{remove}
use Rattle.std.proofs.lemmas.List.{drop_more, drop_all, take_more}
use Rattle.std.proofs.Math.Seq.{take-append_seam, drop-append_seam}
use Rattle.std.proofs.Math.ListN.{length-take}
use Rattle.std.proofs.lemmas.Bool.Decides.{nat_tests}
use Rattle.group_set.specs.declared.run.Run.{Run}
use Rattle.group_set.specs.Runs.{spans, in_runs, touches, joined, IsRun, StandsApart, AreRuns}

-- the runs with one more, which takes up those that it touches
abbrev pub placed : Run → List Run → List Run
placed run [] = run ∷ []
placed run (r ∷ runs) = cond (touches run r) (placed (joined run r) runs) (r ∷ placed run runs)

spans_joined : (a b : Run) (g : ℕ) → IsRun a → IsRun b → touches a b ≡ true → spans (joined a b) g ≡ (spans a g || spans b g)
spans_joined a b g is_a is_b h = grind (arith, nat_tests)

IsRun-joined : (a b : Run) → IsRun a → IsRun b → IsRun (joined a b)
IsRun-joined a b is_a is_b = record { first = grind arith; some = grind arith; last = grind arith }

pub touches_comm : (a b : Run) → touches a b ≡ touches b a
touches_comm a b = grind (arith, nat_tests)

apart_joined : (q a b : Run) → IsRun q → IsRun a → IsRun b → touches a b ≡ true → touches q a ≡ false → touches q b ≡ false → touches q (joined a b) ≡ false
apart_joined q a b is_q is_a is_b ab qa qb = grind (arith, nat_tests)

-- the last of three tests, taken to the front
or_turn : (a b c : Bool) → (a || (b || c)) ≡ ((c || a) || b)
or_turn true b true = refl
or_turn true b false = refl
or_turn false true true = refl
or_turn false true false = refl
or_turn false false true = refl
or_turn false false false = refl

pub or_step : (a b c : Bool) → (a || (b || c)) ≡ ((a || b) || c)
or_step true b c = refl
or_step false b c = refl

in_placed-step : (b : Bool) (run r : Run) (runs : List Run) (g : ℕ) → touches run r ≡ b → IsRun run → IsRun r
    → in_runs (placed (joined run r) runs) g ≡ (in_runs runs g || spans (joined run r) g)
    → in_runs (placed run runs) g ≡ (in_runs runs g || spans run g)
    → in_runs (cond b (placed (joined run r) runs) (r ∷ placed run runs)) g ≡ ((spans r g || in_runs runs g) || spans run g)
in_placed-step true run r runs g is is_run is_r touching apart =
    touching ∙ ap (λ x. in_runs runs g || x) (spans_joined run r g is_run is_r is) ∙ or_turn (in_runs runs g) (spans run g) (spans r g)
in_placed-step false run r runs g is is_run is_r touching apart =
    ap (λ x. spans r g || x) apart ∙ or_step (spans r g) (in_runs runs g) (spans run g)

pub or_false : (a : Bool) → (a || false) ≡ a
or_false true = refl
or_false false = refl

-- its groups are those of the runs and of the run
pub in_placed : (run : Run) (runs : List Run) (g : ℕ) → IsRun run → AreRuns runs → in_runs (placed run runs) g ≡ (in_runs runs g || spans run g)
in_placed run [] g is_run are = or_false (spans run g)
in_placed run (r ∷ runs) g is_run are =
    in_placed-step (touches run r) run r runs g refl is_run are.0
    (in_placed (joined run r) runs g (IsRun-joined run r is_run are.0) are.2)
    (in_placed run runs g is_run are.2)

StandsApart-placed-step : (b : Bool) (q run r : Run) (runs : List Run) → touches run r ≡ b → IsRun q → IsRun run → IsRun r
    → touches q run ≡ false → touches q r ≡ false
    → (touches q (joined run r) ≡ false → StandsApart q (placed (joined run r) runs))
    → StandsApart q (placed run runs)
    → StandsApart q (cond b (placed (joined run r) runs) (r ∷ placed run runs))
StandsApart-placed-step true q run r runs is is_q is_run is_r q_run q_r touching apart = touching (apart_joined q run r is_q is_run is_r is q_run q_r)
StandsApart-placed-step false q run r runs is is_q is_run is_r q_run q_r touching apart = (q_r, apart)

StandsApart-placed : (q run : Run) (runs : List Run) → IsRun q → IsRun run → AreRuns runs → touches q run ≡ false → StandsApart q runs
    → StandsApart q (placed run runs)
StandsApart-placed q run [] is_q is_run are q_run q_runs = (q_run, tt)
StandsApart-placed q run (r ∷ runs) is_q is_run are q_run q_runs =
    StandsApart-placed-step (touches run r) q run r runs refl is_q is_run are.0 q_run q_runs.0
    (λ h. StandsApart-placed q (joined run r) runs is_q (IsRun-joined run r is_run are.0) are.2 h q_runs.1)
    (StandsApart-placed q run runs is_q is_run are.2 q_run q_runs.1)

AreRuns-placed-step : (b : Bool) (run r : Run) (runs : List Run) → touches run r ≡ b → IsRun run → AreRuns (r ∷ runs)
    → AreRuns (placed (joined run r) runs) → AreRuns (placed run runs)
    → AreRuns (cond b (placed (joined run r) runs) (r ∷ placed run runs))
AreRuns-placed-step true run r runs is is_run are touching apart = touching
AreRuns-placed-step false run r runs is is_run are touching apart =
    (are.0, StandsApart-placed r run runs are.0 is_run are.2 (touches_comm r run ∙ is) are.1, apart)

-- its runs neither overlap nor touch
pub AreRuns-placed : (run : Run) (runs : List Run) → IsRun run → AreRuns runs → AreRuns (placed run runs)
AreRuns-placed run [] is_run are = (is_run, tt, tt)
AreRuns-placed run (r ∷ runs) is_run are =
    AreRuns-placed-step (touches run r) run r runs refl is_run are
    (AreRuns-placed (joined run r) runs (IsRun-joined run r is_run are.0) are.2)
    (AreRuns-placed run runs is_run are.2)

length-placed-step : (b : Bool) (r : Run) (xs ys : List Run) (n : ℕ) → length xs ≤ n + 1 → length ys ≤ n + 1 → length (cond b xs (r ∷ ys)) ≤ (n + 1) + 1
length-placed-step true r xs ys n x y = omega arith
length-placed-step false r xs ys n x y = omega arith

-- it has at most one run more
pub length-placed : (run : Run) (runs : List Run) → length (placed run runs) ≤ length runs + 1
length-placed run [] = omega arith
length-placed run (r ∷ runs) =
    omega (arith, length-placed-step (touches run r) r (placed (joined run r) runs) (placed run runs) (length runs) (length-placed (joined run r) runs) (length-placed run runs))

true_or : (b c : Bool) → (b || c) ≡ true → b ≡ false → c ≡ true
true_or true c h none = cc
true_or false c h none = h

not_near : (run r : Run) (h : ℕ) → run.low ≤ h + 1 → h ≤ run.high + 1 → touches run r ≡ false → spans r h ≡ false
not_near run r h low high apart = grind (arith, nat_tests)

length-near-step : (b : Bool) (run r : Run) (runs : List Run) (h : ℕ) → touches run r ≡ b → run.low ≤ h + 1 → h ≤ run.high + 1
    → (spans r h || in_runs runs h) ≡ true → length (placed (joined run r) runs) ≤ length runs + 1
    → (in_runs runs h ≡ true → length (placed run runs) ≤ length runs)
    → length (cond b (placed (joined run r) runs) (r ∷ placed run runs)) ≤ length runs + 1
length-near-step true run r runs h is low high held touching apart = touching
length-near-step false run r runs h is low high held touching apart =
    let rest = apart (true_or (spans r h) (in_runs runs h) held (not_near run r h low high is)) in
    omega (arith, rest)

-- next to a group that is there it only lengthens a run
pub length-near : (run : Run) (runs : List Run) (h : ℕ) → run.low ≤ h + 1 → h ≤ run.high + 1 → in_runs runs h ≡ true → length (placed run runs) ≤ length runs
length-near run [] h low high held = cc
length-near run (r ∷ runs) h low high held =
    omega (arith, length-near-step (touches run r) run r runs h refl low high held (length-placed (joined run r) runs) (length-near run runs h low high))

cons_at : (runs : List Run) (i : ℕ) (d : Run) (run : Run) → i < length runs → placed run (drop i runs) ≡ placed run (get_or runs i d ∷ drop (i + 1) runs)
cons_at runs i d run inside = ap (placed run) (drop_more runs i d inside)

pub front_of : (xs ys : List Run) (i : ℕ) → length xs ≡ i → take i (xs ++ ys) ≡ xs
front_of xs ys i long = ap (λ n. take n (xs ++ ys)) (sym long) ∙ take-append_seam xs ys

pub back_of : (xs ys : List Run) (i : ℕ) → length xs ≡ i → drop i (xs ++ ys) ≡ ys
back_of xs ys i long = ap (λ n. drop n (xs ++ ys)) (sym long) ∙ drop-append_seam xs ys

pub length_front : (runs : List Run) (i : ℕ) → i < length runs → length (take i runs) ≡ i
length_front runs i inside = rw length-take (omega arith)

-- what a loop over the runs leaves of them, with the run, at the place that it looks at
abbrev pub left_at : List Run → ℕ → Run → List Run
left_at runs i run = take i runs ++ placed run (drop i runs)

placed_true : (run r : Run) (runs : List Run) → touches run r ≡ true → placed run (r ∷ runs) ≡ placed (joined run r) runs
placed_true run r runs is = ap (λ b. cond b (placed (joined run r) runs) (r ∷ placed run runs)) is

placed_false : (run r : Run) (runs : List Run) → touches run r ≡ false → placed run (r ∷ runs) ≡ r ∷ placed run runs
placed_false run r runs is = ap (λ b. cond b (placed (joined run r) runs) (r ∷ placed run runs)) is

-- a run there that is touched is taken up
pub left_touching : (run : Run) (runs : List Run) (i : ℕ) (d : Run) → i < length runs → touches run (get_or runs i d) ≡ true
    → left_at (remove runs i) i (joined run (get_or runs i d)) ≡ left_at runs i run
left_touching run runs i d inside is =
    let r = get_or runs i d in
    let long = length_front runs i inside in
    let rest = drop (suc i) runs in
    let front : take i (remove runs i) ≡ take i runs = front_of (take i runs) rest i long in
    let back : drop i (remove runs i) ≡ rest = back_of (take i runs) rest i long in
    let here : drop i runs ≡ r ∷ rest = rw add-one at (drop_more runs i d inside) in
    let now : placed (joined run r) (drop i (remove runs i)) ≡ placed run (drop i runs) =
    ap (placed (joined run r)) back ∙ sym (placed_true run r rest is) ∙ sym (ap (placed run) here) in
    ap (λ xs. xs ++ placed (joined run r) (drop i (remove runs i))) front ∙ ap (λ ys. take i runs ++ ys) now

-- another one is passed
pub left_passed : (run : Run) (runs : List Run) (i : ℕ) (d : Run) → i < length runs → touches run (get_or runs i d) ≡ false
    → left_at runs (i + 1) run ≡ left_at runs i run
left_passed run runs i d inside is =
    let r = get_or runs i d in
    let more : take (i + 1) runs ≡ take i runs ++ r ∷ [] = take_more runs i d inside in
    let here : drop i runs ≡ r ∷ drop (i + 1) runs = drop_more runs i d inside in
    ap (λ xs. xs ++ placed run (drop (i + 1) runs)) more ∙ append_assoc (take i runs) (r ∷ []) (placed run (drop (i + 1) runs))
    ∙ ap (λ ys. take i runs ++ ys) (sym (ap (placed run) here ∙ placed_false run r (drop (i + 1) runs) is))

-- at the end the run stands behind them
pub left_all : (run : Run) (runs : List Run) (i : ℕ) → length runs ≤ i → left_at runs i run ≡ runs ++ run ∷ []
left_all run runs i all = ap (λ xs. xs ++ placed run (drop i runs)) (take_all i runs all) ∙ ap (λ ys. runs ++ placed run ys) (drop_all i runs all)

-- at the beginning nothing is passed
pub left_none : (run : Run) (runs : List Run) → left_at runs 0 run ≡ placed run runs
left_none run runs = refl
