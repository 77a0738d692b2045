-- The parts of runs between two groups.
use Rattle.std.proofs.Common.{◌≡◌, ℕ, ◌+◌, ◌<◌, ◌≤◌, suc, Bool, true, false, cond, ◌&&◌, ◌||◌, nat_le, min, max, List, [], ◌∷◌, ◌++◌, Option, Some, None, length, get_or, set, take, drop, refl, ap, sym, ◌∙◌, arith, add-one, append_assoc, take_all}
use Rattle.std.specs.List.{filter_map, remove, cons_option}
use Rattle.std.specs.Option.{option_to_list}
use Rattle.std.proofs.lemmas.List.{drop_more, drop_all, drop-set-lt, take_more, take_more_set, append-nil}
use Rattle.std.proofs.lemmas.List.Folds.{list_any-append}
use Rattle.std.proofs.lemmas.List.Elements.{filter_map-append}
use Rattle.std.proofs.lemmas.Bool.Decides.{nat_tests}
use Rattle.group_set.specs.declared.run.Run.{Run}
use Rattle.group_set.proofs.Placed.{front_of, back_of, length_front}
use Rattle.group_set.specs.Runs.{spans, in_runs, between, touches, part, common, StandsApart, AreRuns}

-- the part, as it was tested
abbrev part_if : Bool → ℕ → ℕ → Run → Option Run
part_if b low high run = cond b (Some (record { low = max run.low low; high = min run.high high })) None

in_parts-step : (b : Bool) (low high : ℕ) (run : Run) (runs : List Run) (g : ℕ) → nat_le (max run.low low) (min run.high high) ≡ b
    → in_runs (filter_map (part low high) runs) g ≡ (in_runs runs g && between low high g)
    → in_runs (cons_option (part_if b low high run) (filter_map (part low high) runs)) g ≡ ((spans run g || in_runs runs g) && between low high g)
in_parts-step true low high run runs g is rest = grind (arith, nat_tests)
in_parts-step false low high run runs g is rest = grind (arith, nat_tests)

-- they have the groups of the runs that lie between the two
pub in_parts : (low high : ℕ) (runs : List Run) (g : ℕ) → in_runs (filter_map (part low high) runs) g ≡ (in_runs runs g && between low high g)
in_parts low high [] g = refl
in_parts low high (run ∷ runs) g = in_parts-step (nat_le (max run.low low) (min run.high high)) low high run runs g refl (in_parts low high runs g)

apart_inside : (p q r s : Run) → q.low ≤ p.low → p.high ≤ q.high → s.low ≤ r.low → r.high ≤ s.high → touches q s ≡ false → touches p r ≡ false
apart_inside p q r s a b c d apart = grind (arith, nat_tests)

StandsApart-parts-step : (b : Bool) (p q : Run) (low high : ℕ) (run : Run) (runs : List Run) → q.low ≤ p.low → p.high ≤ q.high
    → touches q run ≡ false → StandsApart p (filter_map (part low high) runs)
    → StandsApart p (cons_option (part_if b low high run) (filter_map (part low high) runs))
StandsApart-parts-step true p q low high run runs a b apart rest = (apart_inside p q _ run a b (omega arith) (omega arith) apart, rest)
StandsApart-parts-step false p q low high run runs a b apart rest = rest

StandsApart-parts : (p q : Run) (low high : ℕ) (runs : List Run) → q.low ≤ p.low → p.high ≤ q.high → StandsApart q runs → StandsApart p (filter_map (part low high) runs)
StandsApart-parts p q low high [] a b apart = tt
StandsApart-parts p q low high (run ∷ runs) a b apart =
    StandsApart-parts-step (nat_le (max run.low low) (min run.high high)) p q low high run runs a b apart.0 (StandsApart-parts p q low high runs a b apart.1)

AreRuns-parts-step : (b : Bool) (low high : ℕ) (run : Run) (runs : List Run) → nat_le (max run.low low) (min run.high high) ≡ b → AreRuns (run ∷ runs)
    → AreRuns (filter_map (part low high) runs) → AreRuns (cons_option (part_if b low high run) (filter_map (part low high) runs))
AreRuns-parts-step true low high run runs is are rest = (
  record { first = grind (arith, nat_tests, are.0); some = grind (arith, nat_tests); last = grind (arith, nat_tests, are.0) },
  StandsApart-parts _ run low high runs (omega arith) (omega arith) are.1,
  rest,
)
AreRuns-parts-step false low high run runs is are rest = rest

-- they neither overlap nor touch
pub AreRuns-parts : (low high : ℕ) (runs : List Run) → AreRuns runs → AreRuns (filter_map (part low high) runs)
AreRuns-parts low high [] are = tt
AreRuns-parts low high (run ∷ runs) are =
    AreRuns-parts-step (nat_le (max run.low low) (min run.high high)) low high run runs refl are (AreRuns-parts low high runs are.2)

length-parts-step : (b : Bool) (low high : ℕ) (run : Run) (runs rest : List Run) → length rest ≤ length runs → length (cons_option (part_if b low high run) rest) ≤ length (run ∷ runs)
length-parts-step true low high run runs rest h = omega arith
length-parts-step false low high run runs rest h = omega arith

-- there are at most as many of them
pub length-parts : (low high : ℕ) (runs : List Run) → length (filter_map (part low high) runs) ≤ length runs
length-parts low high [] = omega arith
length-parts low high (run ∷ runs) =
    length-parts-step (nat_le (max run.low low) (min run.high high)) low high run runs (filter_map (part low high) runs) (length-parts low high runs)

and_or : (x a b : Bool) → ((x && a) || (x && b)) ≡ (x && (a || b))
and_or true a b = refl
and_or false a b = refl

and_false : (x : Bool) → false ≡ (x && false)
and_false true = refl
and_false false = refl

-- it has the groups that lie in both
pub in_common : (a b : List Run) (g : ℕ) → in_runs (common a b) g ≡ (in_runs a g && in_runs b g)
in_common a [] g = and_false (in_runs a g)
in_common a (run ∷ b) g =
    list_any-append (λ r. spans r g) (filter_map (part run.low run.high) a) (common a b)
    ∙ ap (λ x. x || in_runs (common a b) g) (in_parts run.low run.high a g)
    ∙ ap (λ x. (in_runs a g && spans run g) || x) (in_common a b g)
    ∙ and_or (in_runs a g) (spans run g) (in_runs b g)

StandsApart-append : (p : Run) (xs ys : List Run) → StandsApart p xs → StandsApart p ys → StandsApart p (xs ++ ys)
StandsApart-append p [] ys a b = b
StandsApart-append p (x ∷ xs) ys a b = (a.0, StandsApart-append p xs ys a.1 b)

StandsApart-inside-step : (b : Bool) (p q s run : Run) (rest : List Run) → q.low ≤ p.low → p.high ≤ q.high → touches q s ≡ false
    → StandsApart p rest → StandsApart p (cons_option (part_if b s.low s.high run) rest)
StandsApart-inside-step true p q s run rest a b apart more = (apart_inside p q _ s a b (omega arith) (omega arith) apart, more)
StandsApart-inside-step false p q s run rest a b apart more = more

StandsApart-inside : (p q s : Run) (runs : List Run) → q.low ≤ p.low → p.high ≤ q.high → touches q s ≡ false → StandsApart p (filter_map (part s.low s.high) runs)
StandsApart-inside p q s [] a b apart = tt
StandsApart-inside p q s (run ∷ runs) a b apart =
    StandsApart-inside-step (nat_le (max run.low s.low) (min run.high s.high)) p q s run (filter_map (part s.low s.high) runs) a b apart (StandsApart-inside p q s runs a b apart)

StandsApart-common : (p q : Run) (a b : List Run) → q.low ≤ p.low → p.high ≤ q.high → StandsApart q b → StandsApart p (common a b)
StandsApart-common p q a [] x y apart = tt
StandsApart-common p q a (s ∷ b) x y apart =
    StandsApart-append p (filter_map (part s.low s.high) a) (common a b) (StandsApart-inside p q s a x y apart.0) (StandsApart-common p q a b x y apart.1)

AreRuns-joint-step : (b : Bool) (run s : Run) (rest tail : List Run) → AreRuns rest → AreRuns (cons_option (part_if b s.low s.high run) rest)
    → ((p : Run) → s.low ≤ p.low → p.high ≤ s.high → StandsApart p tail) → AreRuns (rest ++ tail)
    → AreRuns (cons_option (part_if b s.low s.high run) rest ++ tail)
AreRuns-joint-step true run s rest tail are now apart more = (now.0, StandsApart-append _ rest tail now.1 (apart _ (omega arith) (omega arith)), more)
AreRuns-joint-step false run s rest tail are now apart more = more

AreRuns-joint : (s : Run) (runs tail : List Run) → AreRuns runs → AreRuns tail → ((p : Run) → s.low ≤ p.low → p.high ≤ s.high → StandsApart p tail)
    → AreRuns (filter_map (part s.low s.high) runs ++ tail)
AreRuns-joint s [] tail are ends apart = ends
AreRuns-joint s (run ∷ runs) tail are ends apart =
    AreRuns-joint-step (nat_le (max run.low s.low) (min run.high s.high)) run s (filter_map (part s.low s.high) runs) tail
    (AreRuns-parts s.low s.high runs are.2) (AreRuns-parts s.low s.high (run ∷ runs) are) apart (AreRuns-joint s runs tail are.2 ends apart)

-- the common parts neither overlap nor touch
pub AreRuns-common : (a b : List Run) → AreRuns a → AreRuns b → AreRuns (common a b)
AreRuns-common a [] is_a is_b = tt
AreRuns-common a (s ∷ b) is_a is_b =
    AreRuns-joint s a (common a b) is_a (AreRuns-common a b is_a is_b.2) (λ p x y. StandsApart-common p s a b x y is_b.1)

-- what a loop that keeps the parts in place leaves of the runs, at the place that it looks at
abbrev pub kept_at : ℕ → ℕ → List Run → ℕ → List Run
kept_at low high runs i = take i runs ++ filter_map (part low high) (drop i runs)

-- a part is put in place of its run
pub kept_some : (low high : ℕ) (runs : List Run) (i : ℕ) (d p : Run) → i < length runs → part low high (get_or runs i d) ≡ Some p
    → kept_at low high (set runs i p) (i + 1) ≡ kept_at low high runs i
kept_some low high runs i d p inside is =
    let f = part low high in
    let r = get_or runs i d in
    let more : take (i + 1) (set runs i p) ≡ take i runs ++ p ∷ [] = take_more_set runs i p inside in
    let rest : drop (i + 1) (set runs i p) ≡ drop (i + 1) runs = drop-set-lt (i + 1) runs i p (omega arith) in
    let here : filter_map f (drop i runs) ≡ p ∷ filter_map f (drop (i + 1) runs) =
    ap (filter_map f) (drop_more runs i d inside) ∙ ap (λ o. cons_option o (filter_map f (drop (i + 1) runs))) is in
    ap (λ xs. xs ++ filter_map f (drop (i + 1) (set runs i p))) more
    ∙ append_assoc (take i runs) (p ∷ []) (filter_map f (drop (i + 1) (set runs i p)))
    ∙ ap (λ ys. take i runs ++ p ∷ filter_map f ys) rest
    ∙ ap (λ ys. take i runs ++ ys) (sym here)

-- a run without a part goes
pub kept_none : (low high : ℕ) (runs : List Run) (i : ℕ) (d : Run) → i < length runs → part low high (get_or runs i d) ≡ None
    → kept_at low high (remove runs i) i ≡ kept_at low high runs i
kept_none low high runs i d inside is =
    let f = part low high in
    let rest = drop (suc i) runs in
    let long = length_front runs i inside in
    let front : take i (remove runs i) ≡ take i runs = front_of (take i runs) rest i long in
    let back : drop i (remove runs i) ≡ rest = back_of (take i runs) rest i long in
    let here : filter_map f (drop i runs) ≡ filter_map f rest =
    ap (filter_map f) (rw add-one at (drop_more runs i d inside)) ∙ ap (λ o. cons_option o (filter_map f rest)) is in
    ap (λ xs. xs ++ filter_map f (drop i (remove runs i))) front ∙ ap (λ ys. take i runs ++ filter_map f ys) back ∙ ap (λ ys. take i runs ++ ys) (sym here)

-- at the end they all are parts
pub kept_all : (low high : ℕ) (runs : List Run) (i : ℕ) → length runs ≤ i → kept_at low high runs i ≡ runs
kept_all low high runs i all =
    ap (λ xs. xs ++ filter_map (part low high) (drop i runs)) (take_all i runs all)
    ∙ ap (λ ys. runs ++ filter_map (part low high) ys) (drop_all i runs all) ∙ append-nil runs

parts_step : (o : Option Run) → cons_option o [] ≡ option_to_list o
parts_step None = refl
parts_step (Some p) = refl

-- one run more is one part more, or none
parts_more : (low high : ℕ) (runs : List Run) (i : ℕ) (d : Run) → i < length runs
    → filter_map (part low high) (take (i + 1) runs) ≡ filter_map (part low high) (take i runs) ++ option_to_list (part low high (get_or runs i d))
parts_more low high runs i d inside =
    ap (filter_map (part low high)) (take_more runs i d inside) ∙ filter_map-append (part low high) (take i runs) (get_or runs i d ∷ [])
    ∙ ap (λ o. filter_map (part low high) (take i runs) ++ o) (parts_step (part low high (get_or runs i d)))

-- the step of a loop that pushes them
pub pushed_part : (low high : ℕ) (runs : List Run) (i : ℕ) (d : Run) (before out next : List Run) (o : Option Run) → i < length runs
    → out ≡ before ++ filter_map (part low high) (take i runs) → o ≡ part low high (get_or runs i d) → next ≡ out ++ option_to_list o
    → next ≡ before ++ filter_map (part low high) (take (i + 1) runs)
pushed_part low high runs i d before out next o inside now is pushed =
    pushed ∙ ap (λ xs. xs ++ option_to_list o) now ∙ append_assoc before (filter_map (part low high) (take i runs)) (option_to_list o)
    ∙ ap (λ o. before ++ (filter_map (part low high) (take i runs) ++ option_to_list o)) is
    ∙ sym (ap (λ ys. before ++ ys) (parts_more low high runs i d inside))
