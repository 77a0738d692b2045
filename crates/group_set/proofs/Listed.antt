-- The ranges of runs, one after another.
use Rattle.std.proofs.Common.{◌≡◌, ℕ, ◌+◌, ◌^◌, ◌<◌, ◌≤◌, Bool, true, false, cond, ◌||◌, nat_lt, inl, inr, List, [], ◌∷◌, ◌++◌, filter, map, length, refl, ap, sym, ◌∙◌, subst, arith, length-append}
use Rattle.std.proofs.lemmas.Bool.Decides.{nat_tests}
use Rattle.std.proofs.lemmas.Bool.{cases_lt, false≢true}
use Rattle.std.proofs.lemmas.List.Folds.{list_any-append}
use Rattle.mp_base.specs.declared.range.GroupRange.{GroupRange}
use Rattle.group_set.specs.declared.run.Run.{Run}
use Rattle.group_set.specs.Runs.{spans, in_runs, touches, IsRun, StandsApart, AreRuns}
use Rattle.group_set.specs.Choice.{IsAmong, FirstFrom}
use Rattle.mp_base.specs.Ranges.{Rises}
use Rattle.group_set.specs.Ranges.{in_range, in_ranges, range_of, run_of, ranges_upto}
use Rattle.group_set.proofs.Among.{or_nil}
use Rattle.group_set.proofs.Placed.{or_step, touches_comm}
use Rattle.group_set.proofs.Maximal.{IsRun-among, apart_among}
use Rattle.group_set.proofs.Upto.{Rises-within, upto_back, upto_same}

-- where the next range may begin
abbrev pub behind : ℕ → List GroupRange → ℕ
behind least [] = least
behind least (r ∷ ranges) = behind (r.high.0 + 2) ranges

pub behind_push : (least : ℕ) (ranges : List GroupRange) (r : GroupRange) → behind least (ranges ++ r ∷ []) ≡ r.high.0 + 2
behind_push least [] r = refl
behind_push least (x ∷ ranges) r = behind_push (x.high.0 + 2) ranges r

pub Rises-push : (least most : ℕ) (ranges : List GroupRange) (r : GroupRange) → Rises least most ranges → behind least ranges ≤ r.low.0 → r.low.0 ≤ r.high.0
    → r.high.0 ≤ most → Rises least most (ranges ++ r ∷ [])
Rises-push least most [] r rises low some high = (low, some, high, tt)
Rises-push least most (x ∷ ranges) r rises low some high = (rises.0, rises.1, rises.2, Rises-push (x.high.0 + 2) most ranges r rises.3 low some high)

pub in_ranges_push : (ranges : List GroupRange) (r : GroupRange) (g : ℕ) → in_ranges (ranges ++ r ∷ []) g ≡ (in_ranges ranges g || in_range r g)
in_ranges_push ranges r g = list_any-append (λ x. in_range x g) ranges (r ∷ []) ∙ or_nil (in_ranges ranges g) (in_range r g)

-- the runs that begin before a group
abbrev pub begun : ℕ → List Run → List Run
begun from runs = filter (λ r. nat_lt r.low from) runs

module _ (p q : Run → Bool) where
  same_kept : (runs : List Run) → ((r : Run) → IsAmong r runs → q r ≡ p r) → filter q runs ≡ filter p runs
  same_kept [] same = refl
  same_kept (x ∷ runs) same =
      ap (λ b. cond b (x ∷ filter q runs) (filter q runs)) (same x (inl refl))
      ∙ ap (λ xs. cond (p x) (x ∷ xs) xs) (same_kept runs (λ r a. same r (inr a)))

-- of runs of which no two touch one more is kept
record OneMore (old new : List Run) (run : Run) : Type 0 where
  count : length new ≡ length old + 1
  groups : (g : ℕ) → in_runs new g ≡ (in_runs old g || spans run g)

or_comm : (a b : Bool) → (a || b) ≡ (b || a)
or_comm true true = refl
or_comm true false = refl
or_comm false true = refl
or_comm false false = refl

abbrev kept_if : Bool → Run → List Run → List Run
kept_if b x runs = cond b (x ∷ runs) runs

OneMore-here : (b c : Bool) (old : List Run) (x run : Run) → b ≡ false → c ≡ true → x ≡ run → OneMore (kept_if b x old) (kept_if c x old) run
OneMore-here true c old x run out in_new is = absurd (false≢true (sym out))
OneMore-here false false old x run out in_new is = absurd (false≢true in_new)
OneMore-here false true old x run out in_new is =
    record { count = omega arith; groups = λ g. ap (λ b. b || in_runs old g) (ap (λ r. spans r g) is) ∙ or_comm (spans run g) (in_runs old g) }

OneMore-there : (b c : Bool) (old new : List Run) (x run : Run) → c ≡ b → OneMore old new run → OneMore (kept_if b x old) (kept_if c x new) run
OneMore-there true true old new x run same more =
    record { count = omega (arith, more.count); groups = λ g. ap (λ b. spans x g || b) (more.groups g) ∙ or_step (spans x g) (in_runs old g) (spans run g) }
OneMore-there true false old new x run same more = absurd (false≢true same)
OneMore-there false true old new x run same more = absurd (false≢true (sym same))
OneMore-there false false old new x run same more = more

-- a test that passes one run more than another keeps one run more
OneMore-kept : (p q : Run → Bool) (run : Run) (runs : List Run) → AreRuns runs → IsAmong run runs → p run ≡ false → q run ≡ true
    → ((r : Run) → IsAmong r runs → touches r run ≡ false → q r ≡ p r) → OneMore (filter p runs) (filter q runs) run
OneMore-kept p q run [] are among out in_new same = absurd among
OneMore-kept p q run (x ∷ runs) are (inl e) out in_new same =
    let rest : filter q runs ≡ filter p runs = same_kept p q runs (λ r a. same r (inr a) (touches_comm r run ∙ subst (λ s. touches s r ≡ false) e (apart_among x r runs are.1 a))) in
    subst (λ xs. OneMore (filter p (x ∷ runs)) (kept_if (q x) x xs) run) (sym rest)
    (OneMore-here (p x) (q x) (filter p runs) x run (ap p e ∙ out) (ap q e ∙ in_new) e)
OneMore-kept p q run (x ∷ runs) are (inr a) out in_new same =
    OneMore-there (p x) (q x) (filter p runs) (filter q runs) x run (same x (inl refl) (apart_among x run runs are.1 a))
    (OneMore-kept p q run runs are.2 a out in_new (λ r b. same r (inr b)))

test_below : (a b : ℕ) → a < b → nat_lt a b ≡ true
test_below a b h = grind (arith, nat_tests)

test_above : (a b : ℕ) → b ≤ a → nat_lt a b ≡ false
test_above a b h = grind (arith, nat_tests)

apart_behind : (r run : Run) → touches r run ≡ false → run.low ≤ r.low → IsRun r → run.high + 2 ≤ r.low
apart_behind r run apart late is = let a = is.some in grind (arith, nat_tests)

same_begun : (runs : List Run) (from : ℕ) (run r : Run) → AreRuns runs → FirstFrom runs from run → IsRun run → IsAmong r runs → touches r run ≡ false
    → nat_lt r.low (run.high + 2) ≡ nat_lt r.low from
same_begun runs from run r are found is among apart = elim (cases_lt r.low from) [
  | inl before ↦ (let a = found.late in let b = is.some in test_below r.low (run.high + 2) (omega arith) ∙ sym (test_below r.low from before))
  | inr late ↦ (let a = apart_behind r run apart (found.first r among late) (IsRun-among r runs are among) in test_above r.low (run.high + 2) a ∙ sym (test_above r.low from late))
]

-- the first run from a group on is the one that begins before the group behind it
begun_more : (runs : List Run) (from : ℕ) (run : Run) → AreRuns runs → FirstFrom runs from run → OneMore (begun from runs) (begun (run.high + 2) runs) run
begun_more runs from run are found =
    let is = IsRun-among run runs are found.among in
    OneMore-kept (λ r. nat_lt r.low from) (λ r. nat_lt r.low (run.high + 2)) run runs are found.among
    (test_above run.low from found.late) (test_below run.low (run.high + 2) (let a = is.some in omega arith))
    (λ r among apart. same_begun runs from run r are found is among apart)

begun_none : (runs : List Run) (from : ℕ) → ((r : Run) → IsAmong r runs → from ≤ r.low) → begun from runs ≡ []
begun_none [] from none = refl
begun_none (x ∷ runs) from none =
    ap (λ b. kept_if b x (begun from runs)) (test_above x.low from (none x (inl refl))) ∙ begun_none runs from (λ r a. none r (inr a))

begun_all : (runs : List Run) (from : ℕ) → ((r : Run) → IsAmong r runs → r.low < from) → begun from runs ≡ runs
begun_all [] from all = refl
begun_all (x ∷ runs) from all =
    ap (λ b. kept_if b x (begun from runs)) (test_below x.low from (all x (inl refl))) ∙ ap (λ xs. x ∷ xs) (begun_all runs from (λ r a. all r (inr a)))

-- the ranges so far are those of the runs that begin before a group
pub record AreListed (from : ℕ) (runs : List Run) (ranges : List GroupRange) : Type 0 where
  pub from_is : from ≡ behind 1 ranges
  pub last : from ≤ 2 ^ 62 + 2
  pub rises : Rises 1 (2 ^ 62) ranges
  pub groups : (g : ℕ) → in_ranges ranges g ≡ in_runs (begun from runs) g
  pub count : length ranges ≡ length (begun from runs)

-- there are none at the beginning
pub AreListed-none : (runs : List Run) (ranges : List GroupRange) → AreRuns runs → ranges ≡ [] → AreListed 1 runs ranges
AreListed-none runs ranges are none =
    let begun_is = begun_none runs 1 (λ r a. (IsRun-among r runs are a).first) in
    subst (AreListed 1 runs) (sym none) (record {
      from_is = refl;
      last = omega arith;
      rises = tt;
      groups = λ g. ap (λ rs. in_runs rs g) (sym begun_is);
      count = ap length (sym begun_is);
    })

-- the next one
pub AreListed-more : (from : ℕ) (runs : List Run) (ranges next : List GroupRange) (run : Run) → AreRuns runs → FirstFrom runs from run → AreListed from runs ranges
    → next ≡ ranges ++ range_of run ∷ [] → AreListed (run.high + 2) runs next
AreListed-more from runs ranges next run are found so_far pushed =
    let is = IsRun-among run runs are found.among in
    let more = begun_more runs from run are found in
    subst (AreListed (run.high + 2) runs) (sym pushed) (record {
      from_is = sym (behind_push 1 ranges (range_of run));
      last = let a = is.last in omega arith;
      rises = Rises-push 1 (2 ^ 62) ranges (range_of run) so_far.rises (let a = found.late in omega (arith, so_far.from_is)) is.some is.last;
      groups = λ g. in_ranges_push ranges (range_of run) g ∙ ap (λ b. b || spans run g) (so_far.groups g) ∙ sym (more.groups g);
      count = omega (arith, length-append ranges (range_of run ∷ []), so_far.count, more.count);
    })

-- at the end all of them
pub AreListed-groups : (from : ℕ) (runs : List Run) (ranges : List GroupRange) (g : ℕ) → ((r : Run) → IsAmong r runs → r.low < from) → AreListed from runs ranges
    → in_ranges ranges g ≡ in_runs runs g
AreListed-groups from runs ranges g all listed = listed.groups g ∙ ap (λ rs. in_runs rs g) (begun_all runs from all)

pub AreListed-count : (from : ℕ) (runs : List Run) (ranges : List GroupRange) → ((r : Run) → IsAmong r runs → r.low < from) → AreListed from runs ranges
    → length ranges ≡ length runs
AreListed-count from runs ranges all listed = listed.count ∙ ap length (begun_all runs from all)

touches_late : (x r : Run) → IsRun x → IsRun r → x.high + 2 ≤ r.low → touches x r ≡ false
touches_late x r is_x is_r late = let a = is_x.some in let b = is_r.some in grind (arith, nat_tests)

StandsApart-late : (x : Run) (least most : ℕ) (ranges : List GroupRange) → IsRun x → 1 ≤ least → Rises least most ranges → most ≤ 2 ^ 62 → x.high + 2 ≤ least
    → StandsApart x (map run_of ranges)
StandsApart-late x least most [] is first rises top late = tt
StandsApart-late x least most (r ∷ ranges) is first rises top late = (
  touches_late x (run_of r) is (record { first = omega (arith, rises.0); some = rises.1; last = omega (arith, rises.2) }) (omega (arith, rises.0)),
  StandsApart-late x (r.high.0 + 2) most ranges is (omega arith) rises.3 top (omega (arith, rises.0, rises.1)),
)

-- rising ranges neither overlap nor touch
pub AreRuns-rising : (least most : ℕ) (ranges : List GroupRange) → 1 ≤ least → Rises least most ranges → most ≤ 2 ^ 62 → AreRuns (map run_of ranges)
AreRuns-rising least most [] first rises top = tt
AreRuns-rising least most (r ∷ ranges) first rises top =
    let is : IsRun (run_of r) = record { first = omega (arith, rises.0); some = rises.1; last = omega (arith, rises.2) } in
    (is, StandsApart-late (run_of r) (r.high.0 + 2) most ranges is (omega arith) rises.3 top (omega arith), AreRuns-rising (r.high.0 + 2) most ranges (omega arith) rises.3 top)

pub in_runs_of : (ranges : List GroupRange) (g : ℕ) → in_runs (map run_of ranges) g ≡ in_ranges ranges g
in_runs_of [] g = refl
in_runs_of (r ∷ ranges) g = ap (λ b. in_range r g || b) (in_runs_of ranges g)

-- rising ranges with the groups of a set that has none behind n are its ranges up to n
upto_listed : (set : ℕ → Bool) (most n : ℕ) (ranges : List GroupRange) → Rises 1 most ranges → ((g : ℕ) → in_ranges ranges g ≡ set g)
    → ((g : ℕ) → set g ≡ true → g ≤ n) → ranges ≡ ranges_upto set n
upto_listed set most n ranges rises same top =
    sym (upto_back n ranges (Rises-within 1 most n ranges rises (λ g h. top g (sym (same g) ∙ h))))
    ∙ upto_same (in_ranges ranges) set n (λ g low high. same g)

pub AreListed-upto : (from n : ℕ) (runs : List Run) (ranges : List GroupRange) → ((r : Run) → IsAmong r runs → r.low < from)
    → ((g : ℕ) → in_runs runs g ≡ true → g ≤ n) → AreListed from runs ranges → ranges ≡ ranges_upto (in_runs runs) n
AreListed-upto from n runs ranges all top listed =
    upto_listed (in_runs runs) (2 ^ 62) n ranges listed.rises (λ g. AreListed-groups from runs ranges g all listed) top
