-- A disk's week: a leaf is away from the commit of a block, comes back, and a resilver brings it what it missed.
use Rattle.std.proofs.Common.{◌≡◌, ℕ, suc, ◌+◌, ◌≤◌, ◌<◌, ◌==◌, nat_lt, nat_le, Bool, true, false, cond, List, [], ◌∷◌, ◌++◌, length, Some, None, refl, sym, ap, ◌∙◌, subst, inl, inr, arith}
use Rattle.std.proofs.lemmas.Bool.Decides.{nat_tests}
use Rattle.mp_base.specs.declared.place.Key.{Key}
use Rattle.txg_history.specs.Events.{Event, calls_of, Calls, Scans, Passes}
use Rattle.txg_history.specs.Groups.{no_log, at_device}
use Rattle.txg_history.specs.Moves.{IsSparing, WasCopied, IsLeafOf, IsDrawnUp, MayScan, MayPass, Mays}
use Rattle.txg_history.specs.Needs.{NeedsScan}
use Rattle.txg_history.specs.Pages.{Codec}
use Rattle.txg_history.specs.Pools.{Pool, seat, after, pool_after}
use Rattle.txg_history.specs.Records.{Rec, Cell, key, data_start, number_of}
use Rattle.txg_history.specs.Rounds.{IsRoundEvents, RoundEnds}
use Rattle.txg_history.specs.Scans.{up_to}
use Rattle.txg_history.specs.Survival.{Survives}
use Rattle.txg_history.specs.Turns.{OnBoard}
use Rattle.txg_history.specs.Branches.{Branch, cell_on, branch_cells, writes_well, flushes_well, day_until_round}
use Rattle.txg_history.specs.Weeks.{IsWeek, brings_on, clears, resilver}
use Rattle.txg_history.proofs.Branching.{same_test, alone, one_apart, branch_is, branch_has, over_none, keys_one, day_commits}
use Rattle.txg_history.proofs.Folding.{mays_more, pool_more}
use Rattle.txg_history.proofs.Logging.{by_bool, true_not_false, at_here, same_device}
use Rattle.txg_history.proofs.Moving.{event_survives}
use Rattle.txg_history.proofs.RoundMoves.{round_may, round_ends}
use Rattle.txg_history.proofs.Copying.{step_copies}
use Rattle.txg_history.proofs.Showing.{clear_may}
use Rattle.txg_history.proofs.Surviving.{history_survives}
use Rattle.txg_history.proofs.Writing.{copy_sparing}

-- A pool that reads a branch, of which b owes each key, settled.
record OwesBranch (c : Codec) (p : Pool) (b : ℕ) (branch : Branch) : Type 0 where
  survives : Survives c p
  opened : p.opened ≡ true
  is_b : p.member b ≡ true
  cells : (k : Key) → p.reads.cells k ≡ branch_cells branch k
  top : p.in_top b ≡ branch.top
  settled : p.settled b branch.birth ≡ true
  low : branch.birth ≤ number_of p.reads
  long : (level : ℕ) → level < 4 → length (branch.bytes level) ≡ 4096

-- The pool in the middle of its resilver, which has come past the keys below a level.
record InResilver (c : Codec) (p : Pool) (b hi : ℕ) (branch : Branch) (level : ℕ) : Type 0 where
  survives : Survives c p
  is_b : p.member b ≡ true
  cells : (k : Key) → p.reads.cells k ≡ branch_cells branch k
  top : p.in_top b ≡ branch.top
  settled : p.settled b branch.birth ≡ true
  long : (level : ℕ) → level < 4 → length (branch.bytes level) ≡ 4096
  running : p.scan.running ≡ true
  hi_is : p.scan.hi ≡ hi
  low : branch.birth ≤ hi
  eligible : p.scan.eligible ≡ (λ d. b == d)
  scrub : p.scan.scrub ≡ no_log
  passed : (j : ℕ) → j < 4 → p.scan.passed (key j 0) ≡ nat_lt j level

-- a key that is read is on some level
on_level : (branch : Branch) (p : Pool) (k : Key) (cell : Cell) → ((k : Key) → p.reads.cells k ≡ branch_cells branch k) → p.reads.cells k ≡ Some cell
    → (k ≡ key k.level 0) × (k.level < 4) × (cell_on branch k.level ≡ cell)
on_level branch p k cell cells at = let is = branch_is branch k cell (sym (cells k) ∙ at) in (keys_one k (key k.level 0) refl is.0, is.1, is.2)

-- The key on its level is brought.
bring_may : (c : Codec) (p : Pool) (b hi : ℕ) (branch : Branch) (level : ℕ) → InResilver c p b hi branch level → level < 4
    → Mays c p (brings_on b branch level) × InResilver c (pool_after (brings_on b branch level) p) b hi branch (suc level)
bring_may c p b hi branch level w low = (
  (copy, (pass, tt)),
  record {
    survives = event_survives c p1 (Passes (key level 0) no_log) sv1 pass;
    is_b = w.is_b;
    cells = w.cells;
    top = w.top;
    settled = w.settled;
    long = w.long;
    running = w.running;
    hi_is = w.hi_is;
    low = w.low;
    eligible = w.eligible;
    scrub = refl;
    passed = behind;
  },
)
  where
    at_level : p.reads.cells (key level 0) ≡ Some (cell_on branch level)
    at_level = w.cells (key level 0) ∙ branch_has branch level 0 refl low

    not_passed : (j : ℕ) → j ≡ level → j < 4 → p.scan.passed (key j 0) ≡ true → ⊥
    not_passed j same few is = true_not_false (p.scan.passed (key j 0)) is (w.passed j few ∙ (let t : nat_lt j level ≡ false = grind (arith, nat_tests) in t))

    unneeded : NeedsScan p.scan p.reads p.in_top b (data_start + level) (branch.bytes level) → ⊥
    unneeded n = let on = on_level branch p n.k n.cell w.cells n.cell_is in
        not_passed n.k.level (let sector = ap (λ cell. cell.sector) on.2 in let here = n.at.sector_is in omega (arith, sector, here)) on.1
        (ap p.scan.passed (sym on.0) ∙ n.is_passed)

    copy : IsSparing p (writes_well b (cell_on branch level)).call
    copy = copy_sparing c p (key level 0) (cell_on branch level) b None w.survives at_level (λ is. (w.top, w.settled, unneeded))

    p1 : Pool
    p1 = after (Calls (writes_well b (cell_on branch level))) p

    sv1 : Survives c p1
    sv1 = event_survives c p (Calls (writes_well b (cell_on branch level))) w.survives copy

    copied : WasCopied p1 b (cell_on branch level)
    copied = step_copies p (writes_well b (cell_on branch level)) [] b (cell_on branch level) refl (w.long level low) tt

    fresh : p.scan.passed (key level 0) ≡ false
    fresh = w.passed level low ∙ (let t : nat_lt level level ≡ false = grind (arith, nat_tests) in t)

    next : (j : Key) (other : Cell) → up_to (key level 0) j ≡ true → p.scan.passed j ≡ false → p.reads.cells j ≡ Some other → j ≡ key level 0
    next j other up new at = let on = on_level branch p j other w.cells at in
        on.0 ∙ ap (λ l. key l 0) (same j.level (sym (w.passed j.level on.1) ∙ (ap p.scan.passed (sym on.0) ∙ new)) (ap (up_to (key level 0)) (sym on.0) ∙ up))
      where
        same : (l : ℕ) → nat_lt l level ≡ false → up_to (key level 0) (key l 0) ≡ true → l ≡ level
        same l above below = grind (arith, nat_tests)

    pass : MayPass p1 (key level 0) no_log
    pass = record {
      running = w.running;
      cell = cell_on branch level;
      cell_is = at_level;
      low = subst (λ n. branch.birth ≤ n) (sym w.hi_is) w.low;
      new = fresh;
      next = λ j other up new at low. next j other up new at;
      more = λ d g has. sym (ap (λ log. log d g) w.scrub) ∙ has;
      only = λ d g has. inl (ap (λ log. log d g) w.scrub ∙ has);
      each = λ d is on top. inr (inr (subst (λ d. WasCopied p1 d (cell_on branch level)) (same_device b d (sym (ap (λ f. f d) w.eligible) ∙ on)) copied));
    }

    behind : (j : ℕ) → j < 4 → up_to (key level 0) (key j 0) ≡ nat_lt j (suc level)
    behind j few = by_bool (nat_lt j (suc level))
        (λ is. (let t : up_to (key level 0) (key j 0) ≡ true = grind (arith, nat_tests) in t) ∙ sym is)
        (λ out. (let t : up_to (key level 0) (key j 0) ≡ false = grind (arith, nat_tests) in t) ∙ sym out)

-- Its resilver is allowed, and behind it b owes the branch's group no more.
resilver_may : (c : Codec) (p : Pool) (b : ℕ) (branch : Branch) → OwesBranch c p b branch
    → Mays c p (resilver b (number_of p.reads) branch) × ((pool_after (resilver b (number_of p.reads) branch) p).owes b branch.birth ≡ false)
resilver_may c p b branch w = (
  (
    scan,
    mays_more c (brings_on b branch 0) (brings_on b branch 1 ++ (brings_on b branch 2 ++ (brings_on b branch 3 ++ clears b))) p0 m0.0
        (mays_more c (brings_on b branch 1) (brings_on b branch 2 ++ (brings_on b branch 3 ++ clears b)) p1 m1.0
        (mays_more c (brings_on b branch 2) (brings_on b branch 3 ++ clears b) p2 m2.0
        (mays_more c (brings_on b branch 3) (clears b) p3 m3.0 clear))),
  ),
  cleared,
)
  where
    scan : MayScan p (number_of p.reads)
    scan = record { opened = w.opened; hi_low = omega arith }

    p0 : Pool
    p0 = after (Scans (number_of p.reads) (λ d. b == d)) p

    start : InResilver c p0 b (number_of p.reads) branch 0
    start = record {
      survives = event_survives c p (Scans (number_of p.reads) (λ d. b == d)) w.survives scan;
      is_b = w.is_b;
      cells = w.cells;
      top = w.top;
      settled = w.settled;
      long = w.long;
      running = refl;
      hi_is = refl;
      low = w.low;
      eligible = refl;
      scrub = refl;
      passed = λ j few. (let t : nat_lt j 0 ≡ false = grind (arith, nat_tests) in sym t);
    }

    m0 : Mays c p0 (brings_on b branch 0) × InResilver c (pool_after (brings_on b branch 0) p0) b (number_of p.reads) branch 1
    m0 = bring_may c p0 b (number_of p.reads) branch 0 start (omega arith)

    p1 : Pool
    p1 = pool_after (brings_on b branch 0) p0

    m1 : Mays c p1 (brings_on b branch 1) × InResilver c (pool_after (brings_on b branch 1) p1) b (number_of p.reads) branch 2
    m1 = bring_may c p1 b (number_of p.reads) branch 1 m0.1 (omega arith)

    p2 : Pool
    p2 = pool_after (brings_on b branch 1) p1

    m2 : Mays c p2 (brings_on b branch 2) × InResilver c (pool_after (brings_on b branch 2) p2) b (number_of p.reads) branch 3
    m2 = bring_may c p2 b (number_of p.reads) branch 2 m1.1 (omega arith)

    p3 : Pool
    p3 = pool_after (brings_on b branch 2) p2

    m3 : Mays c p3 (brings_on b branch 3) × InResilver c (pool_after (brings_on b branch 3) p3) b (number_of p.reads) branch 4
    m3 = bring_may c p3 b (number_of p.reads) branch 3 m2.1 (omega arith)

    p4 : Pool
    p4 = pool_after (brings_on b branch 3) p3

    clear : Mays c p4 (clears b)
    clear = clear_may c p4 b (flushes_well b) m3.1.survives refl (same_test b)
        (λ k cell at low. let on = on_level branch p4 k cell m3.1.cells at in ap p4.scan.passed on.0 ∙ (m3.1.passed k.level on.1
        ∙ (let few = on.1 in let t : nat_lt k.level 4 ≡ true = grind (arith, nat_tests) in t))) refl

    cleared : at_device b (λ g. cond (nat_le g (number_of p.reads)) false (p.owes b g)) p.owes b branch.birth ≡ false
    cleared = ap (λ log. log branch.birth) (at_here b b (λ g. cond (nat_le g (number_of p.reads)) false (p.owes b g)) p.owes (same_test b))
        ∙ low_out (nat_le branch.birth (number_of p.reads)) is_low
      where
        is_low : nat_le branch.birth (number_of p.reads) ≡ true
        is_low = let low = w.low in grind (arith, nat_tests)

        low_out : (t : Bool) → t ≡ true → cond t false (p.owes b branch.birth) ≡ false
        low_out true e = refl
        low_out false e = absurd (cc)

-- The whole week.
pub week_may : (c : Codec) (p : Pool) (a b : ℕ) (branch : Branch) (q : Rec) (vs : List Event) → IsWeek c p a b branch
    → IsDrawnUp c (pool_after (day_until_round a branch) p) q
    → IsLeafOf (pool_after (day_until_round a branch) p) q b
    → IsRoundEvents (pool_after (day_until_round a branch) p).size q (seat (pool_after (day_until_round a branch) p) a ∷ []) (true ∷ []) vs
    → Mays c p (day_until_round a branch ++ (vs ++ resilver b (number_of q) branch))
    × ((pool_after (day_until_round a branch ++ vs) p).owes b branch.birth ≡ true)
    × ((pool_after (day_until_round a branch ++ (vs ++ resilver b (number_of q) branch)) p).owes b branch.birth ≡ false)
week_may c p a b branch q vs w drawn knows round = (
  mays_more c (day_until_round a branch) (vs ++ resilver b (number_of q) branch) p commit
      (mays_more c vs (resilver b (number_of q) branch) p3 may (subst (λ n. Mays c p4 (resilver b n branch)) hi back.0)),
  ap (λ x. x.owes b branch.birth) (pool_more (day_until_round a branch) vs p) ∙ (ap (λ owes. owes b branch.birth) (ends.owes refl) ∙ owed),
  ap (λ x. x.owes b branch.birth) (pool_more (day_until_round a branch) (vs ++ resilver b (number_of q) branch) p ∙ pool_more vs (resilver b (number_of q) branch) p3)
      ∙ subst (λ n. (pool_after (resilver b n branch) p4).owes b branch.birth ≡ false) hi back.1,
)
  where
    commit : Mays c p (day_until_round a branch)
    commit = day_commits c p a branch w.day

    p3 : Pool
    p3 = pool_after (day_until_round a branch) p

    sv3 : Survives c p3
    sv3 = history_survives c (day_until_round a branch) p w.day.survives commit

    may : Mays c p3 vs
    may = round_may c p3 q (seat p3 a ∷ []) (true ∷ []) vs sv3 drawn
        (alone p p3 a (OnBoard p3) refl refl (same_test a) (λ d member on. same_device a d on)) (one_apart (seat p3 a)) round

    p4 : Pool
    p4 = pool_after vs p3

    ends : RoundEnds p3 p4 q true (seat p3 a ∷ []) (true ∷ []) (calls_of vs)
    ends = round_ends p3.size p3 q (seat p3 a ∷ []) (true ∷ []) vs round

    off_board : (a == b) ≡ false
    off_board = let ne = w.two in grind (arith, nat_tests)

    owed : p3.owes b branch.birth ≡ true
    owed = sv3.boards.off_board refl b branch.birth w.is_b off_board (let born = w.day.born in omega (arith, born)) (let born = w.day.born in omega (arith, born))

    cells_are : (k : Key) → p4.reads.cells k ≡ branch_cells branch k
    cells_are k = ap (λ r. r.cells k) ends.reads ∙ (drawn.cells_are k ∙ over_none (branch_cells branch k) (p.reads.cells k) (w.day.none k))

    hi : number_of p4.reads ≡ number_of q
    hi = ap number_of ends.reads

    owes_branch : OwesBranch c p4 b branch
    owes_branch = record {
      survives = history_survives c vs p3 sv3 may;
      opened = ends.opened;
      is_b = ap (λ f. f b) ends.member ∙ w.is_b;
      cells = cells_are;
      top = ap (λ f. f b) ends.in_top ∙ (knows.top_is ∙ w.b_top);
      settled = ap (λ f. f branch.birth) (ap (λ f. f b) ends.settled) ∙ owed;
      low = let born = w.day.born in let number = drawn.number_is in omega (arith, born, number, hi);
      long = w.day.long;
    }

    back : Mays c p4 (resilver b (number_of p4.reads) branch) × ((pool_after (resilver b (number_of p4.reads) branch) p4).owes b branch.birth ≡ false)
    back = resilver_may c p4 b branch owes_branch
