-- A block is committed with the pages above it, the machine stops, and an opening finds the record.
use Rattle.std.proofs.Common.{
  ◌≡◌,
  ◌⊎◌,
  ℕ,
  zero,
  suc,
  ◌+◌,
  ◌*◌,
  ◌≤◌,
  ◌<◌,
  ◌==◌,
  ◌&&◌,
  nat_lt,
  Bool,
  true,
  false,
  not,
  cond,
  List,
  [],
  ◌∷◌,
  ◌++◌,
  length,
  Option,
  Some,
  None,
  refl,
  sym,
  ap,
  ◌∙◌,
  subst,
  inl,
  inr,
  arith,
}
use Rattle.std.specs.Prelude.{slice_get}
use Rattle.std.proofs.lemmas.Bool.{and_parts}
use Rattle.std.proofs.lemmas.Bool.Decides.{nat_tests}
use Rattle.bank_core.specs.Disk.{after_crash}
use Rattle.mp_base.specs.declared.place.Key.{Key}
use Rattle.label_store.specs.declared.member.Member.{Member}
use Rattle.label_store.specs.Records.{AreUnhurt}
use Rattle.label_store.specs.Seats.{AreApart}
use Rattle.label_store.proofs.Keeping.{same_member, no_member}
use Rattle.txg_history.specs.Branches.{
  Branch,
  cell_on,
  branch_cells,
  IsDay,
  writes_well,
  flushes_well,
  turn_on,
  flush_of,
  day_until_round,
  calm_stop,
  stopped_day,
  stop_and_open,
  FindsJust,
}
use Rattle.txg_history.specs.Calm.{stable_of}
use Rattle.txg_history.specs.Events.{Event, calls_of, Accepts, Freezes}
use Rattle.txg_history.specs.Labels.{Odd, Lost}
use Rattle.txg_history.specs.Moves.{IsLeafOf, IsDrawnUp, MayFreeze, MayStop, Mays}
use Rattle.txg_history.specs.Pages.{Codec, IsPageOf, sum_of}
use Rattle.txg_history.specs.Places.{IsFree}
use Rattle.txg_history.specs.Pools.{Pool, seat, after, pool_after}
use Rattle.txg_history.specs.Premises.{AreOwnConfigs, HoldsLabels, Premises}
use Rattle.txg_history.specs.Records.{Rec, Cell, IsIn, IsNoLeaf, key, cell_over, block_of, laid_over, number_of, takes_part}
use Rattle.txg_history.specs.Rounds.{IsRoundEvents, RoundEnds}
use Rattle.txg_history.specs.Survival.{Survives}
use Rattle.txg_history.specs.Turns.{AreJust, OnBoard, OnTop}
use Rattle.txg_history.proofs.Calming.{premises_met, stable_true}
use Rattle.txg_history.proofs.Folding.{mays_more}
use Rattle.txg_history.proofs.Listing.{one_key, same_cell, only_one}
use Rattle.txg_history.proofs.Logging.{by_bool, true_not_false, same_device}
use Rattle.txg_history.proofs.Moving.{event_survives}
use Rattle.txg_history.proofs.RoundMoves.{round_may, round_ends}
use Rattle.txg_history.proofs.Surviving.{history_survives, crash_may}
use Rattle.txg_history.proofs.Tracked.{promise_holds}
use Rattle.txg_history.proofs.Turning.{write_turn_may, flush_turn_may}
use Rattle.txg_history.proofs.Yields.{yield_live}

pub same_test : (d : ℕ) → (d == d) ≡ true
same_test d = grind (arith, nat_tests)

-- the list of a alone
pub alone : (p q : Pool) (a : ℕ) (Which : ℕ → Type 0) → q.member ≡ p.member → q.guid ≡ p.guid → Which a
    → ((d : ℕ) → q.member d ≡ true → Which d → a ≡ d) → AreJust q Which (seat q a ∷ [])
alone p q a Which m g is only = record {
  seated = λ i n at member. of i n at;
  all = λ d member which. (0, ap (λ d. Some (seat q d)) (only d member which));
}
  where
    of : (i : ℕ) (n : Member) → slice_get (seat q a ∷ []) i ≡ Some n → (n ≡ seat q n.dev) × Which n.dev
    of zero n at = (
      sym (same_member (seat q a) n at) ∙ ap (λ n. seat q n.dev) (same_member (seat q a) n at),
      subst
          (λ n. Which n.dev) (same_member (seat q a) n at) is,
    )
    of (suc i) n at = absurd (no_member n at)

pub one_apart : (m : Member) → AreApart (m ∷ [])
one_apart m zero zero x y ex ey lt = absurd (omega (arith, lt))
one_apart m zero (suc j) x y ex ey lt = absurd (no_member y ey)
one_apart m (suc i) j x y ex ey lt = absurd (no_member x ex)

-- a key of the branch is that of some level, with index 0
pub branch_is : (b : Branch) (k : Key) (cell : Cell) → branch_cells b k ≡ Some cell → (k.index ≡ 0) × (k.level < 4) × (cell_on b k.level ≡ cell)
branch_is b k cell e = of ((k.index == 0) && nat_lt k.level 4) refl e
  where
    of : (t : Bool) → ((k.index == 0) && nat_lt k.level 4) ≡ t → cond t (Some (cell_on b k.level)) None ≡ Some cell
        → (k.index ≡ 0) × (k.level < 4) × (cell_on b k.level ≡ cell)
    of true is e = let parts = and_parts (k.index == 0) (nat_lt k.level 4) is in
        let a : (k.index == 0) ≡ true = parts.0 in
        let l : nat_lt k.level 4 ≡ true = parts.1 in (
          let none : k.index ≡ 0 = grind (arith, nat_tests) in none,
          let low : k.level < 4 =
              grind (arith, nat_tests) in low,
          same_cell (cell_on b k.level) cell e,
        )
    of false is e = absurd (cc)

pub branch_has : (b : Branch) (level index : ℕ) → index ≡ 0 → level < 4 → branch_cells b (key level index) ≡ Some (cell_on b level)
branch_has b level index none low =
    let a : (index == 0) ≡ true = grind (arith, nat_tests) in
    let l : nat_lt level 4 ≡ true = grind (arith, nat_tests) in rw (a, l) refl

branch_lacks : (b : Branch) (x : ℕ) → (x == 0) ≡ false → branch_cells b (key 0 x) ≡ None
branch_lacks b x off = rw off refl

pub over_none : (x old : Option Cell) → old ≡ None → cell_over x old ≡ x
over_none (Some cell) old e = refl
over_none None old e = e

pub keys_one : (j k : Key) → j.level ≡ k.level → j.index ≡ k.index → j ≡ k
keys_one j k level index = one_key j k
    (let a : (j.level == k.level) ≡ true = grind (arith, nat_tests) in let b : (j.index == k.index) ≡ true = grind (arith, nat_tests) in rw (a, b) refl)

-- The freeze.
day_freezes : (c : Codec) (p : Pool) (a : ℕ) (b : Branch) → IsDay c p a b → MayFreeze c (after (Accepts 0 (b.bytes 0)) p) (branch_cells b) (λ d. a == d)
day_freezes c p a b w = record {
  none = w.idle;
  births = λ k cell e. ap (λ cell. cell.birth) (sym (branch_is b k cell e).2) ∙ w.born;
  long = λ k cell e. let is = branch_is b k cell e in ap (λ cell. length cell.block) (sym is.2) ∙ w.long k.level is.1;
  free = λ k cell e. let is = branch_is b k cell e in
      subst (λ cell. IsFree (after (Accepts 0 (b.bytes 0)) p) cell.top cell.sector) is.2 (still_free (w.free k.level is.1));
  inside = λ k cell e. let is = branch_is b k cell e in
      subst (λ cell. cell.sector < p.room cell.top) is.2 (let room = w.inside in let low = is.1 in omega (arith, room, low));
  apart = λ j k x y ex ey one. let jx = branch_is b j x ex in let ky = branch_is b k y ey in
      keys_one j k (ap (λ cell. cell.sector) jx.2 ∙ one.1 ∙ ap (λ cell. cell.sector) (sym ky.2)) (jx.0 ∙ sym ky.0);
  dirty = record {
    up = λ level index j cell low lt e. let is = branch_is b (key level (64 * index + j)) cell e in
        (cell_on b (suc level), branch_has b (suc level) index (let none = is.0 in omega (arith, none)) (omega (arith, low)));
    formed = λ level index cell low e. let is = branch_is b (key (suc level) index) cell e in
        subst (λ cell. c.is_page cell.block ≡ true) is.2 (w.formed level low);
    pages = λ level index cell low e. let is = branch_is b (key (suc level) index) cell e in
        subst (λ cell. IsPageOf c cell.block (laid_over (branch_cells b) p.reads.cells) level index) is.2
        (subst (IsPageOf c (b.bytes (suc level)) (laid_over (branch_cells b) p.reads.cells) level) (sym is.0)
        (λ j lt. w.pages level low j lt ∙ sym (ap sum_of (over level (64 * 0 + j)))));
  };
  blocks = λ x. ap block_of (over 0 x) ∙ answers x;
  boarded = λ d is on. subst (λ d. 1 ≤ p.in_top d) (same_device a d on) (top_of_a (p.in_top a) refl);
}
  where
    still_free : {sector : ℕ} → IsFree p b.top sector → IsFree (after (Accepts 0 (b.bytes 0)) p) b.top sector
    still_free f = record { opened = f.opened; not_read = f.not_read; not_frozen = f.not_frozen; not_pinned = f.not_pinned }

    over : (level index : ℕ) → laid_over (branch_cells b) p.reads.cells (key level index) ≡ branch_cells b (key level index)
    over level index = over_none (branch_cells b (key level index)) (p.reads.cells (key level index)) (w.none (key level index))

    answers : (x : ℕ) → block_of (branch_cells b (key 0 x)) ≡ cond (0 == x) (b.bytes 0) (p.written x)
    answers x = by_bool (x == 0)
        (λ here. let none : x ≡ 0 = grind (arith, nat_tests) in
        let t : (0 == x) ≡ true = grind (arith, nat_tests) in
        ap block_of (branch_has b 0 x none (omega arith)) ∙ sym (ap (λ t. cond t (b.bytes 0) (p.written x)) t))
        (λ away. let t : (0 == x) ≡ false = grind (arith, nat_tests) in
        ap block_of (branch_lacks b x away) ∙ sym (ap (λ t. cond t (b.bytes 0) (p.written x)) t ∙ w.written x ∙ ap block_of (w.none (key 0 x))))

    top_of_a : (t : ℕ) → p.in_top a ≡ t → 1 ≤ t
    top_of_a zero e = absurd (let room : 4 ≤ p.room 0 = subst (λ t. 4 ≤ p.room t) (sym w.a_top ∙ e) w.inside in omega (arith, room, w.survives.roomy.no_top))
    top_of_a (suc t) e = omega arith

-- A pool in the middle of the day: a alone is on the board.
record IsDaytime (p q : Pool) (a : ℕ) (b : Branch) : Type 0 where
  member : q.member ≡ p.member
  guid : q.guid ≡ p.guid
  board : q.group.board ≡ (λ d. a == d)
  frozen : q.group.frozen ≡ true
  flushed : q.group.flushed ≡ false
  cells : q.group.cells ≡ branch_cells b
  top : q.in_top a ≡ b.top

turn_may : (c : Codec) (p q : Pool) (a : ℕ) (b : Branch) (level : ℕ) → IsDaytime p q a b → Survives c q → level < 4 → q.group.done (key level 0) ≡ false
    → Mays c q (turn_on a b level)
turn_may c p q a b level day sv low undone = write_turn_may c q (key level 0) (cell_on b level) (seat q a ∷ []) (true ∷ []) (turn_on a b level) sv
    day.frozen day.flushed (ap (λ cells. cells (key level 0)) day.cells ∙ branch_has b level 0 refl low) undone
    (alone p q a (OnTop q b.top) day.member day.guid (on a (same_test a), day.top)
    (λ d member which. same_device a d (sym (ap (λ f. f d) day.board) ∙ which.0)))
    (one_apart (seat q a))
    (record {
      made = writes_well a (cell_on b level) ∷ [];
      phase = (writes_well a (cell_on b level) ∷ [], [], refl, (None, (refl, inl (refl, refl)), refl), refl);
      all = refl;
    })
  where
    on : (d : ℕ) → (a == d) ≡ true → q.group.board d ≡ true
    on d is = ap (λ f. f d) day.board ∙ is

-- The write, the freeze and the turns are allowed.
pub day_commits : (c : Codec) (p : Pool) (a : ℕ) (b : Branch) → IsDay c p a b → Mays c p (day_until_round a b)
day_commits c p a b w = (
  tt,
  (
    freeze,
    mays_more c (turn_on a b 0) (turn_on a b 1 ++ (turn_on a b 2 ++ (turn_on a b 3 ++ flush_of a))) p1 m1
        (mays_more c (turn_on a b 1) (turn_on a b 2 ++ (turn_on a b 3 ++ flush_of a)) p2 m2
        (mays_more c (turn_on a b 2) (turn_on a b 3 ++ flush_of a) p3 m3
        (mays_more c (turn_on a b 3) (flush_of a) p4 m4 flush))),
  ),
)
  where
    p0 : Pool
    p0 = after (Accepts 0 (b.bytes 0)) p

    freeze : MayFreeze c p0 (branch_cells b) (λ d. a == d)
    freeze = day_freezes c p a b w

    p1 : Pool
    p1 = after (Freezes (branch_cells b) (λ d. a == d)) p0

    sv1 : Survives c p1
    sv1 = event_survives c p0 (Freezes (branch_cells b) (λ d. a == d)) (event_survives c p (Accepts 0 (b.bytes 0)) w.survives tt) freeze

    daytime : IsDaytime p p1 a b
    daytime = record { member = refl; guid = refl; board = refl; frozen = refl; flushed = refl; cells = refl; top = w.a_top }

    m1 : Mays c p1 (turn_on a b 0)
    m1 = turn_may c p p1 a b 0 daytime sv1 (omega arith) refl

    p2 : Pool
    p2 = pool_after (turn_on a b 0) p1

    sv2 : Survives c p2
    sv2 = history_survives c (turn_on a b 0) p1 sv1 m1

    m2 : Mays c p2 (turn_on a b 1)
    m2 = turn_may c p p2 a b 1
        (record { member = refl; guid = refl; board = refl; frozen = refl; flushed = refl; cells = refl; top = w.a_top }) sv2
        (omega arith) refl

    p3 : Pool
    p3 = pool_after (turn_on a b 1) p2

    sv3 : Survives c p3
    sv3 = history_survives c (turn_on a b 1) p2 sv2 m2

    m3 : Mays c p3 (turn_on a b 2)
    m3 = turn_may c p p3 a b 2
        (record { member = refl; guid = refl; board = refl; frozen = refl; flushed = refl; cells = refl; top = w.a_top }) sv3
        (omega arith) refl

    p4 : Pool
    p4 = pool_after (turn_on a b 2) p3

    sv4 : Survives c p4
    sv4 = history_survives c (turn_on a b 2) p3 sv3 m3

    m4 : Mays c p4 (turn_on a b 3)
    m4 = turn_may c p p4 a b 3
        (record { member = refl; guid = refl; board = refl; frozen = refl; flushed = refl; cells = refl; top = w.a_top }) sv4
        (omega arith) refl

    p5 : Pool
    p5 = pool_after (turn_on a b 3) p4

    done_on : (level : ℕ) → level < 4 → p5.group.done (key level 0) ≡ true
    done_on zero low = refl
    done_on (suc zero) low = refl
    done_on (suc (suc zero)) low = refl
    done_on (suc (suc (suc zero))) low = refl
    done_on (suc (suc (suc (suc level)))) low = absurd (omega (arith, low))

    flush : Mays c p5 (flush_of a)
    flush = flush_turn_may c p5 (seat p5 a ∷ []) (true ∷ []) (flush_of a) (history_survives c (turn_on a b 3) p4 sv4 m4) refl
        (λ k cell e. let is = branch_is b k cell e in ap p5.group.done (keys_one k (key k.level 0) refl is.0) ∙ done_on k.level is.1)
        (alone p p5 a (OnBoard p5) refl refl (same_test a) (λ d member on. same_device a d on)) (one_apart (seat p5 a))
        (record { made = flushes_well a ∷ []; phase = (flushes_well a ∷ [], [], refl, (None, (refl, inl (refl, refl)), refl), refl); all = refl })

-- The whole day is allowed, and the opening finds its record.
pub day_may : (c : Codec) (p : Pool) (a : ℕ) (b : Branch) (q : Rec) (vs : List Event) (size : ℕ → ℕ) → IsDay c p a b
    → IsDrawnUp c (pool_after (day_until_round a b) p) q
    → IsRoundEvents (pool_after (day_until_round a b) p).size q (seat (pool_after (day_until_round a b) p) a ∷ []) (true ∷ []) vs
    → Mays c p (day_until_round a b ++ (vs ++ stop_and_open q size (pool_after vs (pool_after (day_until_round a b) p))))
    × (p.missed ≡ [] → AreUnhurt ((stopped_day a b vs size p).size a) ((stopped_day a b vs size p).sectors a)
    → AreOwnConfigs c.head_of (stopped_day a b vs size p) (stable_of (stopped_day a b vs size p))
    → FindsJust c (stopped_day a b vs size p) q (b.bytes 0))
day_may c p a b q vs size w drawn_up round = (
  mays_more c (day_until_round a b) (vs ++ stop_and_open q size p6) p commit
      (mays_more c vs (stop_and_open q size p6) p5 may (stop, (stable_true p7, (live, tt)))),
  λ none unhurt sums. finds (premises_met c p7 a q sv7 holds is_a unhurt (ends.missed ∙ none) sums),
)
  where
    commit : Mays c p (day_until_round a b)
    commit = day_commits c p a b w

    p5 : Pool
    p5 = pool_after (day_until_round a b) p

    sv5 : Survives c p5
    sv5 = history_survives c (day_until_round a b) p w.survives commit

    may : Mays c p5 vs
    may = round_may c p5 q (seat p5 a ∷ []) (true ∷ []) vs sv5 drawn_up
        (alone p p5 a (OnBoard p5) refl refl (same_test a) (λ d member on. same_device a d on)) (one_apart (seat p5 a)) round

    p6 : Pool
    p6 = pool_after vs p5

    sv6 : Survives c p6
    sv6 = history_survives c vs p5 sv5 may

    ends : RoundEnds p5 p6 q true (seat p5 a ∷ []) (true ∷ []) (calls_of vs)
    ends = round_ends p5.size p5 q (seat p5 a ∷ []) (true ∷ []) vs round

    stop : MayStop p6 (after_crash p6.sectors (λ d s. (p6.sectors d s).stable))
    stop = crash_may p6 (λ d s. (p6.sectors d s).stable) (λ d s clean. refl) (λ d place u is inside right. inl refl)

    p7 : Pool
    p7 = after (calm_stop size p6) p6

    sv7 : Survives c p7
    sv7 = event_survives c p6 (calm_stop size p6) sv6 stop

    live : IsIn q p7.live
    live = subst (IsIn q) (sym ends.live) (inl refl)

    is_a : p7.member a ≡ true
    is_a = ap (λ f. f a) ends.member ∙ w.is_a

    takes : takes_part q (p5.guid a) ≡ true
    takes = of (drawn_up.leaves a w.is_a)
      where
        not_owed : (t : Bool) → t ≡ false → not t ≡ true
        not_owed t e = rw e refl

        of : IsLeafOf p5 q a ⊎ (IsNoLeaf q (p5.guid a) × (p5.group.board a ≡ false)) → takes_part q (p5.guid a) ≡ true
        of (inl leaf) = not_owed (q.owes (p5.guid a) (number_of q)) (leaf.log_is (number_of q)
            ∙ sv5.boards.on_board refl a (number_of q) w.is_a (same_test a)
            (let n = drawn_up.number_is in let f = sv5.boards.first_top refl in omega (arith, n, f))
            (let n = drawn_up.number_is in omega (arith, n)))
        of (inr none) = true_not_false (a == a) (same_test a) none.1

    odd : p7.status a ≡ Odd q
    odd = ends.status.ended 0 (seat p5 a) (one_apart (seat p5 a)) refl refl ∙ ap (λ t. cond t (Odd q) Lost) takes

    holds : HoldsLabels p7 a q
    holds = promise_holds c p7 a sv7 (record { is_member = is_a; promised = q; status_is = inl odd })

    finds : Premises c.head_of p7 (stable_of p7) → FindsJust c p7 q (b.bytes 0)
    finds premises = record {
      premises = premises;
      found = λ u config y. let f = yield_live c p7 (stable_of p7) u config sv7 (stable_true p7) premises y in
          (f, only_one (λ r. r ≡ q) q f.found refl (subst (IsIn f.found) ends.live f.is_live));
      content = ap block_of (drawn_up.cells_are (key 0 0));
    }
