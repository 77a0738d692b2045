-- Each top is served behind a leaf that isn't required and leaves the board.
use Rattle.std.proofs.Common.{◌≡◌, ℕ, zero, suc, ◌+◌, ◌≤◌, ◌==◌, ◌&&◌, ◌||◌, not, cond, Bool, true, false, List, [], ◌∷◌, ◌++◌, map, Option, Some, None, refl, sym, ap, ◌∙◌, subst, arith, ⊎_elim}
use Rattle.std.specs.Prelude.{filter, slice_get, All, Contains, IfSome}
use Rattle.std.specs.List.{AllByRecursion, cons_option, filter_map, list_any}
use Rattle.std.proofs.lemmas.Bool.{true≢false, cases_Bool, false_from_ne_true, or_left, or_right, or_parts}
use Rattle.std.proofs.lemmas.List.Elements.{All-contains, All-map, All-weaker, recursion_from_All}
use Rattle.mp_base.specs.declared.number.Guid.{Guid}
use Rattle.group_set.specs.Groups.{holds}
use Rattle.vdev_tree.specs.Leaf.{is_readable}
use Rattle.vdev_tree.specs.Tree.{leaves}
use Rattle.vdev_tree.specs.declared.top.Top.{Top}
use Rattle.vdev_tree.specs.declared.vdev.LeafVdev.{LeafVdev}
use Rattle.dtl_rules.specs.Rules.{IsRequired, is_out, outage_of, rest_of}
use Rattle.txg_engine.specs.declared.seat.Seat.{Seat}
use Rattle.txg_engine.specs.Boards.{AreServed, as_taken, is_on_as, on_board, serves, without}
use Rattle.txg_engine.specs.Logs.{IsReady}
use Rattle.open_pool.specs.Form.{AreSeated, HasBoard, IsSeated, IsSeatOf, all_leaves}
use Rattle.open_pool.specs.Parts.{PoolParts, all_parts}
use Rattle.open_pool.specs.State.{leaves_under, seat_in}
use Rattle.open_pool.proofs.LeavesByTops.{all_are_under, under_all}
use Rattle.open_pool.proofs.NumbersApart.{itself, same_number, seat_numbered}
use Rattle.open_pool.proofs.OutageRows.{AreApart, rest_is, stays, under_at}

-- the board behind the leaf of this number
abbrev behind : Guid → List Seat → List Seat
behind m seats = map (without m) (map (as_taken m) seats)

top_behind : (m : Guid) (seat : Seat) → (without m (as_taken m seat)).top ≡ seat.top
top_behind m seat = one (is_on_as m seat)
  where
    one : (b : Bool) → (cond b (record seat { taken = true }) seat).top ≡ seat.top
    one true = refl
    one false = refl

serves_behind : (m : Guid) (t : ℕ) (seat : Seat) → serves t (without m (as_taken m seat)) ≡ serves t (without m seat)
serves_behind m t seat = one (is_on_as m seat)
  where
    one : (b : Bool) → serves t (without m (cond b (record seat { taken = true }) seat)) ≡ serves t (without m seat)
    one true = refl
    one false = refl

-- ---- the seats of a number

-- all seats of this number are under this top
abbrev AreUnder : (top : ℕ) → Guid → List Seat → Type 0
AreUnder top m seats = AllByRecursion (λ seat. (seat.member.guid.0 == m.0) ≡ true → seat.top ≡ top) seats

-- a seat is the one of its number
abbrev AreOwn : List Seat → List Seat → Type 0
AreOwn all seats = AllByRecursion (λ seat. seat_in all seat.member.guid ≡ Some seat) seats

own_seats : (all : List Seat) (leaves : List LeafVdev) → AreOwn all (filter_map (λ leaf. seat_in all leaf.guid) leaves)
own_seats all [] = tt
own_seats all (leaf ∷ leaves) = one (seat_in all leaf.guid) refl (own_seats all leaves)
  where
    one : (o : Option Seat) → seat_in all leaf.guid ≡ o → AreOwn all (filter_map (λ l. seat_in all l.guid) leaves)
        → AreOwn all (cons_option o (filter_map (λ l. seat_in all l.guid) leaves))
    one None is rest = rest
    one (Some seat) is rest =
        (ap (λ n. seat_in all (record { 0 = n })) (seat_numbered all leaf.guid seat is) ∙ is, rest)

under_top : (all seats : List Seat) (top : ℕ) (leaf : LeafVdev) → IsSeated all (suc top) leaf → AreOwn all seats
    → AreUnder top leaf.guid seats
under_top all [] top leaf seated own = tt
under_top all (seat ∷ seats) top leaf seated own = (
  (λ same. here (ap (λ n. seat_in all (record { 0 = n })) (sym (same_number seat.member.guid.0 leaf.guid.0 same)) ∙ own.0)),
  under_top all seats top leaf seated own.1,
)
  where
    here : seat_in all leaf.guid ≡ Some seat → seat.top ≡ top
    here is =
        let of : IsSeatOf (suc top) leaf seat = subst (λ o. IfSome o (IsSeatOf (suc top) leaf)) is seated in
        let same = of.top_is in omega (arith, same)

-- ---- who serves behind it

-- another leaf of the top that is on the board
on_behind : (m o : Guid) (top : ℕ) (seats : List Seat) → (o.0 == m.0) ≡ false → AreUnder top o seats → on_board seats o ≡ true
    → list_any (serves top) (behind m seats) ≡ true
on_behind m o top [] other under on = absurd (true≢false (sym on))
on_behind m o top (seat ∷ seats) other under on =
    one seat.on (seat.member.guid.0 == o.0) refl refl on (on_behind m o top seats other under.1)
  where
    here : seat.on ≡ true → (seat.member.guid.0 == o.0) ≡ true → serves top (without m (as_taken m seat)) ≡ true
    here on same =
        serves_behind m top seat
        ∙ ap (λ t. (t == top) && ((seat.on && not (seat.member.guid.0 == m.0)) || not (seat.faults == 0))) (under.0 same)
        ∙ ap (λ b. b && ((seat.on && not (seat.member.guid.0 == m.0)) || not (seat.faults == 0))) (itself top)
        ∙ ap (λ b. (b && not (seat.member.guid.0 == m.0)) || not (seat.faults == 0)) on
        ∙ ap (λ n. not (n == m.0) || not (seat.faults == 0)) (same_number seat.member.guid.0 o.0 same)
        ∙ ap (λ b. not b || not (seat.faults == 0)) other

    one : (on same : Bool) → seat.on ≡ on → (seat.member.guid.0 == o.0) ≡ same → ((on && same) || on_board seats o) ≡ true
        → (on_board seats o ≡ true → list_any (serves top) (behind m seats) ≡ true)
        → list_any (serves top) (behind m (seat ∷ seats)) ≡ true
    one true true on same is more = or_left (serves top (without m (as_taken m seat))) _ (here on same)
    one true false on same is more = or_right (serves top (without m (as_taken m seat))) _ (more is)
    one false same on e is more = or_right (serves top (without m (as_taken m seat))) _ (more is)

-- who served another top
other_behind : (m : Guid) (top t : ℕ) (seats : List Seat) → (top == t) ≡ false → AreUnder top m seats → list_any (serves t) seats ≡ true
    → list_any (serves t) (behind m seats) ≡ true
other_behind m top t [] other under is = is
other_behind m top t (seat ∷ seats) other under is = one (serves t seat) refl is (other_behind m top t seats other under.1)
  where
    still : (b : Bool) → (seat.member.guid.0 == m.0) ≡ b → serves t seat ≡ true → serves t (without m (as_taken m seat)) ≡ true
    still true same is =
        let off : serves t seat ≡ false = ap (λ n. (n == t) && (seat.on || not (seat.faults == 0))) (under.0 same)
        ∙ ap (λ b. b && (seat.on || not (seat.faults == 0))) other in
        absurd (true≢false (sym is ∙ off))
    still false off is =
        serves_behind m t seat ∙ ap (λ b. (seat.top == t) && ((seat.on && not b) || not (seat.faults == 0))) off
        ∙ ap (λ b. (seat.top == t) && (b || not (seat.faults == 0))) (kept seat.on) ∙ is
      where
        kept : (on : Bool) → (on && true) ≡ on
        kept true = refl
        kept false = refl

    one : (b : Bool) → serves t seat ≡ b → (b || list_any (serves t) seats) ≡ true
        → (list_any (serves t) seats ≡ true → list_any (serves t) (behind m seats) ≡ true)
        → list_any (serves t) (behind m (seat ∷ seats)) ≡ true
    one true here is more = or_left (serves t (without m (as_taken m seat))) _ (still (seat.member.guid.0 == m.0) refl here)
    one false here is more = or_right (serves t (without m (as_taken m seat))) _ (more is)

-- ---- a leaf that isn't required

module _ (board : List Seat) (last top : ℕ) (own : AreOwn board board) where
  -- one of the others can be read in the last number, so it is on the board
  some_on : (m : Guid) (under : List LeafVdev) → AllByRecursion (IsSeated board (suc top)) under
      → AllByRecursion (IsReady board last) under → outage_of (filter (stays m.0) under) last ≡ false
      → list_any (serves top) (behind m board) ≡ true
  some_on m [] seated ready out = absurd (true≢false out)
  some_on m (leaf ∷ under) seated ready out =
      one (leaf.guid.0 == m.0) (is_out leaf last) refl refl out (some_on m under seated.1 ready.1)
    where
      on : is_out leaf last ≡ false → on_board board leaf.guid ≡ true
      on not_out = at (on_board board leaf.guid) refl
        where
          at : (b : Bool) → on_board board leaf.guid ≡ b → on_board board leaf.guid ≡ true
          at true is = is
          at false is = absurd (true≢false (sym (ready.0.off is)
              ∙ (or_parts (not (is_readable leaf)) (holds leaf.log last) not_out).1))

      one : (gone o : Bool) → (leaf.guid.0 == m.0) ≡ gone → is_out leaf last ≡ o
          → outage_of (cond (not gone) (leaf ∷ filter (stays m.0) under) (filter (stays m.0) under)) last ≡ false
          → (outage_of (filter (stays m.0) under) last ≡ false → list_any (serves top) (behind m board) ≡ true)
          → list_any (serves top) (behind m board) ≡ true
      one true o same is out rest = rest out
      one false true other is out rest = rest (sym (ap (λ b. b && outage_of (filter (stays m.0) under) last) is) ∙ out)
      one false false other is out rest =
          on_behind m leaf.guid top board other (under_top board board top leaf seated.0 own) (on is)

  all_served : (m : Guid) → AreUnder top m board → list_any (serves top) (behind m board) ≡ true → AreServed board
      → AreServed (behind m board)
  all_served m under here served =
      let P = λ (seat : Seat). list_any (serves seat.top) (behind m board) ≡ true in
      All-map P (without m) (map (as_taken m) board) (All-map (λ seat. P (without m seat)) (as_taken m) board
      (All-weaker (λ seat. list_any (serves seat.top) board ≡ true) (λ seat. P (without m (as_taken m seat))) each board served))
    where
      each : (seat : Seat) → list_any (serves seat.top) board ≡ true
          → list_any (serves (without m (as_taken m seat)).top) (behind m board) ≡ true
      each seat is =
          ap (λ t. list_any (serves t) (behind m board)) (top_behind m seat)
          ∙ ⊎_elim (λ same. ap (λ t. list_any (serves t) (behind m board)) (sym (same_number top seat.top same)) ∙ here)
          (λ other. other_behind m top seat.top board other under is) (cases_Bool (top == seat.top))

-- ---- of a pool's trees

pub seated_at : (seats : List Seat) (first n : ℕ) (tops : List (List LeafVdev)) (under : List LeafVdev) → slice_get tops n ≡ Some under
    → AreSeated seats first tops → All (IsSeated seats (first + n)) under
seated_at seats first n [] under at seated = absurd (let no : None ≡ Some under = at in cc)
seated_at seats first zero (us ∷ tops) under at seated =
    let same : us ≡ under = cc in
    let here : first ≡ first + 0 = omega arith in
    subst (λ j. All (IsSeated seats j) under) here (subst (All (IsSeated seats first)) same seated.0)
seated_at seats first (suc n) (us ∷ tops) under at seated =
    let there : suc first + n ≡ first + suc n = omega arith in
    subst (λ j. All (IsSeated seats j) under) there (seated_at seats (suc first) n tops under at seated.1)

module _ (P : LeafVdev → Type 0) where
  split_all : (xs ys : List LeafVdev) → AllByRecursion P (xs ++ ys) → AllByRecursion P xs × AllByRecursion P ys
  split_all [] ys all = (tt, all)
  split_all (x ∷ xs) ys all = let more = split_all xs ys all.1 in ((all.0, more.0), more.1)

  all_at : (n : ℕ) (tops : List (List LeafVdev)) (under : List LeafVdev) → slice_get tops n ≡ Some under
      → AllByRecursion P (under_all tops) → AllByRecursion P under
  all_at n [] under at all = absurd (let no : None ≡ Some under = at in cc)
  all_at zero (us ∷ tops) under at all =
      let same : us ≡ under = cc in subst (AllByRecursion P) same (split_all us (under_all tops) all).0
  all_at (suc n) (us ∷ tops) under at all = all_at n tops under at (split_all us (under_all tops) all).1

-- Where no group is out for all others of its top, the last number isn't, so one of them is on the board.
module _ (board : List Seat) (p : PoolParts) (tops : List Top) (parts : p.tops ≡ all_parts tops) (has : HasBoard board p) where
  pub left_served : (last i : ℕ) (top : Top) (leaf : LeafVdev) → AreApart tops → slice_get tops i ≡ Some top
      → Contains (leaves top.mirror) leaf → All (IsReady board last) (all_leaves p) → AreServed board → 1 ≤ last
      → ¬ (IsRequired top leaf.guid) → AreServed (map (without leaf.guid) (map (as_taken leaf.guid) board))
  left_served last i top leaf apart at among ready served low free =
      all_served board last i own leaf.guid
      (under_top board board i leaf (All-contains (IsSeated board (suc i)) under leaf seated among) own)
      (some_on board last i own leaf.guid under (recursion_from_All (IsSeated board (suc i)) under seated)
      (all_at (IsReady board last) i (leaves_under p.tops) under there
      (recursion_from_All (IsReady board last) (under_all (leaves_under p.tops))
      (subst (All (IsReady board last)) (all_are_under p.tops) ready)))
      (sym (ap (λ ls. outage_of ls last) (rest_is tops i top leaf apart at among))
      ∙ false_from_ne_true (outage_of (rest_of top leaf.guid) last) (λ out. free (last, low, out))))
      served
    where
      under : List LeafVdev
      under = leaves top.mirror

      own : AreOwn board board
      own = subst (AreOwn board) has.order (own_seats board (all_leaves p))

      there : slice_get (leaves_under p.tops) i ≡ Some (leaves top.mirror)
      there = ap (λ ts. slice_get (leaves_under ts) i) parts ∙ under_at i tops top at

      seated : All (IsSeated board (suc i)) (leaves top.mirror)
      seated = let here : 1 + i ≡ suc i = omega arith in
          subst (λ j. All (IsSeated board j) (leaves top.mirror)) here
          (seated_at board 1 i (leaves_under p.tops) (leaves top.mirror) there has.seated)
