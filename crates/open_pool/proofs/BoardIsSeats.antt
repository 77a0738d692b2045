-- The board of the state is that of the group's seats.
use Rattle.std.proofs.Common.{◌≡◌, ℕ, suc, ◌+◌, ◌≤◌, ◌==◌, ◌&&◌, ◌||◌, cond, Bool, true, false, List, [], ◌∷◌, ◌++◌, length, map, Option, Some, None, refl, sym, ap, ◌∙◌, subst, arith}
use Rattle.std.specs.Prelude.{IfSome, is_some, filter}
use Rattle.std.specs.List.{filter_map, cons_option, list_any, AllByRecursion}
use Rattle.std.specs.Option.{option_map}
use Rattle.std.proofs.lemmas.Bool.Decides.{nat_tests}
use Rattle.mp_base.specs.declared.number.Guid.{Guid}
use Rattle.vdev_tree.specs.declared.vdev.LeafVdev.{LeafVdev}
use Rattle.txg_engine.specs.declared.seat.Seat.{Seat}
use Rattle.txg_engine.specs.Boards as engine
use Rattle.txg_engine.specs.Boards.{member_of, on_board, emptied_from}
use Rattle.pool_moves.specs.Boards.{members_where, member_before, is_on, is_on_under, board_of, board_under, has_on, emptied, emptied_of}
use Rattle.pool_moves.specs.Leaves.{LeafSeen}
use Rattle.pool_moves.specs.LineRows.{faults_under}
use Rattle.open_pool.specs.Form.{IsSeatOf, HasBoard, all_leaves}
use Rattle.open_pool.specs.Parts.{PoolParts}
use Rattle.open_pool.specs.State.{seat_in, faults_of, leaf_of, leaves_from, leaves_under}
use Rattle.open_pool.proofs.LeavesByTops.{leaves_at, under_all, tops_from, by_tops, all_are_under, SeatedAt, seated_by_tops}
use Rattle.open_pool.proofs.NumbersApart.{AreNumbered, leaves_differ, seats_differ, seat_numbers, Differ, seat_numbered, on_of, on_is_seats}

abbrev seats_for : List Seat → List LeafVdev → List Seat
seats_for seats leaves = filter_map (λ leaf. seat_in seats leaf.guid) leaves

same_top : (a b c : ℕ) → suc a ≡ c → (c == suc b) ≡ (a == b)
same_top a b c is = by (a == b) refl
  where
    by : (t : Bool) → (a == b) ≡ t → (c == suc b) ≡ t
    by true e = grind (arith, nat_tests)
    by false e = grind (arith, nat_tests)

pub seat_member : (seats : List Seat) (leaf : LeafVdev) (seat : Seat) → seat_in seats leaf.guid ≡ Some seat
    → record { dev = seat.member.dev; guid = leaf.guid } ≡ seat.member
seat_member seats leaf seat is = ap (λ n. record { dev = seat.member.dev; guid = record { 0 = n } })
    (sym (seat_numbered seats leaf.guid seat is))

module _ (seats : List Seat) (on_is : (m : Guid) → on_board seats m ≡ on_of (seat_in seats m)) where
  -- a kind of leaves is that of their seats
  record IsKind (which : LeafSeen → Bool) (which' : Seat → Bool) : Type 0 where
    none : (top : ℕ) (leaf : LeafVdev) → seat_in seats leaf.guid ≡ None → which (leaf_of seats top leaf) ≡ false
    some : (top : ℕ) (leaf : LeafVdev) (seat : Seat) → seat_in seats leaf.guid ≡ Some seat → IsSeatOf top leaf seat
        → which (leaf_of seats top leaf) ≡ which' seat

  seat_on : (leaf : LeafVdev) (seat : Seat) → seat_in seats leaf.guid ≡ Some seat → on_board seats leaf.guid ≡ seat.on
  seat_on leaf seat is = on_is leaf.guid ∙ ap on_of is

  no_seat_on : (leaf : LeafVdev) → seat_in seats leaf.guid ≡ None → on_board seats leaf.guid ≡ false
  no_seat_on leaf is = on_is leaf.guid ∙ ap on_of is

  on_kind : IsKind is_on engine.is_on
  on_kind = record { none = λ top leaf is. no_seat_on leaf is; some = λ top leaf seat is of. seat_on leaf seat is }

  under_kind : (t : ℕ) → IsKind (is_on_under (suc t)) (engine.is_on_under t)
  under_kind t = record {
    none = λ top leaf is. ap (λ b. b && (top == suc t)) (no_seat_on leaf is);
    some = λ top leaf seat is of. ap (λ b. b && (top == suc t)) (seat_on leaf seat is)
        ∙ ap (λ b. seat.on && b) (same_top seat.top t top of.top_is);
  }

  module _ (which : LeafSeen → Bool) (which' : Seat → Bool) (kind : IsKind which which') where
    any_at : (tops : List ℕ) (leaves : List LeafVdev) → SeatedAt seats tops leaves
        → list_any which (leaves_at seats tops leaves) ≡ list_any which' (seats_for seats leaves)
    any_at [] [] seated = refl
    any_at [] (leaf ∷ leaves) seated = absurd seated
    any_at (top ∷ tops) [] seated = absurd seated
    any_at (top ∷ tops) (leaf ∷ leaves) seated =
        ap (λ b. which (leaf_of seats top leaf) || b) (any_at tops leaves seated.1)
        ∙ one (seat_in seats leaf.guid) refl seated.0
      where
        one : (o : Option Seat) → seat_in seats leaf.guid ≡ o → IfSome o (IsSeatOf top leaf)
            → (which (leaf_of seats top leaf) || list_any which' (seats_for seats leaves)) ≡ list_any which'
            (cons_option o (seats_for seats leaves))
        one None is of = ap (λ b. b || list_any which' (seats_for seats leaves)) (kind.none top leaf is)
        one (Some seat) is of = ap (λ b. b || list_any which' (seats_for seats leaves)) (kind.some top leaf seat is of)

    -- and the members of that kind, who are on the board
    module _ (on : (seat : Seat) → which' seat ≡ true → seat.on ≡ true) where
      members_at : (tops : List ℕ) (leaves : List LeafVdev) → SeatedAt seats tops leaves
          → members_where which (leaves_at seats tops leaves) ≡ map member_of (filter which' (seats_for seats leaves))
      members_at [] [] seated = refl
      members_at [] (leaf ∷ leaves) seated = absurd seated
      members_at (top ∷ tops) [] seated = absurd seated
      members_at (top ∷ tops) (leaf ∷ leaves) seated =
          ap (member_before (which (leaf_of seats top leaf)) leaf.dev leaf.guid) (members_at tops leaves seated.1)
          ∙ one (seat_in seats leaf.guid) refl seated.0
        where
          by : (seat : Seat) (t : Bool) → seat_in seats leaf.guid ≡ Some seat → IsSeatOf top leaf seat → which' seat ≡ t
              → member_before t leaf.dev leaf.guid (map member_of (filter which' (seats_for seats leaves)))
              ≡ map member_of (cond t (seat ∷ filter which' (seats_for seats leaves))
              (filter which' (seats_for seats leaves)))
          by seat true is of e =
              ap (λ d. member_before true d leaf.guid (map member_of (filter which' (seats_for seats leaves))))
              (of.dev_is (on seat e))
              ∙ ap (λ m. m ∷ map member_of (filter which' (seats_for seats leaves))) (seat_member seats leaf seat is)
          by seat false is of e = refl

          one : (o : Option Seat) → seat_in seats leaf.guid ≡ o → IfSome o (IsSeatOf top leaf)
              → member_before (which (leaf_of seats top leaf)) leaf.dev leaf.guid
              (map member_of (filter which' (seats_for seats leaves)))
              ≡ map member_of (filter which' (cons_option o (seats_for seats leaves)))
          one None is of = ap (λ b. member_before b leaf.dev leaf.guid
              (map member_of (filter which' (seats_for seats leaves)))) (kind.none top leaf is)
          one (Some seat) is of = ap
              (λ b. member_before b leaf.dev leaf.guid (map member_of (filter which' (seats_for seats leaves))))
              (kind.some top leaf seat is of)
              ∙ by seat (which' seat) is of refl

  faults_at : (t : ℕ) (tops : List ℕ) (leaves : List LeafVdev) → SeatedAt seats tops leaves
      → faults_under (suc t) (leaves_at seats tops leaves) ≡ engine.faults_under t (seats_for seats leaves)
  faults_at t [] [] seated = refl
  faults_at t [] (leaf ∷ leaves) seated = absurd seated
  faults_at t (top ∷ tops) [] seated = absurd seated
  faults_at t (top ∷ tops) (leaf ∷ leaves) seated =
      ap (λ n. cond (is_some (seat_in seats leaf.guid) && (top == suc t)) (faults_of (seat_in seats leaf.guid)) 0 + n)
      (faults_at t tops leaves seated.1)
      ∙ one (seat_in seats leaf.guid) seated.0
    where
      one : (o : Option Seat) → IfSome o (IsSeatOf top leaf)
          → cond (is_some o && (top == suc t)) (faults_of o) 0 + engine.faults_under t
          (seats_for seats leaves) ≡ engine.faults_under t (cons_option o (seats_for seats leaves))
      one None of = omega arith
      one (Some seat) of = ap (λ b. cond b seat.faults 0 + engine.faults_under t (seats_for seats leaves))
          (same_top seat.top t top of.top_is)

both_left : (a b : Bool) → (a && b) ≡ true → a ≡ true
both_left true b e = refl
both_left false b e = e

-- The first top that has nobody left: leaf by leaf, and top by top.
abbrev pub HaveLeaves : List (List LeafVdev) → Type 0
HaveLeaves tops = AllByRecursion (λ under. 1 ≤ length under) tops

emptied_on : (all : List LeafSeen) (seats : List Seat) (top : ℕ) (under : List LeafVdev) (rest : List LeafSeen)
    → has_on top all ≡ true
    → emptied_of all (map (leaf_of seats top) under ++ rest) ≡ emptied_of all rest
emptied_on all seats top [] rest on = refl
emptied_on all seats top (leaf ∷ under) rest on =
    ap (λ b. cond b (emptied_of all (map (leaf_of seats top) under ++ rest)) (Some top)) on
    ∙ emptied_on all seats top under rest on

emptied_off : (all : List LeafSeen) (seats : List Seat) (top : ℕ) (under : List LeafVdev) (rest : List LeafSeen)
    → has_on top all ≡ false → 1 ≤ length under
    → emptied_of all (map (leaf_of seats top) under ++ rest) ≡ Some top
emptied_off all seats top [] rest off some = absurd (omega (arith, some))
emptied_off all seats top (leaf ∷ under) rest off some = ap
    (λ b. cond b (emptied_of all (map (leaf_of seats top) under ++ rest)) (Some top)) off

emptied_along : (all : List LeafSeen) (seats : List Seat) → ((t : ℕ) → has_on (suc t) all ≡ engine.has_on t seats)
    → (t : ℕ) (tops : List (List LeafVdev)) → HaveLeaves tops
    → emptied_of all (leaves_from seats (suc t) tops) ≡ option_map suc (emptied_from t (length tops) seats)
emptied_along all seats same t [] have = refl
emptied_along all seats same t (under ∷ tops) have = one (engine.has_on t seats) refl
    (emptied_along all seats same (suc t) tops have.1)
  where
    next : suc t ≡ t + 1
    next = omega arith

    one : (b : Bool) → engine.has_on t seats ≡ b
        → emptied_of all (leaves_from seats (suc (suc t)) tops) ≡ option_map suc
        (emptied_from (suc t) (length tops) seats)
        → emptied_of all (map (leaf_of seats (suc t)) under ++ leaves_from seats (suc (suc t)) tops)
        ≡ option_map suc (cond b (emptied_from (t + 1) (length tops) seats) (Some t))
    one true on rest = emptied_on all seats (suc t) under (leaves_from seats (suc (suc t)) tops) (same t ∙ on) ∙ rest
        ∙ ap (λ n. option_map suc (emptied_from n (length tops) seats)) next
    one false off rest = emptied_off all seats (suc t) under (leaves_from seats (suc (suc t)) tops)
        (same t ∙ off) have.0

-- What the board shows of the leaves of these tops.
pub record IsBoard (seats : List Seat) (tops : List (List LeafVdev)) : Type 0 where
  pub members : board_of (leaves_from seats 1 tops) ≡ engine.board_of seats
  pub under : (t : ℕ) → board_under (suc t) (leaves_from seats 1 tops) ≡ engine.board_under t seats
  pub faults : (t : ℕ) → faults_under (suc t) (leaves_from seats 1 tops) ≡ engine.faults_under t seats
  pub empty : HaveLeaves tops → emptied (leaves_from seats 1 tops) ≡ option_map suc (engine.emptied (length tops) seats)

module _ (seats : List Seat) (tops : List (List LeafVdev)) (order : seats_for seats (under_all tops) ≡ seats)
    (seated : SeatedAt seats (tops_from 1 tops) (under_all tops))
    (on_is : (m : Guid) → on_board seats m ≡ on_of (seat_in seats m)) where
  has_on_is : (t : ℕ) → has_on (suc t) (leaves_from seats 1 tops) ≡ engine.has_on t seats
  has_on_is t =
      ap (has_on (suc t)) (by_tops seats 1 tops)
      ∙ any_at seats on_is (is_on_under (suc t)) (engine.is_on_under t) (under_kind seats on_is t) (tops_from 1 tops)
      (under_all tops) seated
      ∙ ap (engine.has_on t) order

  board_is : IsBoard seats tops
  board_is = record {
    members = ap board_of (by_tops seats 1 tops)
        ∙ members_at seats on_is is_on engine.is_on (on_kind seats on_is) (λ seat e. e) (tops_from 1 tops)
        (under_all tops) seated
        ∙ ap engine.board_of order;
    under = λ t. ap (board_under (suc t)) (by_tops seats 1 tops)
        ∙ members_at seats on_is (is_on_under (suc t)) (engine.is_on_under t) (under_kind seats on_is t)
        (λ seat e. both_left seat.on (seat.top == t) e) (tops_from 1 tops) (under_all tops) seated
        ∙ ap (engine.board_under t) order;
    faults = λ t. ap (faults_under (suc t)) (by_tops seats 1 tops)
        ∙ faults_at seats on_is t (tops_from 1 tops) (under_all tops) seated ∙ ap (engine.faults_under t) order;
    empty = λ have. emptied_along (leaves_from seats 1 tops) seats has_on_is 0 tops have;
  }

-- a leaf's seat says whether it is on the board
pub board_on : (seats : List Seat) (p : PoolParts) → HasBoard seats p → AreNumbered (all_leaves p) → (m : Guid)
    → on_board seats m ≡ on_of (seat_in seats m)
board_on seats p board apart m =
    on_is_seats seats m (subst (λ s. Differ (seat_numbers s)) board.order
    (seats_differ seats (all_leaves p) (leaves_differ (all_leaves p) apart)))

-- The board of the state's leaves is that of the seats.
pub board_of_seats : (seats : List Seat) (p : PoolParts) → HasBoard seats p → AreNumbered (all_leaves p)
    → IsBoard seats (leaves_under p.tops)
board_of_seats seats p board apart =
    board_is seats (leaves_under p.tops) (ap (seats_for seats) (sym (all_are_under p.tops)) ∙ board.order)
    (seated_by_tops seats 1 (leaves_under p.tops) board.seated)
    (board_on seats p board apart)
