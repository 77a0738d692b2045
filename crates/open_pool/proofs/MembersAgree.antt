-- A member of the board is one leaf, by its number and by its device.
use Rattle.std.proofs.Common.{◌≡◌, ◌≢◌, ℕ, suc, ◌==◌, ◌&&◌, cond, Bool, true, false, List, [], ◌∷◌, map, Option, Some, None, refl, sym, ap, ◌∙◌, subst, arith}
use Rattle.std.specs.Prelude.{All, IfSome, filter}
use Rattle.std.specs.List.{AllByRecursion, cons_option, filter_map}
use Rattle.std.proofs.lemmas.Bool.{ne_eqb}
use Rattle.label_store.specs.declared.member.Member.{Member}
use Rattle.vdev_tree.specs.declared.vdev.LeafVdev.{LeafVdev}
use Rattle.txg_engine.specs.declared.seat.Seat.{Seat}
use Rattle.txg_engine.specs.Boards as engine
use Rattle.txg_engine.specs.Boards.{member_of}
use Rattle.pool_moves.specs.Moves.{on_dev}
use Rattle.open_pool.specs.Form.{IsSeatOf, HasBoard, all_leaves}
use Rattle.open_pool.specs.Parts.{PoolParts}
use Rattle.open_pool.specs.State.{seat_in, leaves_under}
use Rattle.open_pool.proofs.BoardIsSeats.{seat_member}
use Rattle.open_pool.proofs.FaultsCounted.{member_numbers}
use Rattle.open_pool.proofs.LeafLeaves.{Agrees}
use Rattle.open_pool.proofs.LeavesByTops.{SeatedAt, seated_by_tops, tops_from, all_are_under}
use Rattle.open_pool.proofs.NumbersApart.{AreNumbered, Differ, leaves_differ, seats_differ, seat_numbers, itself, turned_test}
use Rattle.open_pool.proofs.SeatsOfFreeze.{OnOwnDevices}

-- a leaf and another, where the first has this device
abbrev AgreesLeaf : LeafVdev → LeafVdev → Type 0
AgreesLeaf x leaf = (d : ℕ) → x.dev ≡ Some d → (leaf.guid.0 == x.guid.0) ≡ on_dev (λ e. d == e) leaf.dev

-- two leaves that differ in both
abbrev IsApart : LeafVdev → LeafVdev → Type 0
IsApart a b = (a.guid.0 ≢ b.guid.0) × ((d : ℕ) → a.dev ≡ Some d → b.dev ≡ Some d → ⊥)

device_off : (d : ℕ) (dev : Option ℕ) → (dev ≡ Some d → ⊥) → on_dev (λ e. d == e) dev ≡ false
device_off d None off = refl
device_off d (Some e) off = ne_eqb d e (λ same. off (ap (λ n. Some n) (sym same)))

apart_agrees : (a b : LeafVdev) → IsApart a b → AgreesLeaf a b
apart_agrees a b apart d is = turned_test a.guid.0 b.guid.0 (ne_eqb a.guid.0 b.guid.0 apart.0)
    ∙ sym (device_off d b.dev (apart.1 d is))

apart_agrees_back : (a b : LeafVdev) → IsApart a b → AgreesLeaf b a
apart_agrees_back a b apart d is = ne_eqb a.guid.0 b.guid.0 apart.0
    ∙ sym (device_off d a.dev (λ there. apart.1 d there is))

self_agrees : (x : LeafVdev) → AgreesLeaf x x
self_agrees x d is = itself x.guid.0 ∙ sym (ap (on_dev (λ e. d == e)) is ∙ itself d)

first_agrees : (x : LeafVdev) (xs : List LeafVdev) → AllByRecursion (IsApart x) xs → AllByRecursion (AgreesLeaf x) xs
first_agrees x [] apart = tt
first_agrees x (y ∷ xs) apart = (apart_agrees x y apart.0, first_agrees x xs apart.1)

others_agree : (x : LeafVdev) (all xs : List LeafVdev) → AllByRecursion (IsApart x) xs
    → AllByRecursion (λ y. AllByRecursion (AgreesLeaf y) all) xs
    → AllByRecursion (λ y. AllByRecursion (AgreesLeaf y) (x ∷ all)) xs
others_agree x all [] apart agree = tt
others_agree x all (y ∷ xs) apart agree = ((apart_agrees_back x y apart.0, agree.0), others_agree x all xs apart.1 agree.1)

apart_from : (x : LeafVdev) (xs : List LeafVdev) → All (λ y. x.guid.0 ≢ y.guid.0) xs
    → All (λ y. (d : ℕ) → x.dev ≡ Some d → y.dev ≡ Some d → ⊥) xs → AllByRecursion (IsApart x) xs
apart_from x [] numbers devices = tt
apart_from x (y ∷ xs) numbers devices = (
  (numbers 0 y (omega arith), devices 0 y (omega arith)),
  apart_from x xs (λ k d lt. numbers (suc k) d (omega arith)) (λ k d lt. devices (suc k) d (omega arith)),
)

leaves_agree : (leaves : List LeafVdev) → AreNumbered leaves → OnOwnDevices leaves
    → AllByRecursion (λ x. AllByRecursion (AgreesLeaf x) leaves) leaves
leaves_agree [] numbers devices = tt
leaves_agree (x ∷ xs) numbers devices =
    let apart = apart_from x xs (λ k d lt. numbers 0 (suc k) d (omega arith) (omega arith))
    (λ k d lt. devices 0 (suc k) d (omega arith) (omega arith)) in (
      (self_agrees x, first_agrees x xs apart),
      others_agree x xs xs apart
          (leaves_agree xs (λ i j d lt within. numbers (suc i) (suc j) d (omega arith) (omega arith))
          (λ i j d lt within. devices (suc i) (suc j) d (omega arith) (omega arith))),
    )

-- so a member that is a leaf's agrees with each
as_member : (x : LeafVdev) (d : ℕ) (leaves : List LeafVdev) → x.dev ≡ Some d → AllByRecursion (AgreesLeaf x) leaves
    → AllByRecursion (Agrees (record { dev = d; guid = x.guid })) leaves
as_member x d [] is agree = tt
as_member x d (leaf ∷ leaves) is agree = (agree.0 d is, as_member x d leaves is agree.1)

module _ (P : Member → Type 0) (which : Seat → Bool) (on : (seat : Seat) → which seat ≡ true → seat.on ≡ true)
    (seats : List Seat) where
  of_members : (tops : List ℕ) (leaves : List LeafVdev) → SeatedAt seats tops leaves
      → AllByRecursion (λ x. (d : ℕ) → x.dev ≡ Some d → P (record { dev = d; guid = x.guid })) leaves
      → AllByRecursion P (map member_of (filter which (filter_map (λ leaf. seat_in seats leaf.guid) leaves)))
  of_members [] [] seated all = tt
  of_members [] (x ∷ leaves) seated all = absurd seated
  of_members (top ∷ tops) [] seated all = absurd seated
  of_members (top ∷ tops) (x ∷ leaves) seated all = one (seat_in seats x.guid) refl seated.0
      (of_members tops leaves seated.1 all.1)
    where
      by : (seat : Seat) (t : Bool) → seat_in seats x.guid ≡ Some seat → IsSeatOf top x seat → which seat ≡ t
          → AllByRecursion P (map member_of (filter which (filter_map (λ leaf. seat_in seats leaf.guid) leaves)))
          → AllByRecursion P (map member_of
          (cond t (seat ∷ filter which (filter_map (λ leaf. seat_in seats leaf.guid) leaves))
          (filter which (filter_map (λ leaf. seat_in seats leaf.guid) leaves))))
      by seat true is of e rest = (
        subst P (seat_member seats x seat is)
            (all.0 seat.member.dev (of.dev_is (on seat e))),
        rest,
      )
      by seat false is of e rest = rest

      one : (o : Option Seat) → seat_in seats x.guid ≡ o → IfSome o (IsSeatOf top x)
          → AllByRecursion P (map member_of (filter which (filter_map (λ leaf. seat_in seats leaf.guid) leaves)))
          → AllByRecursion P (map member_of
          (filter which (cons_option o (filter_map (λ leaf. seat_in seats leaf.guid) leaves))))
      one None is of rest = rest
      one (Some seat) is of rest = by seat (which seat) is of refl rest

each_leaf : (all leaves : List LeafVdev) → AllByRecursion (λ x. AllByRecursion (AgreesLeaf x) all) leaves
    → AllByRecursion (λ x. (d : ℕ) → x.dev ≡ Some d → AllByRecursion (Agrees (record { dev = d; guid = x.guid })) all) leaves
each_leaf all [] agree = tt
each_leaf all (x ∷ leaves) agree = ((λ d is. as_member x d all is agree.0), each_leaf all leaves agree.1)

-- The numbers of members differ, as those of the seats do.
fewer_differ : (n : ℕ) (which : Seat → Bool) (seats : List Seat)
    → AllByRecursion (λ k. (n == k) ≡ false) (seat_numbers seats)
    → AllByRecursion (λ k. (n == k) ≡ false) (member_numbers (map member_of (filter which seats)))
fewer_differ n which [] differ = tt
fewer_differ n which (seat ∷ seats) differ = by (which seat) (fewer_differ n which seats differ.1)
  where
    by : (t : Bool) → AllByRecursion (λ k. (n == k) ≡ false) (member_numbers (map member_of (filter which seats)))
        → AllByRecursion (λ k. (n == k) ≡ false)
        (member_numbers (map member_of (cond t (seat ∷ filter which seats) (filter which seats))))
    by true rest = (differ.0, rest)
    by false rest = rest

members_differ : (which : Seat → Bool) (seats : List Seat) → Differ (seat_numbers seats)
    → Differ (member_numbers (map member_of (filter which seats)))
members_differ which [] differ = tt
members_differ which (seat ∷ seats) differ = by (which seat) (members_differ which seats differ.1)
  where
    by : (t : Bool) → Differ (member_numbers (map member_of (filter which seats)))
        → Differ (member_numbers (map member_of (cond t (seat ∷ filter which seats) (filter which seats))))
    by true rest = (fewer_differ seat.member.guid.0 which seats differ.0, rest)
    by false rest = rest

-- Members each of which is one leaf, and no two the same.
pub record IsCrew (leaves : List LeafVdev) (ms : List Member) : Type 0 where
  pub agree : AllByRecursion (λ m. AllByRecursion (Agrees m) leaves) ms
  pub apart : Differ (member_numbers ms)

module _ (seats : List Seat) (p : PoolParts) (board : HasBoard seats p) (numbers : AreNumbered (all_leaves p))
    (devices : OnOwnDevices (all_leaves p)) where
  pub board_differ : Differ (seat_numbers seats)
  board_differ = subst (λ s. Differ (seat_numbers s)) board.order
      (seats_differ seats (all_leaves p) (leaves_differ (all_leaves p) numbers))

  crew : (which : Seat → Bool) → ((seat : Seat) → which seat ≡ true → seat.on ≡ true)
      → IsCrew (all_leaves p) (map member_of (filter which seats))
  crew which on = record {
    agree = subst (λ s. AllByRecursion (λ m. AllByRecursion (Agrees m) (all_leaves p))
        (map member_of (filter which s))) board.order
        (of_members (λ m. AllByRecursion (Agrees m) (all_leaves p)) which on seats (tops_from 1 (leaves_under p.tops))
        (all_leaves p)
        (subst (SeatedAt seats (tops_from 1 (leaves_under p.tops))) (sym (all_are_under p.tops))
        (seated_by_tops seats 1 (leaves_under p.tops) board.seated))
        (each_leaf (all_leaves p) (all_leaves p) (leaves_agree (all_leaves p) numbers devices)));
    apart = members_differ which seats board_differ;
  }

  -- the whole board, and who of it stands under a top
  pub board_crew : IsCrew (all_leaves p) (engine.board_of seats)
  board_crew = crew engine.is_on (λ seat e. e)

  pub under_crew : (t : ℕ) → IsCrew (all_leaves p) (engine.board_under t seats)
  under_crew t = crew (engine.is_on_under t) (λ seat e. both_left seat.on (seat.top == t) e)
    where
      both_left : (a b : Bool) → (a && b) ≡ true → a ≡ true
      both_left true b e = refl
      both_left false b e = e
