-- The board stays in its form: behind a freeze, and where leaves change in other things or leave it.
use Rattle.std.proofs.Common.{◌≡◌, ℕ, suc, ◌==◌, ◌&&◌, not, cond, Bool, true, false, List, [], ◌∷◌, map, Option, Some, None, refl, sym, ap, ◌∙◌, subst}
use Rattle.std.specs.Prelude.{IfSome}
use Rattle.std.specs.List.{filter_map, cons_option, AllZip}
use Rattle.std.specs.Option.{option_map}
use Rattle.mp_base.specs.declared.number.Guid.{Guid}
use Rattle.label_store.specs.declared.member.Member.{Member}
use Rattle.vdev_tree.specs.Leaf.{is_up}
use Rattle.vdev_tree.specs.declared.top.Top.{Top}
use Rattle.vdev_tree.specs.declared.vdev.LeafVdev.{LeafVdev}
use Rattle.dtl_rules.specs.Widening.{leaves_of}
use Rattle.txg_engine.specs.declared.seat.Seat.{Seat}
use Rattle.txg_engine.specs.Boards.{seats_of, without, failed, behind_turn, count_up}
use Rattle.open_pool.specs.Form.{IsSeatOf, HasBoard, AreSeated, all_leaves}
use Rattle.open_pool.specs.Parts.{PoolParts, all_parts}
use Rattle.open_pool.specs.State.{is_seat_of, seat_in, leaves_under}
use Rattle.open_pool.proofs.LeavesByTops.{under_all, tops_from, have_tops, all_are_under, under_trees, SeatedAt, seated_by_tops, seated_under, sizes, same_tops}
use Rattle.open_pool.proofs.NumbersApart.{AreNumbered, leaves_differ}
use Rattle.open_pool.proofs.SeatsOfFreeze.{seats_at, tops_more, seats_of_tops, have_seats, in_order, seated_at}

-- the leaf has its number, its name, its device and its state still
pub record IsSameLeaf (old new : LeafVdev) : Type 0 where
  pub guid : new.guid ≡ old.guid
  pub name : new.name ≡ old.name
  pub dev : new.dev ≡ old.dev
  pub state : new.state ≡ old.state
  pub temporary : new.temporary ≡ old.temporary

abbrev pub AreSameLeaves : List LeafVdev → List LeafVdev → Type 0
AreSameLeaves old new = AllZip IsSameLeaf old new

-- what is done to each seat leaves its leaf, and brings nobody onto the board
pub record KeepsSeats (f : Seat → Seat) : Type 0 where
  pub member : (seat : Seat) → (f seat).member ≡ seat.member
  pub top : (seat : Seat) → (f seat).top ≡ seat.top
  pub on : (seat : Seat) → (f seat).on ≡ true → seat.on ≡ true

pub mapped_seat : (f : Seat → Seat) → KeepsSeats f → (seats : List Seat) (m : Guid)
    → seat_in (map f seats) m ≡ option_map f (seat_in seats m)
mapped_seat f keeps [] m = refl
mapped_seat f keeps (seat ∷ seats) m =
    ap (λ (n : Member). cond (n.guid.0 == m.0) (Some (f seat)) (seat_in (map f seats) m)) (keeps.member seat)
    ∙ ap (cond (is_seat_of m seat) (Some (f seat))) (mapped_seat f keeps seats m)
    ∙ one (is_seat_of m seat) (seat_in seats m)
  where
    one : (t : Bool) (o : Option Seat) → cond t (Some (f seat)) (option_map f o) ≡ option_map f (cond t (Some seat) o)
    one true o = refl
    one false o = refl

in_order_still : (f : Seat → Seat) → KeepsSeats f → (seats : List Seat) (old new : List LeafVdev)
    → AreSameLeaves old new
    → filter_map (λ leaf. seat_in (map f seats) leaf.guid) new ≡ map f
    (filter_map (λ leaf. seat_in seats leaf.guid) old)
in_order_still f keeps seats [] [] same = refl
in_order_still f keeps seats [] (y ∷ new) same = absurd same
in_order_still f keeps seats (x ∷ old) [] same = absurd same
in_order_still f keeps seats (x ∷ old) (y ∷ new) same =
    ap (λ g. cons_option (seat_in (map f seats) g)
    (filter_map (λ leaf. seat_in (map f seats) leaf.guid) new)) same.0.guid
    ∙ ap (λ o. cons_option o (filter_map (λ leaf. seat_in (map f seats) leaf.guid) new))
    (mapped_seat f keeps seats x.guid)
    ∙ ap (cons_option (option_map f (seat_in seats x.guid))) (in_order_still f keeps seats old new same.1)
    ∙ one (seat_in seats x.guid) (filter_map (λ leaf. seat_in seats leaf.guid) old)
  where
    one : (o : Option Seat) (rest : List Seat) → cons_option (option_map f o) (map f rest) ≡ map f (cons_option o rest)
    one None rest = refl
    one (Some seat) rest = refl

seated_still : (f : Seat → Seat) → KeepsSeats f → (seats : List Seat) (tops : List ℕ) (old new : List LeafVdev)
    → AreSameLeaves old new → SeatedAt seats tops old
    → SeatedAt (map f seats) tops new
seated_still f keeps seats [] [] [] same seated = tt
seated_still f keeps seats [] [] (y ∷ new) same seated = absurd same
seated_still f keeps seats [] (x ∷ old) new same seated = absurd seated
seated_still f keeps seats (top ∷ tops) [] new same seated = absurd seated
seated_still f keeps seats (top ∷ tops) (x ∷ old) [] same seated = absurd same
seated_still f keeps seats (top ∷ tops) (x ∷ old) (y ∷ new) same seated = (
  subst (λ g. IfSome (seat_in (map f seats) g) (IsSeatOf top y)) (sym same.0.guid)
      (subst (λ o. IfSome o (IsSeatOf top y)) (sym (mapped_seat f keeps seats x.guid))
      (one (seat_in seats x.guid) seated.0)),
  seated_still f keeps seats tops old new same.1 seated.1,
)
  where
    one : (o : Option Seat) → IfSome o (IsSeatOf top x) → IfSome (option_map f o) (IsSeatOf top y)
    one None of = tt
    one (Some seat) of = record {
      top_is = ap suc (keeps.top seat) ∙ of.top_is;
      dev_is = λ on. same.0.dev ∙ of.dev_is (keeps.on seat on)
          ∙ ap (λ (m : Member). Some m.dev) (sym (keeps.member seat));
      up = λ on. ap is_up same.0.state ∙ of.up (keeps.on seat on);
    }

-- so the board of the new leaves is in its form, where tops have as many leaves as before
pub board_mapped : (f : Seat → Seat) → KeepsSeats f → (seats : List Seat) (p q : PoolParts)
    → sizes (leaves_under q.tops) ≡ sizes (leaves_under p.tops)
    → AreSameLeaves (all_leaves p) (all_leaves q) → HasBoard seats p → HasBoard (map f seats) q
board_mapped f keeps seats p q built same board = record {
  order = in_order_still f keeps seats (all_leaves p) (all_leaves q) same ∙ ap (map f) board.order;
  seated = seated_under (map f seats) 1 (leaves_under q.tops)
      (subst (λ ls. SeatedAt (map f seats) (tops_from 1 (leaves_under q.tops)) ls) (all_are_under q.tops)
      (subst (λ ts. SeatedAt (map f seats) ts (all_leaves q))
      (sym (same_tops 1 (leaves_under q.tops) (leaves_under p.tops) built))
      (seated_still f keeps seats (tops_from 1 (leaves_under p.tops)) (all_leaves p) (all_leaves q) same
      (subst (SeatedAt seats (tops_from 1 (leaves_under p.tops))) (sym (all_are_under p.tops))
      (seated_by_tops seats 1 (leaves_under p.tops) board.seated)))));
}

pub leave_keeps : (m : Guid) → KeepsSeats (without m)
leave_keeps m = record {
  member = λ seat. refl;
  top = λ seat. refl;
  on = λ seat on. was seat.on
      (not (seat.member.guid.0 == m.0)) on;
}
  where
    was : (a b : Bool) → (a && b) ≡ true → a ≡ true
    was true b e = refl
    was false b e = e

pub fault_keeps : (m : Guid) → KeepsSeats (failed m)
fault_keeps m = record {
  member = λ seat. member seat (seat.member.guid.0 == m.0);
  top = λ seat. top seat (seat.member.guid.0 == m.0);
  on = λ seat. on seat (seat.member.guid.0 == m.0);
}
  where
    member : (seat : Seat) (t : Bool)
        → (cond t (record seat { faults = count_up seat.faults }) seat).member ≡ seat.member
    member seat true = refl
    member seat false = refl

    top : (seat : Seat) (t : Bool) → (cond t (record seat { faults = count_up seat.faults }) seat).top ≡ seat.top
    top seat true = refl
    top seat false = refl

    on : (seat : Seat) (t : Bool) → (cond t (record seat { faults = count_up seat.faults }) seat).on ≡ true
        → seat.on ≡ true
    on seat true e = e
    on seat false e = e

pub same_keeps : KeepsSeats (λ seat. seat)
same_keeps = record { member = λ seat. refl; top = λ seat. refl; on = λ seat e. e }

pub same_leaves : (leaves : List LeafVdev) → AreSameLeaves leaves leaves
same_leaves [] = tt
same_leaves (leaf ∷ leaves) = (record { guid = refl; name = refl; dev = refl; state = refl; temporary = refl }, same_leaves leaves)

mapped_same : (seats : List Seat) → map (λ seat. seat) seats ≡ seats
mapped_same [] = refl
mapped_same (seat ∷ seats) = ap (λ ss. seat ∷ ss) (mapped_same seats)

-- the board that a turn leaves
pub board_behind : (ms : List Member) (done : List Bool) (seats : List Seat) (p q : PoolParts)
    → sizes (leaves_under q.tops) ≡ sizes (leaves_under p.tops)
    → AreSameLeaves (all_leaves p) (all_leaves q) → HasBoard seats p → HasBoard (behind_turn ms done seats) q
board_behind [] done seats p q built same board = subst (λ s. HasBoard s q) (mapped_same seats)
    (board_mapped (λ seat. seat) same_keeps seats p q built same board)
board_behind (m ∷ ms) [] seats p q built same board = subst (λ s. HasBoard s q) (mapped_same seats)
    (board_mapped (λ seat. seat) same_keeps seats p q built same board)
board_behind (m ∷ ms) (true ∷ done) seats p q built same board = board_behind ms done seats p q built same board
board_behind (m ∷ ms) (false ∷ done) seats p q built same board =
    board_behind ms done (map (without m.guid) (map (failed m.guid) seats)) p q built same
    (board_mapped (without m.guid) (leave_keeps m.guid) (map (failed m.guid) seats) p p refl
    (same_leaves (all_leaves p))
    (board_mapped (failed m.guid) (fault_keeps m.guid) seats p p refl (same_leaves (all_leaves p)) board))

-- and the one that a freeze makes of the leaves before it
pub board_frozen : (tops : List Top) (p q : PoolParts) → p.tops ≡ all_parts tops
    → sizes (leaves_under q.tops) ≡ sizes (leaves_under p.tops)
    → AreSameLeaves (all_leaves p) (all_leaves q) → AreNumbered (leaves_of tops) → HasBoard (seats_of 0 tops) q
board_frozen tops p q parts built same apart =
    let unders = leaves_under (all_parts tops) in
    let trees = under_trees tops in
    let have = have_seats (tops_from 0 unders) (under_all unders) (have_tops 0 unders)
    (leaves_differ (under_all unders) (subst AreNumbered (sym trees) apart)) in
    let seats : seats_of 0 tops ≡ seats_at (tops_from 0 unders) (under_all unders) = seats_of_tops 0 tops in
    let all : all_leaves p ≡ under_all unders = all_are_under p.tops ∙ ap (λ ts. under_all (leaves_under ts)) parts in
    subst (λ s. HasBoard s q) (mapped_same (seats_of 0 tops))
    (board_mapped (λ seat. seat) same_keeps (seats_of 0 tops) p q built same
    (subst (λ s. HasBoard s p) (sym seats) (record {
      order = ap (λ ls. filter_map
          (λ leaf. seat_in (seats_at (tops_from 0 unders) (under_all unders)) leaf.guid) ls) all
          ∙ in_order (seats_at (tops_from 0 unders) (under_all unders)) (tops_from 0 unders) (under_all unders) have;
      seated = subst (λ ts. AreSeated (seats_at (tops_from 0 unders) (under_all unders)) 1 (leaves_under ts))
          (sym parts)
          (seated_under (seats_at (tops_from 0 unders) (under_all unders)) 1 unders
          (subst (λ ts. SeatedAt (seats_at (tops_from 0 unders) (under_all unders)) ts (under_all unders))
          (sym (tops_more 0 unders))
          (seated_at (seats_at (tops_from 0 unders) (under_all unders)) (tops_from 0 unders) (under_all unders) have)));
    })))
