-- A leaf that is taken offline: the move that sets its state, and what it leaves as it was.
use Rattle.std.proofs.Common.{◌≡◌, ℕ, ◌==◌, ◌&&◌, ◌||◌, cond, Bool, true, false, List, [], ◌∷◌, map, Option, Some, None, refl, ap, ◌∙◌}
use Rattle.std.specs.Prelude.{is_some}
use Rattle.std.specs.List.{AllByRecursion}
use Rattle.std.specs.Option.{option_map}
use Rattle.mp_base.specs.declared.number.Guid.{Guid}
use Rattle.label_store.specs.declared.member.Member.{Member}
use Rattle.vdev_tree.specs.Changes.{with_state}
use Rattle.vdev_tree.specs.declared.vdev.LeafVdev.{LeafVdev}
use Rattle.vdev_tree.specs.declared.vdev.State.TheVariants.{Offline}
use Rattle.txg_engine.specs.declared.seat.Seat.{Seat}
use Rattle.txg_engine.specs.Boards.{as_taken, is_on_as, on_board}
use Rattle.pool_moves.specs.AwayRows.{gone}
use Rattle.pool_moves.specs.Leaves.{OwnLeaf}
use Rattle.pool_moves.specs.Moves.{Sets, leaf_step}
use Rattle.pool_moves.specs.States.{ScanSeen}
use Rattle.open_pool.specs.Offline.{IsNamedOwn}
use Rattle.open_pool.specs.State.{faults_of, leaf_of, own_of, seat_in}
use Rattle.open_pool.proofs.LeavesByTops.{leaves_at}

leaf_set : (seats : List Seat) (top : ℕ) (m : Guid) (temporary : Bool) (own : OwnLeaf) (number first : ℕ) (scan : ScanSeen) (leaf : LeafVdev)
    → IsNamedOwn seats m temporary own leaf
    → leaf_step (Sets m own) number first scan (leaf_of seats top leaf) ≡ leaf_of seats top (with_state m Offline temporary leaf)
leaf_set seats top m temporary own number first scan leaf is = one (leaf.guid.0 == m.0) is
  where
    one : (b : Bool) → (b ≡ true → own ≡ gone temporary (own_of seats leaf))
        → cond b (record (leaf_of seats top leaf) { own = own }) (leaf_of seats top leaf)
        ≡ leaf_of seats top (cond b (record leaf { state = Offline; temporary = temporary }) leaf)
    one true is = ap (λ o. record (leaf_of seats top leaf) { own = o }) (is refl)
    one false is = refl

pub leaves_set : (seats : List Seat) (tops : List ℕ) (m : Guid) (temporary : Bool) (own : OwnLeaf) (number first : ℕ) (scan : ScanSeen)
    (leaves : List LeafVdev) → AllByRecursion (IsNamedOwn seats m temporary own) leaves
    → map (leaf_step (Sets m own) number first scan) (leaves_at seats tops leaves)
    ≡ leaves_at seats tops (map (with_state m Offline temporary) leaves)
leaves_set seats [] m temporary own number first scan leaves are = refl
leaves_set seats (top ∷ tops) m temporary own number first scan [] are = refl
leaves_set seats (top ∷ tops) m temporary own number first scan (leaf ∷ leaves) are =
    ap (λ l. l ∷ map (leaf_step (Sets m own) number first scan) (leaves_at seats tops leaves))
    (leaf_set seats top m temporary own number first scan leaf are.0)
    ∙ ap (λ ls. leaf_of seats top (with_state m Offline temporary leaf) ∷ ls)
    (leaves_set seats tops m temporary own number first scan leaves are.1)

-- That its pool took a leaf off is nothing that the state has.

taken_sight : (m : Guid) (seat : Seat) → (as_taken m seat).member ≡ seat.member
taken_sight m seat = one (is_on_as m seat)
  where
    one : (b : Bool) → (cond b (record seat { taken = true }) seat).member ≡ seat.member
    one true = refl
    one false = refl

taken_on : (m : Guid) (seat : Seat) → (as_taken m seat).on ≡ seat.on
taken_on m seat = one (is_on_as m seat)
  where
    one : (b : Bool) → (cond b (record seat { taken = true }) seat).on ≡ seat.on
    one true = refl
    one false = refl

taken_faults : (m : Guid) (seat : Seat) → (as_taken m seat).faults ≡ seat.faults
taken_faults m seat = one (is_on_as m seat)
  where
    one : (b : Bool) → (cond b (record seat { taken = true }) seat).faults ≡ seat.faults
    one true = refl
    one false = refl

taken_seat : (m x : Guid) (seats : List Seat) → seat_in (map (as_taken m) seats) x ≡ option_map (as_taken m) (seat_in seats x)
taken_seat m x [] = refl
taken_seat m x (seat ∷ seats) =
    ap (λ (k : Member). cond (k.guid.0 == x.0) (Some (as_taken m seat)) (seat_in (map (as_taken m) seats) x)) (taken_sight m seat)
    ∙ ap (cond (seat.member.guid.0 == x.0) (Some (as_taken m seat))) (taken_seat m x seats)
    ∙ one (seat.member.guid.0 == x.0)
  where
    one : (b : Bool) → cond b (Some (as_taken m seat)) (option_map (as_taken m) (seat_in seats x))
        ≡ option_map (as_taken m) (cond b (Some seat) (seat_in seats x))
    one true = refl
    one false = refl

taken_board : (m x : Guid) (seats : List Seat) → on_board (map (as_taken m) seats) x ≡ on_board seats x
taken_board m x [] = refl
taken_board m x (seat ∷ seats) =
    ap (λ on. (on && ((as_taken m seat).member.guid.0 == x.0)) || on_board (map (as_taken m) seats) x) (taken_on m seat)
    ∙ ap (λ (k : Member). (seat.on && (k.guid.0 == x.0)) || on_board (map (as_taken m) seats) x) (taken_sight m seat)
    ∙ ap (λ b. (seat.on && (seat.member.guid.0 == x.0)) || b) (taken_board m x seats)

taken_own : (m : Guid) (seats : List Seat) (leaf : LeafVdev) → own_of (map (as_taken m) seats) leaf ≡ own_of seats leaf
taken_own m seats leaf =
    ap (λ o. record (own_of seats leaf) { joined = is_some o; faults = faults_of o }) (taken_seat m leaf.guid seats)
    ∙ one (seat_in seats leaf.guid)
  where
    one : (o : Option Seat) → record (own_of seats leaf) { joined = is_some (option_map (as_taken m) o); faults = faults_of (option_map (as_taken m) o) }
        ≡ record (own_of seats leaf) { joined = is_some o; faults = faults_of o }
    one None = refl
    one (Some seat) = ap (λ n. record (own_of seats leaf) { joined = true; faults = n }) (taken_faults m seat)

taken_leaf : (m : Guid) (seats : List Seat) (top : ℕ) (leaf : LeafVdev) → leaf_of (map (as_taken m) seats) top leaf ≡ leaf_of seats top leaf
taken_leaf m seats top leaf =
    ap (λ own. record (leaf_of (map (as_taken m) seats) top leaf) { own = own }) (taken_own m seats leaf)
    ∙ ap (λ on. record (leaf_of seats top leaf) { on = on }) (taken_board m leaf.guid seats)

pub taken_leaves : (m : Guid) (seats : List Seat) (tops : List ℕ) (leaves : List LeafVdev)
    → leaves_at (map (as_taken m) seats) tops leaves ≡ leaves_at seats tops leaves
taken_leaves m seats [] leaves = refl
taken_leaves m seats (top ∷ tops) [] = refl
taken_leaves m seats (top ∷ tops) (leaf ∷ leaves) =
    ap (λ l. l ∷ leaves_at (map (as_taken m) seats) tops leaves) (taken_leaf m seats top leaf)
    ∙ ap (λ ls. leaf_of seats top leaf ∷ ls) (taken_leaves m seats tops leaves)
