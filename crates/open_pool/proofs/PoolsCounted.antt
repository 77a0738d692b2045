-- A pool of which the calls of a read are counted has its form, and its state has just the counts besides.
use Rattle.std.proofs.Common.{◌≡◌, ℕ, suc, ◌==◌, cond, Bool, true, false, List, [], ◌∷◌, ◌++◌, map, Option, Some, None, refl, sym, ap, ap₂, ◌∙◌}
use Rattle.std.specs.Prelude.{is_some}
use Rattle.std.specs.Option.{option_map}
use Rattle.std.proofs.lemmas.List.{map-append}
use Rattle.mp_base.specs.declared.number.Guid.{Guid}
use Rattle.vdev_tree.specs.declared.vdev.LeafVdev.{LeafVdev}
use Rattle.pool_config.specs.Seen.{VdevSeen}
use Rattle.pool_codec.specs.Tops.{room_of, number_of, children_of}
use Rattle.txg_engine.specs.declared.seat.Seat.{Seat}
use Rattle.txg_engine.specs.Boards.{on_board, failed, count_up}
use Rattle.txg_engine.specs.Frozen.{FrozenGroup}
use Rattle.txg_engine.proofs.Ready.{same_board}
use Rattle.pool_moves.specs.Leaves.{OwnLeaf, LeafSeen}
use Rattle.pool_moves.specs.States.{Sums, GroupSeen, PoolState}
use Rattle.open_pool.specs.declared.count.Counted.{Counted}
use Rattle.open_pool.specs.Counting.{counts_with, up_if, has_fault, counted_leaf, counted_top, counted_seat, counted_group}
use Rattle.open_pool.specs.Form.{top_of}
use Rattle.open_pool.specs.Parts.{TopParts, PoolParts}
use Rattle.open_pool.specs.State.{seat_in, faults_of, own_of, leaf_of, leaves_from, cells_in, group_of, seats_in, vdevs_in, sectors_in, leaves_under, state_of, seen_of, own_state}
use Rattle.open_pool.proofs.BoardKept.{KeepsSeats, mapped_seat, fault_keeps, same_keeps}
use Rattle.open_pool.proofs.CountsAsMoves.{own_with, leaf_with}
use Rattle.open_pool.proofs.FaultsCounted.{with_leaves}
use Rattle.open_pool.proofs.NumbersApart.{seat_numbered}
use Rattle.open_pool.proofs.ReadsCounted.{counted_own}

abbrev pub counted_pool : Counted → PoolParts → PoolParts
counted_pool c p = record p { tops = map (counted_top c) p.tops; frozen = option_map (counted_group c) p.frozen }

-- Its seats.
pub seat_keeps : (c : Counted) → KeepsSeats (counted_seat c)
seat_keeps c = by (has_fault c)
  where
    by : (t : Bool) → KeepsSeats (λ seat. cond t (failed c.member seat) seat)
    by true = fault_keeps c.member
    by false = same_keeps

same_seats : (seats : List Seat) → map (λ seat. seat) seats ≡ seats
same_seats [] = refl
same_seats (seat ∷ seats) = ap (λ ss. seat ∷ ss) (same_seats seats)

pub board_same : (c : Counted) (seats : List Seat) (m : Guid) → on_board (map (counted_seat c) seats) m ≡ on_board seats m
board_same c seats m = by (has_fault c)
  where
    by : (t : Bool) → on_board (map (λ seat. cond t (failed c.member seat) seat) seats) m ≡ on_board seats m
    by true = same_board c.member m seats
    by false = ap (λ ss. on_board ss m) (same_seats seats)

-- What is known of a leaf then.
own_counted : (c : Counted) (seats : List Seat) (leaf : LeafVdev)
    → own_of (map (counted_seat c) seats) (counted_leaf c leaf) ≡ own_with c leaf.guid.0 (own_of seats leaf)
own_counted c seats leaf =
    of_leaf (leaf.guid.0 == c.member.0)
    ∙ ap (own_by (leaf.guid.0 == c.member.0)) (mapped_seat (counted_seat c) (seat_keeps c) seats leaf.guid)
    ∙ by (leaf.guid.0 == c.member.0) (seat_in seats leaf.guid) refl refl
  where
    -- by whether it is this leaf, and its seat
    own_by : Bool → Option Seat → OwnLeaf
    own_by t o = record {
      name = leaf.name;
      mode = leaf.state;
      temporary = leaf.temporary;
      marked = leaf.marked;
      counts = cond t (counts_with c leaf.counts) leaf.counts;
      joined = is_some o;
      faults = faults_of o;
    }

    of_leaf : (t : Bool) → own_of (map (counted_seat c) seats) (cond t (record leaf { counts = counts_with c leaf.counts }) leaf)
        ≡ own_by t (seat_in (map (counted_seat c) seats) leaf.guid)
    of_leaf true = refl
    of_leaf false = refl

    one : (t b : Bool) (seat : Seat)
        → own_by t (Some (cond b (cond t (record seat { faults = count_up seat.faults }) seat) seat))
        ≡ cond t (record (own_by false (Some seat)) { counts = counts_with c leaf.counts; faults = up_if b seat.faults }) (own_by false (Some seat))
    one true true seat = refl
    one true false seat = refl
    one false true seat = refl
    one false false seat = refl

    by : (t : Bool) (o : Option Seat) → (leaf.guid.0 == c.member.0) ≡ t → seat_in seats leaf.guid ≡ o
        → own_by t (option_map (counted_seat c) o) ≡ cond t (counted_own c (own_by false o)) (own_by false o)
    by true None test is = refl
    by false None test is = refl
    by t (Some seat) test is =
        ap (λ b. own_by t (Some (cond (has_fault c) (cond b (record seat { faults = count_up seat.faults }) seat) seat)))
        (ap (λ n. n == c.member.0) (seat_numbered seats leaf.guid seat is) ∙ test)
        ∙ one t (has_fault c) seat

leaf_counted : (c : Counted) (seats : List Seat) (top : ℕ) (leaf : LeafVdev)
    → leaf_of (map (counted_seat c) seats) top (counted_leaf c leaf) ≡ leaf_with c (leaf_of seats top leaf)
leaf_counted c seats top leaf =
    rest (leaf.guid.0 == c.member.0)
    ∙ ap₂ (λ own on. record (leaf_of seats top leaf) { own = own; on = on }) (own_counted c seats leaf) (board_same c seats leaf.guid)
  where
    rest : (t : Bool) → leaf_of (map (counted_seat c) seats) top (cond t (record leaf { counts = counts_with c leaf.counts }) leaf)
        ≡ record (leaf_of seats top leaf) {
          own = own_of (map (counted_seat c) seats) (cond t (record leaf { counts = counts_with c leaf.counts }) leaf);
          on = on_board (map (counted_seat c) seats) leaf.guid;
        }
    rest true = refl
    rest false = refl

leaves_counted : (c : Counted) (seats : List Seat) (top : ℕ) (tops : List TopParts)
    → leaves_from (map (counted_seat c) seats) top (leaves_under (map (counted_top c) tops)) ≡ map (leaf_with c) (leaves_from seats top (leaves_under tops))
leaves_counted c seats top [] = refl
leaves_counted c seats top (t ∷ tops) =
    ap₂ (λ a b. a ++ b) (here t.leaves) (leaves_counted c seats (suc top) tops)
    ∙ sym (map-append (leaf_with c) (map (leaf_of seats top) t.leaves) (leaves_from seats (suc top) (leaves_under tops)))
  where
    here : (under : List LeafVdev) → map (leaf_of (map (counted_seat c) seats) top) (map (counted_leaf c) under) ≡ map (leaf_with c) (map (leaf_of seats top) under)
    here [] = refl
    here (leaf ∷ under) = ap₂ (λ a b. a ∷ b) (leaf_counted c seats top leaf) (here under)

-- Of its tops and its group all else is as it was.
same_vdevs : (c : Counted) (tops : List TopParts) → vdevs_in (map (counted_top c) tops) ≡ vdevs_in tops
same_vdevs c [] = refl
same_vdevs c (top ∷ tops) = ap (λ vs. top.vdevs ∷ vs) (same_vdevs c tops)

pub same_sectors : (c : Counted) (tops : List TopParts) → sectors_in (map (counted_top c) tops) ≡ sectors_in tops
same_sectors c [] = refl
same_sectors c (top ∷ tops) = ap (λ ns. top.sectors ∷ ns) (same_sectors c tops)

pub same_tops : (c : Counted) (tops : List TopParts) → map top_of (map (counted_top c) tops) ≡ map top_of tops
same_tops c [] = refl
same_tops c (top ∷ tops) = ap (λ ts. top_of top ∷ ts) (same_tops c tops)

pub same_cells : (c : Counted) (frozen : Option FrozenGroup) → cells_in (option_map (counted_group c) frozen) ≡ cells_in frozen
same_cells c None = refl
same_cells c (Some group) = refl

same_group : (c : Counted) (frozen : Option FrozenGroup) → group_of (option_map (counted_group c) frozen) ≡ group_of frozen
same_group c None = refl
same_group c (Some group) = refl

pub seats_counted : (c : Counted) (frozen : Option FrozenGroup) → seats_in (option_map (counted_group c) frozen) ≡ map (counted_seat c) (seats_in frozen)
seats_counted c None = refl
seats_counted c (Some group) = refl

-- its state
pub state_counted : (held : List Sums) (c : Counted) (p : PoolParts)
    → state_of held (counted_pool c p) ≡ with_leaves (map (leaf_with c) (seen_of held p).leaves) (state_of held p)
state_counted held c p =
    ap (λ vs. state_by vs (sectors_in q.tops) (group_of q.frozen) (leaves_from (seats_in q.frozen) 1 (leaves_under q.tops))) (same_vdevs c p.tops)
    ∙ ap (λ ns. state_by (vdevs_in p.tops) ns (group_of q.frozen) (leaves_from (seats_in q.frozen) 1 (leaves_under q.tops))) (same_sectors c p.tops)
    ∙ ap (λ g. state_by (vdevs_in p.tops) (sectors_in p.tops) g (leaves_from (seats_in q.frozen) 1 (leaves_under q.tops))) (same_group c p.frozen)
    ∙ ap (state_by (vdevs_in p.tops) (sectors_in p.tops) (group_of p.frozen))
    (ap (λ seats. leaves_from seats 1 (leaves_under q.tops)) (seats_counted c p.frozen) ∙ leaves_counted c (seats_in p.frozen) 1 p.tops)
  where
    q : PoolParts
    q = counted_pool c p

    state_by : List (List VdevSeen) → List ℕ → GroupSeen → List LeafSeen → PoolState
    state_by vs ns group leaves = record {
      own = record (own_state p) { top_number = number_of vs; children = children_of vs };
      core = record (seen_of held p) { room = room_of ns; group = group; leaves = leaves };
    }
