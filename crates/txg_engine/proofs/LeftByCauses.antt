-- Each leaf that left the board did so by a cause.
use Rattle.std.proofs.Common.{◌≡◌, ℕ, zero, suc, ◌+◌, ◌==◌, ◌&&◌, ◌||◌, not, cond, Bool, true, false, List}
use Rattle.std.proofs.Common.{[], ◌∷◌, map, Option, Some, None, refl, sym, ap, ◌∙◌, inl, inr}
use Rattle.std.proofs.Common.{arith}
use Rattle.std.specs.Prelude.{All}
use Rattle.std.specs.List.{filter_map, cons_option}
use Rattle.std.specs.Option.{option_map}
use Rattle.std.proofs.lemmas.Bool.{true≢false}
use Rattle.std.proofs.lemmas.Bool.Decides.{nat_tests}
use Rattle.std.proofs.lemmas.List.Elements.{All-nil, All-cons, All-append, All-map, All-weaker}
use Rattle.std.proofs.lemmas.Option.{none-some, same_Some}
use Rattle.mp_base.specs.declared.number.Guid.{Guid}
use Rattle.label_store.specs.declared.member.Member.{Member}
use Rattle.vdev_tree.specs.Leaf.{is_readable}
use Rattle.vdev_tree.specs.Tree.{leaves}
use Rattle.vdev_tree.specs.declared.top.Top.{Top}
use Rattle.vdev_tree.specs.declared.vdev.LeafVdev.{LeafVdev}
use Rattle.txg_engine.specs.declared.seat.Seat.{Seat}
use Rattle.txg_engine.specs.Boards.{LeftByCause, is_on_as, is_on_under, has_on, without, as_taken, failed, count_up}
use Rattle.txg_engine.specs.Boards.{behind_turn, seat_of, seats_of, emptied_from, emptied}
use Rattle.txg_engine.specs.Turns.{HasLeft}

still : (a t : Bool) → t ≡ false → (a && not t) ≡ false → a ≡ false
still true true is e = absurd (true≢false is)
still true false is e = e
still false t is e = refl

-- a call on it failed, or it is another leaf
left_failed : (m : Guid) (seat : Seat) → LeftByCause seat → LeftByCause (without m (failed m seat))
left_failed m seat was = one (seat.member.guid.0 == m.0) refl
  where
    one : (b : Bool) → (seat.member.guid.0 == m.0) ≡ b
        → LeftByCause (without m (cond b (record seat { faults = count_up seat.faults }) seat))
    one true is = λ off. inl (omega arith)
    one false is = λ off. was (still seat.on (seat.member.guid.0 == m.0) is off)

-- its pool took it off, or it is another leaf
left_taken : (m : Guid) (seat : Seat) → LeftByCause seat → LeftByCause (without m (as_taken m seat))
left_taken m seat was = one (is_on_as m seat) refl
  where
    neither : (a t : Bool) → (a && t) ≡ false → (a && not t) ≡ false → a ≡ false
    neither true true is e = absurd (true≢false is)
    neither true false is e = e
    neither false t is e = refl

    one : (b : Bool) → is_on_as m seat ≡ b → LeftByCause (without m (cond b (record seat { taken = true }) seat))
    one true is = λ off. inr refl
    one false is = λ off. was (neither seat.on (seat.member.guid.0 == m.0) is off)

-- a failed call is one cause more
left_counted : (m : Guid) (seat : Seat) → LeftByCause seat → LeftByCause (failed m seat)
left_counted m seat was = one (seat.member.guid.0 == m.0)
  where
    one : (b : Bool) → LeftByCause (cond b (record seat { faults = count_up seat.faults }) seat)
    one true = λ off. inl (omega arith)
    one false = was

pub counted_left : (m : Guid) (seats : List Seat) → All LeftByCause seats → All LeftByCause (map (failed m) seats)
counted_left m seats all =
    All-map LeftByCause (failed m) seats
    (All-weaker LeftByCause (λ seat. LeftByCause (failed m seat)) (left_counted m) seats all)

pub taken_left : (m : Guid) (seats : List Seat) → All LeftByCause seats
    → All LeftByCause (map (without m) (map (as_taken m) seats))
taken_left m seats all =
    All-map LeftByCause (without m) (map (as_taken m) seats)
    (All-map (λ seat. LeftByCause (without m seat)) (as_taken m) seats
    (All-weaker LeftByCause (λ seat. LeftByCause (without m (as_taken m seat))) (left_taken m) seats all))

failed_left : (m : Guid) (seats : List Seat) → All LeftByCause seats
    → All LeftByCause (map (without m) (map (failed m) seats))
failed_left m seats all =
    All-map LeftByCause (without m) (map (failed m) seats)
    (All-map (λ seat. LeftByCause (without m seat)) (failed m) seats
    (All-weaker LeftByCause (λ seat. LeftByCause (without m (failed m seat))) (left_failed m) seats all))

pub behind_left : (ms : List Member) (done : List Bool) (seats : List Seat) → All LeftByCause seats
    → All LeftByCause (behind_turn ms done seats)
behind_left [] done seats all = all
behind_left (m ∷ ms) [] seats all = all
behind_left (m ∷ ms) (true ∷ done) seats all = behind_left ms done seats all
behind_left (m ∷ ms) (false ∷ done) seats all =
    behind_left ms done (map (without m.guid) (map (failed m.guid) seats)) (failed_left m.guid seats all)

-- at a freeze everybody is on the board

new_seat : (first : ℕ) (leaf : LeafVdev) (seats : List Seat) → All (λ seat. seat.on ≡ true) seats
    → All (λ seat. seat.on ≡ true) (cons_option (seat_of first leaf) seats)
new_seat first leaf seats all = one (is_readable leaf) leaf.dev
  where
    one : (b : Bool) (dev : Option ℕ) → All (λ seat. seat.on ≡ true) (cons_option (cond b (option_map (λ d. record {
      member = record { dev = d; guid = leaf.guid };
      top = first;
      on = true;
      taken = false;
      faults = 0;
    }) dev) None) seats)
    one true (Some dev) = All-cons (λ (s : Seat). s.on ≡ true) _ seats refl all
    one true None = all
    one false dev = all

new_seats : (first : ℕ) (ls : List LeafVdev) → All (λ seat. seat.on ≡ true) (filter_map (seat_of first) ls)
new_seats first [] = All-nil (λ (seat : Seat). seat.on ≡ true)
new_seats first (leaf ∷ ls) = new_seat first leaf (filter_map (seat_of first) ls) (new_seats first ls)

pub all_on : (first : ℕ) (tops : List Top) → All (λ seat. seat.on ≡ true) (seats_of first tops)
all_on first [] = All-nil (λ (seat : Seat). seat.on ≡ true)
all_on first (top ∷ tops) =
    All-append (λ (s : Seat). s.on ≡ true) (filter_map (seat_of first) (leaves top.mirror)) (seats_of (first + 1) tops)
    (new_seats first (leaves top.mirror)) (all_on (first + 1) tops)

pub none_left : (seats : List Seat) → All (λ seat. seat.on ≡ true) seats → All LeftByCause seats
none_left seats on =
    All-weaker (λ (seat : Seat). seat.on ≡ true) LeftByCause (λ seat is off. absurd (true≢false (sym is ∙ off))) seats on

-- where a top has nobody on the board, each leaf of it has left

pub emptied_none : (top count : ℕ) (seats : List Seat) (found : ℕ) → emptied_from top count seats ≡ Some found
    → has_on found seats ≡ false
emptied_none top zero seats found is = absurd (none-some found is)
emptied_none top (suc count) seats found is = one (has_on top seats) refl (emptied_none (top + 1) count seats found) is
  where
    one : (b : Bool) → has_on top seats ≡ b → (emptied_from (top + 1) count seats ≡ Some found → has_on found seats ≡ false)
        → cond b (emptied_from (top + 1) count seats) (Some top) ≡ Some found → has_on found seats ≡ false
    one true here rest is = rest is
    one false here rest is = ap (λ n. has_on n seats) (sym (same_Some top found is)) ∙ here

same_number : (a b : ℕ) → a ≡ b → (a == b) ≡ true
same_number a b e = grind (arith, nat_tests)

none_on : (top : ℕ) (seats : List Seat) → has_on top seats ≡ false → All (λ seat. seat.top ≡ top → seat.on ≡ false) seats
none_on top [] none = All-nil (λ (seat : Seat). seat.top ≡ top → seat.on ≡ false)
none_on top (seat ∷ seats) none =
    All-cons (λ (s : Seat). s.top ≡ top → s.on ≡ false) seat seats
    (λ here. off seat.on (seat.top == top) (same_number seat.top top here) (first (is_on_under top seat) (has_on top seats) none))
    (none_on top seats (rest (is_on_under top seat) (has_on top seats) none))
  where
    first : (a b : Bool) → (a || b) ≡ false → a ≡ false
    first true b e = e
    first false b e = refl

    rest : (a b : Bool) → (a || b) ≡ false → b ≡ false
    rest true b e = absurd (true≢false e)
    rest false b e = e

    off : (a t : Bool) → t ≡ true → (a && t) ≡ false → a ≡ false
    off true t is e = absurd (true≢false (sym is ∙ e))
    off false t is e = refl

pub all_left : (tops top : ℕ) (seats : List Seat) → emptied tops seats ≡ Some top → All LeftByCause seats
    → All (λ seat. seat.top ≡ top → HasLeft seat) seats
all_left tops top seats is all =
    let off = none_on top seats (emptied_none 0 tops seats top is) in
    λ k d lt here. record { off = off k d lt here; cause = all k d lt (off k d lt here) }
