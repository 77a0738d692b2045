-- Where nobody takes off the last leaf of a top, a suspension tells a call that failed.
use Rattle.std.proofs.Common.{◌≡◌, ℕ, zero, suc, ◌+◌, ◌<◌, ◌≤◌, ◌==◌, ◌&&◌, ◌||◌, not, cond, Bool, true, false, List}
use Rattle.std.proofs.Common.{[], ◌∷◌, length, get_or, map, Some, None, refl, sym, ap, ◌∙◌, ◌⊎◌, ⊎_elim, subst, arith}
use Rattle.std.specs.Prelude.{All}
use Rattle.std.specs.List.{list_any}
use Rattle.std.proofs.lemmas.Bool.{cases_Bool, eqb-true, eqb-false, true≢false}
use Rattle.std.proofs.lemmas.Bool.Decides.{nat_tests}
use Rattle.std.proofs.lemmas.List.Elements.{All-head, All-map, All-tail, All-weaker}
use Rattle.mp_base.specs.declared.number.Guid.{Guid}
use Rattle.label_store.specs.declared.member.Member.{Member}
use Rattle.txg_engine.specs.declared.seat.Seat.{Seat}
use Rattle.txg_engine.specs.Boards.{AreServed, as_taken, behind_turn, count_up, emptied, emptied_from, failed, faults_under, has_on, has_seat, is_on_as, serves, without}

-- a change of seats, each of which keeps its top and serves as it did
module _ (f : Seat → Seat) (top_is : (seat : Seat) → (f seat).top ≡ seat.top)
    (more : (top : ℕ) (seat : Seat) → serves top seat ≡ true → serves top (f seat) ≡ true) where
  either : (a b c d : Bool) → (a ≡ true → b ≡ true) → (c ≡ true → d ≡ true) → (a || c) ≡ true → (b || d) ≡ true
  either true b c d one rest is = ap (λ x. x || d) (one refl)
  either false true c d one rest is = refl
  either false false c d one rest is = rest is

  any_more : (top : ℕ) (seats : List Seat) → list_any (serves top) seats ≡ true → list_any (serves top) (map f seats) ≡ true
  any_more top [] is = is
  any_more top (seat ∷ seats) is =
      either (serves top seat) (serves top (f seat)) (list_any (serves top) seats) (list_any (serves top) (map f seats))
      (more top seat) (any_more top seats) is

  still_served : (seats : List Seat) → AreServed seats → AreServed (map f seats)
  still_served seats all =
      All-map (λ seat. list_any (serves seat.top) (map f seats) ≡ true) f seats
      (All-weaker (λ seat. list_any (serves seat.top) seats ≡ true) (λ seat. list_any (serves (f seat).top) (map f seats) ≡ true)
      (λ seat is. ap (λ top. list_any (serves top) (map f seats)) (top_is seat) ∙ any_more seat.top seats is) seats all)

counted : (n : ℕ) → not (count_up n == 0) ≡ true
counted n = let some : (count_up n == 0) ≡ false = grind (arith, nat_tests) in ap not some

either_way : (on : Bool) (n : ℕ) → (on || not (count_up n == 0)) ≡ true
either_way true n = refl
either_way false n = counted n

by_top : (t a b : Bool) → b ≡ true → (t && a) ≡ true → (t && b) ≡ true
by_top true a b so is = so
by_top false a b so is = is

kept_on : (t on z : Bool) → (t && (on || z)) ≡ true → (t && ((on && true) || z)) ≡ true
kept_on t true z is = is
kept_on t false z is = is

-- a call on a leaf failed, and it may leave the board then
failed_serves : (m : Guid) (top : ℕ) (seat : Seat) → serves top seat ≡ true → serves top (failed m seat) ≡ true
failed_serves m top seat is = one (seat.member.guid.0 == m.0)
  where
    one : (b : Bool) → serves top (cond b (record seat { faults = count_up seat.faults }) seat) ≡ true
    one true =
        by_top (seat.top == top) (seat.on || not (seat.faults == 0)) (seat.on || not (count_up seat.faults == 0))
        (either_way seat.on seat.faults) is
    one false = is

left_serves : (m : Guid) (top : ℕ) (seat : Seat) → serves top seat ≡ true → serves top (without m (failed m seat)) ≡ true
left_serves m top seat is = one (seat.member.guid.0 == m.0) refl
  where
    one : (b : Bool) → (seat.member.guid.0 == m.0) ≡ b
        → serves top (without m (cond b (record seat { faults = count_up seat.faults }) seat)) ≡ true
    one true same =
        by_top (seat.top == top) (seat.on || not (seat.faults == 0))
        ((seat.on && not (seat.member.guid.0 == m.0)) || not (count_up seat.faults == 0))
        (either_way (seat.on && not (seat.member.guid.0 == m.0)) seat.faults) is
    one false other =
        ap (λ b. (seat.top == top) && ((seat.on && not b) || not (seat.faults == 0))) other
        ∙ kept_on (seat.top == top) seat.on (not (seat.faults == 0)) is

top_of_failed : (m : Guid) (seat : Seat) → (failed m seat).top ≡ seat.top
top_of_failed m seat = one (seat.member.guid.0 == m.0)
  where
    one : (b : Bool) → (cond b (record seat { faults = count_up seat.faults }) seat).top ≡ seat.top
    one true = refl
    one false = refl

pub counted_served : (m : Guid) (seats : List Seat) → AreServed seats → AreServed (map (failed m) seats)
counted_served m seats all = still_served (failed m) (top_of_failed m) (failed_serves m) seats all

failed_served : (m : Guid) (seats : List Seat) → AreServed seats → AreServed (map (without m) (map (failed m) seats))
failed_served m seats all = subst AreServed (sym (map-map m seats))
    (still_served (λ seat. without m (failed m seat)) (top_of_failed m) (left_serves m) seats all)
  where
    map-map : (m : Guid) (seats : List Seat) → map (without m) (map (failed m) seats) ≡ map (λ seat. without m (failed m seat)) seats
    map-map m [] = refl
    map-map m (seat ∷ seats) = ap (λ rest. without m (failed m seat) ∷ rest) (map-map m seats)

pub behind_served : (ms : List Member) (done : List Bool) (seats : List Seat) → AreServed seats → AreServed (behind_turn ms done seats)
behind_served [] done seats all = all
behind_served (m ∷ ms) [] seats all = all
behind_served (m ∷ ms) (true ∷ done) seats all = behind_served ms done seats all
behind_served (m ∷ ms) (false ∷ done) seats all =
    behind_served ms done (map (without m.guid) (map (failed m.guid) seats)) (failed_served m.guid seats all)

-- at a freeze everybody is on the board

own_top : (n : ℕ) → (n == n) ≡ true
own_top n = grind (arith, nat_tests)

found_at : (top : ℕ) (seats : List Seat) (k : ℕ) (d : Seat) → k < length seats → serves top (get_or seats k d) ≡ true
    → list_any (serves top) seats ≡ true
found_at top [] k d lt is = absurd (omega arith)
found_at top (seat ∷ seats) zero d lt is = ap (λ b. b || list_any (serves top) seats) is
found_at top (seat ∷ seats) (suc k) d lt is = later (serves top seat) (found_at top seats k d (omega arith) is)
  where
    later : {b : Bool} (a : Bool) → b ≡ true → (a || b) ≡ true
    later true is = refl
    later false is = is

pub all_served : (seats : List Seat) → All (λ seat. seat.on ≡ true) seats → AreServed seats
all_served seats all = λ k d lt. found_at (get_or seats k d).top seats k d lt (serving (get_or seats k d) (all k d lt))
  where
    serving : (seat : Seat) → seat.on ≡ true → serves seat.top seat ≡ true
    serving seat on =
        ap (λ b. b && (seat.on || not (seat.faults == 0))) (own_top seat.top)
        ∙ ap (λ b. b || not (seat.faults == 0)) on

-- where somebody of a top serves and nobody is on the board, a call failed

some_fault : (n : ℕ) → not (n == 0) ≡ true → 1 ≤ n
some_fault zero is = absurd (true≢false (sym is))
some_fault (suc n) is = omega arith

served_faults : (top : ℕ) (seats : List Seat) → list_any (serves top) seats ≡ true → has_on top seats ≡ false
    → 1 ≤ faults_under top seats
served_faults top [] is none = absurd (true≢false (sym is))
served_faults top (seat ∷ seats) is none = one (served_faults top seats) (seat.top == top) seat.on refl refl is none
  where
    Rest : Type 0
    Rest = list_any (serves top) seats ≡ true → has_on top seats ≡ false → 1 ≤ faults_under top seats

    count : faults_under top (seat ∷ seats) ≡ cond (seat.top == top) seat.faults 0 + faults_under top seats
    count = refl

    rest : Rest → list_any (serves top) seats ≡ true → has_on top seats ≡ false → 1 ≤ faults_under top (seat ∷ seats)
    rest later is none = let more = later is none in omega arith

    here : Rest → (seat.top == top) ≡ true → (z : Bool) → not (seat.faults == 0) ≡ z → (z || list_any (serves top) seats) ≡ true
        → has_on top seats ≡ false → 1 ≤ faults_under top (seat ∷ seats)
    here later t true some is none = let one = some_fault seat.faults some in let is = ap (λ b. cond b seat.faults 0) t in omega arith
    here later t false isnt is none = rest later is none

    one : Rest → (t on : Bool) → (seat.top == top) ≡ t → seat.on ≡ on
        → ((t && (on || not (seat.faults == 0))) || list_any (serves top) seats) ≡ true → ((on && t) || has_on top seats) ≡ false
        → 1 ≤ faults_under top (seat ∷ seats)
    one later true true t on is none = absurd (true≢false none)
    one later true false t on is none = here later t (not (seat.faults == 0)) refl is none
    one later false true t on is none = rest later is none
    one later false false t on is none = rest later is none

-- who has a seat is served
served_top : (top : ℕ) (seats all : List Seat) → has_seat top seats ≡ true → All (λ seat. list_any (serves seat.top) all ≡ true) seats
    → list_any (serves top) all ≡ true
served_top top [] all has each = absurd (true≢false (sym has))
served_top top (seat ∷ seats) all has each =
    one (seat.top == top) refl has
    (λ later. served_top top seats all later (All-tail (λ (s : Seat). list_any (serves s.top) all ≡ true) seat seats each))
  where
    one : (t : Bool) → (seat.top == top) ≡ t → (t || has_seat top seats) ≡ true
        → (has_seat top seats ≡ true → list_any (serves top) all ≡ true) → list_any (serves top) all ≡ true
    one true is has rest =
        subst (λ n. list_any (serves n) all ≡ true) (eqb-true seat.top top is)
        (All-head (λ (s : Seat). list_any (serves s.top) all ≡ true) seat seats each)
    one false is has rest = rest has

pub some_failed : (top : ℕ) (seats : List Seat) → AreServed seats → has_on top seats ≡ false → has_seat top seats ≡ true
    → 1 ≤ faults_under top seats
some_failed top seats all none has = served_faults top seats (served_top top seats seats has all) none

-- at a freeze each top has a seat, and no change of seats that keeps their tops takes it

seated_on : (top : ℕ) (seats : List Seat) → has_on top seats ≡ true → has_seat top seats ≡ true
seated_on top [] is = is
seated_on top (seat ∷ seats) is = one seat.on (seat.top == top) is (seated_on top seats)
  where
    one : (on t : Bool) → ((on && t) || has_on top seats) ≡ true → (has_on top seats ≡ true → has_seat top seats ≡ true)
        → (t || has_seat top seats) ≡ true
    one on true is rest = refl
    one true false is rest = rest is
    one false false is rest = rest is

on_from : (first count : ℕ) (seats : List Seat) → emptied_from first count seats ≡ None → (top : ℕ) → first ≤ top → top < first + count
    → has_on top seats ≡ true
on_from first zero seats none top low high = absurd (omega arith)
on_from first (suc count) seats none top low high =
    one (has_on first seats) refl none (cases_Bool (first == top)) (on_from (first + 1) count seats)
  where
    one : (b : Bool) → has_on first seats ≡ b → cond b (emptied_from (first + 1) count seats) (Some first) ≡ None
        → ((first == top) ≡ true) ⊎ ((first == top) ≡ false)
        → (emptied_from (first + 1) count seats ≡ None → (t : ℕ) → first + 1 ≤ t → t < first + 1 + count → has_on t seats ≡ true)
        → has_on top seats ≡ true
    one true is none here rest = ⊎_elim (λ same. ap (λ n. has_on n seats) (sym (eqb-true first top same)) ∙ is)
        (λ other. let off = eqb-false first top other in rest none top (omega (arith, off)) (omega arith)) here
    one false is none here rest = absurd (let no : Some first ≡ None = none in cc)

pub each_seated : (count : ℕ) (seats : List Seat) → emptied count seats ≡ None → (top : ℕ) → top < count → has_seat top seats ≡ true
each_seated count seats none top low = seated_on top seats (on_from 0 count seats none top (omega arith) (omega arith))

still_seated : (f : Seat → Seat) → ((seat : Seat) → (f seat).top ≡ seat.top) → (top : ℕ) (seats : List Seat)
    → has_seat top (map f seats) ≡ has_seat top seats
still_seated f same top [] = refl
still_seated f same top (seat ∷ seats) =
    ap (λ t. (t == top) || has_seat top (map f seats)) (same seat)
    ∙ ap (λ b. (seat.top == top) || b) (still_seated f same top seats)

pub counted_seated : (m : Guid) (top : ℕ) (seats : List Seat) → has_seat top (map (failed m) seats) ≡ has_seat top seats
counted_seated m top seats = still_seated (failed m) (top_of_failed m) top seats

off_seated : (m : Guid) (top : ℕ) (seats : List Seat) → has_seat top (map (without m) seats) ≡ has_seat top seats
off_seated m top seats = still_seated (without m) (λ seat. refl) top seats

pub taken_seated : (m : Guid) (top : ℕ) (seats : List Seat)
    → has_seat top (map (without m) (map (as_taken m) seats)) ≡ has_seat top seats
taken_seated m top seats = off_seated m top (map (as_taken m) seats) ∙ still_seated (as_taken m) same top seats
  where
    same : (seat : Seat) → (as_taken m seat).top ≡ seat.top
    same seat = one (is_on_as m seat)
      where
        one : (b : Bool) → (cond b (record seat { taken = true }) seat).top ≡ seat.top
        one true = refl
        one false = refl

pub behind_seated : (ms : List Member) (done : List Bool) (top : ℕ) (seats : List Seat)
    → has_seat top (behind_turn ms done seats) ≡ has_seat top seats
behind_seated [] done top seats = refl
behind_seated (m ∷ ms) [] top seats = refl
behind_seated (m ∷ ms) (true ∷ done) top seats = behind_seated ms done top seats
behind_seated (m ∷ ms) (false ∷ done) top seats =
    behind_seated ms done top (map (without m.guid) (map (failed m.guid) seats))
    ∙ off_seated m.guid top (map (failed m.guid) seats) ∙ counted_seated m.guid top seats
