-- Rounds: members that are apart, boards that become smaller, and how a round ends.
use Rattle.std.proofs.Common.{◌≡◌, ◌≢◌, ℕ, zero, suc, ◌+◌, ◌<◌, ◌≤◌, ◌==◌, ◌&&◌, ◌||◌, not, cond, Bool, true, false}
use Rattle.std.proofs.Common.{List, [], ◌∷◌, length, get_or, map, Option, Some, None, Result, Ok, Err}
use Rattle.std.proofs.Common.{refl, sym, ap, ◌∙◌, subst, arith}
use Rattle.std.specs.Prelude.{All, AllPairs, filter, slice_get, IsErrAnd}
use Rattle.std.specs.List.{AllZip}
use Rattle.std.proofs.lemmas.Bool.{true≢false}
use Rattle.std.proofs.lemmas.Bool.Decides.{nat_tests}
use Rattle.std.proofs.lemmas.List.Elements.{All-nil, All-cons, All-head, All-tail, filter_passes}
use Rattle.std.proofs.lemmas.List.Kept.{AllPairs-filter}
use Rattle.std.proofs.lemmas.Option.{none-some, same_Some}
use Rattle.mp_base.specs.declared.number.Guid.{Guid}
use Rattle.bank_core.specs.Asks.{Ask}
use Rattle.bank_core.specs.Disk.{Noted}
use Rattle.label_store.specs.declared.member.Member.{Member}
use Rattle.label_store.specs.declared.rule.Head.{Head}
use Rattle.label_store.specs.Phases.{IsPhase}
use Rattle.label_store.specs.Rounds.{Commit, IsRound, third_plan}
use Rattle.label_store.specs.Seats.{AreApart, AreSeated}
use Rattle.vdev_tree.specs.declared.vdev.LeafVdev.{LeafVdev}
use Rattle.txg_engine.specs.declared.close_turn.Closed.{Closed}
use Rattle.txg_engine.specs.declared.close_turn.Closed.TheVariants as closed
use Rattle.txg_engine.specs.declared.seat.Seat.{Seat}
use Rattle.txg_engine.specs.declared.seat.Suspended.{Suspended}
use Rattle.txg_engine.specs.Boards.{board_of, is_on, is_on_as, on_board, member_of, count_on}
use Rattle.txg_engine.specs.Boards.{behind_turn, emptied, without, failed}
use Rattle.txg_engine.specs.Frozen.{FrozenGroup, IsSeated}
use Rattle.txg_engine.specs.Logs.{IsReady, IsSettled, AreBehind}
use Rattle.txg_engine.specs.Turns.{Scene, Answers, IsSuspended, emptied_top, all_done, Draws, GoesOn, EndsRound}
use Rattle.txg_engine.specs.Turns.{MakesRound, IsCloseTurn, IsCloseTurnBy}
use Rattle.txg_engine.proofs.Ready.{fewer_on, same_on, same_board, alike, nothing}
use Rattle.txg_engine.proofs.Seating.{got_inside, got_there}
use Rattle.txg_engine.proofs.TurnEnds.{none_told, fewer_behind, members_if}

-- the device of each leaf on the board has its labels
pub seated_members : (size : ℕ → ℕ) (sectors : List ℕ) (seats : List Seat) (ms : List Member)
    → ms ≡ board_of seats → All (λ seat. seat.on ≡ true → IsSeated size sectors seat) seats → AreSeated size ms
seated_members size sectors seats ms is seated = λ i m at.
    let all : All (λ (n : Member). 320 ≤ size n.dev) ms =
    subst (All (λ (n : Member). 320 ≤ size n.dev)) (sym is)
    (members_if (λ (n : Member). 320 ≤ size n.dev) (λ (seat : Seat). seat.on ≡ true → IsSeated size sectors seat) is_on
    (λ seat on seated. (seated on).labels) seats seated) in
    subst (λ (n : Member). 320 ≤ size n.dev) (got_there ms i m m at) (all i m (got_inside ms i m at))

seat_there : (seats : List Seat) (i : ℕ) (d : Seat) (m : Member) → slice_get (map member_of seats) i ≡ Some m
    → (i < length seats) × ((get_or seats i d).member ≡ m)
seat_there [] i d m at = absurd (none-some m at)
seat_there (seat ∷ seats) zero d m at = (omega arith, same_Some seat.member m at)
seat_there (seat ∷ seats) (suc i) d m at = let rest = seat_there seats i d m at in (omega (arith, rest.0), rest.1)

-- two that are on the board have two devices
abbrev pub HaveTwoDevices : Seat → Seat → Type 0
HaveTwoDevices one other = one.on ≡ true → other.on ≡ true → one.member.dev ≢ other.member.dev

seats_apart : (seats : List Seat) → All (λ seat. is_on seat ≡ true) seats → AllPairs HaveTwoDevices seats → AreApart (map member_of seats)
seats_apart seats on pairs = λ i j m n at at' before same.
    let d : Seat = record { member = m; top = 0; on = false; taken = false; faults = 0 } in
    let one = seat_there seats i d m at in
    let other = seat_there seats j d n at' in
    pairs i j d before other.0 (on i d one.0) (on j d other.0) (ap (λ (x : Member). x.dev) one.1 ∙ same ∙ sym (ap (λ (x : Member). x.dev) other.1))

-- no two members of the board have one device
pub apart_members : (seats : List Seat) (ms : List Member)
    → ms ≡ board_of seats → AllPairs HaveTwoDevices seats → AreApart ms
apart_members seats ms is pairs =
    subst AreApart (sym is)
    (seats_apart (filter is_on seats) (filter_passes is_on seats) (AllPairs-filter HaveTwoDevices is_on seats pairs))

-- who is on the board leaves it
drops : (m : Guid) (seats : List Seat) → on_board seats m ≡ true → count_on (map (without m) seats) + 1 ≤ count_on seats
drops m [] on = absurd (true≢false (sym on))
drops m (seat ∷ seats) on = one seat.on (seat.member.guid.0 == m.0) (λ e. drops m seats e) on
  where
    one : (a t : Bool) → (on_board seats m ≡ true → count_on (map (without m) seats) + 1 ≤ count_on seats)
        → ((a && t) || on_board seats m) ≡ true
        → (cond (a && not t) 1 0 + count_on (map (without m) seats)) + 1 ≤ cond a 1 0 + count_on seats
    one true true rest e = omega (arith, fewer_on m seats)
    one true false rest e = omega (arith, rest e)
    one false t rest e = omega (arith, rest e)

first_drop : (m : Guid) (seats : List Seat) → on_board seats m ≡ true
    → count_on (map (without m) (map (failed m) seats)) + 1 ≤ count_on seats
first_drop m seats on = omega (arith, drops m (map (failed m) seats) (same_board m m seats ∙ on), same_on m seats)

-- behind a turn in which a call failed, fewer are on the board
fewer_when : (ms : List Member) (done : List Bool) (seats : List Seat)
    → All (λ (m : Member). on_board seats m.guid ≡ true) ms → length done ≡ length ms → all_done done ≡ false
    → count_on (behind_turn ms done seats) + 1 ≤ count_on seats
fewer_when [] [] seats on paired off = absurd (true≢false off)
fewer_when [] (d ∷ done) seats on paired off = absurd (omega (arith, paired))
fewer_when (m ∷ ms) [] seats on paired off = absurd (true≢false off)
fewer_when (m ∷ ms) (true ∷ done) seats on paired off =
    let rest = All-tail (λ (n : Member). on_board seats n.guid ≡ true) m ms on in
    fewer_when ms done seats rest (omega (arith, paired)) off
fewer_when (m ∷ ms) (false ∷ done) seats on paired off =
    omega (
      arith,
      fewer_behind ms done (map (without m.guid) (map (failed m.guid) seats)),
      first_drop m.guid seats (All-head (λ (n : Member). on_board seats n.guid ≡ true) m ms on),
    )

or_left : (a b : Bool) → a ≡ true → (a || b) ≡ true
or_left a b e = rw e refl

or_right : (a b : Bool) → b ≡ true → (a || b) ≡ true
or_right true b e = refl
or_right false b e = e

same_numbers : (n : ℕ) → (n == n) ≡ true
same_numbers n = grind (arith, nat_tests)

-- each member of the board is on it
each_on : (seats : List Seat) → All (λ (m : Member). on_board seats m.guid ≡ true) (board_of seats)
each_on [] = All-nil (λ (m : Member). on_board [] m.guid ≡ true)
each_on (seat ∷ seats) =
    one seat.on refl
    (λ k d lt. let x = (get_or (board_of seats) k d).guid in
    or_right (is_on_as x seat) (on_board seats x) (each_on seats k d lt))
  where
    one : (b : Bool) → seat.on ≡ b → All (λ (m : Member). on_board (seat ∷ seats) m.guid ≡ true) (board_of seats)
        → All (λ (m : Member). on_board (seat ∷ seats) m.guid ≡ true)
        (map member_of (cond b (seat ∷ filter is_on seats) (filter is_on seats)))
    one true on rest =
        All-cons (λ (m : Member). on_board (seat ∷ seats) m.guid ≡ true) seat.member (board_of seats)
        (or_left (is_on_as seat.member.guid seat) (on_board seats seat.member.guid)
        (ap (λ b. b && (seat.member.guid.0 == seat.member.guid.0)) on ∙ same_numbers seat.member.guid.0)) rest
    one false on rest = rest

phase_pairs : {X : Type 0} (plan : X → List Ask) (ms : List X) (was is : List Bool) (made : List Noted)
    → IsPhase plan ms was is made → length is ≡ length ms
phase_pairs plan [] [] [] made p = refl
phase_pairs plan [] [] (c ∷ is) made p = absurd p
phase_pairs plan [] (b ∷ was) is made p = absurd p
phase_pairs plan (m ∷ ms) [] is made p = absurd p
phase_pairs plan (m ∷ ms) (b ∷ was) [] made p = absurd p
phase_pairs plan (m ∷ ms) (b ∷ was) (c ∷ is) made p = ap suc (phase_pairs plan ms was is p.1 p.4)

-- behind a round in which a call failed, fewer are on the board
pub falls : {size : ℕ → ℕ} {commit : Commit} {made : List Noted} (ms ms' : List Member) (done : List Bool)
    (seats now : List Seat) → ms ≡ board_of seats → ms' ≡ board_of seats → IsRound size commit ms done made
    → all_done done ≡ false
    → now ≡ behind_turn ms' done seats → count_on now + 1 ≤ count_on seats
falls {size} {commit} ms ms' done seats now is is' round off behind =
    let paired = phase_pairs (third_plan size commit) ms round.in_second done round.third round.copies ∙ ap length is in
    let fewer = fewer_when (board_of seats) done seats (each_on seats) paired off in
    omega (arith, ap count_on (behind ∙ ap (λ l. behind_turn l done seats) is'), fewer)

-- what is settled is no matter of room
pub settled_ready : (seats : List Seat) (last : ℕ) (old new : List LeafVdev)
    → AllZip IsSettled old new → All (IsReady seats last) old → All (IsReady seats last) new
settled_ready seats last [] [] are all = All-nil (IsReady seats last)
settled_ready seats last [] (y ∷ new) are all = absurd are
settled_ready seats last (x ∷ old) [] are all = absurd are
settled_ready seats last (x ∷ old) (y ∷ new) are all =
    let guid : y.guid ≡ x.guid = ap (λ (leaf : LeafVdev). leaf.guid) (are.0.rest nothing) in
    let log : y.log ≡ x.log = ap (λ (leaf : LeafVdev). leaf.log) (are.0.rest nothing) in
    All-cons (IsReady seats last) y new (alike seats last x y guid log are.0.room (All-head (IsReady seats last) x old all))
    (settled_ready seats last old new are.1 (All-tail (IsReady seats last) x old all))

-- a close turn before which no top was told makes its round
pub close_goes : (head_of : List ℕ → Option Head) (commit : Commit) (tops tops' : List Guid) (old new : Scene)
    (checked : Result (Unit {0}) Suspended) (r : Result Closed Suspended)
    → length tops' ≡ length tops → Answers tops old.group (emptied_top tops old.group) checked → checked ≡ Ok tt
    → MakesRound head_of commit tops' old new r
    → IsCloseTurn head_of commit tops' old new r
close_goes head_of commit tops tops' old new checked r same told ok makes =
    let none = none_told tops old.group.numbers.first old.group.board (emptied_top tops old.group) checked tt told ok in
    subst (λ o. IsCloseTurnBy o head_of commit tops' old new r)
    (sym (ap (λ n. emptied n old.group.board) same ∙ none)) makes

handed_on : (P : Suspended → Type 0) (told : Suspended) (r : Result Closed Suspended)
    → IsErrAnd r (λ e. e ≡ told) → P told → IsErrAnd r P
handed_on P told (Ok x) is p = absurd is
handed_on P told (Err e) is p = subst P (sym is) p

-- a top has nobody left behind the round
pub suspends : (tops : List Guid) (noted : FrozenGroup) (new : Scene) (top : Option ℕ)
    (checked : Result (Unit {0}) Suspended) (told : Suspended) (r : Result Closed Suspended)
    → new.group ≡ noted → Answers tops noted top checked → checked ≡ Err told → IsErrAnd r (λ e. e ≡ told)
    → GoesOn top tops noted new.leaves new r
suspends tops noted new None checked told r group answers was is =
    absurd (true≢false (sym (subst (Answers tops noted None) was answers)))
suspends tops noted new (Some top) checked told r group answers was is =
    let here : IsSuspended tops noted top told = subst (Answers tops noted (Some top)) was answers in
    (group, refl, handed_on (IsSuspended tops noted top) told r is here)

-- each top has somebody behind it
pub draws : (tops tops' : List Guid) (noted : FrozenGroup) (leaves : List LeafVdev) (new : Scene)
    (checked : Result (Unit {0}) Suspended)
    → length tops' ≡ length tops → Answers tops noted (emptied_top tops noted) checked → checked ≡ Ok tt
    → Draws noted leaves new
    → GoesOn (emptied_top tops' noted) tops' noted leaves new (Ok (closed.Round noted.numbers.last))
draws tops tops' noted leaves new checked same told ok drawn =
    let none = none_told tops noted.numbers.first noted.board (emptied_top tops noted) checked tt told ok in
    subst (λ o. GoesOn o tops' noted leaves new (Ok (closed.Round noted.numbers.last)))
    (sym (ap (λ n. emptied n noted.board) same ∙ none)) (drawn, refl)

-- a leaf failed in the round
pub round_failed : (tops : List Guid) (ms : List Member) (results : List Bool) (noted : FrozenGroup) (seats : List Seat)
    (leaves : List LeafVdev) (old new : Scene) (r : Result Closed Suspended)
    → all_done results ≡ false → ms ≡ board_of noted.board → seats ≡ behind_turn ms results noted.board
    → AreBehind noted.numbers ms results old.leaves leaves
    → GoesOn (emptied_top tops (record noted { board = seats })) tops (record noted { board = seats }) leaves new r
    → EndsRound (all_done results) tops results noted old new r
round_failed tops ms results noted seats leaves old new r off are is behind goes =
    let is' = is ∙ ap (λ l. behind_turn l results noted.board) are in
    subst (λ b. EndsRound b tops results noted old new r) (sym off) (
      leaves,
      subst (λ l. AreBehind noted.numbers l results old.leaves leaves) are behind,
      subst (λ l. GoesOn (emptied_top tops (record noted { board = l })) tops (record noted { board = l }) leaves new r)
          is' goes,
    )
