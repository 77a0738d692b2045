-- Leaves that leave the board in a turn: each is a move, with its widenings.
use Rattle.std.proofs.Common.{◌≡◌, ℕ, ◌≤◌, ◌^◌, ◌==◌, ◌&&◌, ◌||◌, not, cond, Bool, true, false, List, [], ◌∷◌, ◌++◌, length, map, Option, Some, None, refl, sym, ap, ◌∙◌, subst, arith}
use Rattle.std.proofs.Math.Path.{fun_ext}
use Rattle.std.specs.List.{AllByRecursion, AllZip}
use Rattle.std.specs.Option.{option_map}
use Rattle.std.proofs.lemmas.Bool.{true≢false}
use Rattle.std.proofs.lemmas.Bool.Decides.{nat_tests}
use Rattle.mp_base.specs.declared.number.Guid.{Guid}
use Rattle.group_set.specs.Groups.{holds}
use Rattle.label_store.specs.declared.member.Member.{Member}
use Rattle.vdev_tree.specs.declared.vdev.Counts.{Counts}
use Rattle.vdev_tree.specs.declared.vdev.LeafVdev.{LeafVdev}
use Rattle.txg_history.specs.Groups.{between}
use Rattle.txg_engine.specs.declared.seat.Numbers.{Numbers}
use Rattle.txg_engine.specs.declared.seat.Seat.{Seat}
use Rattle.txg_engine.specs.Boards.{on_board, without, failed, behind_turn, count_up}
use Rattle.txg_engine.specs.Logs.{AreGrown, Grows, Counted, count_write, is_leaf, AreBehind}
use Rattle.pool_moves.specs.Leaves.{LeafSeen}
use Rattle.pool_moves.specs.Moves.{Move, Leave, leaf_step, step, on_dev, log_grown}
use Rattle.pool_moves.specs.States.{ScanSeen, PoolSeen}
use Rattle.pool_moves.specs.Widening.{IsWidened, AreLeaves, seen_along}
use Rattle.open_pool.specs.State.{seat_in, own_of, leaf_of}
use Rattle.open_pool.proofs.BoardKept.{AreSameLeaves, IsSameLeaf, KeepsSeats, mapped_seat, leave_keeps, fault_keeps}
use Rattle.open_pool.proofs.LeavesByTops.{leaves_at}
use Rattle.open_pool.proofs.LeavesStay.{same_twice, fails_same, grown_like, like_leaves}
use Rattle.open_pool.proofs.LogsWidened.{AreLogged, IsWithin, AreLikeThem, like_numbers, like_length, with_logs, widens_to}
use Rattle.open_pool.proofs.NumbersApart.{Differ, leaf_numbers, seat_numbers, seat_numbered, on_of, on_is_seats}

-- A leaf with its counts as they were before a turn: those of this seat and this leaf.
abbrev pub half_of : List Seat → LeafVdev → List Seat → (top : ℕ) → LeafVdev → LeafSeen
half_of was_seats was seats top leaf = record (leaf_of seats top leaf) { own = own_of was_seats was }

abbrev pub halves_at : List Seat → List LeafVdev → List Seat → (tops : List ℕ) → List LeafVdev → List LeafSeen
halves_at was_seats was seats [] leaves = []
halves_at was_seats [] seats (top ∷ tops) leaves = []
halves_at was_seats (w ∷ was) seats (top ∷ tops) [] = []
halves_at was_seats (w ∷ was) seats (top ∷ tops) (leaf ∷ leaves) = half_of was_seats w seats top leaf ∷ halves_at was_seats was seats tops leaves

-- before the turn all is so
pub halves_first : (seats : List Seat) (tops : List ℕ) (leaves : List LeafVdev)
    → halves_at seats leaves seats tops leaves ≡ leaves_at seats tops leaves
halves_first seats [] leaves = refl
halves_first seats (top ∷ tops) [] = refl
halves_first seats (top ∷ tops) (leaf ∷ leaves) = ap (λ ls. leaf_of seats top leaf ∷ ls)
    (halves_first seats tops leaves)

-- a leaf that is a member has its number and its device, and another leaf has neither
abbrev pub Agrees : Member → LeafVdev → Type 0
Agrees m leaf = (leaf.guid.0 == m.guid.0) ≡ on_dev (λ e. m.dev == e) leaf.dev

-- three lists of one length
abbrev pub AreThree : List ℕ → List LeafVdev → List LeafVdev → Type 0
AreThree [] [] [] = Unit {0}
AreThree (top ∷ tops) (w ∷ was) (leaf ∷ leaves) = AreThree tops was leaves
AreThree tops was leaves = ⊥

-- What holds of the leaves all along a turn.
pub record IsFit (number : ℕ) (leaves : List LeafVdev) : Type 0 where
  pub differ : Differ (leaf_numbers leaves)
  pub within : AllByRecursion (IsWithin number) leaves
  pub few : length leaves ≤ 128

-- the group's numbers, as the state has them
abbrev pub numbers_in : PoolSeen → Numbers
numbers_in s = record { first = record { 0 = s.group.first }; last = record { 0 = s.number } }

-- What is done to seats besides that one leaves: each keeps its leaf, and whether it is on the board.
pub record KeepsOn (f : Seat → Seat) : Type 0 where
  pub seats : KeepsSeats f
  pub on : (seat : Seat) → (f seat).on ≡ seat.on

pub fault_keeps_on : (m : Guid) → KeepsOn (failed m)
fault_keeps_on m = record { seats = fault_keeps m; on = λ seat. one seat (seat.member.guid.0 == m.0) }
  where
    one : (seat : Seat) (t : Bool) → (cond t (record seat { faults = count_up seat.faults }) seat).on ≡ seat.on
    one seat true = refl
    one seat false = refl

numbers_left : (f : Seat → Seat) → KeepsSeats f → (m : Guid) (seats : List Seat) → seat_numbers (map (without m) (map f seats)) ≡ seat_numbers seats
numbers_left f keeps m [] = refl
numbers_left f keeps m (seat ∷ seats) =
    ap (λ (k : Member). k.guid.0 ∷ seat_numbers (map (without m) (map f seats))) (keeps.member seat)
    ∙ ap (λ ns. seat.member.guid.0 ∷ ns) (numbers_left f keeps m seats)

pub left_numbers : (m : Guid) (seats : List Seat)
    → seat_numbers (map (without m) (map (failed m) seats)) ≡ seat_numbers seats
left_numbers m seats = numbers_left (failed m) (fault_keeps m) m seats

seat_left : (f : Seat → Seat) → KeepsSeats f → (m : Guid) (seats : List Seat) (x : Guid)
    → seat_in (map (without m) (map f seats)) x ≡ option_map (without m) (option_map f (seat_in seats x))
seat_left f keeps m seats x =
    mapped_seat (without m) (leave_keeps m) (map f seats) x ∙ ap (option_map (without m)) (mapped_seat f keeps seats x)

pub left_seat : (m : Guid) (seats : List Seat) (x : Guid)
    → seat_in (map (without m) (map (failed m) seats)) x ≡ option_map (without m)
    (option_map (failed m) (seat_in seats x))
left_seat m seats x = seat_left (failed m) (fault_keeps m) m seats x

left_on : (f : Seat → Seat) → KeepsOn f → (m : Guid) (seats : List Seat) (x : Guid) → Differ (seat_numbers seats)
    → on_board (map (without m) (map f seats)) x ≡ cond (x.0 == m.0) false (on_board seats x)
left_on f keeps m seats x differ =
    on_is_seats (map (without m) (map f seats)) x (subst Differ (sym (numbers_left f keeps.seats m seats)) differ)
    ∙ ap on_of (seat_left f keeps.seats m seats x)
    ∙ one (seat_in seats x) refl ∙ ap (cond (x.0 == m.0) false) (sym (on_is_seats seats x differ))
  where
    off : (t b : Bool) → (b && not t) ≡ cond t false b
    off true true = refl
    off true false = refl
    off false true = refl
    off false false = refl

    one : (o : Option Seat) → seat_in seats x ≡ o
        → on_of (option_map (without m) (option_map f o)) ≡ cond (x.0 == m.0) false (on_of o)
    one None is = none (x.0 == m.0)
      where
        none : (t : Bool) → false ≡ cond t false false
        none true = refl
        none false = refl
    one (Some seat) is =
        ap (λ on. on && not ((f seat).member.guid.0 == m.0)) (keeps.on seat)
        ∙ ap (λ (k : Member). seat.on && not (k.guid.0 == m.0)) (keeps.seats.member seat)
        ∙ ap (λ n. seat.on && not (n == m.0)) (seat_numbered seats x seat is)
        ∙ off (x.0 == m.0) seat.on

-- What a member's leaf and another are behind it, before logs are widened.
grown_log : (t b h : Bool) → cond (t && b) true h ≡ (h || (t && b))
grown_log true true true = refl
grown_log true true false = refl
grown_log true false true = refl
grown_log true false false = refl
grown_log false b true = refl
grown_log false b false = refl

-- another leaf in its counts alone
abbrev pub IsRecounted : LeafVdev → LeafVdev → Type 0
IsRecounted old new = new ≡ record old { counts = new.counts }

recounted_leaf : (m : Guid) (old new : LeafVdev) → new ≡ count_write m old → IsRecounted old new
recounted_leaf m old new is = subst (IsRecounted old) (sym is) (one (old.guid.0 == m.0))
  where
    one : (t : Bool) → IsRecounted old (cond t (record old { counts = record (old.counts) { writes = count_up old.counts.writes } }) old)
    one true = refl
    one false = refl

recounted : (m : Guid) (old new : List LeafVdev) → Counted m old new → AllZip IsRecounted old new
recounted m [] [] are = tt
recounted m [] (y ∷ new) are = absurd are
recounted m (x ∷ old) [] are = absurd are
recounted m (x ∷ old) (y ∷ new) are = (recounted_leaf m x y are.0, recounted m old new are.1)

half_leaves : (f : Seat → Seat) → KeepsOn f → (ws : List Seat) (w : LeafVdev) (seats : List Seat) (top : ℕ) (m : Member) (number first : ℕ) (scan : ScanSeen)
    (old counted grown : LeafVdev) → Differ (seat_numbers seats)
    → Agrees m old → IsRecounted old counted → Grows (is_leaf m.guid) first number counted grown
    → leaf_step (Leave m.dev) number first scan (half_of ws w seats top old) ≡ half_of ws w (map (without m.guid) (map f seats)) top grown
half_leaves f keeps ws w seats top m number first scan old counted grown differ agrees count grow =
    ap (λ t. record (half_of ws w seats top old) {
      owes = log_grown t first number (holds old.log);
      on = cond t false
          (on_board seats old.guid);
    }) (sym agrees)
    ∙ ap (λ log. record (half_of ws w seats top old) {
      owes = log;
      on = cond (old.guid.0 == m.guid.0) false
          (on_board seats old.guid);
    }) (fun_ext logs)
    ∙ ap (λ b. record (half_of ws w seats top old) { owes = holds grown.log; on = b })
    (sym (left_on f keeps m.guid seats old.guid differ))
    ∙ ap (λ (v : LeafVdev). record (half_of ws w (map (without m.guid) (map f seats)) top v) { owes = holds grown.log }) (sym count)
    ∙ ap (half_of ws w (map (without m.guid) (map f seats)) top) (sym (grow.rest grown.log))
  where
    logs : (g : ℕ) → log_grown (old.guid.0 == m.guid.0) first number (holds old.log) g ≡ holds grown.log g
    logs g =
        grown_log (old.guid.0 == m.guid.0) (between first number g) (holds old.log g)
        ∙ ap (λ (v : LeafVdev). holds v.log g || ((v.guid.0 == m.guid.0) && between first number g)) (sym count)
        ∙ sym (grow.groups g)

halves_leave : (f : Seat → Seat) → KeepsOn f → (ws : List Seat) (was : List LeafVdev) (seats : List Seat) (tops : List ℕ) (m : Member)
    (number first : ℕ) (scan : ScanSeen) (old counted grown : List LeafVdev) → Differ (seat_numbers seats)
    → AllByRecursion (Agrees m) old → AllZip IsRecounted old counted
    → AllZip (Grows (is_leaf m.guid) first number) counted grown
    → map (leaf_step (Leave m.dev) number first scan) (halves_at ws was seats tops old)
    ≡ halves_at ws was (map (without m.guid) (map f seats)) tops grown
halves_leave f keeps ws was seats [] m number first scan old counted grown differ agree count grow = refl
halves_leave f keeps ws [] seats (top ∷ tops) m number first scan old counted grown differ agree count grow = refl
halves_leave f keeps ws (w ∷ was) seats (top ∷ tops) m number first scan [] [] [] differ agree count grow = refl
halves_leave f keeps ws (w ∷ was) seats (top ∷ tops) m number first scan [] [] (z ∷ grown) differ agree count grow = absurd grow
halves_leave f keeps ws (w ∷ was) seats (top ∷ tops) m number first scan [] (y ∷ counted) grown differ agree count grow = absurd count
halves_leave f keeps ws (w ∷ was) seats (top ∷ tops) m number first scan (x ∷ old) [] grown differ agree count grow = absurd count
halves_leave f keeps ws (w ∷ was) seats (top ∷ tops) m number first scan (x ∷ old) (y ∷ counted) [] differ agree count grow = absurd grow
halves_leave f keeps ws (w ∷ was) seats (top ∷ tops) m number first scan (x ∷ old) (y ∷ counted)
    (z ∷ grown) differ agree count grow =
    ap (λ l. l ∷ map (leaf_step (Leave m.dev) number first scan) (halves_at ws was seats tops old))
    (half_leaves f keeps ws w seats top m number first scan x y z differ agree.0 count.0 grow.0)
    ∙ ap (λ ls. half_of ws w (map (without m.guid) (map f seats)) top z ∷ ls)
    (halves_leave f keeps ws was seats tops m number first scan old counted grown differ agree.1 count.1 grow.1)

-- they have their logs, and with others they are others in these alone
halves_logged : (ws : List Seat) (was : List LeafVdev) (seats : List Seat) (tops : List ℕ) (leaves : List LeafVdev)
    → AreThree tops was leaves → AreLogged (halves_at ws was seats tops leaves) leaves
halves_logged ws [] seats [] [] three = tt
halves_logged ws [] seats [] (leaf ∷ leaves) three = absurd three
halves_logged ws (w ∷ was) seats [] leaves three = absurd three
halves_logged ws [] seats (top ∷ tops) leaves three = absurd three
halves_logged ws (w ∷ was) seats (top ∷ tops) [] three = absurd three
halves_logged ws (w ∷ was) seats (top ∷ tops) (leaf ∷ leaves) three = (record { guid = refl; owes = refl }, halves_logged ws was seats tops leaves three)

halves_relogged : (ws : List Seat) (was : List LeafVdev) (seats : List Seat) (tops : List ℕ) (old new : List LeafVdev)
    → AreThree tops was old → AreLikeThem old new
    → with_logs new (halves_at ws was seats tops old) ≡ halves_at ws was seats tops new
halves_relogged ws [] seats [] [] [] three like = refl
halves_relogged ws [] seats [] [] (y ∷ new) three like = absurd like
halves_relogged ws [] seats [] (x ∷ old) new three like = absurd three
halves_relogged ws (w ∷ was) seats [] old new three like = absurd three
halves_relogged ws [] seats (top ∷ tops) old new three like = absurd three
halves_relogged ws (w ∷ was) seats (top ∷ tops) [] new three like = absurd three
halves_relogged ws (w ∷ was) seats (top ∷ tops) (x ∷ old) [] three like = absurd like
halves_relogged ws (w ∷ was) seats (top ∷ tops) (x ∷ old) (y ∷ new) three like =
    ap (λ l. l ∷ with_logs new (halves_at ws was seats tops old)) (ap (half_of ws w seats top) (like.0 y.log))
    ∙ ap (λ ls. half_of ws w seats top y ∷ ls) (halves_relogged ws was seats tops old new three like.1)

three_numbers : (tops : List ℕ) (was old new : List LeafVdev) → AreSameLeaves old new → AreThree tops was old
    → AreThree tops was new
three_numbers [] [] [] [] same three = tt
three_numbers [] [] [] (y ∷ new) same three = absurd same
three_numbers [] [] (x ∷ old) new same three = absurd three
three_numbers [] (w ∷ was) old new same three = absurd three
three_numbers (top ∷ tops) [] old new same three = absurd three
three_numbers (top ∷ tops) (w ∷ was) [] new same three = absurd three
three_numbers (top ∷ tops) (w ∷ was) (x ∷ old) [] same three = absurd same
three_numbers (top ∷ tops) (w ∷ was) (x ∷ old) (y ∷ new) same three = three_numbers tops was old new same.1 three

-- the same numbers and devices
pub same_numbers : (old new : List LeafVdev) → AreSameLeaves old new → leaf_numbers new ≡ leaf_numbers old
same_numbers [] [] same = refl
same_numbers [] (y ∷ new) same = absurd same
same_numbers (x ∷ old) [] same = absurd same
same_numbers (x ∷ old) (y ∷ new) same = ap (λ (g : Guid). g.0 ∷ leaf_numbers new) same.0.guid
    ∙ ap (λ ns. x.guid.0 ∷ ns) (same_numbers old new same.1)

pub same_length : (old new : List LeafVdev) → AreSameLeaves old new → length new ≡ length old
same_length [] [] same = refl
same_length [] (y ∷ new) same = absurd same
same_length (x ∷ old) [] same = absurd same
same_length (x ∷ old) (y ∷ new) same = omega (arith, same_length old new same.1)

pub agree_still : (m : Member) (old new : List LeafVdev) → AreSameLeaves old new → AllByRecursion (Agrees m) old
    → AllByRecursion (Agrees m) new
agree_still m [] [] same agree = tt
agree_still m [] (y ∷ new) same agree = absurd same
agree_still m (x ∷ old) [] same agree = absurd same
agree_still m (x ∷ old) (y ∷ new) same agree = (
  ap (λ (g : Guid). g.0 == m.guid.0) same.0.guid ∙ agree.0 ∙ ap (on_dev (λ e. m.dev == e)) (sym same.0.dev),
  agree_still m old new same.1 agree.1,
)

pub all_agree_still : (ms : List Member) (old new : List LeafVdev) → AreSameLeaves old new
    → AllByRecursion (λ m. AllByRecursion (Agrees m) old) ms
    → AllByRecursion (λ m. AllByRecursion (Agrees m) new) ms
all_agree_still [] old new same agree = tt
all_agree_still (m ∷ ms) old new same agree = (agree_still m old new same agree.0, all_agree_still ms old new same agree.1)

-- logs that grow by numbers of the group stay within the numbers
within_grown : (m : Guid) (number first : ℕ) (old counted grown : List LeafVdev) → 1 ≤ first → AllZip IsRecounted old counted
    → AllZip (Grows (is_leaf m) first number) counted grown
    → AllByRecursion (IsWithin number) old → AllByRecursion (IsWithin number) grown
within_grown m number first [] [] [] low count grow within = tt
within_grown m number first [] [] (z ∷ grown) low count grow within = absurd grow
within_grown m number first [] (y ∷ counted) grown low count grow within = absurd count
within_grown m number first (x ∷ old) [] grown low count grow within = absurd count
within_grown m number first (x ∷ old) (y ∷ counted) [] low count grow within = absurd grow
within_grown m number first (x ∷ old) (y ∷ counted) (z ∷ grown) low count grow within = (
  (λ g has. either g (holds y.log g) (is_leaf m y) (between first number g) refl refl (sym (grow.0.groups g) ∙ has)),
  within_grown m number first old counted grown low count.1 grow.1 within.1,
)
  where
    here : (g : ℕ) → between first number g ≡ true → (1 ≤ g) × (g ≤ number)
    here g is = let a : first ≤ g = grind (arith, nat_tests) in let b : g ≤ number = grind (arith, nat_tests) in
        (omega (arith, a, low), b)

    either : (g : ℕ) (h t b : Bool) → holds y.log g ≡ h → between first number g ≡ b → (h || (t && b)) ≡ true
        → (1 ≤ g) × (g ≤ number)
    either g true t b had is e = within.0 g (ap (λ (v : LeafVdev). holds v.log g) (sym count.0) ∙ had)
    either g false true b had is e = here g (is ∙ e)
    either g false false b had is e = absurd (true≢false (sym e))

-- What one leaf's leaving makes of the state.
pub record OneLeft (f : Seat → Seat) (s : PoolSeen) (ws : List Seat) (was : List LeafVdev) (seats : List Seat) (tops : List ℕ) (m : Member)
    (new : List LeafVdev) : Type 0 where
  pub first : List Move
  pub are : IsWidened s (Leave m.dev) first
  pub leads : seen_along first s ≡ record s { leaves = halves_at ws was (map (without m.guid) (map f seats)) tops new }
  pub fit : IsFit s.number new

recounted_same : (old new : List LeafVdev) → AllZip IsRecounted old new → AreSameLeaves old new
recounted_same [] [] are = tt
recounted_same [] (y ∷ new) are = absurd are
recounted_same (x ∷ old) [] are = absurd are
recounted_same (x ∷ old) (y ∷ new) are = (subst (IsSameLeaf x) (sym are.0) (same_but_counts x y.counts), recounted_same old new are.1)
  where
    same_but_counts : (leaf : LeafVdev) (counts : Counts) → IsSameLeaf leaf (record leaf { counts = counts })
    same_but_counts leaf counts = record { guid = refl; name = refl; dev = refl; state = refl; temporary = refl }

pub one_leaves : (f : Seat → Seat) → KeepsOn f → (s : PoolSeen) (ws : List Seat) (was : List LeafVdev) (seats : List Seat) (tops : List ℕ) (m : Member)
    (old counted new : List LeafVdev)
    → s.leaves ≡ halves_at ws was seats tops old → AreThree tops was old → Differ (seat_numbers seats)
    → 1 ≤ s.group.first → s.number ≤ 2 ^ 62 → IsFit s.number old
    → AllByRecursion (Agrees m) old → AllZip IsRecounted old counted
    → AreGrown (is_leaf m.guid) s.group.first s.number counted new → OneLeft f s ws was seats tops m new
one_leaves f keeps s ws was seats tops m old counted new seen three differ low high fit agree count grows =
    let grown = grows.grown in
    let left = map (without m.guid) (map f seats) in
    let same = recounted_same old counted count in
    let like = grown_like (is_leaf m.guid) s.group.first s.number counted grown grows.grow in
    let all = same_twice old counted grown same (like_leaves counted grown like) in
    let stepped : (step (Leave m.dev) s).leaves ≡ halves_at ws was left tops grown =
    ap (map (leaf_step (Leave m.dev) s.number s.group.first s.scan)) seen
    ∙ halves_leave f keeps ws was seats tops m s.number s.group.first s.scan old counted grown differ agree count grows.grow in
    let three' = three_numbers tops was old grown all three in
    let widened = widens_to (step (Leave m.dev) s) grown new high
    (subst (λ ls. AreLogged ls grown) (sym stepped) (halves_logged ws was left tops grown three'))
    (within_grown m.guid s.number s.group.first old counted grown low count grows.grow fit.within)
    (subst Differ (sym (same_numbers old grown all)) fit.differ) grows.counted grows.widened grows.small
    (let long = same_length old grown all in let few = fit.few in omega (arith, long, few)) in
    record {
      first = Leave m.dev ∷ widened.widens;
      are = record { widens = widened.widens; are = widened.are; moves = refl };
      leads = widened.leads ∙ ap (λ ls. record s { leaves = with_logs new ls }) stepped
          ∙ ap (λ ls. record s { leaves = ls }) (halves_relogged ws was left tops grown new three' widened.like);
      fit = record {
        differ = subst Differ (like_numbers grown new widened.like)
            (subst Differ (sym (same_numbers old grown all)) fit.differ);
        within = widened.within;
        few = (
            let long = same_length old grown all in
            let longer = like_length grown new widened.like in
            let few = fit.few in omega (arith, long, longer, few));
      };
    }

-- What a turn's leavers make of it, one after another.
pub record AllLeft (s : PoolSeen) (ws : List Seat) (was : List LeafVdev) (seats : List Seat) (tops : List ℕ)
    (ms : List Member) (done : List Bool) (new : List LeafVdev) : Type 0 where
  pub leaving : List Move
  pub are : AreLeaves s ms done leaving
  pub leads : seen_along leaving s ≡ record s { leaves = halves_at ws was (behind_turn ms done seats) tops new }
  pub fit : IsFit s.number new

pub seen_more : (vs ws : List Move) (s : PoolSeen) → seen_along (vs ++ ws) s ≡ seen_along ws (seen_along vs s)
seen_more [] ws s = refl
seen_more (v ∷ vs) ws s = seen_more vs ws (step v s)

nobody_left : (s : PoolSeen) (ws : List Seat) (was : List LeafVdev) (seats : List Seat) (tops : List ℕ)
    (old new : List LeafVdev)
    → s.leaves ≡ halves_at ws was seats tops old → new ≡ old → s ≡ record s { leaves = halves_at ws was seats tops new }
nobody_left s ws was seats tops old new seen same = ap (λ ls. record s { leaves = ls })
    (seen ∙ ap (halves_at ws was seats tops) (sym same))

pub all_leave : (ms : List Member) (done : List Bool) (s : PoolSeen) (ws : List Seat) (was : List LeafVdev)
    (seats : List Seat) (tops : List ℕ) (old new : List LeafVdev)
    → s.leaves ≡ halves_at ws was seats tops old → AreThree tops was old → Differ (seat_numbers seats)
    → 1 ≤ s.group.first → s.number ≤ 2 ^ 62 → IsFit s.number old
    → AllByRecursion (λ m. AllByRecursion (Agrees m) old) ms → AreBehind (numbers_in s) ms done old new
    → AllLeft s ws was seats tops ms done new
all_leave [] done s ws was seats tops old new seen three differ low high fit agree are =
    record {
      leaving = [];
      are = refl;
      leads = nobody_left s ws was seats tops old new seen are;
      fit = subst
          (IsFit s.number) (sym are) fit;
    }
all_leave (m ∷ ms) [] s ws was seats tops old new seen three differ low high fit agree are =
    record {
      leaving = [];
      are = refl;
      leads = nobody_left s ws was seats tops old new seen are;
      fit = subst
          (IsFit s.number) (sym are) fit;
    }
all_leave (m ∷ ms) (true ∷ done) s ws was seats tops old new seen three differ low high fit agree are =
    let r = all_leave ms done s ws was seats tops old new seen three differ low high fit agree.1 are in
    record { leaving = r.leaving; are = r.are; leads = r.leads; fit = r.fit }
all_leave (m ∷ ms) (false ∷ done) s ws was seats tops old new seen three differ low high fit agree are =
    let one = one_leaves (failed m.guid) (fault_keeps_on m.guid) s ws was seats tops m old are.1.counted are.0 seen three differ low high fit agree.0
    (recounted m.guid old are.1.counted are.1.count) are.1.grown in
    let left = map (without m.guid) (map (failed m.guid) seats) in
    let same = fails_same (numbers_in s) m.guid old are.0 are.1 in
    let s' = record s { leaves = halves_at ws was left tops are.0 } in
    let r = all_leave ms done s' ws was left tops are.0 new refl (three_numbers tops was old are.0 same three)
    (subst Differ (sym (left_numbers m.guid seats)) differ) low high one.fit
    (all_agree_still ms old are.0 same agree.1) are.2 in
    record {
      leaving = one.first ++ r.leaving;
      are = (one.first, r.leaving, refl, one.are, subst (λ t. AreLeaves t ms done r.leaving) (sym one.leads) r.are);
      leads = seen_more one.first r.leaving s ∙ ap (seen_along r.leaving) one.leads ∙ r.leads;
      fit = r.fit;
    }
