-- Leaves that have the room for a group's numbers.
use Rattle.std.proofs.Common.{◌≡◌, ℕ, ◌+◌, ◌≤◌, ◌==◌, ◌&&◌, ◌||◌, not, cond, Bool, true, false, List, [], ◌∷◌, ◌++◌, map, refl, sym, ap, ◌∙◌, subst, arith}
use Rattle.std.specs.Prelude.{All}
use Rattle.std.specs.List.{AllZip}
use Rattle.std.proofs.lemmas.Bool.{true≢false}
use Rattle.std.proofs.lemmas.Bool.Decides.{nat_tests}
use Rattle.std.proofs.lemmas.List.Elements.{All-nil, All-cons, All-head, All-tail}
use Rattle.mp_base.specs.declared.number.Guid.{Guid}
use Rattle.group_set.specs.Groups.{Groups, holds, run_count, KeepsRoom}
use Rattle.group_set.specs.Runs.{between}
use Rattle.vdev_tree.specs.declared.vdev.LeafVdev.{LeafVdev}
use Rattle.dtl_rules.specs.Widening.{Widenings, none, more, WidensLeaf}
use Rattle.txg_engine.specs.declared.seat.Seat.{Seat}
use Rattle.txg_engine.specs.Boards.{count_on, on_board, is_on_as, without, as_taken, failed, count_up}
use Rattle.txg_engine.specs.Logs.{AreGrown, Grows, is_off, is_leaf, IsReady, HasCommitRoom, Counted, has_spare, room_to_settle}

-- a set that has no group, to compare leaves apart from their logs
pub nothing : Groups
nothing = record { runs = []; spare = 0 }

pub same_guid : (old new : LeafVdev) → ((log : Groups) → record new { log = log } ≡ record old { log = log }) → new.guid ≡ old.guid
same_guid old new rest = ap (λ (leaf : LeafVdev). leaf.guid) (rest nothing)

-- a leaf of another log has the same room to settle it
pub same_room : (old new : LeafVdev) → ((log : Groups) → record new { log = log } ≡ record old { log = log }) → room_to_settle new ≡ room_to_settle old
same_room old new rest = ap room_to_settle (rest nothing)

same_numbers : (n : ℕ) → (n == n) ≡ true
same_numbers n = grind (arith, nat_tests)

pub in_between : (low high g : ℕ) → low ≤ g → g ≤ high → between low high g ≡ true
in_between low high g le le' = grind (arith, nat_tests)

-- by whether a leaf is on the board
by_board : {P : Type 0} (b : Bool) → (b ≡ true → P) → (b ≡ false → P) → P
by_board true f g = f refl
by_board false f g = g refl

or_left : (a b : Bool) → a ≡ true → (a || b) ≡ true
or_left a b e = rw e refl

pub or_right : (a b : Bool) → b ≡ true → (a || b) ≡ true
or_right true b e = refl
or_right false b e = e

-- who is on the board behind one that leaves it was on it, and is another one
still_on : (m x : Guid) (seats : List Seat) → on_board (map (without m) seats) x ≡ (on_board seats x && not (x.0 == m.0))
still_on m x [] = refl
still_on m x (seat ∷ seats) = ap (λ b. is_on_as x (without m seat) || b) (still_on m x seats) ∙ one (seat.on) (seat.member.guid.0) (on_board seats x)
  where
    one : (on : Bool) (g : ℕ) (rest : Bool)
        → (((on && not (g == m.0)) && (g == x.0)) || (rest && not (x.0 == m.0))) ≡ (((on && (g == x.0)) || rest) && not (x.0 == m.0))
    one on g rest = by_board (g == x.0)
        (λ e. let same : g ≡ x.0 = grind (arith, nat_tests) in rw same (bools on (x.0 == x.0) (x.0 == m.0) rest))
        (λ e. rw e (bools_off on (g == m.0) (x.0 == m.0) rest))
      where
        bools : (on t u rest : Bool) → (((on && not u) && t) || (rest && not u)) ≡ (((on && t) || rest) && not u)
        bools true true true true = refl
        bools true true true false = refl
        bools true true false true = refl
        bools true true false false = refl
        bools true false true true = refl
        bools true false true false = refl
        bools true false false true = refl
        bools true false false false = refl
        bools false t true true = refl
        bools false t true false = refl
        bools false t false true = refl
        bools false t false false = refl

        bools_off : (on t u rest : Bool) → (((on && not t) && false) || (rest && not u)) ≡ (((on && false) || rest) && not u)
        bools_off true true u rest = refl
        bools_off true false u rest = refl
        bools_off false t u rest = refl

-- a failed call takes nobody off it
pub same_board : (m x : Guid) (seats : List Seat) → on_board (map (failed m) seats) x ≡ on_board seats x
same_board m x [] = refl
same_board m x (seat ∷ seats) =
    ap (λ b. is_on_as x (failed m seat) || b) (same_board m x seats) ∙ ap (λ b. b || on_board seats x) (one (seat.member.guid.0 == m.0))
  where
    one : (b : Bool) → is_on_as x (cond b (record seat { faults = count_up seat.faults }) seat) ≡ is_on_as x seat
    one true = refl
    one false = refl

-- nor does a mark that its pool takes it off
pub taken_board : (m x : Guid) (seats : List Seat) → on_board (map (as_taken m) seats) x ≡ on_board seats x
taken_board m x [] = refl
taken_board m x (seat ∷ seats) = ap (λ b. is_on_as x (as_taken m seat) || b) (taken_board m x seats) ∙ ap (λ b. b || on_board seats x) (one (is_on_as m seat))
  where
    one : (b : Bool) → is_on_as x (cond b (record seat { taken = true }) seat) ≡ is_on_as x seat
    one true = refl
    one false = refl

module _ (seats : List Seat) (last : ℕ) where
  -- a leaf that differs in other things, and has no less room to settle its log
  pub alike : (old new : LeafVdev) → new.guid ≡ old.guid → new.log ≡ old.log → KeepsRoom old.settled new.settled → IsReady seats last old
      → IsReady seats last new
  alike old new guid log room ready =
      let ranges = ap run_count log in
      let spare = ap (λ (groups : Groups). groups.spare) log in
      let first = ready.spare in
      let fits = ready.settled in
      record {
        on = λ e. let both = ready.on (ap (on_board seats) (sym guid) ∙ e) in record {
          log = let two = both.log in omega arith;
          settled = let fit = both.settled in omega arith;
        };
        off = λ e. ap (λ l. holds l last) log ∙ ready.off (ap (on_board seats) (sym guid) ∙ e);
        spare = omega arith;
        settled = omega arith;
      }

  widened_leaf : (old new : LeafVdev) → WidensLeaf old new → IsReady seats last old → IsReady seats last new
  widened_leaf old new w ready =
      let guid = sym (ap (λ (leaf : LeafVdev). leaf.guid) (w.rest nothing)) in
      let same = ap room_to_settle (w.rest nothing) in
      let first = ready.spare in
      let fits = ready.settled in
      record {
        on = λ e. let both = ready.on (ap (on_board seats) (sym guid) ∙ e) in record {
          log = let two = both.log in omega (arith, w.room, w.ranges);
          settled = let fit = both.settled in omega (arith, w.ranges);
        };
        off = λ e. let there = ready.off (ap (on_board seats) (sym guid) ∙ e) in w.groups.between last last last there there (omega arith) (omega arith);
        spare = omega (arith, w.room, w.ranges);
        settled = omega (arith, w.ranges);
      }

  widened_first : (before behind : List LeafVdev) (old new : LeafVdev) → WidensLeaf old new
      → All (IsReady seats last) (before ++ old ∷ behind) → All (IsReady seats last) (before ++ new ∷ behind)
  widened_first [] behind old new w all =
      All-cons (IsReady seats last) new behind (widened_leaf old new w (All-head (IsReady seats last) old behind all))
      (All-tail (IsReady seats last) old behind all)
  widened_first (x ∷ before) behind old new w all =
      All-cons (IsReady seats last) x (before ++ new ∷ behind) (All-head (IsReady seats last) x (before ++ old ∷ behind) all)
      (widened_first before behind old new w (All-tail (IsReady seats last) x (before ++ old ∷ behind) all))

  -- widened logs keep the room
  pub widened_ready : (old new : List LeafVdev) → Widenings old new → All (IsReady seats last) old → All (IsReady seats last) new
  widened_ready old new none all = all
  widened_ready old new (more {now = now} earlier large w) all =
      subst (All (IsReady seats last)) (sym w.is)
      (widened_first w.before w.behind w.leaf w.widened w.widens (subst (All (IsReady seats last)) w.was (widened_ready old now earlier all)))

  pub counted_ready : (m : Guid) (old new : List LeafVdev) → Counted m old new → All (IsReady seats last) old → All (IsReady seats last) new
  counted_ready m [] [] are all = all
  counted_ready m [] (y ∷ new) are all = absurd are
  counted_ready m (x ∷ old) [] are all = absurd are
  counted_ready m (x ∷ old) (y ∷ new) are all =
      All-cons (IsReady seats last) y new
      (alike x y (ap (λ (leaf : LeafVdev). leaf.guid) are.0 ∙ guid (x.guid.0 == m.0)) (ap (λ (leaf : LeafVdev). leaf.log) are.0 ∙ log (x.guid.0 == m.0))
      (let same = ap room_to_settle are.0 ∙ room (x.guid.0 == m.0) in omega arith) (All-head (IsReady seats last) x old all))
      (counted_ready m old new are.1 (All-tail (IsReady seats last) x old all))
    where
      counted : Bool → LeafVdev
      counted b = cond b (record x { counts = record (x.counts) { writes = count_up x.counts.writes } }) x

      guid : (b : Bool) → (cond b (record x { counts = record (x.counts) { writes = count_up x.counts.writes } }) x).guid ≡ x.guid
      guid true = refl
      guid false = refl

      log : (b : Bool) → (cond b (record x { counts = record (x.counts) { writes = count_up x.counts.writes } }) x).log ≡ x.log
      log true = refl
      log false = refl

      room : (b : Bool) → room_to_settle (cond b (record x { counts = record (x.counts) { writes = count_up x.counts.writes } }) x) ≡ room_to_settle x
      room true = refl
      room false = refl

  pub all_spare : (leaves : List LeafVdev) → All (IsReady seats last) leaves → All has_spare leaves
  all_spare leaves all = λ k d lt. (all k d lt).spare

-- the board that is the same for each leaf
pub board_ready : (seats seats' : List Seat) (last : ℕ) (leaves : List LeafVdev) → ((x : Guid) → on_board seats' x ≡ on_board seats x)
    → All (IsReady seats last) leaves
    → All (IsReady seats' last) leaves
board_ready seats seats' last leaves same all = λ k d lt.
    let ready = all k d lt in
    record { on = λ e. ready.on (sym (same _) ∙ e); off = λ e. ready.off (sym (same _) ∙ e); spare = ready.spare; settled = ready.settled }

pub grown_all : {which : LeafVdev → Bool} {low high : ℕ} (P Q : LeafVdev → Type 0) → ((old new : LeafVdev) → Grows which low high old new → P old → Q new)
    → (old new : List LeafVdev) → AllZip (Grows which low high) old new → All P old → All Q new
grown_all P Q f [] [] are all = All-nil Q
grown_all P Q f [] (y ∷ new) are all = absurd are
grown_all P Q f (x ∷ old) [] are all = absurd are
grown_all P Q f (x ∷ old) (y ∷ new) are all = All-cons Q y new (f x y are.0 (All-head P x old all)) (grown_all P Q f old new are.1 (All-tail P x old all))

-- a leaf leaves the board
left_leaf : (m : Guid) (seats : List Seat) (first last : ℕ) → first ≤ last → (old new : LeafVdev) → Grows (is_leaf m) first last old new
    → IsReady seats last old
    → IsReady (map (without m) seats) last new
left_leaf m seats first last le old new g ready =
    let guid = same_guid old new g.rest in
    let same = same_room old new g.rest in
    let one = ready.spare in
    let fits = ready.settled in
    let now = still_on m old.guid seats in
    record {
      on = λ e. let parts = both_are (on_board seats old.guid) (old.guid.0 == m.0) (sym now ∙ ap (on_board (map (without m) seats)) (sym guid) ∙ e) in
          subst HasCommitRoom (sym (g.kept parts.1)) (ready.on parts.0);
      spare = by_board (on_board seats old.guid) (λ e. let two = (ready.on e).log in omega (arith, g.room, g.ranges))
          (λ e. omega (arith, g.room, g.lengthens last (omega arith) (omega arith) (ready.off e)));
      settled = by_board (on_board seats old.guid) (λ e. let fit = (ready.on e).settled in omega (arith, g.ranges))
          (λ e. omega (arith, g.lengthens last (omega arith) (omega arith) (ready.off e)));
      off = λ e. g.groups last ∙ by_board (on_board seats old.guid)
          (λ was.
          let here = one_left (on_board seats old.guid) (old.guid.0 == m.0) was (sym now ∙ ap (on_board (map (without m) seats)) (sym guid) ∙ e) in
          or_right (holds old.log last) _ (rw here (in_between first last last le (omega arith))))
          (λ was. or_left (holds old.log last) _ (ready.off was));
    }
  where
    both_are : (a b : Bool) → (a && not b) ≡ true → (a ≡ true) × (b ≡ false)
    both_are true true e = absurd (true≢false (sym e))
    both_are true false e = (refl, refl)
    both_are false b e = absurd (true≢false (sym e))

    one_left : (a b : Bool) → a ≡ true → (a && not b) ≡ false → b ≡ true
    one_left true true was e = refl
    one_left true false was e = absurd (true≢false e)
    one_left false b was e = absurd (true≢false (sym was))

pub left_ready : (m : Guid) (seats : List Seat) (first last : ℕ) → first ≤ last → (old new : List LeafVdev) → AreGrown (is_leaf m) first last old new
    → All (IsReady seats last) old → All (IsReady (map (without m) seats) last) new
left_ready m seats first last le old new g all =
    widened_ready (map (without m) seats) last g.grown new g.widened
    (grown_all (IsReady seats last) (IsReady (map (without m) seats) last) (left_leaf m seats first last le) old g.grown g.grow all)

-- a further number is drawn
drawn_leaf : (seats : List Seat) (last : ℕ) (old new : LeafVdev) → Grows (is_off seats) (last + 1) (last + 1) old new
    → IsReady seats last old → IsReady seats (last + 1) new
drawn_leaf seats last old new g ready =
    let guid = same_guid old new g.rest in
    let same = same_room old new g.rest in
    let one = ready.spare in
    let fits = ready.settled in
    record {
      on = λ e. let was = ap (on_board seats) (sym guid) ∙ e in subst HasCommitRoom (sym (g.kept (ap not was))) (ready.on was);
      spare = by_board (on_board seats old.guid) (λ e. subst (λ (leaf : LeafVdev). 1 ≤ leaf.log.spare) (sym (g.kept (ap not e))) ready.spare)
          (λ e. omega (arith, g.room, g.lengthens last (omega arith) (omega arith) (ready.off e)));
      settled =
          by_board (on_board seats old.guid)
          (λ e. subst (λ (leaf : LeafVdev). run_count leaf.log ≤ room_to_settle leaf) (sym (g.kept (ap not e))) ready.settled)
          (λ e. omega (arith, g.lengthens last (omega arith) (omega arith) (ready.off e)));
      off = λ e. g.groups (last + 1) ∙ or_right (holds old.log (last + 1)) _
          (rw (ap not (ap (on_board seats) (sym guid) ∙ e)) (in_between (last + 1) (last + 1) (last + 1) (omega arith) (omega arith)));
    }

pub drawn_ready : (seats : List Seat) (last : ℕ) (old new : List LeafVdev) → AreGrown (is_off seats) (last + 1) (last + 1) old new
    → All (IsReady seats last) old
    → All (IsReady seats (last + 1)) new
drawn_ready seats last old new g all =
    widened_ready seats (last + 1) g.grown new g.widened
    (grown_all (IsReady seats last) (IsReady seats (last + 1)) (drawn_leaf seats last) old g.grown g.grow all)

first_off : (a b : Bool) → (a || b) ≡ false → a ≡ false
first_off true b e = e
first_off false b e = refl

rest_off : (a b : Bool) → (a || b) ≡ false → b ≡ false
rest_off true b e = absurd (true≢false e)
rest_off false b e = e

-- one that isn't on the board
pub off_already : (m : Guid) (seats : List Seat) → on_board seats m ≡ false → map (without m) seats ≡ seats
off_already m [] off = refl
off_already m (seat ∷ seats) off =
    ap (λ s. s ∷ map (without m) seats) (one seat.on (seat.member.guid.0 == m.0) (first_off (is_on_as m seat) (on_board seats m) off))
    ∙ ap (λ l. seat ∷ l) (off_already m seats (rest_off (is_on_as m seat) (on_board seats m) off))
  where
    on_is : (on t : Bool) → (on && t) ≡ false → (on && not t) ≡ on
    on_is true true e = absurd (true≢false e)
    on_is true false e = refl
    on_is false t e = refl

    one : (on t : Bool) → (seat.on && (seat.member.guid.0 == m.0)) ≡ false → without m seat ≡ seat
    one on t e = ap (λ b. record seat { on = b }) (on_is seat.on (seat.member.guid.0 == m.0) e)

-- a leaf that isn't on the board isn't taken off it
pub not_taken : (m : Guid) (seats : List Seat) → on_board seats m ≡ false → map (as_taken m) seats ≡ seats
not_taken m [] off = refl
not_taken m (seat ∷ seats) off =
    ap (λ b. cond b (record seat { taken = true }) seat ∷ map (as_taken m) seats) (first_off (is_on_as m seat) (on_board seats m) off)
    ∙ ap (λ l. seat ∷ l) (not_taken m seats (rest_off (is_on_as m seat) (on_board seats m) off))

-- nobody comes onto the board
pub fewer_on : (m : Guid) (seats : List Seat) → count_on (map (without m) seats) ≤ count_on seats
fewer_on m [] = omega arith
fewer_on m (seat ∷ seats) =
    let rest = fewer_on m seats in
    let this = one seat.on (not (seat.member.guid.0 == m.0)) in
    let new : count_on (map (without m) (seat ∷ seats)) ≡ cond (seat.on && not (seat.member.guid.0 == m.0)) 1 0 + count_on (map (without m) seats) = refl in
    let old : count_on (seat ∷ seats) ≡ cond seat.on 1 0 + count_on seats = refl in omega arith
  where
    one : (a b : Bool) → cond (a && b) 1 0 ≤ cond a 1 0
    one true true = omega arith
    one true false = omega arith
    one false b = omega arith

abbrev if_on : Seat → ℕ
if_on seat = cond seat.on 1 0

pub same_on : (m : Guid) (seats : List Seat) → count_on (map (failed m) seats) ≡ count_on seats
same_on m [] = refl
same_on m (seat ∷ seats) =
    let rest = same_on m seats in
    let this = one (seat.member.guid.0 == m.0) in
    let new : count_on (map (failed m) (seat ∷ seats)) ≡ if_on (failed m seat) + count_on (map (failed m) seats) = refl in
    let old : count_on (seat ∷ seats) ≡ if_on seat + count_on seats = refl in omega arith
  where
    one : (b : Bool) → if_on (cond b (record seat { faults = count_up seat.faults }) seat) ≡ if_on seat
    one true = refl
    one false = refl

pub taken_on : (m : Guid) (seats : List Seat) → count_on (map (as_taken m) seats) ≡ count_on seats
taken_on m [] = refl
taken_on m (seat ∷ seats) =
    let rest = taken_on m seats in
    let this = one (is_on_as m seat) in
    let new : count_on (map (as_taken m) (seat ∷ seats)) ≡ if_on (as_taken m seat) + count_on (map (as_taken m) seats) = refl in
    let old : count_on (seat ∷ seats) ≡ if_on seat + count_on seats = refl in omega arith
  where
    one : (b : Bool) → if_on (cond b (record seat { taken = true }) seat) ≡ if_on seat
    one true = refl
    one false = refl
