-- A leaf that leaves the board outside of a turn does so by the row's moves, and the pool has its form still.
use Rattle.std.proofs.Common.{◌≡◌, ℕ, suc, ◌≤◌, ◌==◌, ◌&&◌, ◌||◌, not, cond, Bool, true, false, List, [], ◌∷◌, ◌++◌, drop, length, map, take, Option, Some, None, refl, sym, ap, ◌∙◌, ⊎_elim, subst, arith}
use Rattle.std.specs.Prelude.{All, Contains, IfSome, is_some}
use Rattle.std.specs.List.{AllByRecursion, AllZip, filter}
use Rattle.std.specs.Option.{option_map}
use Rattle.std.proofs.lemmas.Bool.{cases_Bool, eqb-true, true≢false}
use Rattle.std.proofs.lemmas.Bool.Decides.{nat_tests}
use Rattle.std.proofs.lemmas.List.{append-nil, length-map}
use Rattle.std.proofs.Math.Seq.{take-append_seam}
use Rattle.std.proofs.lemmas.List.Elements.{All-contains, All-from_recursion, Contains-append_left, Contains-append_right, Contains-push}
use Rattle.mp_base.specs.declared.number.Guid.{Guid}
use Rattle.label_store.specs.declared.member.Member.{Member}
use Rattle.mp_base.specs.declared.place.Place.{Place}
use Rattle.block_map.specs.Map.{is_pinned}
use Rattle.vdev_tree.specs.Tree.{leaves, marks}
use Rattle.vdev_tree.specs.declared.top.Top.{Top}
use Rattle.vdev_tree.specs.declared.vdev.LeafVdev.{LeafVdev}
use Rattle.dtl_rules.specs.Widening.{leaves_of, marks_of, sectors_of}
use Rattle.txg_engine.specs.declared.seat.Seat.{Seat}
use Rattle.txg_engine.specs.Boards.{as_taken, board_of, is_on, is_on_as, member_of, on_board, without}
use Rattle.txg_engine.specs.Frozen.{FrozenGroup}
use Rattle.txg_engine.specs.Logs.{AreGrown, is_leaf, IsReady}
use Rattle.txg_engine.proofs.Ready.{not_taken, nothing, off_already}
use Rattle.pool_moves.specs.AwayRows.{LeaveIf}
use Rattle.pool_moves.specs.FreezeRow.{IsAtPinned}
use Rattle.pool_moves.specs.Moves.{Leave, Move, on_dev, steps}
use Rattle.pool_moves.specs.States.{PoolState, Sums}
use Rattle.pool_moves.specs.Widening.{seen_along}
use Rattle.pool_moves.proofs.KindsOfMoves.{AnyLeaf, AnySet, IsWithin as IsWithinGroup, within_kind, any_failing, all_leave}
use Rattle.txg_engine.proofs.TopsServed.{taken_seated}
use Rattle.open_pool.specs.Form.{all_leaves, HasGroup, IsPool}
use Rattle.open_pool.specs.Offline.{IsStillIt, LeavesBoard, numbers_under}
use Rattle.open_pool.specs.Parts.{PoolParts, all_parts}
use Rattle.open_pool.specs.State.{Stands, faults_of, leaf_of, leaves_from, leaves_under, own_of, own_state, seat_in, seats_in, seen_of as core_of, state_of}
use Rattle.open_pool.proofs.BoardKept.{AreSameLeaves, KeepsSeats, board_mapped, leave_keeps, mapped_seat, same_leaves}
use Rattle.open_pool.proofs.FewRanges.{HasFewRanges, few_behind, together_are}
use Rattle.open_pool.proofs.GoingKept.{GoesOn, going_kept, grown_settled, trees_leaves}
use Rattle.open_pool.proofs.LeafLeaves.{Agrees, IsRecounted, KeepsOn, OneLeft, halves_at, halves_first, one_leaves}
use Rattle.open_pool.proofs.LeavesByTops.{HaveTops, all_are_under, by_tops, have_tops, leaves_at, same_tops, sizes, tops_from, under_all}
use Rattle.open_pool.proofs.LeavesInForm.{in_form, on_leaves}
use Rattle.open_pool.proofs.LeavesStay.{are_grown_like, like_leaves}
use Rattle.open_pool.proofs.LogsWidened.{AreLikeThem, IsWithin}
use Rattle.open_pool.proofs.MembersAgree.{board_crew, board_differ}
use Rattle.open_pool.proofs.NumbersApart.{leaves_differ}
use Rattle.open_pool.proofs.RecordKept.{ranges_in_all}
use Rattle.open_pool.proofs.TreesBuilt.{built_sizes, trees_told}
use Rattle.open_pool.proofs.TreesStay.{AreNumberedAlike, front_same, head_same, leaf_guids, numbered_alike, same_guids, tail_same}
use Rattle.open_pool.proofs.TurnLeaves.{AreInForm, three_of}
use Rattle.open_pool.proofs.TurnSteps.{AreLikeTops, going, own_kept, room_kept, steps_within}

-- that its pool took it off is nothing that the state has of a leaf
pub taken_keeps : (m : Guid) → KeepsOn (as_taken m)
taken_keeps m = record {
  seats = record {
    member = λ seat. member seat (is_on_as m seat);
    top = λ seat. top seat (is_on_as m seat);
    on = λ seat on. sym (on_is seat (is_on_as m seat)) ∙ on;
  };
  on = λ seat. on_is seat (is_on_as m seat);
}
  where
    member : (seat : Seat) (t : Bool) → (cond t (record seat { taken = true }) seat).member ≡ seat.member
    member seat true = refl
    member seat false = refl

    top : (seat : Seat) (t : Bool) → (cond t (record seat { taken = true }) seat).top ≡ seat.top
    top seat true = refl
    top seat false = refl

    on_is : (seat : Seat) (t : Bool) → (cond t (record seat { taken = true }) seat).on ≡ seat.on
    on_is seat true = refl
    on_is seat false = refl

own_mapped : (f : Seat → Seat) → KeepsSeats f → ((seat : Seat) → (f seat).faults ≡ seat.faults) → (seats : List Seat) (leaf : LeafVdev)
    → own_of (map f seats) leaf ≡ own_of seats leaf
own_mapped f keeps faults seats leaf =
    ap (λ o. record (own_of seats leaf) { joined = is_some o; faults = faults_of o }) (mapped_seat f keeps seats leaf.guid)
    ∙ one (seat_in seats leaf.guid)
  where
    one : (o : Option Seat) → record (own_of seats leaf) { joined = is_some (option_map f o); faults = faults_of (option_map f o) }
        ≡ record (own_of seats leaf) { joined = is_some o; faults = faults_of o }
    one None = refl
    one (Some seat) = ap (λ n. record (own_of seats leaf) { joined = true; faults = n }) (faults seat)

abbrev pub left_by : Guid → List Seat → List Seat
left_by m seats = map (without m) (map (as_taken m) seats)

own_left : (m : Guid) (seats : List Seat) (leaf : LeafVdev) → own_of (left_by m seats) leaf ≡ own_of seats leaf
own_left m seats leaf =
    own_mapped (without m) (leave_keeps m) (λ seat. refl) (map (as_taken m) seats) leaf
    ∙ own_mapped (as_taken m) (taken_keeps m).seats (λ seat. one seat (is_on_as m seat)) seats leaf
  where
    one : (seat : Seat) (t : Bool) → (cond t (record seat { taken = true }) seat).faults ≡ seat.faults
    one seat true = refl
    one seat false = refl

-- each leaf is the one that it was, where its log alone has grown
pub still_they : (m : Guid) (seats : List Seat) (old new : List LeafVdev) → AreLikeThem old new
    → AllZip (IsStillIt seats (left_by m seats)) old new
still_they m seats [] [] like = tt
still_they m seats [] (y ∷ new) like = absurd like
still_they m seats (x ∷ old) [] like = absurd like
still_they m seats (x ∷ old) (y ∷ new) like = (
  record {
    guid = sym (ap (λ (leaf : LeafVdev). leaf.guid) (like.0 nothing));
    dev = sym (ap (λ (leaf : LeafVdev). leaf.dev) (like.0 nothing));
    own = sym (ap (own_of (left_by m seats)) (like.0 nothing)) ∙ own_left m seats x;
  },
  still_they m seats old new like.1,
)

pub all_still : (seats : List Seat) (leaves : List LeafVdev) → AllZip (IsStillIt seats seats) leaves leaves
all_still seats [] = tt
all_still seats (leaf ∷ leaves) = (record { guid = refl; dev = refl; own = refl }, all_still seats leaves)

-- so what no event tells of them is what it was
pub halves_again : (was_seats seats : List Seat) (tops : List ℕ) (was leaves : List LeafVdev) → AllZip (IsStillIt was_seats seats) was leaves
    → halves_at was_seats was seats tops leaves ≡ leaves_at seats tops leaves
halves_again was_seats seats [] was leaves still = refl
halves_again was_seats seats (top ∷ tops) [] [] still = refl
halves_again was_seats seats (top ∷ tops) [] (leaf ∷ leaves) still = absurd still
halves_again was_seats seats (top ∷ tops) (w ∷ was) [] still = absurd still
halves_again was_seats seats (top ∷ tops) (w ∷ was) (leaf ∷ leaves) still =
    ap (λ own. record (leaf_of seats top leaf) { own = own } ∷ halves_at was_seats was seats tops leaves) (sym still.0.own)
    ∙ ap (λ ls. leaf_of seats top leaf ∷ ls) (halves_again was_seats seats tops was leaves still.1)

-- The member that is on the board with this number.
record IsOnIt (members : List Member) (at : Guid) : Type 0 where
  m : Member
  among : Contains members m
  guid_is : m.guid ≡ at

one_of : {A : Type 0} (x : A) (xs : List A) → Contains (x ∷ xs) x
one_of x xs = Contains-append_left (x ∷ []) xs x (Contains-push [] x)

on_it : (seats : List Seat) (at : Guid) → on_board seats at ≡ true → IsOnIt (board_of seats) at
on_it [] at on = absurd (true≢false (sym on))
on_it (seat ∷ seats) at on = one seat.on (seat.member.guid.0 == at.0) refl on (on_it seats at)
  where
    behind : (on : Bool) → IsOnIt (board_of seats) at → IsOnIt (map member_of (cond on (seat ∷ filter is_on seats) (filter is_on seats))) at
    behind true found = record { m = found.m; among = Contains-append_right (seat.member ∷ []) (board_of seats) found.m found.among; guid_is = found.guid_is }
    behind false found = found

    one : (on t : Bool) → (seat.member.guid.0 == at.0) ≡ t → ((on && t) || on_board seats at) ≡ true → (on_board seats at ≡ true → IsOnIt (board_of seats) at)
        → IsOnIt (map member_of (cond on (seat ∷ filter is_on seats) (filter is_on seats))) at
    one true true same on rest = record {
      m = seat.member;
      among = one_of seat.member (board_of seats);
      guid_is = ap (λ n. record { 0 = n }) (eqb-true seat.member.guid.0 at.0 same);
    }
    one true false same on rest = behind true (rest on)
    one false t same on rest = behind false (rest on)

-- a leaf of the member's number is on its device
dev_there : (m : Member) (leaf : LeafVdev) → Agrees m leaf → leaf.guid ≡ m.guid → leaf.dev ≡ Some m.dev
dev_there m leaf agrees same = one leaf.dev (sym agrees ∙ same_number leaf.guid.0 m.guid.0 (ap (λ (g : Guid). g.0) same))
  where
    same_number : (a b : ℕ) → a ≡ b → (a == b) ≡ true
    same_number a b e = grind (arith, nat_tests)

    one : (dev : Option ℕ) → on_dev (λ e. m.dev == e) dev ≡ true → dev ≡ Some m.dev
    one None is = absurd (true≢false (sym is))
    one (Some d) is = ap (λ e. Some e) (sym (eqb-true m.dev d is))

counts_alone : (leaves : List LeafVdev) → AllZip IsRecounted leaves leaves
counts_alone [] = tt
counts_alone (leaf ∷ leaves) = (refl, counts_alone leaves)

-- each top has its leaves' numbers
pub under_numbers : (old new : List Top) → sizes (leaves_under (all_parts new)) ≡ sizes (leaves_under (all_parts old))
    → AreNumberedAlike (under_all (leaves_under (all_parts old))) (under_all (leaves_under (all_parts new)))
    → numbers_under (all_parts new) ≡ numbers_under (all_parts old)
under_numbers [] [] long same = refl
under_numbers [] (u ∷ new) long same = absurd (cc)
under_numbers (t ∷ old) [] long same = absurd (cc)
under_numbers (t ∷ old) (u ∷ new) long same =
    let parts = front_same (leaves t.mirror) (leaves u.mirror) (under_all (leaves_under (all_parts old))) (under_all (leaves_under (all_parts new)))
    (head_same (length (leaves u.mirror)) (length (leaves t.mirror)) (sizes (leaves_under (all_parts new))) (sizes (leaves_under (all_parts old))) long) same in
    ap (λ gs. gs ∷ numbers_under (all_parts new)) (same_guids (leaves t.mirror) (leaves u.mirror) parts.0)
    ∙ ap (λ rest. leaf_guids (leaves t.mirror) ∷ rest) (under_numbers old new
    (tail_same (length (leaves u.mirror)) (length (leaves t.mirror)) (sizes (leaves_under (all_parts new))) (sizes (leaves_under (all_parts old))) long) parts.1)

-- What the leaving of a leaf makes of a pool, and by which moves.
pub record LeavesIt (at : Guid) (held : List Sums) (p q : PoolParts) : Type 0 where
  pub kept : IsPool q
  pub still : AllZip (IsStillIt (seats_in p.frozen) (seats_in q.frozen)) (all_leaves p) (all_leaves q)
  pub leaving : List Move
  pub are : (leaf : LeafVdev) → Contains (all_leaves p) leaf → leaf.guid ≡ at
      → LeaveIf (on_board (seats_in p.frozen) at) leaf.dev (core_of held p) leaving
  pub leads : steps leaving (state_of held p) ≡ state_of held q
  pub numbers : numbers_under q.tops ≡ numbers_under p.tops

module _ (b : PoolParts) (group : FrozenGroup) (old new : List Top) (at : Guid) (pool : IsPool (going b group old)) (held : List Sums)
    (low : 1 ≤ group.numbers.first.0) (built : marks_of new ≡ marks_of old) (sectors : sectors_of new ≡ sectors_of old) where
  abbrev p : PoolParts
  p = going b group old

  abbrev behind : FrozenGroup
  behind = record group { board = left_by at group.board }

  abbrev q : PoolParts
  q = going b behind new

  form : AreInForm p
  form = in_form old p refl pool.recordable pool.leaves

  module _ (on : on_board group.board at ≡ true)
      (grows : AreGrown (is_leaf at) group.numbers.first.0 group.numbers.last.0 (leaves_of old) (leaves_of new))
      (ready : All (IsReady behind.board group.numbers.last.0) (leaves_of new)) where
    found : IsOnIt (board_of group.board) at
    found = on_it group.board at on

    abbrev m : Member
    m = record { dev = found.m.dev; guid = at }

    agree : AllByRecursion (Agrees m) (all_leaves p)
    agree = subst (λ g. AllByRecursion (Agrees (record { dev = found.m.dev; guid = g })) (all_leaves p)) found.guid_is
        (All-contains (λ x. AllByRecursion (Agrees x) (all_leaves p)) (board_of group.board) found.m
        (All-from_recursion (λ x. AllByRecursion (Agrees x) (all_leaves p)) (board_of group.board)
        (board_crew group.board p pool.board form.numbers form.devices).agree) found.among)

    grown : AreGrown (is_leaf at) group.numbers.first.0 group.numbers.last.0 (all_leaves p) (all_leaves q)
    grown = on_leaves (AreGrown (is_leaf at) group.numbers.first.0 group.numbers.last.0) old new p q refl refl grows

    like : AreLikeThem (all_leaves p) (all_leaves q)
    like = are_grown_like (is_leaf at) group.numbers.first.0 group.numbers.last.0 (all_leaves p) (all_leaves q) grown

    same : AreSameLeaves (all_leaves p) (all_leaves q)
    same = like_leaves (all_leaves p) (all_leaves q) like

    same_trees : AreSameLeaves (leaves_of old) (leaves_of new)
    same_trees = like_leaves (leaves_of old) (leaves_of new)
        (are_grown_like (is_leaf at) group.numbers.first.0 group.numbers.last.0 (leaves_of old) (leaves_of new) grows)

    still : AllZip (IsStillIt group.board behind.board) (all_leaves p) (all_leaves q)
    still = still_they at group.board (all_leaves p) (all_leaves q) like

    tops : List ℕ
    tops = tops_from 1 (leaves_under p.tops)

    one : OneLeft (as_taken at) (core_of held p) group.board (all_leaves p) group.board (tops_from 1 (leaves_under p.tops)) m (all_leaves q)
    one =
        one_leaves (as_taken at) (taken_keeps at) (core_of held p) group.board (all_leaves p) group.board (tops_from 1 (leaves_under p.tops)) m
        (all_leaves p) (all_leaves p) (all_leaves q)
        (by_tops group.board 1 (leaves_under p.tops) ∙ ap (leaves_at group.board (tops_from 1 (leaves_under p.tops))) (sym (all_are_under p.tops))
        ∙ sym (halves_first group.board (tops_from 1 (leaves_under p.tops)) (all_leaves p)))
        (three_of (tops_from 1 (leaves_under p.tops)) (all_leaves p)
        (subst (HaveTops (tops_from 1 (leaves_under p.tops))) (sym (all_are_under p.tops)) (have_tops 1 (leaves_under p.tops))))
        (board_differ group.board p pool.board form.numbers form.devices) low form.high
        (record { differ = leaves_differ (all_leaves p) form.numbers; within = form.within; few = form.few })
        agree (counts_alone (all_leaves p)) grown

    ends : halves_at group.board (all_leaves p) behind.board (tops_from 1 (leaves_under p.tops)) (all_leaves q)
        ≡ leaves_from behind.board 1 (leaves_under q.tops)
    ends =
        halves_again group.board behind.board (tops_from 1 (leaves_under p.tops)) (all_leaves p) (all_leaves q) still
        ∙ ap (λ ts. leaves_at behind.board ts (all_leaves q)) (sym (same_tops 1 (leaves_under q.tops) (leaves_under p.tops) (built_sizes old new built)))
        ∙ ap (leaves_at behind.board (tops_from 1 (leaves_under q.tops))) (all_are_under q.tops)
        ∙ sym (by_tops behind.board 1 (leaves_under q.tops))

    leads_to : seen_along one.first (core_of held p) ≡ record (core_of held p) { leaves = leaves_from behind.board 1 (leaves_under q.tops) }
    leads_to = one.leads ∙ ap (λ ls. record (core_of held p) { leaves = ls }) ends

    alike : AreLikeTops old new
    alike = record { told = trees_told old new built same_trees; sectors = sectors }

    within : AllByRecursion IsWithinGroup one.first
    within = all_leave AnyLeaf AnySet IsWithinGroup within_kind (core_of held p) (m ∷ []) (false ∷ []) one.first
        (any_failing (m ∷ []) (false ∷ [])) (one.first, [], sym (append-nil one.first), one.are, refl)

    state_left : steps one.first (state_of held p) ≡ state_of held q
    state_left =
        steps_within one.first (state_of held p) within
        ∙ ap (λ core. record (state_of held p) { core = core }) leads_to
        ∙ ap (λ (f : ℕ → ℕ). record (state_of held q) { own = own_state p; core = record (core_of held q) { room = f } }) (sym (room_kept old new alike))
        ∙ ap (λ own. record (state_of held q) { own = own }) (sym (own_kept b group behind old new alike))

    few : ranges_in_all group.numbers.last.0 (leaves_of new) ≤ 4096
    few = subst (λ ls. ranges_in_all group.numbers.last.0 ls ≤ 4096) (trees_leaves new)
        (subst (λ n. n ≤ 4096) (together_are group.numbers.last.0 behind.board q.tops)
        (subst HasFewRanges leads_to (few_behind (Leave m.dev) one.first (core_of held p) one.are)))

    goes : GoesOn b group behind old new
    goes = record {
      built = built;
      sectors = sectors;
      items = refl;
      first = refl;
      later = omega arith;
      high = form.high;
      unacked = pool.group.unacked;
      same = same_trees;
      settled = grown_settled (is_leaf at) group.numbers.first.0 group.numbers.last.0 (leaves_of old) (leaves_of new) grows;
      within = subst (AllByRecursion (IsWithin group.numbers.last.0)) (trees_leaves new) one.fit.within;
      few = few;
      board = board_mapped (without at) (leave_keeps at) (map (as_taken at) group.board) p q (built_sizes old new built) same
          (board_mapped (as_taken at) (taken_keeps at).seats group.board p p refl (same_leaves (all_leaves p)) pool.board);
      seated = λ top. taken_seated at top group.board;
      ready = ready;
    }

    pub on_board_left : LeavesIt at held p q
    on_board_left = record {
      kept = going_kept b group behind old new pool goes;
      still = still;
      leaving = one.first;
      are = λ leaf among number. subst (λ on. LeaveIf on leaf.dev (core_of held p) one.first) (sym on)
          (subst (λ dev. LeaveIf true dev (core_of held p) one.first)
          (sym (dev_there m leaf (All-contains (Agrees m) (all_leaves p) leaf (All-from_recursion (Agrees m) (all_leaves p) agree) among) number)) one.are);
      leads = state_left;
      numbers = under_numbers old new (built_sizes old new built) (subst (λ ls. AreNumberedAlike ls (under_all (leaves_under q.tops))) (all_are_under p.tops)
          (subst (AreNumberedAlike (all_leaves p)) (all_are_under q.tops) (numbered_alike (all_leaves p) (all_leaves q) same)));
    }

  -- where it isn't on the board nothing happens
  module _ (off : on_board group.board at ≡ false) (same : new ≡ old) where
    board_same : behind.board ≡ group.board
    board_same = ap (map (without at)) (not_taken at group.board off) ∙ off_already at group.board off

    pool_same : p ≡ q
    pool_same = ap (λ seats. going b (record group { board = seats }) old) (sym board_same)
        ∙ ap (λ trees. going b behind trees) (sym same)

    still_same : AllZip (IsStillIt group.board group.board) (all_leaves p) (all_leaves p)
    still_same = all_still group.board (all_leaves p)

    pub off_board_left : LeavesIt at held p q
    off_board_left = subst (LeavesIt at held p) pool_same (record {
      kept = pool;
      still = still_same;
      leaving = [];
      are = λ leaf among number. subst (λ on. LeaveIf on leaf.dev (core_of held p) []) (sym off) refl;
      leads = refl;
      numbers = refl;
    })

-- So it is of any open pool with a frozen group.
pub leaves_board : (b : PoolParts) (group : FrozenGroup) (old new : List Top) (at : Guid) (held : List Sums) → b.tops ≡ all_parts old
    → b.frozen ≡ Some group → IsPool b → 1 ≤ group.numbers.first.0 → marks_of new ≡ marks_of old → sectors_of new ≡ sectors_of old
    → (on_board group.board at ≡ true
    → AreGrown (is_leaf at) group.numbers.first.0 group.numbers.last.0 (leaves_of old) (leaves_of new))
    → (on_board group.board at ≡ false → new ≡ old)
    → All (IsReady (left_by at group.board) group.numbers.last.0) (leaves_of new)
    → LeavesIt at held b (record b { tops = all_parts new; frozen = Some (record group { board = left_by at group.board }) })
leaves_board b group old new at held parts frozen pool low built sectors grows unchanged ready =
    let had : HasGroup b group = subst (λ f. IfSome f (HasGroup b)) frozen pool.group in
    let behind : FrozenGroup = record group { board = left_by at group.board } in
    let same : b ≡ going b group old =
    ap (λ h. record b { highest = h }) (sym had.last)
    ∙ ap (λ ts. record b { highest = group.numbers.last.0; tops = ts }) parts
    ∙ ap (λ f. record b { highest = group.numbers.last.0; tops = all_parts old; frozen = f }) frozen in
    let kept : IsPool (going b group old) = subst IsPool same pool in
    let then : going b behind new ≡ record b { tops = all_parts new; frozen = Some behind } =
    ap (λ h. record b { highest = h; tops = all_parts new; frozen = Some behind }) had.last in
    subst (λ x. LeavesIt at held x (record b { tops = all_parts new; frozen = Some behind })) (sym same)
    (subst (LeavesIt at held (going b group old)) then
    (⊎_elim (λ on. on_board_left b group old new at kept held low built sectors on (grows on) ready)
    (λ off. off_board_left b group old new at kept held low built sectors off (unchanged off)) (cases_Bool (on_board group.board at))))

pub stands_left : (at : Guid) (p q : PoolParts) (s : PoolState) → Stands p s → LeavesIt at s.core.pinned p q → q.map ≡ p.map → LeavesBoard at p s q
stands_left at p q s stands left same = record {
  leaving = left.leaving;
  are = λ leaf among number. subst (λ (x : PoolState). LeaveIf (on_board (seats_in p.frozen) at) leaf.dev x.core left.leaving) (sym stands.is)
      (left.are leaf among number);
  stands = subst (Stands q) (sym (ap (steps left.leaving) stands.is ∙ left.leads)) (record {
    is = refl;
    pinned = record {
      pinned = subst (λ m. (place : Place) → is_pinned m place ≡ true → IsAtPinned s.core.pinned (suc place.top) place.sector) (sym same)
          stands.pinned.pinned;
      held_places = subst (λ m. (place : Place) → IsAtPinned s.core.pinned (suc place.top) place.sector → is_pinned m place ≡ true) (sym same)
          stands.pinned.held_places;
    };
  });
}

-- nobody of this number is on the board then
pub off_now : (at : Guid) (seats : List Seat) → on_board (map (without at) seats) at ≡ false
off_now at [] = refl
off_now at (seat ∷ seats) = ap (λ b. b || on_board (map (without at) seats) at) (one seat.on (seat.member.guid.0 == at.0)) ∙ off_now at seats
  where
    one : (on t : Bool) → ((on && not t) && t) ≡ false
    one true true = refl
    one true false = refl
    one false t = refl

-- a vector whose elements are written back whole
pub items_back : (len : ℕ) (old new items : List Top) → length old ≡ len → marks_of new ≡ marks_of old
    → take len (new ++ drop (length new) items) ≡ new
items_back len old new items long built =
    let many : length new ≡ length old = sym (length-map new (λ (top : Top). marks top.mirror)) ∙ ap length built ∙ length-map old (λ (top : Top). marks top.mirror) in
    ap (λ n. take n (new ++ drop (length new) items)) (sym long ∙ sym many) ∙ take-append_seam new (drop (length new) items)
