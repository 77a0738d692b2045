-- What a turn does to the leaves: its leavers, their widenings, and the counts behind it.
use Rattle.std.proofs.Common.{◌≡◌, ℕ, ◌≤◌, ◌^◌, ◌==◌, cond, Bool, true, false, List, [], ◌∷◌, length, Some, refl, sym, ap, ◌∙◌, subst, arith}
use Rattle.std.specs.Prelude.{find}
use Rattle.std.specs.List.{AllByRecursion}
use Rattle.std.specs.Option.{option_map}
use Rattle.mp_base.specs.declared.number.Guid.{Guid}
use Rattle.label_store.specs.declared.member.Member.{Member}
use Rattle.vdev_tree.specs.declared.vdev.LeafVdev.{LeafVdev}
use Rattle.txg_engine.specs.declared.seat.Numbers.{Numbers}
use Rattle.txg_engine.specs.declared.seat.Seat.{Seat}
use Rattle.txg_engine.specs.Boards.{behind_turn}
use Rattle.txg_engine.specs.Logs.{AreBehind}
use Rattle.pool_moves.specs.Leaves.{LeafSeen}
use Rattle.pool_moves.specs.LineRows.{has_number, count_moves}
use Rattle.pool_moves.specs.Moves.{Move, steps}
use Rattle.pool_moves.specs.States.{PoolSeen, PoolState}
use Rattle.pool_moves.specs.Widening.{AreLeaves, seen_along}
use Rattle.open_pool.specs.Form.{HasBoard, all_leaves}
use Rattle.open_pool.specs.Parts.{PoolParts}
use Rattle.open_pool.specs.State.{leaves_from, leaves_under}
use Rattle.open_pool.proofs.BoardKept.{AreSameLeaves}
use Rattle.open_pool.proofs.FaultsCounted.{with_leaves, own_found, counts_all}
use Rattle.open_pool.proofs.LeafLeaves.{half_of, halves_at, halves_first, AreThree, numbers_in, all_leave, same_numbers}
use Rattle.open_pool.proofs.LeavesByTops.{leaves_at, by_tops, tops_from, all_are_under, HaveTops, have_tops, sizes, same_tops}
use Rattle.open_pool.proofs.LeavesStay.{behind_same}
use Rattle.open_pool.proofs.LogsWidened.{IsWithin}
use Rattle.open_pool.proofs.MembersAgree.{IsCrew, board_differ}
use Rattle.open_pool.proofs.NumbersApart.{AreNumbered, Differ, leaves_differ}
use Rattle.open_pool.proofs.SeatsOfFreeze.{OnOwnDevices}

-- What holds of an open pool's leaves besides its board.
pub record AreInForm (p : PoolParts) : Type 0 where
  pub numbers : AreNumbered (all_leaves p)
  pub devices : OnOwnDevices (all_leaves p)
  pub within : AllByRecursion (IsWithin p.highest) (all_leaves p)
  pub few : length (all_leaves p) ≤ 128
  pub high : p.highest ≤ 2 ^ 62

pub three_of : (tops : List ℕ) (leaves : List LeafVdev) → HaveTops tops leaves → AreThree tops leaves leaves
three_of [] [] have = tt
three_of [] (leaf ∷ leaves) have = absurd have
three_of (top ∷ tops) [] have = absurd have
three_of (top ∷ tops) (leaf ∷ leaves) have = three_of tops leaves have.1

three_first : (tops : List ℕ) (was is : List LeafVdev) → AreSameLeaves was is → AreThree tops was was
    → AreThree tops was is
three_first [] [] [] same three = tt
three_first [] [] (y ∷ is) same three = absurd same
three_first [] (x ∷ was) is same three = absurd three
three_first (top ∷ tops) [] is same three = absurd three
three_first (top ∷ tops) (x ∷ was) [] same three = absurd same
three_first (top ∷ tops) (x ∷ was) (y ∷ is) same three = three_first tops was is same.1 three

-- logs and the board don't matter to what is found of a leaf
found_alike : (m : Guid) (ws one two : List Seat) (tops : List ℕ) (was first second : List LeafVdev)
    → AreSameLeaves first second
    → own_found m (halves_at ws was one tops first) ≡ own_found m (halves_at ws was two tops second)
found_alike m ws one two [] was first second same = refl
found_alike m ws one two (top ∷ tops) [] first second same = refl
found_alike m ws one two (top ∷ tops) (w ∷ was) [] [] same = refl
found_alike m ws one two (top ∷ tops) (w ∷ was) [] (y ∷ second) same = absurd same
found_alike m ws one two (top ∷ tops) (w ∷ was) (x ∷ first) [] same = absurd same
found_alike m ws one two (top ∷ tops) (w ∷ was) (x ∷ first) (y ∷ second) same =
    by (x.guid.0 == m.0) (found_alike m ws one two tops was first second same.1)
    ∙ ap (λ (g : Guid). option_map (λ (leaf : LeafSeen). leaf.own)
    (cond (g.0 == m.0) (Some (half_of ws w two top y)) (find (has_number m) (halves_at ws was two tops second))))
    (sym same.0.guid)
  where
    by : (t : Bool) → own_found m (halves_at ws was one tops first) ≡ own_found m (halves_at ws was two tops second)
        → option_map (λ (leaf : LeafSeen). leaf.own)
        (cond t (Some (half_of ws w one top x)) (find (has_number m) (halves_at ws was one tops first)))
        ≡ option_map (λ (leaf : LeafSeen). leaf.own)
        (cond t (Some (half_of ws w two top y)) (find (has_number m) (halves_at ws was two tops second)))
    by true rest = refl
    by false rest = rest

all_found : (ms : List Member) (all : List LeafSeen) (seats F : List Seat) (tops : List ℕ) (was is : List LeafVdev)
    → all ≡ halves_at seats was seats tops was → AreSameLeaves was is
    → AllByRecursion (λ m. own_found m.guid all ≡ own_found m.guid (halves_at seats was F tops is)) ms
all_found [] all seats F tops was is first same = tt
all_found (m ∷ ms) all seats F tops was is first same =
    (ap (own_found m.guid) first ∙ found_alike m.guid seats seats F tops was was is same, all_found ms all seats F tops was is first same)

-- The moves of a turn's leavers. These and the counts behind them leave the leaves of this pool, with these seats.
pub record TurnsLeaves (s : PoolSeen) (ms : List Member) (done : List Bool) (seats : List Seat)
    (q : PoolParts) : Type 0 where
  pub leaving : List Move
  pub are : AreLeaves s ms done leaving
  pub between : List LeafSeen
  pub leads : seen_along leaving s ≡ record s { leaves = between }
  pub counted : (t : PoolState) → t.core.leaves ≡ between
      → steps (count_moves s.leaves ms done) t ≡ with_leaves (leaves_from seats 1 (leaves_under q.tops)) t
  pub within : AllByRecursion (IsWithin s.number) (all_leaves q)

-- A turn of a group with these numbers, over members of its board.
pub turns_leaves : (s : PoolSeen) (seats : List Seat) (p q : PoolParts) (numbers : Numbers) (ms : List Member)
    (done : List Bool)
    → s.leaves ≡ leaves_from seats 1 (leaves_under p.tops) → s.number ≡ p.highest → numbers.last.0 ≡ p.highest
    → numbers.first.0 ≡ s.group.first → 1 ≤ s.group.first
    → HasBoard seats p → AreInForm p → IsCrew (all_leaves p) ms
    → sizes (leaves_under q.tops) ≡ sizes (leaves_under p.tops)
    → AreBehind numbers ms done (all_leaves p) (all_leaves q)
    → TurnsLeaves s ms done (behind_turn ms done seats) q
turns_leaves s seats p q numbers ms done seen number last first low board form crew built behind =
    let tops = tops_from 1 (leaves_under p.tops) in
    let was = all_leaves p in
    let is = all_leaves q in
    let same = behind_same numbers ms done was is behind in
    let three = three_of tops was
    (subst (HaveTops tops) (sym (all_are_under p.tops)) (have_tops 1 (leaves_under p.tops))) in
    let start : s.leaves ≡ halves_at seats was seats tops was =
    seen ∙ by_tops seats 1 (leaves_under p.tops) ∙ ap (leaves_at seats tops) (sym (all_are_under p.tops))
    ∙ sym (halves_first seats tops was) in
    let numbered : numbers ≡ numbers_in s = ap (λ n. record { first = numbers.first; last = record { 0 = n } })
    (last ∙ sym number)
    ∙ ap (λ n. record { first = record { 0 = n }; last = record { 0 = s.number } }) first in
    let left = all_leave ms done s seats was seats tops was is start three
    (board_differ seats p board form.numbers form.devices) low (let high = form.high in omega (arith, high, number))
    (record {
      differ = leaves_differ was form.numbers;
      within = subst (λ n. AllByRecursion (IsWithin n) was)
          (sym number) form.within;
      few = form.few;
    })
    crew.agree (subst (λ n. AreBehind n ms done was is) numbered behind) in
    let ends : halves_at (behind_turn ms done seats) is (behind_turn ms done seats) tops is ≡ leaves_from
    (behind_turn ms done seats) 1 (leaves_under q.tops) =
    halves_first (behind_turn ms done seats) tops is
    ∙ ap (λ ts. leaves_at (behind_turn ms done seats) ts is)
    (sym (same_tops 1 (leaves_under q.tops) (leaves_under p.tops) built))
    ∙ ap (leaves_at (behind_turn ms done seats) (tops_from 1 (leaves_under q.tops))) (all_are_under q.tops)
    ∙ sym (by_tops (behind_turn ms done seats) 1 (leaves_under q.tops)) in
    record {
      leaving = left.leaving;
      are = left.are;
      between = halves_at seats was (behind_turn ms done seats) tops is;
      leads = left.leads;
      counted = λ t there. counts_all ms done t s.leaves numbers seats (behind_turn ms done seats) tops was is is there
          (three_first tops was is same three) same
          (subst Differ (sym (same_numbers was is same)) (leaves_differ was form.numbers)) crew.apart
          (subst (λ ls. AllByRecursion (λ m. own_found m.guid s.leaves ≡ own_found m.guid ls) ms) (sym there)
          (all_found ms s.leaves seats (behind_turn ms done seats) tops was is start same)) behind
          ∙ ap (λ ls. with_leaves ls t) ends;
      within = left.fit.within;
    }
