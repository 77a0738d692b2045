-- A group is suspended only where each leaf of the lost top that was on its board failed, as its device's count tells.
use Rattle.std.proofs.Common.{◌≡◌, inl, inr, ℕ, ◌+◌, ◌<◌, ◌==◌, ◌&&◌, ◌||◌, Bool, true, false, cond, List, [], ◌∷◌, map, Option, Some, None, refl, sym, ap, ◌∙◌, subst, arith}
use Rattle.std.specs.List.{AllByRecursion, list_any}
use Rattle.std.proofs.lemmas.Bool.Decides.{nat_tests}
use Rattle.mp_base.specs.declared.number.Guid.{Guid}
use Rattle.vdev_tree.specs.Leaf.{is_up}
use Rattle.std.specs.Option.{is_some}
use Rattle.std.proofs.lemmas.Bool.{and_parts, or_left, or_right, and_from}
use Rattle.txg_history.specs.Pages.{Codec}
use Rattle.txg_history.specs.Records.{Cells}
use Rattle.txg_history.proofs.Logging.{by_bool, same_device, true_not_false}
use Rattle.pool_moves.specs.Boards.{is_on, is_on_under, has_on, emptied_of}
use Rattle.pool_moves.specs.FreezeRow.{is_dev, up_devs}
use Rattle.pool_moves.specs.Leaves.{LeafSeen}
use Rattle.pool_moves.specs.LineRows.{Suspended, RowTurn, TurnBy, EndsGroup, CommitsOpen}
use Rattle.pool_moves.specs.Moves.{Move, Freeze, Leave, Sets, on_dev, leaf_step, step, state_step, steps, Commits, Finds, Clear, Burn}
use Rattle.pool_moves.specs.Refusing.{RefusedBy, is_writable, is_writable_under, unwritable_of, unwritable}
use Rattle.pool_moves.specs.States.{ScanSeen, PoolState}
use Rattle.pool_moves.specs.Widening.{IsWidened}
use Rattle.pool_runs.specs.Counting.{is_under, IsLostBy, LosesTop, LosesBoard, LosesFreeze}
use Rattle.pool_runs.proofs.Failing.{IsCaught, caught_second}
use Rattle.pool_runs.proofs.OnlyFailedLeave.{IsJust, AreJust, just_widens, IsLostBehind, lost_more, Comes, turn_comes, KeepsMay, group_comes, step_leaves, steps_any, steps_tops}
use Rattle.pool_moves.proofs.KindsOfMoves.{AnySet, any_may}
use Rattle.pool_moves.proofs.Lists.{either, map_back, any_map}
use Rattle.pool_moves.proofs.Tests.{same_test, some_same}

-- A top with nobody left on the board is some leaf's, and where each top of these has a leaf that could be written it
-- has one.
emptied_none : (top : ℕ) (all leaves : List LeafSeen) → emptied_of all leaves ≡ Some top → has_on top all ≡ false
emptied_none top all [] is = absurd (cc)
emptied_none top all (leaf ∷ leaves) is = by_bool (has_on leaf.top all)
    (λ on. emptied_none top all leaves (sym (ap (λ t. cond t (emptied_of all leaves) (Some leaf.top)) on) ∙ is))
    (λ off. subst (λ n. has_on n all ≡ false) (some_same leaf.top top (sym (ap (λ t. cond t (emptied_of all leaves) (Some leaf.top)) off) ∙ is)) off)

emptied_under : (top : ℕ) (all leaves : List LeafSeen) → emptied_of all leaves ≡ Some top
    → list_any (is_under top) leaves ≡ true
emptied_under top all [] is = absurd (cc)
emptied_under top all (leaf ∷ leaves) is = by_bool (has_on leaf.top all)
    (λ on. or_right (is_under top leaf) (list_any (is_under top) leaves)
    (emptied_under top all leaves (sym (ap (λ t. cond t (emptied_of all leaves) (Some leaf.top)) on) ∙ is)))
    (λ off. or_left (is_under top leaf) (list_any (is_under top) leaves) (same_test leaf.top top
    (some_same leaf.top top (sym (ap (λ t. cond t (emptied_of all leaves) (Some leaf.top)) off) ∙ is))))

pub writable_one : (top : ℕ) (all leaves : List LeafSeen) → unwritable_of all leaves ≡ None
    → list_any (is_under top) leaves ≡ true → list_any (is_writable_under top) all ≡ true
writable_one top all [] none some = absurd (cc)
writable_one top all (leaf ∷ leaves) none some = by_bool (list_any (is_writable_under leaf.top) all)
    (λ has. by_bool (leaf.top == top)
    (λ here. subst (λ n. list_any (is_writable_under n) all ≡ true) (same_device leaf.top top here) has)
    (λ away. writable_one top all leaves (sym (ap (λ t. cond t (unwritable_of all leaves) (Some leaf.top)) has) ∙ none)
    (sym (ap (λ t. t || list_any (is_under top) leaves) away) ∙ some))) (λ off. absurd (let no : Some leaf.top ≡ None =
    sym (ap (λ t. cond t (unwritable_of all leaves) (Some leaf.top)) off) ∙ none in cc))

-- where nothing refuses a freeze each top has a writable leaf
pub none_unwritable : (ended : Bool) (top : Option ℕ) (s : PoolState) → RefusedBy ended top s None → top ≡ None
none_unwritable true top s is = absurd (cc)
none_unwritable false (Some top) s is = absurd (cc)
none_unwritable false None s is = refl

-- a writable leaf is on the board
abbrev pub IsUp : (board : ℕ → Bool) → LeafSeen → Type 0
IsUp board leaf = is_writable leaf ≡ true → on_dev board leaf.dev ≡ true

up_one : (board : ℕ → Bool) (up : Bool) (dev : Option ℕ) → ((d : ℕ) → (up && is_dev d dev) ≡ true → board d ≡ true)
    → (up && is_some dev) ≡ true → on_dev board dev ≡ true
up_one board up None on is = absurd (let no : false ≡ true = sym (none up) ∙ is in cc)
  where
    none : (t : Bool) → (t && false) ≡ false
    none true = refl
    none false = refl
up_one board up (Some d) on is = on d (and_from up (d == d) (and_parts up true is).0
    (let same : (d == d) ≡ true = grind (arith, nat_tests) in same))

pub all_up : (board : ℕ → Bool) (leaves : List LeafSeen) → ((d : ℕ) → up_devs leaves d ≡ true → board d ≡ true)
    → AllByRecursion (IsUp board) leaves
all_up board [] on = tt
all_up board (leaf ∷ leaves) on = (
  up_one board (is_up leaf.own.mode) leaf.dev
      (λ d is. on d (or_left (is_up leaf.own.mode && is_dev d leaf.dev) (up_devs leaves d) is)),
  all_up board leaves (λ d is. on d (or_right (is_up leaf.own.mode && is_dev d leaf.dev) (up_devs leaves d) is)),
)

on_off : (top : ℕ) (leaf : LeafSeen) → is_on_under top leaf ≡ false → leaf.top ≡ top → leaf.on ≡ true → true ≡ false
on_off top leaf off under on = sym (ap (λ t. t && (leaf.top == top)) on ∙ same_test leaf.top top under) ∙ off

module _ (Fails : ℕ → Type 0) where
  none_on : (top : ℕ) (leaves : List LeafSeen) → has_on top leaves ≡ false
      → AllByRecursion (IsLostBy is_on Fails top) leaves
  none_on top [] none = tt
  none_on top (leaf ∷ leaves) none = by_bool (is_on_under top leaf)
      (λ here. true_not_false (is_on_under top leaf || has_on top leaves) (ap (λ t. t || has_on top leaves) here) none)
      (λ away. (
        (λ under on. absurd (let no : true ≡ false = on_off top leaf away under on in cc)),
        none_on top leaves (sym (ap (λ t. t || has_on top leaves) away) ∙ none),
      ))

  -- Back through just moves: a leaf that was on the board failed, where each that is left did.
  leave_back : (d : ℕ) → Fails d → (dev : Option ℕ) (on : Bool) (under : Type 0)
      → (under → cond (on_dev (λ e. d == e) dev) false on ≡ true → (e : ℕ) × (dev ≡ Some e) × Fails e) → under
      → on ≡ true → (e : ℕ) × (dev ≡ Some e) × Fails e
  leave_back d fails None on under lost at is = lost at is
  leave_back d fails (Some e) on under lost at is =
      by_bool (d == e) (λ here. (e, refl, subst Fails (same_device d e here) fails))
      (λ away. lost at (ap (λ t. cond t false on) away ∙ is))

  leaf_back : (top : ℕ) (v : Move) (number first : ℕ) (scan : ScanSeen) (leaf : LeafSeen) → IsJust Fails AnySet ⊥ v
      → IsLostBy is_on Fails top (leaf_step v number first scan leaf) → IsLostBy is_on Fails top leaf
  leaf_back top (Leave d) number first scan leaf just lost = leave_back d just leaf.dev leaf.on (leaf.top ≡ top) lost
  leaf_back top (Sets m own) number first scan leaf just lost = either (λ t. IsLostBy is_on Fails top
      (cond t (record leaf { own = own }) leaf) → IsLostBy is_on Fails top leaf) (λ lost. lost) (λ lost. lost)
      (leaf.guid.0 == m.0) lost
  leaf_back top (Freeze cells board) number first scan leaf just lost = absurd just
  leaf_back top Burn number first scan leaf just lost = absurd just
  leaf_back top (Commits draft) number first scan leaf just lost = absurd just
  leaf_back top (Finds m d) number first scan leaf just lost = absurd just
  leaf_back top (Clear d) number first scan leaf just lost = absurd just
  leaf_back top v number first scan leaf just lost = lost

  steps_back : (top : ℕ) (vs : List Move) (s : PoolState) → AreJust Fails AnySet ⊥ vs
      → AllByRecursion (IsLostBy is_on Fails top) (steps vs s).core.leaves
      → AllByRecursion (IsLostBy is_on Fails top) s.core.leaves
  steps_back top [] s just lost = lost
  steps_back top (v ∷ vs) s just lost = step_leaves Fails AnySet ⊥
      (λ l. AllByRecursion (IsLostBy is_on Fails top) l → AllByRecursion (IsLostBy is_on Fails top) s.core.leaves)
      v s just.0 (map_back _ (leaf_step v s.core.number s.core.group.first s.core.scan)
      (λ leaf lost. leaf_back top v s.core.number s.core.group.first s.core.scan leaf just.0 lost) s.core.leaves)
      (steps_back top vs (state_step v s) just.1 lost)

  step_first : (v : Move) (s : PoolState) → IsJust Fails AnySet ⊥ v
      → (state_step v s).core.group.first ≡ s.core.group.first
  step_first (Freeze cells board) s just = absurd just
  step_first Burn s just = absurd just
  step_first (Commits draft) s just = absurd just
  step_first v s just = refl

  steps_first : (vs : List Move) (s : PoolState) → AreJust Fails AnySet ⊥ vs
      → (steps vs s).core.group.first ≡ s.core.group.first
  steps_first [] s just = refl
  steps_first (v ∷ vs) s just = steps_first vs (state_step v s) just.1 ∙ step_first v s just.0

  -- A frozen group.
  suspended_same : (a b : ℕ) (top other : Guid) (m n : ℕ) → Suspended a top m ≡ Suspended b other n → (a ≡ b)
      × (top ≡ other)
  suspended_same a b top other m n e = (cc, cc)

  abbrev pub IsLostFor : PoolState → (group : ℕ) → (top : Guid) → (faults : ℕ) → Type 0
  IsLostFor s group top faults = IsLostBehind Fails AnySet ⊥ s (Suspended group top faults)

  top_loses : (s : PoolState) (group : ℕ) (top : Guid) (faults : ℕ) → IsLostFor s group top faults
      → (s.core.group.first ≡ group) × LosesTop is_on s.core.leaves s.own.top_number Fails top
  top_loses s group top faults lost = let behind = steps lost.moves s in let tells =
      suspended_same group behind.core.group.first top (behind.own.top_number lost.at) faults _ lost.tells in (
        sym (steps_first lost.moves s lost.just) ∙ sym tells.0,
        record {
          at = lost.at;
          number_is = sym (ap (λ f. f lost.at) (steps_tops lost.moves s).0) ∙ sym tells.1;
          some = sym (steps_any Fails AnySet ⊥ (λ m dev top. top == lost.at) lost.moves s lost.just)
              ∙ emptied_under lost.at behind.core.leaves behind.core.leaves lost.empty;
          lost = steps_back lost.at lost.moves s lost.just (none_on lost.at behind.core.leaves
              (emptied_none lost.at behind.core.leaves behind.core.leaves lost.empty));
        },
      )

  board_loses : (s : PoolState) (group : ℕ) (top : Guid) (faults : ℕ) → s.core.group.frozen ≡ true
      → IsLostFor s group top faults → LosesBoard s Fails group top
  board_loses s group top faults frozen lost = let one = top_loses s group top faults lost in
      record { frozen = frozen; first_is = one.0; lost = one.1 }

  turn_frozen : (frozen : Bool) (c : Codec) (size : ℕ → ℕ) (s : PoolState) (vs : List Move) (group : ℕ) (top : Guid)
      (faults : ℕ) → TurnBy frozen c size s vs (Suspended group top faults) → frozen ≡ true
  turn_frozen false c size s vs group top faults row = absurd (let no = row.1 in cc)
  turn_frozen true c size s vs group top faults row = refl

  keeps_any : KeepsMay Fails AnySet ⊥
  keeps_any vs s just may = any_may (steps vs s).core.leaves

  pub turn_loses : (c : Codec) (size : ℕ → ℕ) (s : PoolState) (vs : List Move) (group : ℕ) (top : Guid) (faults : ℕ)
      → IsCaught Fails vs → RowTurn c size s vs (Suspended group top faults) → LosesBoard s Fails group top
  turn_loses c size s vs group top faults caught row =
      of (turn_comes Fails AnySet ⊥ keeps_any c size s vs (Suspended group top faults) (λ is. is)
      (any_may s.core.leaves) caught row)
    where
      of : Comes Fails AnySet ⊥ s vs (Suspended group top faults) → LosesBoard s Fails group top
      of (inl lost) = board_loses s group top faults
          (turn_frozen s.core.group.frozen c size s vs group top faults row) lost
      of (inr just) = absurd (just.1 tt)

  pub group_lost : (c : Codec) (size : ℕ → ℕ) (s : PoolState) (vs : List Move) (group : ℕ) (top : Guid) (faults : ℕ)
      → IsCaught Fails vs → EndsGroup c size s vs (Suspended group top faults) → IsLostFor s group top faults
  group_lost c size s vs group top faults caught ends =
      of (group_comes Fails AnySet ⊥ keeps_any c size s vs (Suspended group top faults) (λ is. is)
      (any_may s.core.leaves) caught ends)
    where
      of : Comes Fails AnySet ⊥ s vs (Suspended group top faults) → IsLostFor s group top faults
      of (inl lost) = lost
      of (inr just) = absurd (just.1 tt)

  pub group_loses : (c : Codec) (size : ℕ → ℕ) (s : PoolState) (vs : List Move) (group : ℕ) (top : Guid) (faults : ℕ)
      → s.core.group.frozen ≡ true → IsCaught Fails vs
      → EndsGroup c size s vs (Suspended group top faults) → LosesBoard s Fails group top
  group_loses c size s vs group top faults frozen caught ends =
      board_loses s group top faults frozen (group_lost c size s vs group top faults caught ends)

  -- A freeze puts each leaf that could be written on the board.
  up_back : (top : ℕ) (cells : Cells) (board : ℕ → Bool) (number first : ℕ) (scan : ScanSeen) (leaves : List LeafSeen)
      → AllByRecursion (IsUp board) leaves
      → AllByRecursion (IsLostBy is_on Fails top) (map (leaf_step (Freeze cells board) number first scan) leaves)
      → AllByRecursion (IsLostBy is_writable Fails top) leaves
  up_back top cells board number first scan [] up lost = tt
  up_back top cells board number first scan (leaf ∷ leaves) up lost =
      ((λ under writable. lost.0 under (up.0 writable)), up_back top cells board number first scan leaves up.1 lost.1)

  above : (n group : ℕ) → n + 1 ≡ group → n < group
  above n group is = omega (arith, is)

  pub top_frozen : (cells : Cells) (s : PoolState) (first : List Move) (group : ℕ) (top : Guid) (faults : ℕ)
      → IsWidened s.core (Freeze cells (up_devs s.core.leaves)) first
      → IsLostFor (steps first s) group top faults → (s.core.number < group)
      × LosesTop is_writable s.core.leaves s.own.top_number Fails top
  top_frozen cells s first group top faults w lost = let v : Move = Freeze cells (up_devs s.core.leaves) in
      let frozen = state_step v s in
      let one : (frozen.core.group.first ≡ group) × LosesTop is_on frozen.core.leaves frozen.own.top_number Fails top =
      top_loses frozen group top faults (lost_more Fails AnySet ⊥ w.widens frozen (Suspended group top faults)
      (just_widens Fails AnySet ⊥ (step v s.core) w.widens w.are)
      (subst (λ l. IsLostFor (steps l s) group top faults) w.moves lost)) in (
        above s.core.number group one.0,
        record {
          at = one.1.at;
          number_is = one.1.number_is;
          some = sym (any_map (is_under one.1.at) (leaf_step v s.core.number s.core.group.first s.core.scan)
              (λ leaf. refl) s.core.leaves) ∙ one.1.some;
          lost = up_back one.1.at cells
              (up_devs s.core.leaves) s.core.number s.core.group.first s.core.scan s.core.leaves
              (all_up (up_devs s.core.leaves) s.core.leaves (λ d is. is)) one.1.lost;
        },
      )

  pub commits_lose : (c : Codec) (size : ℕ → ℕ) (s : PoolState) (vs : List Move) (group : ℕ) (top : Guid) (faults : ℕ)
      → unwritable s.core.leaves ≡ None → IsCaught Fails vs
      → CommitsOpen c size s vs (Suspended group top faults) → LosesFreeze s s.core.leaves Fails group top
  commits_lose c size s vs group top faults none caught w =
      let one = top_frozen w.freeze.cells s w.first group top faults w.freeze.moves
      (group_lost c size (steps w.first s) w.rest group top faults
      (caught_second Fails w.first w.rest (subst (IsCaught Fails) w.moves caught)) w.ends) in record {
        later = one.0;
        lost = one.1;
        one = writable_one one.1.at s.core.leaves s.core.leaves none one.1.some;
      }
