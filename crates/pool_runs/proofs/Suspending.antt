-- A turn or a sync is suspended only where the count of some leaf's device rose, or where a top had nobody left on
-- its board before.
use Rattle.std.proofs.Common.{◌≡◌, ◌⊎◌, inl, inr, ℕ, ◌==◌, ◌&&◌, ◌||◌, Bool, true, false, cond, List, [], ◌∷◌, ◌++◌, Option, Some, refl, sym, ap, ◌∙◌, subst}
use Rattle.std.specs.List.{AllByRecursion, list_any}
use Rattle.std.proofs.lemmas.Bool.{and_parts, or_left, or_right}
use Rattle.mp_base.specs.declared.number.Guid.{Guid}
use Rattle.bank_core.specs.Calls.{AllCaused}
use Rattle.txg_history.specs.Pages.{Codec}
use Rattle.txg_history.proofs.Logging.{by_bool, same_device, true_not_false}
use Rattle.pool_moves.specs.Boards.{is_on, has_on, emptied_of}
use Rattle.pool_moves.specs.FreezeRow.{is_dev}
use Rattle.pool_moves.specs.Leaves.{LeafSeen}
use Rattle.pool_moves.specs.LineRows.{TurnReply, Committed, Suspended, RowTurn, SyncReply, Ended, EndsGroup, SyncBehind, EndsFirst, SyncBy, RowSync}
use Rattle.pool_moves.specs.Moves.{Move, steps}
use Rattle.pool_moves.specs.ReadRow.{made_in}
use Rattle.pool_moves.specs.Refusing.{is_writable}
use Rattle.pool_moves.specs.States.{PoolState}
use Rattle.pool_runs.specs.Counting.{has_leaf_at, RoseAt, HasLostBoard, IsSuspended, SuspendsSync, is_under, IsLostBy, LosesBoard, LosesFreeze}
use Rattle.pool_runs.proofs.Failing.{FailedOn, failed_rose, IsCaught, caught_first, caught_second}
use Rattle.pool_runs.proofs.Losing.{turn_loses, group_loses}
use Rattle.pool_runs.proofs.OnlyFailedLeave.{Comes, group_comes, steps_any}
use Rattle.pool_runs.proofs.SyncsLoseATop.{ended_same, open_loses}
use Rattle.pool_moves.proofs.KindsOfMoves.{AnySet, any_may}
use Rattle.pool_moves.proofs.Tests.{same_test}

-- Where one of a lost top's leaves is so, its device failed.
abbrev at_leaves : (leaves : List LeafSeen) → ℕ → Bool
at_leaves leaves d = list_any (λ leaf. is_dev d leaf.dev) leaves

abbrev FailsAt : (Fails : ℕ → Type 0) → (leaves : List LeafSeen) → Type 0
FailsAt Fails leaves = (d : ℕ) × (at_leaves leaves d ≡ true) × Fails d

dev_of : (dev : Option ℕ) (d : ℕ) → dev ≡ Some d → is_dev d dev ≡ true
dev_of dev d is = ap (is_dev d) is ∙ same_test d d refl

some_fails : (which : LeafSeen → Bool) (Fails : ℕ → Type 0) (top : ℕ) (leaves : List LeafSeen)
    → list_any (λ leaf. which leaf && (leaf.top == top)) leaves ≡ true
    → AllByRecursion (IsLostBy which Fails top) leaves → FailsAt Fails leaves
some_fails which Fails top [] some lost = absurd (cc)
some_fails which Fails top (leaf ∷ leaves) some lost = by_bool (which leaf && (leaf.top == top))
    (λ here. let parts = and_parts (which leaf) (leaf.top == top) here in let one =
    lost.0 (same_device leaf.top top parts.1) parts.0 in
    (one.0, or_left (is_dev one.0 leaf.dev) (at_leaves leaves one.0) (dev_of leaf.dev one.0 one.1), one.2))
    (λ away. let more = some_fails which Fails top leaves
    (sym (ap (λ t. t || list_any (λ leaf. which leaf && (leaf.top == top)) leaves) away) ∙ some) lost.1 in
    (more.0, or_right (is_dev more.0 leaf.dev) (at_leaves leaves more.0) more.1, more.2))

-- A top that has leaves and nobody on the board.
some_empty : (top : ℕ) (all leaves : List LeafSeen) → list_any (is_under top) leaves ≡ true → has_on top all ≡ false
    → (at : ℕ) × (emptied_of all leaves ≡ Some at)
some_empty top all [] some none = absurd (cc)
some_empty top all (leaf ∷ leaves) some none = by_bool (has_on leaf.top all) (λ on. by_bool (is_under top leaf)
    (λ here. true_not_false (has_on leaf.top all) on
    (subst (λ n. has_on n all ≡ false) (sym (same_device leaf.top top here)) none))
    (λ away. let more = some_empty top all leaves
    (sym (ap (λ t. t || list_any (is_under top) leaves) away) ∙ some) none in
    (more.0, ap (λ t. cond t (emptied_of all leaves) (Some leaf.top)) on ∙ more.1)))
    (λ off. (leaf.top, ap (λ t. cond t (emptied_of all leaves) (Some leaf.top)) off))

board_fails : (Fails : ℕ → Type 0) (s : PoolState) (group : ℕ) (top : Guid) → LosesBoard s Fails group top
    → FailsAt Fails s.core.leaves ⊎ HasLostBoard s
board_fails Fails s group top x = by_bool (has_on x.lost.at s.core.leaves)
    (λ some. inl (some_fails is_on Fails x.lost.at s.core.leaves some x.lost.lost))
    (λ none. let empty = some_empty x.lost.at s.core.leaves s.core.leaves x.lost.some none in
    inr (record { frozen = x.frozen; top = empty.0; none = empty.1 }))

freeze_fails : (Fails : ℕ → Type 0) (s : PoolState) (leaves : List LeafSeen) (group : ℕ) (top : Guid)
    → LosesFreeze s leaves Fails group top → FailsAt Fails leaves
freeze_fails Fails s leaves group top x = some_fails is_writable Fails x.lost.at leaves x.one x.lost.lost

-- Lines.
module _ (c : Codec) (size : ℕ → ℕ) (s : PoolState) where
  abbrev FailsIn : List Move → Type 0
  FailsIn vs = FailsAt (λ d. FailedOn d (made_in vs)) s.core.leaves ⊎ HasLostBoard s

  turn_fails : (vs : List Move) (reply : TurnReply) → RowTurn c size s vs reply → IsSuspended reply → FailsIn vs
  turn_fails vs (Suspended group top faults) row bad = board_fails (λ d. FailedOn d (made_in vs)) s group top
      (turn_loses (λ d. FailedOn d (made_in vs)) c size s vs group top faults (λ d failed. failed) row)
  turn_fails vs reply row bad = absurd bad

  -- behind a group each device is still a leaf's
  still_at : (vs : List Move) (number d : ℕ) → EndsGroup c size s vs (Committed number)
      → at_leaves (steps vs s).core.leaves d ≡ true → at_leaves s.core.leaves d ≡ true
  still_at vs number d ends is = of (group_comes (λ d. Unit {0}) AnySet (Unit {0})
      (λ vs s just may. any_may (steps vs s).core.leaves) c size s vs (Committed number) (λ is. tt)
      (any_may s.core.leaves) (λ d failed. tt) ends)
    where
      of : Comes (λ d. Unit {0}) AnySet (Unit {0}) s vs (Committed number) → at_leaves s.core.leaves d ≡ true
      of (inl lost) = absurd (let no = lost.tells in cc)
      of (inr just) = sym (steps_any (λ d. Unit {0}) AnySet (Unit {0}) (λ m dev top. is_dev d dev) vs s just.0) ∙ is

  first_fails : (vs : List Move) (group : ℕ) (top : Guid) (faults : ℕ) → s.core.group.frozen ≡ true
      → EndsFirst c size s vs (Ended (Suspended group top faults)) → FailsIn vs
  first_fails vs group top faults frozen e = by e.turn e.ends e.behind
    where
      parts : IsCaught (λ d. FailedOn d (made_in vs)) (e.first ++ e.rest)
      parts = subst (IsCaught (λ d. FailedOn d (made_in vs))) e.moves (λ d failed. failed)

      by : (turn : TurnReply) → EndsGroup c size s e.first turn
          → SyncBehind turn c size (steps e.first s) e.rest (Ended (Suspended group top faults)) → FailsIn vs
      by (Committed number) ends (inl row) = absurd (let no = row.1 in cc)
      by (Committed number) ends (inr row) = let behind = steps e.first s in
          let one = freeze_fails (λ d. FailedOn d (made_in e.rest)) behind behind.core.leaves group top
          (open_loses c size behind e.rest group top faults row) in
          inl (
            one.0,
            still_at e.first number one.0 ends one.1,
            caught_second (λ d. FailedOn d (made_in vs)) e.first e.rest parts one.0 one.2,
          )
      by (Suspended g t k) ends row = board_fails (λ d. FailedOn d (made_in vs)) s group top
          (group_loses (λ d. FailedOn d (made_in vs)) c size s e.first group top faults frozen
          (caught_first (λ d. FailedOn d (made_in vs)) e.first e.rest parts)
          (subst (EndsGroup c size s e.first) (sym (ended_same (Suspended g t k) group top faults row.1)) ends))
      by turn ends row = absurd (let no = row.1 in cc)

  sync_by_fails : (frozen : Bool) (vs : List Move) (group : ℕ) (top : Guid) (faults : ℕ)
      → s.core.group.frozen ≡ frozen → SyncBy frozen c size s vs (Ended (Suspended group top faults)) → FailsIn vs
  sync_by_fails false vs group top faults is row =
      inl (freeze_fails (λ d. FailedOn d (made_in vs)) s s.core.leaves group top
      (open_loses c size s vs group top faults row))
  sync_by_fails true vs group top faults is row = first_fails vs group top faults is row

  sync_fails : (vs : List Move) (reply : SyncReply) → RowSync c size s vs reply → SuspendsSync reply → FailsIn vs
  sync_fails vs (Ended (Suspended group top faults)) row bad =
      sync_by_fails s.core.group.frozen vs group top faults refl row
  sync_fails vs reply row bad = absurd bad

  rose_in : (vs : List Move) (from to : ℕ → ℕ) → AllCaused (made_in vs) from to → FailsIn vs
      → RoseAt (λ d. has_leaf_at d s) from to ⊎ HasLostBoard s
  rose_in vs from to caused (inl one) = inl (one.0, one.1, failed_rose one.0 (made_in vs) from to caused one.2)
  rose_in vs from to caused (inr lost) = inr lost

  pub turn_counts : (vs : List Move) (reply : TurnReply) (from to : ℕ → ℕ) → RowTurn c size s vs reply
      → AllCaused (made_in vs) from to → IsSuspended reply → RoseAt (λ d. has_leaf_at d s) from to ⊎ HasLostBoard s
  turn_counts vs reply from to row caused bad = rose_in vs from to caused (turn_fails vs reply row bad)

  pub sync_counts : (vs : List Move) (reply : SyncReply) (from to : ℕ → ℕ) → RowSync c size s vs reply
      → AllCaused (made_in vs) from to → SuspendsSync reply → RoseAt (λ d. has_leaf_at d s) from to ⊎ HasLostBoard s
  sync_counts vs reply from to row caused bad = rose_in vs from to caused (sync_fails vs reply row bad)
