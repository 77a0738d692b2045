-- A detach is undone only where each leaf of the lost top that could be written failed, but for the leaf that was to
-- go.
use Rattle.std.proofs.Common.{◌≡◌, inl, inr, ℕ, nat_le, Bool, true, false, List, ◌++◌, Option, Some, None, sym, subst}
use Rattle.std.specs.List.{remove}
use Rattle.mp_base.specs.declared.number.Guid.{Guid}
use Rattle.txg_history.specs.Pages.{Codec}
use Rattle.pool_moves.specs.AwayRows.{leaf_named}
use Rattle.pool_moves.specs.Leaves.{LeafSeen, Seat}
use Rattle.pool_moves.specs.LineRows.{TurnReply, Committed, Suspended, CommitsOpen}
use Rattle.pool_moves.specs.Moves.{Move, steps}
use Rattle.pool_moves.specs.Refusing.{FreezeRefusal, last_number, unwritable, IsRefused}
use Rattle.pool_moves.specs.States.{PoolState}
use Rattle.pool_moves.specs.TreeRows.{place_named, goes_out, Undone, DetachBehind, CommitsWithout, DetachFor, DetachLeaf, DetachBy, RowDetach}
use Rattle.pool_runs.specs.Counting.{LosesFreeze}
use Rattle.pool_runs.proofs.Failing.{IsCaught, caught_first, caught_second}
use Rattle.pool_runs.proofs.Losing.{commits_lose, none_unwritable}

undone_same : (a b : ℕ) (top other : Guid) (m n : ℕ) → Undone a top m ≡ Undone b other n
    → Suspended a top m ≡ Suspended b other n
undone_same a b top other m n e = cc

module _ (Fails : ℕ → Type 0) (c : Codec) (size : ℕ → ℕ) (s : PoolState) (name : List ℕ) (seat : Seat) (group : ℕ)
    (top : Guid) (faults : ℕ) where
  abbrev Loses : Type 0
  Loses = LosesFreeze s (remove s.core.leaves (place_named name s.core.leaves)) Fails group top

  without_loses : (at : LeafSeen) (vs : List Move) → IsRefused (steps (goes_out s name at) s) None → IsCaught Fails vs
      → CommitsWithout c size s name at seat vs (Undone group top faults) → Loses
  without_loses at vs is caught row = by row.turn row.commit row.behind
    where
      behind : PoolState
      behind = steps (goes_out s name at) s

      part : IsCaught Fails row.part
      part = caught_first Fails row.part row.rest
          (caught_second Fails (goes_out s name at) (row.part ++ row.rest) (subst (IsCaught Fails) row.moves caught))

      loses : CommitsOpen c size behind row.part (Suspended group top faults) → Loses
      loses commit = let x = commits_lose Fails c size behind row.part group top faults
          (none_unwritable (nat_le last_number behind.core.number) (unwritable behind.core.leaves) behind is) part
          commit in record {
            later = x.later;
            lost = x.lost;
            one = x.one;
          }

      by : (turn : TurnReply) → CommitsOpen c size behind row.part turn
          → DetachBehind turn size s name at seat row.rest (Undone group top faults) → Loses
      by (Committed number) commit end = absurd (let no = end.1 in cc)
      by (Suspended g t k) commit end =
          loses (subst (CommitsOpen c size behind row.part) (undone_same g group t top k faults (sym end.1)) commit)
      by turn commit end = absurd end

  for_loses : (at : LeafSeen) (refusal : Option FreezeRefusal) (vs : List Move)
      → IsRefused (steps (goes_out s name at) s) refusal → IsCaught Fails vs
      → DetachFor refusal c size s name at seat vs (Undone group top faults) → Loses
  for_loses at (Some refusal) vs is caught row = absurd (let no = row.1 in cc)
  for_loses at None vs is caught row = without_loses at vs is caught row

  leaf_loses : (at : LeafSeen) (frozen : Bool) (vs : List Move) → IsCaught Fails vs
      → DetachLeaf frozen c size s name at seat vs (Undone group top faults) → Loses
  leaf_loses at true vs caught row = absurd (let no = row.1 in cc)
  leaf_loses at false vs caught (inl row) = absurd (let no = row.3 in cc)
  leaf_loses at false vs caught (inr row) = for_loses at row.1.0 vs row.1.1 caught row.1.2

  by_loses : (found : Option LeafSeen) (vs : List Move) → IsCaught Fails vs
      → DetachBy found c size s name seat vs (Undone group top faults) → Loses
  by_loses None vs caught row = absurd (let no = row.1 in cc)
  by_loses (Some at) vs caught row = leaf_loses at s.core.group.frozen vs caught row

  pub detach_loses : (vs : List Move) → IsCaught Fails vs → RowDetach c size s name seat vs (Undone group top faults)
      → LosesFreeze s (remove s.core.leaves (place_named name s.core.leaves)) Fails group top
  detach_loses vs caught row = by_loses (leaf_named name s.core.leaves) vs caught row
