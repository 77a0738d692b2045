-- Lists of moves of a group's rows, of which each move is of one kind.
use Rattle.std.proofs.Common.{◌≡◌, ℕ, Bool, true, List, [], ◌∷◌, ◌++◌, None}
use Rattle.std.specs.List.{AllByRecursion}
use Rattle.mp_base.specs.declared.number.Guid.{Guid}
use Rattle.mp_base.specs.declared.place.Key.{Key}
use Rattle.bank_core.specs.Disk.{Noted}
use Rattle.txg_history.specs.Pages.{Codec}
use Rattle.txg_history.specs.Records.{Cells}
use Rattle.pool_moves.specs.Boards.{board_of}
use Rattle.pool_moves.specs.CommitRows.{uncounts, RowReopen, RowFound}
use Rattle.pool_moves.specs.FreezeRow.{up_devs, RowFreeze, RowEmptyFreeze}
use Rattle.pool_moves.specs.Leaves.{OwnLeaf, LeafSeen}
use Rattle.pool_moves.specs.LineRows.{TurnReply, RowTurn, EndsGroup, CommitsOpen, SyncReply, SyncBy}
use Rattle.pool_moves.specs.Moves.{Draft, Move, Makes, Freeze, Wrote_key, Flushed_all, Draw, Leave, Widen, Burn, Starts, Copies, Copied, Commits, Sets, steps}
use Rattle.pool_moves.specs.ReadRow.{count_reads}
use Rattle.pool_moves.specs.States.{PoolSeen, PoolState}
use Rattle.pool_moves.specs.TurnRows.{RowRound}
use Rattle.pool_moves.specs.Walking.{as_moves}
use Rattle.pool_moves.specs.Widening.{AreWidens, IsWidened}
use Rattle.pool_moves.proofs.GroupTurns.{HasParts, kind_parts, turn_holds, group_holds, commits_hold, sync_holds, reopen_holds}
use Rattle.pool_moves.proofs.KindsOfMoves.{IsKind as IsPartKind, AnyLeaf, AnySet, any_failing, all_calls as part_calls, all_widens as part_widens, all_widened as part_widened, all_round as part_round, IsSet}
use Rattle.pool_moves.proofs.Lists.{all_append}
use Rattle.pool_runs.specs.Counting.{IsSuspended, SuspendsSync}

-- A kind that has each move of a group but its freeze and its suspension.
pub record IsKind (P : Move → Type 0) : Type 0 where
  pub calls : (noted : Noted) → P (Makes noted)
  pub leave : (d : ℕ) → P (Leave d)
  pub set : (m : Guid) (own : OwnLeaf) → P (Sets m own)
  pub wrote : (k : Key) → P (Wrote_key k)
  pub flushed : P Flushed_all
  pub draw : P Draw
  pub widen : (m : Guid) (low high : ℕ) → P (Widen m low high)
  pub starts : (draft : Draft) → P (Starts draft)
  pub copies : (draft : Draft) (d : ℕ) → P (Copies draft d)
  pub copied : (draft : Draft) (d : ℕ) → P (Copied draft d)
  pub commits : (draft : Draft) → P (Commits draft)

pub more : (P : Move → Type 0) (vs ws : List Move) → AllByRecursion P vs → AllByRecursion P ws → AllByRecursion P (vs ++ ws)
more P vs ws a b = all_append P vs ws a b

module _ (P : Move → Type 0) (k : IsKind P) where
  abbrev All : List Move → Type 0
  All vs = AllByRecursion P vs

  abbrev Holds : PoolState → List Move → Type 0
  Holds s vs = AllByRecursion P vs

  abbrev kind : IsPartKind AnyLeaf AnySet P
  kind = record {
    calls = k.calls;
    leave = λ d f. k.leave d;
    set = λ m own may. k.set m own;
    wrote = k.wrote;
    flushed = k.flushed;
    draw = k.draw;
    widen = k.widen;
    starts = k.starts;
    copies = k.copies;
    copied = k.copied;
  }

  abbrev parts : (c : Codec) (size : ℕ → ℕ) → HasParts c size (Unit {0}) Holds
  parts c size = kind_parts c size (Unit {0}) P kind (λ ack draft. k.commits draft)

  burns : P Burn → (s : PoolState) (vs : List Move) → All vs → (steps vs s).core.group.frozen ≡ true → All (vs ++ (Burn ∷ []))
  burns burn s vs all frozen = all_append P vs (Burn ∷ []) all (burn, tt)

  pub all_calls : (made : List Noted) → All (as_moves made)
  all_calls made = part_calls AnyLeaf AnySet P kind made

  pub all_widens : (s : PoolSeen) (vs : List Move) → AreWidens s vs → All vs
  all_widens s vs are = part_widens AnyLeaf AnySet P kind s vs are

  pub all_widened : (s : PoolSeen) (v : Move) (vs : List Move) → P v → IsWidened s v vs → All vs
  all_widened s v vs is w = part_widened AnyLeaf AnySet P kind s v vs is w

  pub all_reads : (sum : List ℕ) (made : List Noted) (leaves : List LeafSeen) → All (count_reads sum made leaves)
  all_reads sum made [] = tt
  all_reads sum made (leaf ∷ leaves) = (k.set _ _, all_reads sum made leaves)

  all_sets : (vs : List Move) → AllByRecursion IsSet vs → All vs
  all_sets [] all = tt
  all_sets (Sets m own ∷ vs) all = (k.set m own, all_sets vs all.1)
  all_sets (v ∷ vs) all = absurd all.0

  pub all_uncounts : (leaves : List LeafSeen) → All (uncounts leaves)
  all_uncounts [] = tt
  all_uncounts (leaf ∷ leaves) = (k.set _ _, all_uncounts leaves)

  pub all_round : (c : Codec) (size : ℕ → ℕ) (s : PoolSeen) (vs : List Move) (whole : Bool) → RowRound c size s vs whole
      → All vs
  all_round c size s vs whole row = part_round AnyLeaf AnySet P kind c size s vs whole row (λ on draft. k.commits draft)
      (any_failing (board_of s.leaves) row.results)

  pub all_turn : (c : Codec) (size : ℕ → ℕ) (s : PoolState) (vs : List Move) (reply : TurnReply) → (IsSuspended reply → P Burn)
      → RowTurn c size s vs reply → All vs
  all_turn c size s vs reply burn row = turn_holds c size Holds (parts c size) (P Burn) burns s vs reply burn row

  pub all_group : (c : Codec) (size : ℕ → ℕ) (s : PoolState) (vs : List Move) (reply : TurnReply)
      → (IsSuspended reply → P Burn) → EndsGroup c size s vs reply → All vs
  all_group c size s vs reply burn ends = group_holds c size Holds (parts c size) (P Burn) burns s vs reply burn ends

  -- with freezes
  abbrev MayFreeze : Type 0
  MayFreeze = (cells : Cells) (board : ℕ → Bool) → P (Freeze cells board)

  pub all_freeze : MayFreeze → (c : Codec) (s : PoolState) (vs : List Move) → RowFreeze c s vs → All vs
  all_freeze freezes c s vs row = all_widened s.core (Freeze row.cells (up_devs s.core.leaves)) vs (freezes _ _) row.moves

  pub all_empty : MayFreeze → (s : PoolState) (vs : List Move) → RowEmptyFreeze s vs → All vs
  all_empty freezes s vs row =
      all_widened s.core (Freeze (λ k. None) (up_devs s.core.leaves)) vs (freezes _ _) row.moves

  pub all_commits : MayFreeze → (c : Codec) (size : ℕ → ℕ) (s : PoolState) (vs : List Move) (reply : TurnReply)
      → (IsSuspended reply → P Burn) → CommitsOpen c size s vs reply → All vs
  all_commits freezes c size s vs reply burn w =
      commits_hold c size Holds (parts c size) (P Burn) burns (all_freeze freezes c) s vs reply burn w

  pub all_sync : MayFreeze → (frozen : Bool) (c : Codec) (size : ℕ → ℕ) (s : PoolState) (vs : List Move) (reply : SyncReply)
      → (SuspendsSync reply → P Burn) → SyncBy frozen c size s vs reply → All vs
  all_sync freezes frozen c size s vs reply burn row =
      sync_holds c size Holds (parts c size) (P Burn) burns (all_freeze freezes c) frozen s vs reply burn row

  pub all_found : MayFreeze → (c : Codec) (size : ℕ → ℕ) (s : PoolState) (vs : List Move) (whole : Bool)
      → RowFound c size s vs whole → All vs
  all_found freezes c size s vs whole row = rw row.moves (all_append P (row.first ++ (Flushed_all ∷ [])) row.round
      (all_append P row.first (Flushed_all ∷ []) (all_empty freezes s row.first row.freeze) (k.flushed, tt))
      (all_round c size (steps (row.first ++ (Flushed_all ∷ [])) s).core row.round whole row.ends))

  pub all_reopen : MayFreeze → (c : Codec) (size : ℕ → ℕ) (s : PoolState) (vs : List Move) (reply : TurnReply)
      → (IsSuspended reply → P Burn) → RowReopen c size s vs reply → All vs
  all_reopen freezes c size s vs reply burn w = reopen_holds c size Holds (parts c size) (P Burn) burns (all_empty freezes)
      (λ s vs all. all_sets vs all) s vs reply burn w
