-- Turns, syncs and commits may be made: their walks from their rows.
use Rattle.std.proofs.Common.{◌≡◌, ℕ, ◌++◌, Bool, List, [], ◌∷◌, refl, ap, ◌∙◌, true}
use Rattle.std.specs.List.{AllByRecursion}
use Rattle.txg_history.specs.Pages.{Codec}
use Rattle.label_store.specs.declared.member.Member.{Member}
use Rattle.pool_moves.specs.Boards.{board_of, board_under}
use Rattle.pool_moves.specs.CommitRows.{RowReopen}
use Rattle.pool_moves.specs.FreezeRow.{RowFreeze}
use Rattle.pool_moves.specs.Keeping.{Kept, Walks}
use Rattle.pool_moves.specs.LineRows.{IsSized, TurnReply, count_moves, RowTurn, CommitsOpen, FreezeReply, RowFreezeLine, SyncReply, RowSync}
use Rattle.pool_moves.specs.Moves.{Move, Makes, Draw, Burn, Sets, steps, after_move, after_moves}
use Rattle.pool_moves.specs.States.{PoolState, Side}
use Rattle.pool_moves.proofs.Boarding.{is_frozen}
use Rattle.pool_moves.proofs.FreeWalks.{walks_more}
use Rattle.pool_moves.proofs.FreezeWalks.{freeze_walks, empty_freeze_walks}
use Rattle.pool_moves.proofs.GroupTurns.{HasParts, turn_holds, commits_hold, freeze_line_holds, sync_holds, reopen_holds}
use Rattle.pool_moves.proofs.Keeping.{walk_keeps}
use Rattle.pool_moves.proofs.RoundWalks.{round_walks}
use Rattle.pool_moves.proofs.TurnWalks.{write_turn_walks, flush_turn_walks}
use Rattle.pool_moves.proofs.Widenings.{widened_walk}
pub use Rattle.pool_moves.proofs.KindsOfMoves.{IsSet, counts_set}

-- The run has the devices as the history has them, behind moves too.
size_step : (v : Move) (t : Side) → (after_move v t).pool.size ≡ t.pool.size
size_step (Makes noted) t = refl
size_step v t = refl

size_along : (vs : List Move) (t : Side) → (after_moves vs t).pool.size ≡ t.pool.size
size_along [] t = refl
size_along (v ∷ vs) t = size_along vs (after_move v t) ∙ size_step v t

pub sized_along : (size : ℕ → ℕ) (vs : List Move) (t : Side) → IsSized size t → IsSized size (after_moves vs t)
sized_along size vs t same d one = ap (λ f. f d) (size_along vs t) ∙ same d one

-- Moves of what no event tells always may be made.
pub sets_walk : (c : Codec) (vs : List Move) (t : Side) → AllByRecursion IsSet vs → Walks c t vs
sets_walk c [] t all = tt
sets_walk c (Sets m own ∷ vs) t all = ((tt, tt), sets_walk c vs (after_move (Sets m own) t) all.1)
sets_walk c (v ∷ vs) t all = absurd all.0

-- Moves that may be made from a state, of each history that it keeps.
abbrev MayMake : Codec → (size : ℕ → ℕ) → PoolState → List Move → Type 0
MayMake c size s vs = (t : Side) → Kept c s t → IsSized size t → Walks c t vs

more_made : (c : Codec) (size : ℕ → ℕ) (s : PoolState) (vs ws : List Move) → MayMake c size s vs
    → MayMake c size (steps vs s) ws → MayMake c size s (vs ++ ws)
more_made c size s vs ws first rest t kept same = let walks = first t kept same in
    walks_more c vs ws t walks (rest (after_moves vs t) (walk_keeps c vs s t walks kept) (sized_along size vs t same))

counted : (c : Codec) (t : Side) (s : PoolState) (part : List Move) (ms : List Member) (results : List Bool)
    → Walks c t part → Walks c t (part ++ count_moves s.core.leaves ms results)
counted c t s part ms results walks = walks_more c part (count_moves s.core.leaves ms results) t walks
    (sets_walk c (count_moves s.core.leaves ms results) (after_moves part t) (counts_set s.core.leaves ms results))

made_parts : (c : Codec) (size : ℕ → ℕ) → HasParts c size (Unit {0}) (MayMake c size)
made_parts c size = record {
  none = λ s t kept same. tt;
  more = more_made c size;
  write = λ s vs row t kept same. counted c t s vs (board_under row.cell.top s.core.leaves) row.results
      (write_turn_walks c s t vs kept row);
  flush = λ s vs row t kept same. counted c t s vs (board_of s.core.leaves) row.results
      (flush_turn_walks c s t vs kept row);
  round = λ s vs whole row ack t kept same. counted c t s vs (board_of s.core.leaves) row.results
      (round_walks c size s t vs whole kept same row);
  draw = λ s vs frozen is t kept same. let f = is_frozen c s t kept frozen in
      widened_walk c Draw vs s t kept (((f, tt), f), tt) is;
}

burns : (c : Codec) (size : ℕ → ℕ) → Unit {0} → (s : PoolState) (vs : List Move) → MayMake c size s vs
    → (steps vs s).core.group.frozen ≡ true → MayMake c size s (vs ++ (Burn ∷ []))
burns c size any s vs first frozen = more_made c size s vs (Burn ∷ []) first
    (λ t kept same. let f = is_frozen c (steps vs s) t kept frozen in (((f, tt), f), tt))

freezes : (c : Codec) (size : ℕ → ℕ) (s : PoolState) (vs : List Move) → RowFreeze c s vs → MayMake c size s vs
freezes c size s vs row t kept same = freeze_walks c s t vs kept row

-- A turn, a freeze as a line, a new group that is frozen and ended, a sync, and the commit of an opening.
pub turn_walks : (c : Codec) (size : ℕ → ℕ) (s : PoolState) (t : Side) (vs : List Move) (reply : TurnReply) → Kept c s t
    → IsSized size t → RowTurn c size s vs reply → Walks c t vs
turn_walks c size s t vs reply kept same row =
    turn_holds c size (MayMake c size) (made_parts c size) (Unit {0}) (burns c size) s vs reply (λ lost. tt) row t kept
    same

pub freeze_line_walks : (c : Codec) (s : PoolState) (t : Side) (vs : List Move) (reply : FreezeReply) → Kept c s t
    → RowFreezeLine c s vs reply → Walks c t vs
freeze_line_walks c s t vs reply kept row = freeze_line_holds c t.pool.size (MayMake c t.pool.size)
    (made_parts c t.pool.size)
    (Unit {0}) (burns c t.pool.size) (freezes c t.pool.size) s vs reply row t kept (λ d one. refl)

pub open_walks : (c : Codec) (size : ℕ → ℕ) (s : PoolState) (t : Side) (vs : List Move) (reply : TurnReply) → Kept c s t
    → IsSized size t → CommitsOpen c size s vs reply → Walks c t vs
open_walks c size s t vs reply kept same row = commits_hold c size (MayMake c size) (made_parts c size) (Unit {0})
    (burns c size) (freezes c size) s vs reply (λ lost. tt) row t kept same

pub sync_walks : (c : Codec) (size : ℕ → ℕ) (s : PoolState) (t : Side) (vs : List Move) (reply : SyncReply) → Kept c s t
    → IsSized size t → RowSync c size s vs reply → Walks c t vs
sync_walks c size s t vs reply kept same row = sync_holds c size (MayMake c size) (made_parts c size) (Unit {0})
    (burns c size) (freezes c size) s.core.group.frozen s vs reply (λ lost. tt) row t kept same

pub reopen_walks : (c : Codec) (size : ℕ → ℕ) (s : PoolState) (t : Side) (vs : List Move) (reply : TurnReply)
    → Kept c s t → IsSized size t → RowReopen c size s vs reply → Walks c t vs
reopen_walks c size s t vs reply kept same row = reopen_holds c size (MayMake c size) (made_parts c size) (Unit {0})
    (burns c size) (λ s vs row t kept same. empty_freeze_walks c s t vs kept row)
    (λ s vs all t kept same. sets_walk c vs t all) s vs reply (λ lost. tt) row t kept same
