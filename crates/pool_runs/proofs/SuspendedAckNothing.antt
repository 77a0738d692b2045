-- A group that is suspended acknowledges nothing, so what a sync acknowledged before it stays.
use Rattle.std.proofs.Common.{◌≡◌, ◌≢◌, ◌⊎◌, ⊎_elim, inl, inr, ℕ, Bool, true, false, cond, List, [], ◌∷◌, ◌++◌}
use Rattle.std.proofs.Common.{Option, Some, None, refl, sym, ap, ◌∙◌, subst, append-nil, append_assoc}
use Rattle.std.specs.List.{AllByRecursion}
use Rattle.mp_base.specs.declared.number.Guid.{Guid}
use Rattle.txg_history.specs.Pages.{Codec}
use Rattle.txg_history.specs.Pools.{Pool, pool_after}
use Rattle.txg_history.specs.Records.{number_of, block_at}
use Rattle.txg_history.proofs.Logging.{true_not_false}
use Rattle.pool_moves.specs.Boards.{board_of, board_under, emptied}
use Rattle.pool_moves.specs.Keeping.{Kept, Walks}
use Rattle.pool_moves.specs.LineRows.{TurnReply, Idle, Write, Flush, Round, Committed, Suspended, count_moves, EndsBy}
use Rattle.pool_moves.specs.LineRows.{EndsTurn, IsTurnOf, IsRoundPart, StartsBy, TurnBy, AreTurns, moves_in}
use Rattle.pool_moves.specs.LineRows.{EndsGroup, CommitsOpen, Ended, EndsFirst, CommitsFor, SyncOpen, SyncBehind}
use Rattle.pool_moves.specs.Moves.{Move, Freeze, Widen, Burn, Commits, events_of, step, steps, after_move, after_moves}
use Rattle.pool_moves.specs.ReadRow.{made_in}
use Rattle.pool_moves.specs.Refusing.{FreezeRefusal}
use Rattle.pool_moves.specs.States.{PoolSeen, PoolState, Side}
use Rattle.pool_moves.specs.Widening.{AreWidens}
use Rattle.pool_moves.proofs.FreeWalks.{moves_more}
use Rattle.pool_runs.specs.Committing.{CommitsGroup}
use Rattle.pool_runs.specs.Counting.{IsSuspended}
use Rattle.pool_runs.proofs.Committing.{KeepsContent, content_kind, walk_first, walk_second, group_all}
use Rattle.pool_runs.proofs.Failing.{FailedOn}
use Rattle.pool_runs.proofs.GroupMoves.{all_group}
use Rattle.pool_runs.proofs.Losing.{group_loses}
use Rattle.pool_runs.proofs.SyncsLoseATop.{ended_same}

-- Moves whose last one suspends the group.
record BurnsIn (vs : List Move) : Type 0 where
  body : List Move
  moves : vs ≡ body ++ (Burn ∷ [])

ends_burn : (top : Option ℕ) (s : PoolState) (draws : Bool) (going : TurnReply) (vs : List Move) (reply : TurnReply)
    → IsSuspended reply → (IsSuspended going → ⊥) → EndsBy top s draws going vs reply → vs ≡ Burn ∷ []
ends_burn (Some top) s draws going vs reply is off ends = ends.0
ends_burn None s draws going vs reply is off ends = absurd (off (subst IsSuspended ends.1 is))

part_burns : (s : PoolState) (part : List Move) (ms : _) (results : List Bool) (going : TurnReply) (vs : List Move) (reply : TurnReply)
    → IsSuspended reply → (IsSuspended going → ⊥) → IsTurnOf s part ms results going vs reply → BurnsIn vs
part_burns s part ms results going vs reply is off turn = let counted = part ++ count_moves s.core.leaves ms results in record {
  body = counted;
  moves = turn.moves
      ∙ ap (λ l. counted ++ l) (ends_burn (emptied (steps counted s).core.leaves) (steps counted s) false going turn.ending reply is off turn.ends);
}

round_burns : (c : Codec) (size : ℕ → ℕ) (s : PoolState) (vs : List Move) (reply : TurnReply) → IsSuspended reply
    → IsRoundPart c size s vs reply → BurnsIn vs
round_burns c size s vs reply is w = record { body = w.behind; moves = w.moves ∙ ap (λ l. w.behind ++ l) (of w.whole w.ends) }
  where
    of : (whole : Bool) → cond whole ((w.ending ≡ []) × (reply ≡ Committed s.core.number))
        (EndsTurn (steps w.behind s) true (Round s.core.number) w.ending reply) → w.ending ≡ Burn ∷ []
    of true ends = absurd (subst IsSuspended ends.1 is)
    of false ends = ends_burn (emptied (steps w.behind s).core.leaves) (steps w.behind s) true (Round s.core.number) w.ending reply is (λ bad. bad) ends

starts_burn : (top : Option ℕ) (c : Codec) (size : ℕ → ℕ) (s : PoolState) (vs : List Move) (reply : TurnReply) → IsSuspended reply
    → StartsBy top c size s vs reply → BurnsIn vs
starts_burn (Some top) c size s vs reply is row = record { body = []; moves = row.0 }
starts_burn None c size s vs reply is (inl w) =
    part_burns s w.part (board_under w.row.cell.top s.core.leaves) w.row.results Write vs reply is (λ bad. bad) w.turn
starts_burn None c size s vs reply is (inr (inl w)) = part_burns s w.part (board_of s.core.leaves) w.row.results Flush vs reply is (λ bad. bad) w.turn
starts_burn None c size s vs reply is (inr (inr w)) = round_burns c size s vs reply is w

turn_burns : (frozen : Bool) (c : Codec) (size : ℕ → ℕ) (s : PoolState) (vs : List Move) (reply : TurnReply) → IsSuspended reply
    → TurnBy frozen c size s vs reply → BurnsIn vs
turn_burns false c size s vs reply is row = absurd (subst IsSuspended row.1 is)
turn_burns true c size s vs reply is row = starts_burn (emptied s.core.leaves) c size s vs reply is row

turns_burn : (c : Codec) (size : ℕ → ℕ) (s : PoolState) (turns : List (List Move × TurnReply)) (reply : TurnReply) → IsSuspended reply
    → AreTurns c size s turns reply → BurnsIn (moves_in turns)
turns_burn c size s [] reply is are = absurd are
turns_burn c size s (turn ∷ []) reply is are =
    subst BurnsIn (sym (append-nil turn.0)) (turn_burns s.core.group.frozen c size s turn.0 turn.1 (subst IsSuspended are.2 is) are.0)
turns_burn c size s (turn ∷ (next ∷ turns)) reply is are =
    let rest = turns_burn c size (steps turn.0 s) (next ∷ turns) reply is are.2 in record {
      body = turn.0 ++ rest.body;
      moves = ap (λ l. turn.0 ++ l) rest.moves ∙ sym (append_assoc turn.0 rest.body (Burn ∷ []));
    }

-- Moves that freeze no group leave the acknowledged record, or no group is frozen behind them.
move_thawed : (v : Move) (p : Pool) → KeepsContent v → p.group.frozen ≡ false → (pool_after (events_of v p) p).group.frozen ≡ false
move_thawed (Freeze cells board) p keeps off = absurd keeps
move_thawed Burn p keeps off = refl
move_thawed (Commits draft) p keeps off = refl
move_thawed v p keeps off = off

thawed_along : (vs : List Move) (t : Side) → AllByRecursion KeepsContent vs → t.pool.group.frozen ≡ false
    → (after_moves vs t).pool.group.frozen ≡ false
thawed_along [] t all off = off
thawed_along (v ∷ vs) t all off = thawed_along vs (after_move v t) all.1 (move_thawed v t.pool all.0 off)

abbrev StillAcked : Pool → Pool → Type 0
StillAcked p q = (q.acked ≡ p.acked) ⊎ (q.group.frozen ≡ false)

move_acked : (v : Move) (p : Pool) → StillAcked p (pool_after (events_of v p) p)
move_acked (Commits draft) p = inr refl
move_acked v p = inl refl

acked_along : (vs : List Move) (t : Side) → AllByRecursion KeepsContent vs → StillAcked t.pool (after_moves vs t).pool
acked_along [] t all = inl refl
acked_along (v ∷ vs) t all = ⊎_elim
    (λ same. ⊎_elim (λ rest. inl (rest ∙ same)) inr (acked_along vs (after_move v t) all.1))
    (λ off. inr (thawed_along vs (after_move v t) all.1 off)) (move_acked v t.pool)

all_first : (vs ws : List Move) → AllByRecursion KeepsContent (vs ++ ws) → AllByRecursion KeepsContent vs
all_first [] ws all = tt
all_first (v ∷ vs) ws all = (all.0, all_first vs ws all.1)

-- A suspension wants a frozen group, so nothing was acknowledged before it.
group_acked : (c : Codec) (size : ℕ → ℕ) (s : PoolState) (t : Side) (vs : List Move) (reply : TurnReply) → IsSuspended reply → Walks c t vs
    → EndsGroup c size s vs reply → (after_moves vs t).pool.acked ≡ t.pool.acked
group_acked c size s t vs reply is walks g =
    let burns = turns_burn c size s g.turns reply is g.are in
    let moves : vs ≡ burns.body ++ (Burn ∷ []) = g.moves ∙ burns.moves in
    let now = walk_second c burns.body (Burn ∷ []) t (subst (Walks c t) moves walks) in
    let keeps = all_first burns.body (Burn ∷ [])
    (subst (AllByRecursion KeepsContent) moves (all_group KeepsContent content_kind c size s vs reply (λ bad. tt) g)) in
    ap (λ l. (after_moves l t).pool.acked) moves
    ∙ (ap (λ x. x.pool.acked) (moves_more burns.body (Burn ∷ []) t)
    ∙ ⊎_elim (λ same. same) (λ off. true_not_false (after_moves burns.body t).pool.group.frozen now.0.1 off) (acked_along burns.body t keeps))

-- So does the freeze before it.
widens_acked : (s : PoolSeen) (vs : List Move) (t : Side) → AreWidens s vs → (after_moves vs t).pool.acked ≡ t.pool.acked
widens_acked s [] t are = refl
widens_acked s (Widen m low high ∷ vs) t are = widens_acked (step (Widen m low high) s) vs (after_move (Widen m low high) t) are.2
widens_acked s (v ∷ vs) t are = absurd are

open_acked : (c : Codec) (size : ℕ → ℕ) (s : PoolState) (t : Side) (vs : List Move) (reply : TurnReply) → IsSuspended reply → Walks c t vs
    → CommitsOpen c size s vs reply → (after_moves vs t).pool.acked ≡ t.pool.acked
open_acked c size s t vs reply is walks w =
    let rest = walk_second c w.first w.rest t (subst (Walks c t) w.moves walks) in
    ap (λ l. (after_moves l t).pool.acked) w.moves
    ∙ (ap (λ x. x.pool.acked) (moves_more w.first w.rest t)
    ∙ (group_acked c size (steps w.first s) (after_moves w.first t) w.rest reply is rest w.ends
    ∙ (ap (λ l. (after_moves l t).pool.acked) w.freeze.moves.moves
    ∙ widens_acked _ w.freeze.moves.widens (after_move (Freeze w.freeze.cells _) t) w.freeze.moves.are)))

for_acked : (refusal : Option FreezeRefusal) (c : Codec) (size : ℕ → ℕ) (s : PoolState) (t : Side) (vs : List Move) (group : ℕ) (top : Guid)
    (faults : ℕ) → Walks c t vs → CommitsFor refusal c size s vs (Ended (Suspended group top faults)) → (after_moves vs t).pool.acked ≡ t.pool.acked
for_acked (Some refusal) c size s t vs group top faults walks row = absurd (let no = row.1 in cc)
for_acked None c size s t vs group top faults walks row =
    open_acked c size s t vs row.0 (subst IsSuspended (ended_same row.0 group top faults row.2) tt) walks row.1

-- A sync that tells another group than the one which was frozen before it acknowledged that one.
pub first_of_two : (c : Codec) (size : ℕ → ℕ) (s : PoolState) (t : Side) (vs : List Move) (group : ℕ) (top : Guid) (faults : ℕ) → Kept c s t → Walks c t vs
    → s.core.group.frozen ≡ true → s.core.group.first ≢ group → EndsFirst c size s vs (Ended (Suspended group top faults))
    → (n : ℕ) × CommitsGroup t.pool (after_moves vs t).pool n
first_of_two c size s t vs group top faults kept walks frozen other row = by row.turn row.ends row.behind
  where
    all : Walks c t (row.first ++ row.rest)
    all = subst (Walks c t) row.moves walks

    behind_first : (n : ℕ) → EndsGroup c size s row.first (Committed n) → SyncOpen c size (steps row.first s) row.rest (Ended (Suspended group top faults))
        → CommitsGroup t.pool (after_moves vs t).pool n
    behind_first n ends opens =
        let one = group_all c size s t row.first n kept (walk_first c row.first row.rest t all) ends in
        let same : (after_moves vs t).pool.acked ≡ (after_moves row.first t).pool.acked = ap (λ l. (after_moves l t).pool.acked) row.moves
        ∙ (ap (λ x. x.pool.acked) (moves_more row.first row.rest t)
        ∙ for_acked opens.0 c size (steps row.first s) (after_moves row.first t) row.rest group top faults (walk_second c row.first row.rest t all) opens.2) in
        record { acked = ap number_of same ∙ one.acked; blocks = λ a. ap (λ r. block_at r a) same ∙ one.blocks a }

    by : (turn : TurnReply) → EndsGroup c size s row.first turn
        → SyncBehind turn c size (steps row.first s) row.rest (Ended (Suspended group top faults))
        → (n : ℕ) × CommitsGroup t.pool (after_moves vs t).pool n
    by (Committed n) ends (inl none) = absurd (let no = none.1 in cc)
    by (Committed n) ends (inr opens) = (n, behind_first n ends opens)
    by (Suspended g m k) ends behind =
        let told : EndsGroup c size s row.first (Suspended group top faults) =
        subst (EndsGroup c size s row.first) (sym (ended_same (Suspended g m k) group top faults behind.1)) ends in
        absurd (other (group_loses (λ d. FailedOn d (made_in row.first)) c size s row.first group top faults frozen (λ d failed. failed) told).first_is)
    by Idle ends behind = absurd (let no = behind.1 in cc)
    by Write ends behind = absurd (let no = behind.1 in cc)
    by Flush ends behind = absurd (let no = behind.1 in cc)
    by (Round number) ends behind = absurd (let no = behind.1 in cc)
