-- The lines that end a group, as rows: a turn, and a sync.
use Rattle.std.specs.Prelude.{◌≡◌, ◌⊎◌, ℕ, ◌+◌, ◌-◌, ◌≤◌, ◌^◌, ◌==◌, ◌&&◌, min, Bool, true, false, cond, List, [], ◌∷◌, ◌++◌, Option, Some, None}
use Rattle.std.specs.List.{find}
use Rattle.mp_base.specs.declared.number.Guid.{Guid}
use Rattle.label_store.specs.declared.member.Member.{Member}
use Rattle.txg_history.specs.Pages.{Codec}
use Rattle.pool_moves.specs.Boards.{board_of, board_under, emptied}
use Rattle.pool_moves.specs.FreezeRow.{RowFreeze}
use Rattle.pool_moves.specs.Leaves.{OwnLeaf, LeafSeen}
use Rattle.pool_moves.specs.Moves.{Move, Draw, Burn, Sets, steps}
use Rattle.pool_moves.specs.Refusing.{FreezeRefusal, IsRefused}
use Rattle.pool_moves.specs.States.{PoolSeen, PoolState, Side}
use Rattle.pool_moves.specs.TurnRows.{RowWriteTurn, RowFlushTurn, FitsOwn, RowRound}
use Rattle.pool_moves.specs.Widening.{IsWidened}

-- The run has each of its devices with the sectors that the history says.
abbrev pub IsSized : (size : ℕ → ℕ) → Side → Type 0
IsSized size t = (d : ℕ) → 1 ≤ size d → t.pool.size d ≡ size d

-- What a turn answers. A suspended group is told by its first number, the member number of the first top whose board is
-- empty, and how many calls failed since the freeze on those leaves of that top that were on the board then.
pub data TurnReply : Type 0 where
  Idle : TurnReply
  Write : TurnReply
  Flush : TurnReply
  Round : (number : ℕ) → TurnReply
  Committed : (number : ℕ) → TurnReply
  Suspended : (group : ℕ) (top : Guid) (faults : ℕ) → TurnReply

-- counts stop at the greatest number that they hold
abbrev pub count_up : ℕ → ℕ
count_up n = min (n + 1) (2 ^ 64 - 1)

-- a leaf of which a write or a flush failed
abbrev pub write_failed : OwnLeaf → OwnLeaf
write_failed own = record own {
  counts = record (own.counts) { writes = count_up own.counts.writes };
  faults = cond own.joined (count_up own.faults) own.faults;
}

abbrev pub has_number : Guid → LeafSeen → Bool
has_number m leaf = leaf.guid.0 == m.0

abbrev pub sets_failed : Option LeafSeen → List Move
sets_failed None = []
sets_failed (Some leaf) = Sets leaf.guid (write_failed leaf.own) ∷ []

-- each member whose call failed is counted
abbrev pub count_moves : List LeafSeen → List Member → (results : List Bool) → List Move
count_moves leaves [] results = []
count_moves leaves (m ∷ ms) [] = []
count_moves leaves (m ∷ ms) (true ∷ results) = count_moves leaves ms results
count_moves leaves (m ∷ ms) (false ∷ results) = sets_failed (find (has_number m.guid) leaves) ++ count_moves leaves ms results

-- how many calls failed since the freeze on the leaves of a top that were on the board then; the count that is told stops, too
abbrev pub faults_under : (top : ℕ) → List LeafSeen → ℕ
faults_under top [] = 0
faults_under top (leaf ∷ leaves) = cond (leaf.own.joined && (leaf.top == top)) leaf.own.faults 0 + faults_under top leaves

abbrev pub suspended_by : PoolState → (top : ℕ) → TurnReply
suspended_by s top = Suspended s.core.group.first (s.own.top_number top) (min (faults_under top s.core.leaves) (2 ^ 64 - 1))

-- A further number, and the logs that are widened behind it; or no move.
abbrev pub Draws : Bool → PoolSeen → List Move → Type 0
Draws true s vs = IsWidened s Draw vs
Draws false s vs = vs ≡ []

-- How a turn ends behind its part: where a top has nobody left on the board, the group is suspended; else it goes on, with a
-- further number or none, and this reply.
abbrev pub EndsBy : Option ℕ → PoolState → (draws : Bool) (going : TurnReply) → List Move → TurnReply → Type 0
EndsBy (Some top) s draws going vs reply = (vs ≡ Burn ∷ []) × (reply ≡ suspended_by s top)
EndsBy None s draws going vs reply = Draws draws s.core vs × (reply ≡ going)

abbrev pub EndsTurn : PoolState → (draws : Bool) (going : TurnReply) → List Move → TurnReply → Type 0
EndsTurn s draws going vs reply = EndsBy (emptied s.core.leaves) s draws going vs reply

-- a part of a turn, the counts behind it, and how it ends
pub record IsTurnOf (s : PoolState) (part : List Move) (members : List Member) (results : List Bool) (going : TurnReply) (vs : List Move) (reply : TurnReply) : Type 0 where
  pub ending : List Move
  pub ends : EndsTurn (steps (part ++ count_moves s.core.leaves members results) s) false going ending reply
  pub moves : vs ≡ (part ++ count_moves s.core.leaves members results) ++ ending

-- the write turn of the least key that is left
pub record IsWritePart (s : PoolState) (vs : List Move) (reply : TurnReply) : Type 0 where
  pub part : List Move
  pub row : RowWriteTurn s.core part
  pub turn : IsTurnOf s part (board_under row.cell.top s.core.leaves) row.results Write vs reply

-- the flush turn
pub record IsFlushPart (s : PoolState) (vs : List Move) (reply : TurnReply) : Type 0 where
  pub part : List Move
  pub unflushed : s.core.group.flushed ≡ false
  pub row : RowFlushTurn s.core part
  pub turn : IsTurnOf s part (board_of s.core.leaves) row.results Flush vs reply

-- A whole round commits. Behind one in which a leaf failed a further number is drawn, while each top has a leaf on the board.
pub record IsRoundPart (c : Codec) (size : ℕ → ℕ) (s : PoolState) (vs : List Move) (reply : TurnReply) : Type 0 where
  pub part : List Move
  pub whole : Bool
  pub row : RowRound c size s.core part whole
  pub own : FitsOwn c s.own row.draft
  pub behind : List Move
  pub counted : behind ≡ part ++ count_moves s.core.leaves (board_of s.core.leaves) row.results
  pub ending : List Move
  pub ends : cond whole ((ending ≡ []) × (reply ≡ Committed s.core.number)) (EndsTurn (steps behind s) true (Round s.core.number) ending reply)
  pub moves : vs ≡ behind ++ ending

-- A turn of a frozen group: suspended at once where a top has nobody left, else its next part.
abbrev pub StartsBy : Option ℕ → Codec → (size : ℕ → ℕ) → PoolState → List Move → TurnReply → Type 0
StartsBy (Some top) c size s vs reply = (vs ≡ Burn ∷ []) × (reply ≡ suspended_by s top)
StartsBy None c size s vs reply = IsWritePart s vs reply ⊎ (IsFlushPart s vs reply ⊎ IsRoundPart c size s vs reply)

-- `turn`: one turn of the frozen group, where there is one.
abbrev pub TurnBy : (frozen : Bool) → Codec → (size : ℕ → ℕ) → PoolState → List Move → TurnReply → Type 0
TurnBy false c size s vs reply = (vs ≡ []) × (reply ≡ Idle)
TurnBy true c size s vs reply = StartsBy (emptied s.core.leaves) c size s vs reply

abbrev pub RowTurn : Codec → (size : ℕ → ℕ) → PoolState → List Move → TurnReply → Type 0
RowTurn c size s vs reply = TurnBy s.core.group.frozen c size s vs reply

-- a reply that ends the group
abbrev pub Ends : TurnReply → Bool
Ends (Committed number) = true
Ends (Suspended group top faults) = true
Ends reply = false

-- The turns of a group, one after another, up to the one that ends it.
abbrev pub AreTurns : Codec → (size : ℕ → ℕ) → PoolState → List (List Move × TurnReply) → TurnReply → Type 0
AreTurns c size s [] reply = ⊥
AreTurns c size s (turn ∷ []) reply = RowTurn c size s turn.0 turn.1 × (Ends turn.1 ≡ true) × (reply ≡ turn.1)
AreTurns c size s (turn ∷ (next ∷ turns)) reply = RowTurn c size s turn.0 turn.1 × (Ends turn.1 ≡ false) × AreTurns c size (steps turn.0 s) (next ∷ turns) reply

abbrev pub moves_in : List (List Move × TurnReply) → List Move
moves_in [] = []
moves_in (turn ∷ turns) = turn.0 ++ moves_in turns

-- a group is ended by its turns
pub record EndsGroup (c : Codec) (size : ℕ → ℕ) (s : PoolState) (vs : List Move) (reply : TurnReply) : Type 0 where
  pub turns : List (List Move × TurnReply)
  pub are : AreTurns c size s turns reply
  pub moves : vs ≡ moves_in turns

-- a new group is frozen and ended
pub record CommitsOpen (c : Codec) (size : ℕ → ℕ) (s : PoolState) (vs : List Move) (reply : TurnReply) : Type 0 where
  pub first : List Move
  pub freeze : RowFreeze c s first
  pub rest : List Move
  pub ends : EndsGroup c size (steps first s) rest reply
  pub moves : vs ≡ first ++ rest

-- What `freeze` answers: the number that was drawn, or the frozen group's first, or why none was frozen.
pub data FreezeReply : Type 0 where
  Frozen : (number : ℕ) → FreezeReply
  InFlight : (group : ℕ) → FreezeReply
  Unfrozen : (refusal : FreezeRefusal) → FreezeReply

-- by what the freeze is refused for, if anything
abbrev pub FreezeFor : Option FreezeRefusal → Codec → PoolState → List Move → FreezeReply → Type 0
FreezeFor (Some refusal) c s vs reply = (vs ≡ []) × (reply ≡ Unfrozen refusal)
FreezeFor None c s vs reply = RowFreeze c s vs × (reply ≡ Frozen (s.core.number + 1))

abbrev pub FreezeBy : (frozen : Bool) → Codec → PoolState → List Move → FreezeReply → Type 0
FreezeBy true c s vs reply = (vs ≡ []) × (reply ≡ InFlight s.core.group.first)
FreezeBy false c s vs reply = (refusal : Option FreezeRefusal) × IsRefused s refusal × FreezeFor refusal c s vs reply

-- `freeze`
abbrev pub RowFreezeLine : Codec → PoolState → List Move → FreezeReply → Type 0
RowFreezeLine c s vs reply = FreezeBy s.core.group.frozen c s vs reply

-- What `sync` answers: how its last group ended, or why none was frozen; and that there was no memory for the next group,
-- where one was ended before.
pub data SyncReply : Type 0 where
  Ended : (turn : TurnReply) → SyncReply
  Refused : (refusal : FreezeRefusal) → SyncReply
  NoMemory : SyncReply

-- a new group is frozen and ended, where no freeze is refused
abbrev pub CommitsFor : Option FreezeRefusal → Codec → (size : ℕ → ℕ) → PoolState → List Move → SyncReply → Type 0
CommitsFor (Some refusal) c size s vs reply = (vs ≡ []) × (reply ≡ Refused refusal)
CommitsFor None c size s vs reply = (turn : TurnReply) × CommitsOpen c size s vs turn × (reply ≡ Ended turn)

abbrev pub SyncOpen : Codec → (size : ℕ → ℕ) → PoolState → List Move → SyncReply → Type 0
SyncOpen c size s vs reply = (refusal : Option FreezeRefusal) × IsRefused s refusal × CommitsFor refusal c size s vs reply

-- behind the frozen group's end: it was acknowledged, and a new one follows, unless there is no memory; or it was suspended
abbrev pub SyncBehind : TurnReply → Codec → (size : ℕ → ℕ) → PoolState → List Move → SyncReply → Type 0
SyncBehind (Committed number) c size s vs reply = ((vs ≡ []) × (reply ≡ NoMemory)) ⊎ SyncOpen c size s vs reply
SyncBehind turn c size s vs reply = (vs ≡ []) × (reply ≡ Ended turn)

-- the frozen group is ended, and then more
pub record EndsFirst (c : Codec) (size : ℕ → ℕ) (s : PoolState) (vs : List Move) (reply : SyncReply) : Type 0 where
  pub first : List Move
  pub turn : TurnReply
  pub ends : EndsGroup c size s first turn
  pub rest : List Move
  pub behind : SyncBehind turn c size (steps first s) rest reply
  pub moves : vs ≡ first ++ rest

-- `sync`: it ends the frozen group, if there is one; where that is acknowledged, or none is frozen, it freezes and ends a new
-- one.
abbrev pub SyncBy : (frozen : Bool) → Codec → (size : ℕ → ℕ) → PoolState → List Move → SyncReply → Type 0
SyncBy false c size s vs reply = SyncOpen c size s vs reply
SyncBy true c size s vs reply = EndsFirst c size s vs reply

abbrev pub RowSync : Codec → (size : ℕ → ℕ) → PoolState → List Move → SyncReply → Type 0
RowSync c size s vs reply = SyncBy s.core.group.frozen c size s vs reply
