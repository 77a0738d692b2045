-- The commits of a create and of an opening as rows: groups without keys. And `logs`.
use Rattle.std.specs.Prelude.{◌≡◌, ℕ, ◌≤◌, Bool, true, List, [], ◌∷◌, ◌++◌, map, None}
use Rattle.std.specs.List.{AllByRecursion}
use Rattle.vdev_tree.specs.declared.vdev.Counts.{Counts}
use Rattle.txg_history.specs.Events.{Opens}
use Rattle.txg_history.specs.Pages.{Codec}
use Rattle.txg_history.specs.Pools.{Pool, after}
use Rattle.txg_history.specs.Records.{Rec, IsIn}
use Rattle.txg_history.specs.Survival.{Survives}
use Rattle.pool_moves.specs.FreezeRow.{RowEmptyFreeze}
use Rattle.pool_moves.specs.Keeping.{AreSeatsApart, IsAway, IsSeated, IsOwnNumber, HasUnder, HasNumberBelow}
use Rattle.pool_moves.specs.Leaves.{LeafSeen}
use Rattle.pool_moves.specs.LineRows.{TurnReply, EndsGroup}
use Rattle.pool_moves.specs.Moves.{Move, Flushed_all, Sets, steps}
use Rattle.pool_moves.specs.States.{PoolState, Side, seen}
use Rattle.pool_moves.specs.TurnRows.{FitsOwn, RowRound}

-- A pool whose opening has read a live record: its leaves are the record's, each where the history has it, found by this run or
-- not, and the next member number is above theirs.
pub record IsOpened (c : Codec) (s : PoolState) (t : Side) : Type 0 where
  pub before : Pool
  pub r : Rec
  pub survives : Survives c before
  pub live : IsIn r before.live
  pub is : t.pool ≡ after (Opens r) before
  pub apart : AreSeatsApart t.seats
  pub seated : AllByRecursion (IsSeated t.pool.member) t.seats
  pub away : AllByRecursion IsAway t.seats
  pub numbered : (d : ℕ) → t.pool.member d ≡ true → AllByRecursion (IsOwnNumber t.pool.guid d) t.seats
  pub topped : (d : ℕ) → t.pool.member d ≡ true → 1 ≤ t.pool.in_top d → HasUnder t.pool.in_top (t.pool.in_top d) t.seats
  pub core : s.core ≡ seen t
  pub below : AllByRecursion (HasNumberBelow t.pool.guid s.own.next_member) t.seats
  pub unwritten : (a : ℕ) → s.own.writes a ≡ None

-- counts begin at the end of an opening
abbrev pub no_counts : Counts
no_counts = record { reads = 0; writes = 0; mismatches = 0 }

abbrev pub uncounts : List LeafSeen → List Move
uncounts leaves = map (λ leaf. Sets leaf.guid (record (leaf.own) { counts = no_counts })) leaves

-- The commit of an opening: a group without keys, ended by its flush turn and its rounds. Counts of leaves begin behind it.
pub record RowReopen (c : Codec) (size : ℕ → ℕ) (s : PoolState) (vs : List Move) (reply : TurnReply) : Type 0 where
  pub first : List Move
  pub freeze : RowEmptyFreeze s first
  pub rest : List Move
  pub ends : EndsGroup c size (steps first s) rest reply
  pub moves : vs ≡ first ++ (rest ++ uncounts (steps rest (steps first s)).core.leaves)

-- The commit of a create: a group without keys and one round, without a flush turn before it. The pool is there where no
-- leaf failed in it.
pub record RowFound (c : Codec) (size : ℕ → ℕ) (s : PoolState) (vs : List Move) (whole : Bool) : Type 0 where
  pub first : List Move
  pub freeze : RowEmptyFreeze s first
  pub round : List Move
  pub ends : RowRound c size (steps (first ++ (Flushed_all ∷ [])) s).core round whole
  pub own : FitsOwn c s.own ends.draft
  pub moves : vs ≡ (first ++ (Flushed_all ∷ [])) ++ round

-- What `logs` shows: each leaf's name and log, in tree order. It makes no move.
pub record NamedLog : Type 0 where
  pub name : List ℕ
  pub owes : ℕ → Bool

abbrev pub named_log : LeafSeen → NamedLog
named_log leaf = record { name = leaf.own.name; owes = leaf.owes }

abbrev pub RowLogs : PoolState → List Move → List NamedLog → Type 0
RowLogs s vs logs = (vs ≡ []) × (logs ≡ map named_log s.core.leaves)
