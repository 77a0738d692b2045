-- Pools that a history creates, and what stands between two runs.
use Rattle.std.specs.Prelude.{◌≡◌, ◌⊎◌, ℕ, ◌==◌, ◌||◌, cond, List, [], ◌++◌, take, length, ◌≤◌, Option, Some, None}
use Rattle.bank_core.specs.declared.bank.Fault.{Fault}
use Rattle.bank_core.specs.Asks.{IsPart}
use Rattle.bank_core.specs.Disk.{Noted, Sectors, run}
use Rattle.label_store.specs.Plans.{stamp_plan}
use Rattle.pool_history.specs.Events.{Event, calls_of}
use Rattle.pool_history.specs.Moves.{Mays}
use Rattle.pool_history.specs.Pools.{Pool, pool_after, stamped}
use Rattle.pool_history.specs.Survival.{Survives}
use Rattle.pool_core.specs.Heads.{head_of}
use Rattle.pool_core.specs.State.{LeafState, PoolState}
use Rattle.host_machine.specs.Machine.{HostState}
use Rattle.host_machine.specs.Tracking.{Tracks, Follows}

-- the pool of this state behind the stamps of its leaves on these devices, on these sectors
abbrev pub new_pool : (size : ℕ → ℕ) → PoolState → (seats : ℕ × ℕ) → Sectors → Pool
new_pool size s seats sectors = stamped s.name s.pool (λ d. (d == seats.0) || (d == seats.1))
    (λ d. cond (d == seats.0) s.first.member s.second.member) size sectors (λ d t. [])

-- Both leaves were stamped by the first of these calls, and a pool began: it survives, and the calls behind are of its history.
pub record IsBorn (size : ℕ → ℕ) (s : PoolState) (seats : ℕ × ℕ) (sectors : Sectors) (made : List Noted) (next : HostState) : Type 0 where
  pub stamps : List Noted
  pub rest : List Noted
  pub all : made ≡ stamps ++ rest
  pub survives : Survives head_of (new_pool size s seats (run stamps sectors))
  pub between : HostState
  pub tracks : Tracks (new_pool size s seats (run stamps sectors)) between
  pub follows : Follows (new_pool size s seats (run stamps sectors)) between (λ cost. ⊥) rest next

-- the stamp of a leaf on this device, up to the first call that failed
abbrev pub IsStamp : (size : ℕ → ℕ) → PoolState → LeafState → (dev : ℕ) → List Noted → Option Fault → Type 0
IsStamp size s leaf dev made outcome = IsPart (stamp_plan dev (size dev) s.pool leaf.member) made outcome

-- A stamp failed, of the first leaf, or behind a whole one of the second, and no call came behind it: no pool began.
pub record StampFails (size : ℕ → ℕ) (s : PoolState) (seats : ℕ × ℕ) (made : List Noted) : Type 0 where
  pub one : List Noted
  pub other : List Noted
  pub all : made ≡ one ++ other
  pub fault : Fault
  pub fails : (IsStamp size s s.first seats.0 one (Some fault) × (other ≡ [])) ⊎ (IsStamp size s s.first seats.0 one None × IsStamp size s s.second seats.1 other (Some fault))

-- What may stand on the devices of a bank of these sizes, by what a pool's history was: it began as a pool that
-- survives, each of its events was allowed, and these are the sectors behind them. A device that the bank lacks has
-- size 0, and nothing is said of its sectors.
pub record LeavesPool (first : Pool) (past : List Event) (size : ℕ → ℕ) (sectors : Sectors) : Type 0 where
  pub begins : Survives head_of first
  pub allowed : Mays head_of first past
  pub devices : (d s : ℕ) → 1 ≤ size d → (pool_after past first).sectors d s ≡ sectors d s

-- It is so at each moment of these calls, with the history so far.
pub record LeavesThroughout (first : Pool) (past : List Event) (size : ℕ → ℕ) (sectors : Sectors) (vs : List Event) (made : List Noted) : Type 0 where
  pub at : (k : ℕ) → k ≤ length made → (j : ℕ) × (calls_of (take j vs) ≡ take k made) × LeavesPool first (past ++ take j vs) size (run (take k made) sectors)
