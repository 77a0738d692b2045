-- What a host knows of a pool, open or closed, and which acts keep it.
use Rattle.std.specs.Prelude.{◌≡◌, ◌≢◌, ℕ, ◌≤◌, false, List, [], ◌∷◌, Some}
use Rattle.txg_history.specs.Moves.{Mays}
use Rattle.txg_history.specs.Pages.{Codec}
use Rattle.txg_history.specs.Pools.{Pool}
use Rattle.txg_history.specs.Survival.{Survives}
use Rattle.pool_moves.specs.States.{PoolState}
use Rattle.pool_runs.specs.Acts.{Act, events_for, pool_by}
use Rattle.pool_runs.specs.Devices.{size_in}
use Rattle.pool_runs.specs.Fairness.{IsFair}
use Rattle.pool_runs.specs.Hosts.{Host, host_by, IsOpen}
use Rattle.pool_runs.specs.Knowing.{HasSeats, HasRoster}

-- A pool in a host. Its history has its invariant, and its members stand on a list; where it is open its state is what its history says, and it is open once; no device that
-- another pool owns is its member; and each device that this run has is as the history has it, in its size and its sectors.
pub record Knows (c : Codec) (h : Host) (p : Pool) : Type 0 where
  pub survives : Survives c p
  pub roster : HasRoster p
  pub stands : (s : PoolState) → IsOpen s h.pools → s.core.pool.0 ≡ p.pool.0 → HasSeats c s p
  pub once : (s u : PoolState) → IsOpen s h.pools → IsOpen u h.pools → s.core.pool.0 ≡ p.pool.0 → u.core.pool.0 ≡ p.pool.0 → s ≡ u
  pub apart : (d g : ℕ) → h.owner d ≡ Some g → g ≢ p.pool.0 → p.member d ≡ false
  pub sizes : (d : ℕ) → 1 ≤ size_in h.table d → p.size d ≡ size_in h.table d
  pub disk : (d s : ℕ) → 1 ≤ size_in h.table d → p.sectors d s ≡ h.disk d s

-- Each of these acts, as far as it is fair and those before it were, is a list of events that the pool's history may have, and the host goes on
-- knowing the pool.
abbrev pub MayActs : Codec → Host → Pool → List Act → Type 0
MayActs c h p [] = Unit {0}
MayActs c h p (act ∷ acts) = IsFair c p act
    → Mays c p (events_for act p) × Knows c (host_by act h) (pool_by act p) × MayActs c (host_by act h) (pool_by act p) acts
