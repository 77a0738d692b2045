-- The next record of a pool, as it is drawn up in memory.
use Rattle.std.specs.Prelude.{◌≡◌, ℕ}
use Rattle.group_set.specs.Groups.{holds}
use Rattle.group_set.specs.Ranges.{ranges_upto}
use Rattle.pool_core.specs.declared.draft.Draft.{Draft}
use Rattle.pool_core.specs.declared.draft.Outline.{Outline}
use Rattle.pool_core.specs.declared.pool.Pool.{Pool}
use Rattle.pool_core.specs.Keeping.{Stands}
use Rattle.pool_core.specs.Logs.{drawn}
use Rattle.pool_core.specs.Pairs.{PairState, IsLoggedTo}
use Rattle.pool_core.specs.State.{PoolState}

-- The logs of this tree, as a record of this number or a higher one has them.
pub record HasLogs (pair : PairState) (outline : Outline) : Type 0 where
  pub first : (n : ℕ) → IsLoggedTo n pair.first → outline.first_log ≡ ranges_upto (holds pair.first.log) n
  pub second : (n : ℕ) → IsLoggedTo n pair.second → outline.second_log ≡ ranges_upto (holds pair.second.log) n

-- The tree behind the draw of the next number, with its logs.
pub record IsDraft (pool : Pool) (draft : Draft) : Type 0 where
  pub stands : (s : PoolState) → Stands pool.pair s → s.number ≡ pool.number.0 → Stands draft.pair (drawn s)
  pub logs : HasLogs draft.pair draft.outline

-- This tree is one that the pool may have behind the draw of the next number.
pub record DrawsTo (pool : Pool) (pair : PairState) : Type 0 where
  pub stands : (s : PoolState) → Stands pool.pair s → s.number ≡ pool.number.0 → Stands pair (drawn s)
