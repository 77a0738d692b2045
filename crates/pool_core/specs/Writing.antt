-- A write.
use Rattle.std.specs.Prelude.{◌≡◌, ℕ, ◌⊎◌, nat_lt, List, Result, Ok, Err, if◌then◌else◌}
use Rattle.mp_base.specs.declared.refusal.Refusal.{Refusal}
use Rattle.mp_base.specs.declared.refusal.Refusal.TheVariants as refusals
use Rattle.pool_core.specs.declared.pool.Pool.{Pool}
use Rattle.pool_core.specs.Keeping.{Represents}
use Rattle.pool_core.specs.State.{PoolState, written}

-- the state behind a write, and its answer
abbrev pub put_answer : PoolState → ℕ → List ℕ → PoolState × Result (Unit {0}) Refusal
put_answer s a block = if nat_lt a s.blocks then (written s a block, Ok tt) else (s, Err (refusals.BadAddress s.blocks))

-- A write, which may find no memory for its block.
pub record Puts (s : PoolState) (a : ℕ) (block : List ℕ) (pool : Pool) (answer : Result (Unit {0}) Refusal) : Type 0 where
  pub next : PoolState
  pub represents : Represents pool next
  pub answer_is : ((next, answer) ≡ put_answer s a block) ⊎ ((next ≡ s) × (answer ≡ Err refusals.Memory))
