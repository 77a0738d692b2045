-- How a call's answer and what it leaves are a row.
use Rattle.std.specs.Prelude.{◌≡◌, List}
use Rattle.bank_core.specs.BankView.{BankView}
use Rattle.bank_core.specs.Calls.{Makes}
use Rattle.pool_moves.specs.Moves.{Move, steps}
use Rattle.pool_moves.specs.ReadRow.{made_in}
use Rattle.pool_moves.specs.States.{PoolState}
use Rattle.open_pool.specs.Parts.{PoolParts}
use Rattle.open_pool.specs.State.{Stands}

-- The answer is what a row says, and the pool is left as the row's moves leave it.
pub record Answers {R A : Type 0} (row : List Move → R → Type 0) (says : R → A) (answer : A) (old : PoolState) (new : PoolParts) : Type 0 where
  pub moves : List Move
  pub reply : R
  pub is : row moves reply
  pub says_so : answer ≡ says reply
  pub leaves : Stands new (steps moves old)

-- There was no memory, and nothing changed.
abbrev pub OutOfMemory : {A : Type 0} → (memory answer : A) → (old : PoolState) → (new : PoolParts) → Type 0
OutOfMemory memory answer old new = (answer ≡ memory) × Stands new old

-- The same of a call that is made on a bank: its device calls are just those among the moves.
pub record Does {R A : Type 0} (row : List Move → R → Type 0) (says : R → A) (answer : A) (old : PoolState) (new : PoolParts) (from to : BankView) : Type 0 where
  pub answers : Answers row says answer old new
  pub calls : Makes (made_in answers.moves) from to
