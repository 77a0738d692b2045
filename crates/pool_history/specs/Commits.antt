-- The calls before a round: the blocks that it commits go to the members.
use Rattle.std.specs.Prelude.{◌≡◌, ℕ, List, ◌∷◌, ◌++◌}
use Rattle.bank_core.specs.Asks.{Ask, Writes, Flushes}
use Rattle.bank_core.specs.Standing.{Spares}

-- These asks write the block to sector `at` of the device, and no later one of them aims there.
pub record WritesLast (asks : List Ask) (dev at : ℕ) (block : List ℕ) : Type 0 where
  pub before : List Ask
  pub later : List Ask
  pub asks_are : asks ≡ before ++ Writes dev at block ∷ later
  pub last : Spares later dev at

-- One of these asks flushes the device.
pub record FlushesDevice (asks : List Ask) (dev : ℕ) : Type 0 where
  pub before : List Ask
  pub later : List Ask
  pub asks_are : asks ≡ before ++ Flushes dev ∷ later

-- A plan that writes the block to sector `at` of the device, and flushes the device behind the last write there.
pub record Brings (plan : List Ask) (dev at : ℕ) (block : List ℕ) : Type 0 where
  pub before : List Ask
  pub between : List Ask
  pub later : List Ask
  pub plan_is : plan ≡ before ++ Writes dev at block ∷ (between ++ Flushes dev ∷ later)
  pub last : Spares between dev at
  pub no_later : Spares later dev at
