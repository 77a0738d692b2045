-- Pieces that are put one behind another.
use Rattle.std.specs.Prelude.{◌≡◌, ℕ, ◌+◌, List, ◌++◌, length, take}

-- A piece was put at a place, behind what stood before it, and ends here.
pub record Puts (old : List ℕ) (at : ℕ) (piece new : List ℕ) (end : ℕ) : Type 0 where
  pub front : take end new ≡ take at old ++ piece
  pub stop : end ≡ at + length piece
