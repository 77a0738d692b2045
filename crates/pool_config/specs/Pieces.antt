-- Pieces that are put one behind another.
use Rattle.std.specs.Prelude.{◌≡◌, ℕ, ◌+◌, List, ◌++◌, length, take, drop}

-- A piece was put at a place, behind what stood before it, and ends here; what is behind it is as it was.
pub record Puts (old : List ℕ) (at : ℕ) (piece new : List ℕ) (end : ℕ) : Type 0 where
  pub front : take end new ≡ take at old ++ piece
  pub stop : end ≡ at + length piece
  pub rest : drop end new ≡ drop end old
