-- A look-up that found nothing. This file names no type of the crate.
use Rattle.std.specs.Prelude.{◌≡◌, ℕ, List, Option, Some, Contains}

-- Where a bank tells the names of its devices, this is none of them.
pub record IsAbsent (names : Option (List (List ℕ))) (name : List ℕ) : Type 0 where
  pub by : (all : List (List ℕ)) → names ≡ Some all → ¬ (Contains all name)
