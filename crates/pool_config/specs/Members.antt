-- What is gathered of the vdevs of all tops, so that they can be held against each other.
use Rattle.std.specs.Prelude.{ℕ, List, [], ◌∷◌, ◌++◌, map}
use Rattle.pool_config.specs.Seen.{VdevSeen, leaves_among, number_of_vdev, leaf_name}
use Rattle.pool_config.specs.Validity.{log_length}

pub record Gathered : Type 0 where
  pub numbers : List ℕ
  pub names : List (List ℕ)
  pub lengths : List ℕ

abbrev pub nothing : Gathered
nothing = record { numbers = []; names = []; lengths = [] }

-- the numbers of further vdevs, the names of the leaves among them, and the lengths of their logs
abbrev pub gathered : Gathered → List VdevSeen → Gathered
gathered g vdevs = record {
  numbers = g.numbers ++ map number_of_vdev vdevs;
  names = g.names ++ map leaf_name (leaves_among vdevs);
  lengths = g.lengths ++ map log_length (leaves_among vdevs);
}

-- one leaf more, and one inner vdev more

abbrev pub with_leaf : Gathered → (number : ℕ) → (name : List ℕ) → (ranges : ℕ) → Gathered
with_leaf g number name ranges = record {
  numbers = g.numbers ++ number ∷ [];
  names = g.names ++ name ∷ [];
  lengths = g.lengths ++ ranges ∷ [];
}

abbrev pub with_inner : Gathered → (number : ℕ) → Gathered
with_inner g number = record { numbers = g.numbers ++ number ∷ []; names = g.names; lengths = g.lengths }
