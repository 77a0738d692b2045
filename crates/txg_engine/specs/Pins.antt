-- Places that stay pinned.
use Rattle.std.specs.Prelude.{ℕ, List}
use Rattle.mp_base.specs.declared.place.Place.{Place}

-- the places, and how many there is room for
pub record PinsSeen : Type 0 where
  pub places : List Place
  pub room : ℕ
