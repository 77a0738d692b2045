-- Ranges of groups in rising order.
use Rattle.std.specs.Prelude.{ℕ, ◌+◌, ◌≤◌, List, [], ◌∷◌}
use Rattle.mp_base.specs.declared.range.GroupRange.{GroupRange}

-- each range has a group, none lies below the least or above the most, and from each to the next there is at least one
-- group that is in neither
abbrev pub Rises : (least most : ℕ) → List GroupRange → Type 0
Rises least most [] = Unit {0}
Rises least most (range ∷ ranges) =
    (least ≤ range.low.0) × (range.low.0 ≤ range.high.0) × (range.high.0 ≤ most) × Rises (range.high.0 + 2) most ranges
