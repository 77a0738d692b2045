-- The groups of a set as ranges in rising order, as they are written down and shown.
use Rattle.std.specs.Prelude.{ℕ, zero, suc, ◌+◌, Bool, ◌&&◌, ◌==◌, cond, nat_le, List, [], ◌∷◌}
use Rattle.std.specs.List.{list_any}
use Rattle.mp_base.specs.declared.range.GroupRange.{GroupRange}
use Rattle.group_set.specs.declared.run.Run.{Run}

-- the group lies in the range
abbrev pub in_range : GroupRange → ℕ → Bool
in_range range g = nat_le range.low.0 g && nat_le g range.high.0

-- the group lies in one of the ranges
abbrev pub in_ranges : List GroupRange → ℕ → Bool
in_ranges ranges g = list_any (λ range. in_range range g) ranges

-- the range of this group alone
abbrev pub range_of_one : ℕ → GroupRange
range_of_one g = record { low = record { 0 = g }; high = record { 0 = g } }

-- the range, taken further to this group
abbrev pub range_up_to : GroupRange → ℕ → GroupRange
range_up_to range g = record { low = range.low; high = record { 0 = g } }

-- one group more at the end: the last range goes on with it where it ends just before, else it is a range of its own
abbrev pub extended : ℕ → List GroupRange → List GroupRange
extended g [] = range_of_one g ∷ []
extended g (range ∷ []) = cond (range.high.0 + 1 == g) (range_up_to range g ∷ []) (range ∷ range_of_one g ∷ [])
extended g (range ∷ (next ∷ ranges)) = range ∷ extended g (next ∷ ranges)

-- the maximal ranges of the groups from 1 to n that a set has, in rising order
unfoldable pub ranges_upto : (ℕ → Bool) → ℕ → List GroupRange
ranges_upto has zero = []
ranges_upto has (suc n) = cond (has (suc n)) (extended (suc n) (ranges_upto has n)) (ranges_upto has n)

-- a run as a range, and back
abbrev pub range_of : Run → GroupRange
range_of run = record { low = record { 0 = run.low }; high = record { 0 = run.high } }

abbrev pub run_of : GroupRange → Run
run_of range = record { low = range.low.0; high = range.high.0 }
