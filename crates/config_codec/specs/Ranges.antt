-- Whether ranges of groups rise, as a test.
use Rattle.std.specs.Prelude.{ℕ, ◌+◌, ◌&&◌, Bool, true, nat_le, List, [], ◌∷◌}
use Rattle.mp_base.specs.declared.range.GroupRange.{GroupRange}

-- `Rises` as a test
abbrev pub rises : (least most : ℕ) → List GroupRange → Bool
rises least most [] = true
rises least most (r ∷ ranges) =
    nat_le least r.low.0 && (nat_le r.low.0 r.high.0 && (nat_le r.high.0 most && rises (r.high.0 + 2) most ranges))
