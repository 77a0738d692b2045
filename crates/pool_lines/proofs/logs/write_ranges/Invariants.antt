use Rattle.std.proofs.Common.{◌≡◌, take}
use Rattle.std.specs.Prelude.{map}
use Rattle.pool_lines.specs.Text.{range_text}
use Rattle.pool_lines.specs.Words.{with_commas}
use Rattle.pool_lines.proofs.logs.write_ranges.Given as goal

-- the ranges so far
abbrev pub invariant-loop-at : goal.invariant-loop-at
invariant-loop-at l = l.text.items ≡ with_commas (map range_text (take l.at l.ranges))
