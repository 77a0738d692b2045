use Rattle.std.proofs.Common.{◌≡◌, take}
use Rattle.std.specs.Prelude.{map}
use Rattle.pool_wire.specs.Text.{leaf_text}
use Rattle.pool_wire.specs.Words.{with_commas}
use Rattle.pool_wire.proofs.text.write_leaves.Given as goal

-- the leaves so far
abbrev pub invariant-loop-at : goal.invariant-loop-at
invariant-loop-at l = l.text.items ≡ with_commas (map leaf_text (take l.at l.leaves))
