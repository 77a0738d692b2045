use Rattle.std.proofs.Common.{◌≡◌, take}
use Rattle.std.specs.Prelude.{map}
use Rattle.pool_lines.specs.Text.{named_leaf_text}
use Rattle.pool_lines.specs.Words.{with_commas}
use Rattle.pool_lines.proofs.refusing.write_leaves.Given as goal

-- the leaves so far
abbrev pub invariant-loop-at : goal.invariant-loop-at
invariant-loop-at l = l.text.items ≡ with_commas (map named_leaf_text (take l.at l.leaves))
