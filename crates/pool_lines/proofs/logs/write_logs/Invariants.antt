use Rattle.std.proofs.Common.{◌≡◌, ◌++◌, take}
use Rattle.std.specs.Prelude.{codes}
use Rattle.std.specs.List.{flat_map}
use Rattle.pool_lines.specs.Text.{leaf_log_text}
use Rattle.pool_lines.proofs.logs.write_logs.Given as goal

-- the leaves so far
abbrev pub invariant-loop-leaf : goal.invariant-loop-leaf
invariant-loop-leaf l = l.text.items ≡ codes "ok" ++ flat_map leaf_log_text (take l.leaf-index l.leaves)
