use Rattle.std.proofs.Common.{◌≤◌, ◌<◌, suc}
use Rattle.block_map.specs.Numbers.{start}
use Rattle.block_map.proofs.numbers.key_at.Given as goal

abbrev pub invariant-loop-level : goal.invariant-loop-level
invariant-loop-level l = (l.level ≤ 3) × (l.level < 3 → l.number < start l.blocks (suc l.level))

abbrev pub decreases-loop-level : goal.decreases-loop-level
decreases-loop-level l = l.level
