use Rattle.std.proofs.Common.{◌-◌}
use Rattle.pool_config.proofs.TakingTrees.{AreChildren}
use Rattle.pool_config.proofs.reading.+read_tree.Given as goal

abbrev pub invariant-loop : goal.invariant-loop
invariant-loop l =
    AreChildren l.number (l.levels - 1) (l.head.count - l.counter) l.head.count l.initial.cursor l.cursor
    l.initial.members l.members l.children.items

abbrev pub decreases-read_tree : goal.decreases-read_tree
decreases-read_tree l = l.levels
