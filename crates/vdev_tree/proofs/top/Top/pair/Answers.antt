use Rattle.std.proofs.Common.{refl}
use Rattle.vdev_tree.proofs.Built.{pair_leaves, pair_built, pair_is_top}
use Rattle.vdev_tree.proofs.top.Top.pair.Goals as goal

pub invariant_of-result : goal.invariant_of-result
invariant_of-result c = record { valid = pair_is_top _ c.args.first c.args.second refl c.in_ok-children.ensures.items }

pub returns-clause-leaves : goal.returns-clause-leaves
returns-clause-leaves c = pair_leaves _ c.args.first c.args.second c.in_ok-children.ensures.items

pub returns-clause-built : goal.returns-clause-built
returns-clause-built c = pair_built _ c.args.first c.args.second refl c.in_ok-children.ensures.items
