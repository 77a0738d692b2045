use Rattle.std.proofs.Common.{refl}
use Rattle.vdev_tree.proofs.Cut.{cuts_first_leaf, cuts_first_pair}
use Rattle.vdev_tree.proofs.prune.cut_first.Goals as goal

pub returns-in-Leaf : goal.returns-in-Leaf
returns-in-Leaf c =
    cuts_first_leaf c.args.at c.args.spare.guid c.args.first c.in-Leaf.leaf c.promoted.result c.args.spare.children.items c.in-Leaf.is c.requires.some c.promoted.ensures

pub returns-in-Inner : goal.returns-in-Inner
returns-in-Inner c =
    cuts_first_pair c.args.at c.args.spare.guid c.args.first c.in-Inner.replacing _ c.split-pair.result.gone c.split-pair.result.stays c.args.spare.children.items c.in-Inner.is
    refl c.requires.kind c.put_in.ensures.items c.requires.some c.split-pair.ensures.gone c.split-pair.ensures.stays
