use Rattle.std.proofs.Common.{refl}
use Rattle.vdev_tree.specs.declared.vdev.Vdev.TheVariants.{outs-Inner}
use Rattle.vdev_tree.proofs.Edited.{spared_inner, spared_same}
use Rattle.vdev_tree.proofs.graft.spare_in.Goals as goal

pub returns-in-Inner-clause-tree : goal.returns-in-Inner-clause-tree
returns-in-Inner-clause-tree c = rw (c.in-Inner.is, outs-Inner) (spared_inner c.push_leaf.result c.args.guid c.args.leaf c.in-Inner.spare _
    refl refl (rw (c.in-Inner.is) at c.requires) (rw (c.in-Inner.is, outs-Inner) at c.push_leaf.ensures.items))

pub returns-in-Inner-clause-unchanged : goal.returns-in-Inner-clause-unchanged
returns-in-Inner-clause-unchanged c = rw (c.in-Inner.is, outs-Inner) (spared_same c.push_leaf.result c.in-Inner.spare _ refl refl
    (rw (c.in-Inner.is, outs-Inner) at c.push_leaf.ensures.unchanged))
