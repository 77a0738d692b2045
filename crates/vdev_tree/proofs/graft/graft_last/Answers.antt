use Rattle.std.proofs.Common.{refl}
use Rattle.vdev_tree.specs.declared.vdev.Vdev.TheVariants.{outs-Inner}
use Rattle.vdev_tree.proofs.Edited.{no_leaf_mirror, same_guid, last_top, last_tree, last_same}
use Rattle.vdev_tree.proofs.graft.graft_last.Goals as goal

pub unreachable-requires : goal.unreachable-requires
unreachable-requires c = no_leaf_mirror c.args.mirror.now c.in-Leaf.field-0 c.in-Leaf.is c.requires.top

pub returns-clause-top : goal.returns-clause-top
returns-clause-top c = rw (c.in-Inner.is, outs-Inner) (last_top c.push_leaf.result c.in-Inner.inner _ c.args.leaf
    (rw (c.in-Inner.is) at c.requires.top) (rw (c.in-Inner.is) at c.requires.room) refl
    (rw (c.in-Inner.is, outs-Inner) at c.push_leaf.ensures.items) (rw (c.in-Inner.is, outs-Inner) at c.push_leaf.ensures.unchanged))

pub returns-clause-tree : goal.returns-clause-tree
returns-clause-tree c = rw (c.in-Inner.is, outs-Inner) (last_tree c.push_leaf.result c.in-Inner.inner _ c.args.leaf
    (rw (c.in-Inner.is) at c.requires.top) (rw (c.in-Inner.is) at c.requires.room) refl (rw (c.in-Inner.is, outs-Inner) at c.push_leaf.ensures.items))

pub returns-clause-unchanged : goal.returns-clause-unchanged
returns-clause-unchanged c = rw (c.in-Inner.is, outs-Inner) (last_same c.push_leaf.result c.in-Inner.inner _
    (rw (c.in-Inner.is) at c.requires.top) refl (rw (c.in-Inner.is, outs-Inner) at c.push_leaf.ensures.unchanged))

pub returns-clause-guid : goal.returns-clause-guid
returns-clause-guid c = rw (c.in-Inner.is, outs-Inner) (same_guid _ c.in-Inner.inner _ refl refl)
