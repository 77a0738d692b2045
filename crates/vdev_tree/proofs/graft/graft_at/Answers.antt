use Rattle.std.proofs.Common.{refl, get_or}
use Rattle.vdev_tree.specs.declared.vdev.Vdev.TheVariants.{outs-Inner}
use Rattle.vdev_tree.specs.Children.{only, alone, children_of}
use Rattle.vdev_tree.specs.Edits.{grafted}
use Rattle.vdev_tree.proofs.Edited.{no_leaf_mirror, same_guid, place_inside, child_there, at_top, at_tree, at_same}
use Rattle.vdev_tree.proofs.graft.graft_at.Goals as goal

pub unreachable-requires : goal.unreachable-requires
unreachable-requires c = no_leaf_mirror c.args.mirror.now c.in-Leaf.field-0 c.in-Leaf.is c.requires.top

pub index_mut-requires : goal.index_mut-requires
index_mut-requires c = rw (c.in-Inner.is, outs-Inner) (place_inside c.args.mirror.now c.in-Inner.inner c.args.place c.in-Inner.is c.requires.top c.requires.inside)

pub graft_in-requires-clause-allowed : goal.graft_in-requires-clause-allowed
graft_in-requires-clause-allowed c = (
  c.requires.allowed.0,
  get_or (children_of c.args.mirror.now) c.args.place (alone (only c.args.leaf)),
  child_there c.args.mirror.now c.in-Inner.inner c.args.place c.index_mut.result.now (alone (only c.args.leaf)) c.in-Inner.is c.requires.top c.requires.inside
      (rw (c.in-Inner.is, outs-Inner) at c.index_mut.ensures.value),
  c.requires.allowed.1 (alone (only c.args.leaf)),
)

pub returns-clause-top : goal.returns-clause-top
returns-clause-top c = rw (c.in-Inner.is, outs-Inner) (at_top (grafted c.args.edit c.args.guid c.args.leaf) c.in-Inner.inner _ c.args.place c.index_mut.result.now c.graft_in.new.child
    (rw (c.in-Inner.is) at c.requires.top) (rw (c.in-Inner.is) at c.requires.inside) refl (rw (c.in-Inner.is, outs-Inner) at c.index_mut.ensures.value) refl
    (alone (only c.args.leaf)) c.graft_in.result c.graft_in.ensures.tree c.graft_in.ensures.unchanged)

pub returns-clause-tree : goal.returns-clause-tree
returns-clause-tree c = rw (c.in-Inner.is, outs-Inner) (at_tree (grafted c.args.edit c.args.guid c.args.leaf) c.in-Inner.inner _ c.args.place c.index_mut.result.now c.graft_in.new.child
    (rw (c.in-Inner.is) at c.requires.top) (rw (c.in-Inner.is) at c.requires.inside) refl (rw (c.in-Inner.is, outs-Inner) at c.index_mut.ensures.value) refl
    c.graft_in.result c.graft_in.ensures.tree)

pub returns-clause-unchanged : goal.returns-clause-unchanged
returns-clause-unchanged c = rw (c.in-Inner.is, outs-Inner) (at_same (grafted c.args.edit c.args.guid c.args.leaf) c.in-Inner.inner _ c.args.place c.index_mut.result.now c.graft_in.new.child
    (rw (c.in-Inner.is) at c.requires.top) (rw (c.in-Inner.is) at c.requires.inside) refl (rw (c.in-Inner.is, outs-Inner) at c.index_mut.ensures.value) refl
    (alone (only c.args.leaf)) c.graft_in.result c.graft_in.ensures.unchanged)

pub returns-clause-guid : goal.returns-clause-guid
returns-clause-guid c = rw (c.in-Inner.is, outs-Inner) (same_guid _ c.in-Inner.inner _ refl refl)
