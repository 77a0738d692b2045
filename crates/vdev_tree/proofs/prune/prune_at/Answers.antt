use Rattle.std.proofs.Common.{refl}
use Rattle.vdev_tree.specs.declared.vdev.Vdev.TheVariants.{outs-Inner}
use Rattle.vdev_tree.specs.Children.{only, alone}
use Rattle.vdev_tree.proofs.Edited.{no_leaf_mirror, same_guid, place_inside}
use Rattle.vdev_tree.proofs.Cut.{cut_requires, cut_top, cut_tree, cut_leaves}
use Rattle.vdev_tree.proofs.prune.prune_at.Goals as goal

pub unreachable-requires : goal.unreachable-requires
unreachable-requires c = no_leaf_mirror c.args.mirror.now c.in-Leaf.field-0 c.in-Leaf.is c.requires.top

pub remove-requires : goal.remove-requires
remove-requires c = rw (c.in-Inner.is, outs-Inner) (place_inside c.args.mirror.now c.in-Inner.inner c.args.place c.in-Inner.is c.requires.top c.requires.inside)

pub cut_out-cut-requires : goal.cut_out-cut-requires
cut_out-cut-requires c =
    cut_requires c.args.at c.args.mirror.now c.in-Inner.inner c.args.place c.remove.result c.in-Inner.is c.requires.top c.requires.inside
    (rw (c.in-Inner.is, outs-Inner) at c.remove.ensures.value) c.requires.here

pub returns-clause-top : goal.returns-clause-top
returns-clause-top c = rw (c.in-Inner.is, outs-Inner) (cut_top c.args.at c.in-Inner.inner _ c.args.place c.remove.result c.cut_out-cut.result.leaf c.cut_out-cut.result.rest
    (rw (c.in-Inner.is) at c.requires.top) (rw (c.in-Inner.is) at c.requires.inside) (rw (c.in-Inner.is) at c.requires.here) (rw (c.in-Inner.is) at c.requires.stays) refl
    (rw (c.in-Inner.is, outs-Inner) at c.remove.ensures.value) c.remove.new.self.items (rw (c.in-Inner.is, outs-Inner) at c.remove.ensures.items)
    c.put_rest.ensures c.cut_out-cut.ensures (alone (only c.cut_out-cut.result.leaf)))

pub returns-clause-tree : goal.returns-clause-tree
returns-clause-tree c = rw (c.in-Inner.is, outs-Inner) (cut_tree c.args.at c.in-Inner.inner _ c.args.place c.remove.result c.cut_out-cut.result.leaf c.cut_out-cut.result.rest
    (rw (c.in-Inner.is) at c.requires.top) (rw (c.in-Inner.is) at c.requires.inside) (rw (c.in-Inner.is) at c.requires.here) (rw (c.in-Inner.is) at c.requires.stays) refl
    (rw (c.in-Inner.is, outs-Inner) at c.remove.ensures.value) c.remove.new.self.items (rw (c.in-Inner.is, outs-Inner) at c.remove.ensures.items)
    c.put_rest.ensures c.cut_out-cut.ensures (alone (only c.cut_out-cut.result.leaf)))

pub returns-clause-leaves : goal.returns-clause-leaves
returns-clause-leaves c = rw (c.in-Inner.is, outs-Inner) (cut_leaves c.args.at c.in-Inner.inner _ c.args.place c.remove.result c.cut_out-cut.result.leaf c.cut_out-cut.result.rest
    (rw (c.in-Inner.is) at c.requires.top) (rw (c.in-Inner.is) at c.requires.inside) (rw (c.in-Inner.is) at c.requires.here) (rw (c.in-Inner.is) at c.requires.stays) refl
    (rw (c.in-Inner.is, outs-Inner) at c.remove.ensures.value) c.remove.new.self.items (rw (c.in-Inner.is, outs-Inner) at c.remove.ensures.items)
    c.put_rest.ensures c.cut_out-cut.ensures (alone (only c.cut_out-cut.result.leaf)))

pub returns-clause-guid : goal.returns-clause-guid
returns-clause-guid c = rw (c.in-Inner.is, outs-Inner) (same_guid _ c.in-Inner.inner _ refl refl)
