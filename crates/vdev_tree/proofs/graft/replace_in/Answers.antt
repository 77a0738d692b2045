use Rattle.std.proofs.Common.{refl}
use Rattle.vdev_tree.specs.declared.vdev.Vdev.TheVariants.{outs-Inner}
use Rattle.vdev_tree.proofs.Edited.{replaced_inner, replaced_same}
use Rattle.vdev_tree.proofs.graft.replace_in.Goals as goal

pub returns-in-Inner-clause-tree : goal.returns-in-Inner-clause-tree
returns-in-Inner-clause-tree c = rw (c.in-Inner.is, outs-Inner) (replaced_inner c.wrap-in-Inner.result c.args.guid c.args.leaf c.in-Inner.spare _ c.index_mut.result.now c.wrap-in-Inner.new.slot
    refl refl (rw (c.in-Inner.is, outs-Inner) at c.index_mut.ensures.value) refl (rw (c.in-Inner.is) at c.requires) c.wrap-in-Inner.ensures.inner)

pub returns-in-Inner-clause-unchanged : goal.returns-in-Inner-clause-unchanged
returns-in-Inner-clause-unchanged c = rw (c.in-Inner.is, outs-Inner) (replaced_same c.wrap-in-Inner.result c.in-Inner.spare _ c.index_mut.result.now c.wrap-in-Inner.new.slot
    refl refl (rw (c.in-Inner.is, outs-Inner) at c.index_mut.ensures.value) refl c.wrap-in-Inner.ensures.unchanged)
