use Rattle.vdev_tree.specs.declared.vdev.LeafVdev.{LeafVdev}
use Rattle.vdev_tree.specs.Tree.{leaves}
use Rattle.vdev_tree.specs.Changes.{marked_at}
use Rattle.vdev_tree.proofs.Lists.{AllZip-mapped}
use Rattle.vdev_tree.proofs.top.Top.mark.Goals as goal

pub returns-clause-leaves : goal.returns-clause-leaves
returns-clause-leaves c = AllZip-mapped LeafVdev (marked_at c.args.at) (leaves c.args.self.now.mirror) (leaves c.change.new.self.mirror) c.change.ensures.leaves
