use Rattle.vdev_tree.specs.declared.vdev.LeafVdev.{LeafVdev}
use Rattle.vdev_tree.specs.Tree.{leaves}
use Rattle.vdev_tree.specs.Changes.{with_state}
use Rattle.vdev_tree.proofs.Lists.{AllZip-mapped}
use Rattle.vdev_tree.proofs.top.Top.set_state.Goals as goal

pub returns-clause-leaves : goal.returns-clause-leaves
returns-clause-leaves c =
    AllZip-mapped LeafVdev (with_state c.args.at c.args.state c.args.temporary) (leaves c.args.self.now.mirror) (leaves c.change.new.self.mirror) c.change.ensures.leaves
