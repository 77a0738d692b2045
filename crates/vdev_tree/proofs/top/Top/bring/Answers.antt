use Rattle.vdev_tree.specs.declared.vdev.LeafVdev.{LeafVdev}
use Rattle.vdev_tree.specs.Tree.{leaves}
use Rattle.vdev_tree.specs.Changes.{brought}
use Rattle.vdev_tree.proofs.Lists.{AllZip-mapped}
use Rattle.vdev_tree.proofs.top.Top.bring.Goals as goal

pub returns-clause-leaves : goal.returns-clause-leaves
returns-clause-leaves c = AllZip-mapped LeafVdev (brought c.args.at c.args.dev) (leaves c.args.self.now.mirror) (leaves c.change.new.self.mirror) c.change.ensures.leaves
