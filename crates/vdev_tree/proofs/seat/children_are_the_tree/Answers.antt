use Rattle.vdev_tree.proofs.Shapes.{top_is, mirror_leaves, mirror_marks}
use Rattle.vdev_tree.proofs.seat.children_are_the_tree.Goals as goal

pub returns-clause-leaves : goal.returns-clause-leaves
returns-clause-leaves c = mirror_leaves c.args.top.now.mirror _ (top_is c.args.top.now.mirror c.args.top.now.valid)

pub returns-clause-built : goal.returns-clause-built
returns-clause-built c = mirror_marks c.args.top.now.mirror _ (top_is c.args.top.now.mirror c.args.top.now.valid)

pub returns-clause-some : goal.returns-clause-some
returns-clause-some c = (top_is c.args.top.now.mirror c.args.top.now.valid).some

pub returns-clause-few : goal.returns-clause-few
returns-clause-few c = (top_is c.args.top.now.mirror c.args.top.now.valid).few
