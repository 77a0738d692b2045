use Rattle.vdev_tree.proofs.Built.{is_top_form}
use Rattle.vdev_tree.proofs.top.Top.change.Goals as goal

pub invariant_of-self : goal.invariant_of-self
invariant_of-self g c = record { valid = is_top_form c.change_leaves.new.vdev c.args.self.now.mirror c.change_leaves.ensures.form c.args.self.now.valid }
