use Rattle.vdev_tree.proofs.Built.{is_top_form}
use Rattle.vdev_tree.proofs.top.Top.reserve.Goals as goal

pub invariant_of-self : goal.invariant_of-self
invariant_of-self c = record { valid = is_top_form c.reserve_leaves.new.vdev c.args.self.now.mirror c.reserve_leaves.ensures.form c.args.self.now.valid }
