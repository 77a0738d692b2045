use Rattle.vdev_tree.proofs.Built.{is_top_form}
use Rattle.vdev_tree.proofs.top.Top.copy.Goals as goal

pub invariant_of-result : goal.invariant_of-result
invariant_of-result c = record { valid = is_top_form c.in_ok-copy.field-0 c.args.self.now.mirror c.in_ok-copy.ensures.form c.args.self.now.valid }
