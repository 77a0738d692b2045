use Rattle.vdev_tree.proofs.Built.{is_top_form}
use Rattle.dtl_rules.proofs.widening.widen_top.Goals as goal

pub invariant_of-top : goal.invariant_of-top
invariant_of-top c = record { valid = is_top_form c.widen_first.new.vdev c.args.top.now.mirror c.widen_first.ensures.form c.args.top.now.valid }
