use Rattle.vdev_tree.proofs.Built.{is_top_form}
use Rattle.txg_engine.proofs.room.reserve_top.Goals as goal

pub invariant_of-top : goal.invariant_of-top
invariant_of-top c = record {
  valid = is_top_form c.reserve_leaves.new.vdev c.args.top.now.mirror c.reserve_leaves.ensures.form c.args.top.now.valid;
}
