use Rattle.std.proofs.Common.{List, ap₂}
use Rattle.vdev_tree.specs.Tree.{leaves}
use Rattle.vdev_tree.specs.declared.vdev.LeafVdev.{LeafVdev}
use Rattle.vdev_tree.proofs.Built.{is_top_form}
use Rattle.vdev_tree.proofs.Lists.{AllZip-mapped}
use Rattle.pool_config.specs.Seen.{VdevSeen}
use Rattle.open_pool.specs.Counting.{counted_leaf}
use Rattle.open_pool.proofs.count.count_top.Goals as goal

pub invariant_of-top : goal.invariant_of-top
invariant_of-top c = record { valid = is_top_form c.count_vdev.new.vdev c.args.top.now.mirror c.count_vdev.ensures.form c.args.top.now.valid }

pub returns : goal.returns
returns c =
    ap₂ (λ (vs : List VdevSeen) (ls : List LeafVdev). record { sectors = c.args.top.now.sectors; vdevs = vs; leaves = ls }) c.count_vdev.ensures.told
    (AllZip-mapped LeafVdev (counted_leaf c.args.counted) (leaves c.args.top.now.mirror) (leaves c.count_vdev.new.vdev) c.count_vdev.ensures.leaves)
