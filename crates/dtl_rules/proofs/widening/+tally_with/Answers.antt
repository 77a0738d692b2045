use Rattle.std.proofs.Common.{All, arith, ap, subst}
use Rattle.dtl_rules.specs.Widening.{total_ranges, most_ranges, IsCounted}
use Rattle.vdev_tree.proofs.Steps.{leaves_all}
use Rattle.dtl_rules.proofs.Totals.{total_more, most_more, total_leaf, most_leaf}
use Rattle.dtl_rules.proofs.Counted.{counted_leaf, counted_more}
use Rattle.dtl_rules.proofs.widening.+tally_with.Goals as goal

pub loop-child-preserved : goal.loop-child-preserved
loop-child-preserved t c =
    let vdevs = c.deref-child-items.result.now in
    let i = c.loop-child.child-index in
    record {
      total = omega (arith, c.tally_with-tally.ensures.total, c.loop-child.invariant.total, total_more vdevs i c.child-item.result (omega arith) c.child-item.is);
      most = omega (arith, c.tally_with-tally.ensures.most, c.loop-child.invariant.most, most_more vdevs i c.child-item.result (omega arith) c.child-item.is);
      counted = counted_more vdevs i c.child-item.result (omega arith) c.child-item.is c.loop-child.invariant.counted c.tally_with-tally.ensures.counted;
    }

pub returns-in-Leaf-clause-total : goal.returns-in-Leaf-clause-total
returns-in-Leaf-clause-total t c = omega (arith, c.tally_more.ensures.total, c.ranges-in-Leaf.ensures.count, total_leaf c.args.vdev.now c.in-Leaf.leaf c.in-Leaf.is)

pub returns-in-Leaf-clause-most : goal.returns-in-Leaf-clause-most
returns-in-Leaf-clause-most t c = omega (arith, c.tally_more.ensures.most, c.ranges-in-Leaf.ensures.count, most_leaf c.args.vdev.now c.in-Leaf.leaf c.in-Leaf.is)

pub returns-after-loop-child-clause-total : goal.returns-after-loop-child-clause-total
returns-after-loop-child-clause-total t c =
    omega (arith, c.loop-child.invariant.total, ap total_ranges (leaves_all c.args.vdev.now c.in-Inner.inner c.deref-child-items.result.now c.loop-child.child-index c.in-Inner.is c.deref-child-items.ensures.value (omega arith)))

pub returns-after-loop-child-clause-most : goal.returns-after-loop-child-clause-most
returns-after-loop-child-clause-most t c =
    omega (arith, c.loop-child.invariant.most, ap most_ranges (leaves_all c.args.vdev.now c.in-Inner.inner c.deref-child-items.result.now c.loop-child.child-index c.in-Inner.is c.deref-child-items.ensures.value (omega arith)))

pub returns-in-Leaf-clause-counted : goal.returns-in-Leaf-clause-counted
returns-in-Leaf-clause-counted t c =
    counted_leaf c.args.vdev.now c.in-Leaf.leaf c.ranges-in-Leaf.result c.in-Leaf.is c.ranges-in-Leaf.ensures.runs c.ranges-in-Leaf.ensures.count

pub returns-after-loop-child-clause-counted : goal.returns-after-loop-child-clause-counted
returns-after-loop-child-clause-counted t c =
    subst (All IsCounted) (leaves_all c.args.vdev.now c.in-Inner.inner c.deref-child-items.result.now c.loop-child.child-index c.in-Inner.is c.deref-child-items.ensures.value (omega arith))
    c.loop-child.invariant.counted
