use Rattle.std.proofs.Common.{arith}
use Rattle.dtl_rules.proofs.Totals.{total_tops, most_tops}
use Rattle.dtl_rules.proofs.Counted.{counted_tops}
use Rattle.dtl_rules.proofs.widening.tally_of_all.Goals as goal

pub loop-top-preserved : goal.loop-top-preserved
loop-top-preserved c =
    let i = c.loop-top.top-index in
    record {
      total = omega (arith, c.tally_with-tally.ensures.total, c.loop-top.invariant.total, total_tops c.args.tops.now i c.top-item.result (omega arith) c.top-item.is);
      most = omega (arith, c.tally_with-tally.ensures.most, c.loop-top.invariant.most, most_tops c.args.tops.now i c.top-item.result (omega arith) c.top-item.is);
      counted = counted_tops c.args.tops.now i c.top-item.result (omega arith) c.top-item.is c.loop-top.invariant.counted c.tally_with-tally.ensures.counted;
    }
