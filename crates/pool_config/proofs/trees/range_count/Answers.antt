use Rattle.std.proofs.Common.{◌^◌, sym, arith}
use Rattle.group_set.proofs.Counted.{upto_counted}
use Rattle.pool_config.specs.Seen.{ranges_of}
use Rattle.pool_config.proofs.trees.range_count.Goals as goal

pub returns : goal.returns
unfolding ranges_of
returns c = sym (upto_counted c.args.log.now (2 ^ 62) c.ranges-2.result (omega arith) c.lies_within.ensures
    c.ranges-2.ensures.runs)
