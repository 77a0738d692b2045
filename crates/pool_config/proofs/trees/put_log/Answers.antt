use Rattle.std.proofs.Common.{ap}
use Rattle.pool_config.specs.Spelling.{log_bytes, be32}
use Rattle.pool_config.proofs.Placing.{puts_next, puts_same}
use Rattle.pool_config.proofs.trees.put_log.Goals as goal

pub returns-clause-piece : goal.returns-clause-piece
unfolding log_bytes
returns-clause-piece c =
    puts_next (puts_same (ap be32 c.range_count.ensures) c.put_u32-at.ensures.piece) c.put_ranges.ensures.piece
