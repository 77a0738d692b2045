use Rattle.pool_config.specs.Spelling.{top_bytes}
use Rattle.pool_config.proofs.Placing.{puts_next}
use Rattle.pool_config.proofs.trees.put_top.Goals as goal

pub returns-clause-piece : goal.returns-clause-piece
unfolding top_bytes
returns-clause-piece c = puts_next c.put_u64-at.ensures.piece c.put_vdev.ensures.piece
