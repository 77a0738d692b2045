use Rattle.pool_config.specs.Spelling.{spares_bytes}
use Rattle.pool_config.proofs.Placing.{puts_next}
use Rattle.pool_config.proofs.encoding.put_spares.Goals as goal

pub returns-clause-piece : goal.returns-clause-piece
unfolding spares_bytes
returns-clause-piece c = puts_next c.put_u32-at.ensures.piece c.put_names.ensures.piece
