use Rattle.pool_config.proofs.Placing.{puts_next, puts_text}
use Rattle.pool_config.proofs.pieces.put_name.Goals as goal

pub returns-clause-piece : goal.returns-clause-piece
returns-clause-piece c = puts_text c.as_bytes-bytes.ensures (puts_next c.put_u8-at.ensures.piece c.put.ensures.piece)
