use Rattle.config_codec.specs.Spelling.{log_bytes}
use Rattle.config_codec.proofs.Placing.{puts_next}
use Rattle.config_codec.proofs.encoding.put_log.Goals as goal

pub returns-clause-piece : goal.returns-clause-piece
unfolding log_bytes
returns-clause-piece c = puts_next c.put_u32-at.ensures.piece c.put_ranges.ensures.piece
