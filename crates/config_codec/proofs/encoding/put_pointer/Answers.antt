use Rattle.config_codec.proofs.Placing.{puts_hole}
use Rattle.config_codec.proofs.encoding.put_pointer.Goals as goal

pub returns-in-None-clause-piece : goal.returns-in-None-clause-piece
returns-in-None-clause-piece c = puts_hole c.args.slot c.in-None.is c.put_zeros.ensures.piece
