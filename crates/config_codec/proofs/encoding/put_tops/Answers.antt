use Rattle.config_codec.specs.Spelling.{tops_bytes}
use Rattle.config_codec.proofs.Placing.{puts_next}
use Rattle.config_codec.proofs.encoding.put_tops.Goals as goal

pub returns-clause-piece : goal.returns-clause-piece
unfolding tops_bytes
returns-clause-piece c =
    puts_next (puts_next (puts_next (puts_next c.put_u32-at.ensures.piece c.put_u64-at.ensures.piece)
    (puts_next c.put_u8-at.ensures.piece c.put_u64-at-2.ensures.piece))
    (puts_next c.put_u8-at-2.ensures.piece c.put_leaf-at.ensures.piece)) c.put_leaf.ensures.piece
