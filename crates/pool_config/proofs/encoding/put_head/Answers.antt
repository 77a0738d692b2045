use Rattle.pool_config.specs.Spelling.{head_bytes}
use Rattle.pool_config.proofs.Placing.{puts_next}
use Rattle.pool_config.proofs.encoding.put_head.Goals as goal

pub returns-clause-piece : goal.returns-clause-piece
unfolding head_bytes
returns-clause-piece c =
    puts_next (puts_next (puts_next (puts_next
    (puts_next (puts_next c.put_u32-at.ensures.piece c.put_u64-at.ensures.piece)
    c.put_name-at.ensures.piece) c.put_u64-at-2.ensures.piece) c.put_u64-at-3.ensures.piece)
    c.put_u64-at-4.ensures.piece) c.put_pointer.ensures.piece
