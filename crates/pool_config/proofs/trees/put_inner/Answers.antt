use Rattle.std.proofs.Common.{[], ◌∷◌, ap}
use Rattle.pool_config.specs.Spelling.{inner_bytes}
use Rattle.pool_config.proofs.Placing.{puts_next, puts_same}
use Rattle.pool_config.proofs.trees.put_inner.Goals as goal

pub returns-clause-piece : goal.returns-clause-piece
unfolding inner_bytes
returns-clause-piece c =
    puts_next (puts_next (puts_same (ap (λ k. k ∷ []) c.kind_byte.ensures) c.put_u8-at.ensures.piece)
    c.put_u64-at.ensures.piece) c.put_u8.ensures.piece
