use Rattle.std.proofs.Common.{[], ◌∷◌, ap}
use Rattle.pool_config.specs.Spelling.{leaf_bytes}
use Rattle.pool_config.proofs.Placing.{puts_next, puts_same}
use Rattle.pool_config.proofs.trees.put_leaf.Goals as goal

pub returns-clause-piece : goal.returns-clause-piece
unfolding leaf_bytes
returns-clause-piece c =
    puts_next (puts_next (puts_next c.put_u8-at.ensures.piece c.put_u64-at.ensures.piece) c.put_name-at.ensures.piece)
    (puts_next (puts_same (ap (λ f. f ∷ []) c.flags_of.ensures) c.put_u8-at-2.ensures.piece) c.put_log.ensures.piece)
