use Rattle.pool_moves.proofs.Making.{made_kept}
use Rattle.pool_moves.proofs.rows.made_pools_are_kept.Goals as goal

pub returns : goal.returns
returns c = made_kept
