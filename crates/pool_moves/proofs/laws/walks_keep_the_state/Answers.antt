use Rattle.pool_moves.proofs.Keeping.{fronts_keep}
use Rattle.pool_moves.proofs.laws.walks_keep_the_state.Goals as goal

pub returns : goal.returns
returns c = fronts_keep
