use Rattle.pool_moves.proofs.OnlineWalks.{online_walks}
use Rattle.pool_moves.proofs.openings.leaves_may_come_online.Goals as goal

pub returns : goal.returns
returns c = online_walks
