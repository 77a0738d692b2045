use Rattle.pool_moves.proofs.AwayWalks.{write_walks, offline_walks}
use Rattle.pool_moves.proofs.rows.leaves_may_go_offline.Goals as goal

pub returns : goal.returns
returns c = record { write = write_walks; offline = offline_walks }
