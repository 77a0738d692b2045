use Rattle.pool_moves.proofs.LineWalks.{turn_walks, sync_walks}
use Rattle.pool_moves.proofs.rows.turns_may_be_made.Goals as goal

pub returns : goal.returns
returns c = record { turn = turn_walks; sync = sync_walks }
