use Rattle.pool_moves.proofs.DetachWalks.{detach_walks}
use Rattle.pool_moves.proofs.GraftWalks.{graft_walks}
use Rattle.pool_moves.proofs.trees.trees_may_be_changed.Goals as goal

pub returns : goal.returns
returns c = record { graft = graft_walks; detach = detach_walks }
