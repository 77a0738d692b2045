use Rattle.pool_moves.proofs.ResilverWalks.{resume_walks, resilver_walks}
use Rattle.pool_moves.proofs.openings.openings_may_be_committed.Goals as goal

pub returns : goal.returns
returns c = record { commit = resume_walks; resilver = resilver_walks }
