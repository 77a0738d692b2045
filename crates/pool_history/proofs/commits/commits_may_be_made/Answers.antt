use Rattle.pool_history.proofs.Landing.{landed}
use Rattle.pool_history.proofs.Sparing.{part_may}
use Rattle.pool_history.proofs.commits.commits_may_be_made.Goals as goal

pub returns : goal.returns
returns c = record { allowed = λ head_of p plan made outcome. part_may head_of plan made outcome p; landed = landed }
