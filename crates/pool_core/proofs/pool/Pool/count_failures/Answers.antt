use Rattle.pool_core.proofs.Ending.{fails_in}
use Rattle.pool_core.proofs.pool.Pool.count_failures.Goals as goal

pub returns-clause-round : goal.returns-clause-round
returns-clause-round g c = λ s r. fails_in _ s c.commit_round.new.stayed c.failures.result (c.commit_round.ensures.round s r) c.failures.ensures
