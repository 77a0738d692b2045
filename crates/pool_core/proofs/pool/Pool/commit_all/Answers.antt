use Rattle.std.proofs.Common.{arith}
use Rattle.pool_core.proofs.Commits.{all_committed, commits_more}
use Rattle.pool_core.proofs.pool.Pool.commit_all.Goals as goal

pub returns-clause-pair : goal.returns-clause-pair
returns-clause-pair c = c.loop-at.invariant.same.pair

pub returns-clause-committed : goal.returns-clause-committed
returns-clause-committed c = λ s r. all_committed c.args.self.now c.loop-at.self s _ c.loop-at.invariant (omega arith) r

pub loop-at-preserved : goal.loop-at-preserved
loop-at-preserved c = commits_more c.args.self.now c.loop-at.self _ c.loop-at.at c.loop-at.invariant c.commit_at.ensures
