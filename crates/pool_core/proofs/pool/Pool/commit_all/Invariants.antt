use Rattle.pool_core.specs.Committing.{CommitsBelow}
use Rattle.pool_core.proofs.pool.Pool.commit_all.Given as goal

abbrev pub invariant-loop-at : goal.invariant-loop-at
invariant-loop-at l = CommitsBelow l.initial.self l.at l.self
