use Rattle.pool_codec.proofs.LeavesKept.{leaves_kept, owed_is_the_log}
use Rattle.pool_codec.proofs.laws.leaves_are_kept.Goals as goal

pub returns-clause-all : goal.returns-clause-all
returns-clause-all c = leaves_kept 1

pub returns-clause-log : goal.returns-clause-log
returns-clause-log c = λ top leaf. owed_is_the_log leaf.log
