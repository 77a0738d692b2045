use Rattle.group_set.proofs.Upto.{upto_back, upto_has, upto_rises, upto_same, upto_further}
use Rattle.group_set.proofs.laws.ranges_are_exact.Goals as goal

pub returns-clause-back : goal.returns-clause-back
returns-clause-back c = upto_back

pub returns-clause-has : goal.returns-clause-has
returns-clause-has c = upto_has

pub returns-clause-rises : goal.returns-clause-rises
returns-clause-rises c = upto_rises

pub returns-clause-same : goal.returns-clause-same
returns-clause-same c = upto_same

pub returns-clause-further : goal.returns-clause-further
returns-clause-further c = upto_further
