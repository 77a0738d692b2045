use Rattle.pool_config.proofs.Alike.{one_spelling}
use Rattle.pool_config.proofs.Deciding.{back, is_config, short}
use Rattle.pool_config.proofs.laws.each_has_one_spelling.Goals as goal

pub returns-clause-back : goal.returns-clause-back
returns-clause-back c = back

pub returns-clause-valid : goal.returns-clause-valid
returns-clause-valid c = λ bytes f e. (is_config bytes f e).valid

pub returns-clause-spelled : goal.returns-clause-spelled
returns-clause-spelled c = λ bytes f e. (is_config bytes f e).spelled

pub returns-clause-fits : goal.returns-clause-fits
returns-clause-fits c = short

pub returns-clause-one : goal.returns-clause-one
returns-clause-one c = one_spelling
