use Rattle.pool_config.proofs.Testing.{valid_from, valid_test}
use Rattle.pool_config.proofs.laws.validity_is_tested.Goals as goal

pub returns : goal.returns
returns c = λ f. (valid_from f, valid_test f)
