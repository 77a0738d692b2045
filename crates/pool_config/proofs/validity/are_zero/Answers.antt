use Rattle.mp_base.specs.Block.{zeros}
use Rattle.pool_config.proofs.validity.are_zero.Goals as goal

pub returns : goal.returns
unfolding zeros
returns c = c.eq.ensures
