use Rattle.pool_config.proofs.Alike.{trees_alike}
use Rattle.pool_config.proofs.Shaping.{tree_is_top}
use Rattle.pool_config.proofs.laws.a_tree_is_written_out.Goals as goal

pub returns-clause-top : goal.returns-clause-top
returns-clause-top c = tree_is_top

pub returns-clause-one : goal.returns-clause-one
returns-clause-one c = trees_alike
