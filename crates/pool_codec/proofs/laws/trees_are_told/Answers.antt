use Rattle.pool_codec.proofs.TreesTold.{number_is_told, children_are_told}
use Rattle.pool_codec.proofs.laws.trees_are_told.Goals as goal

pub returns-clause-number : goal.returns-clause-number
returns-clause-number c = number_is_told

pub returns-clause-children : goal.returns-clause-children
returns-clause-children c = children_are_told
