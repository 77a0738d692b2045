use Rattle.pool_codec.proofs.NewMirrors.{number_is, children_are}
use Rattle.pool_codec.proofs.laws.a_new_mirror_has_its_leaves.Goals as goal

pub returns-clause-number : goal.returns-clause-number
returns-clause-number c = number_is

pub returns-clause-children : goal.returns-clause-children
returns-clause-children c = children_are
