use Rattle.txg_history.proofs.Freezing.{empty_freeze}
use Rattle.txg_history.proofs.turns.empty_groups_may_be_frozen.Goals as goal

pub returns : goal.returns
returns c = empty_freeze
