use Rattle.txg_history.proofs.Folding.{member_ever}
use Rattle.txg_history.proofs.contents.members_are_brought_in.Goals as goal

pub returns : goal.returns
returns c = member_ever
