use Rattle.txg_history.proofs.Twins.{no_twin}
use Rattle.txg_history.proofs.Yields.{identity_is}
use Rattle.txg_history.proofs.openings.identities_are_the_members.Goals as goal

pub returns : goal.returns
returns c = record { no_twin = no_twin; identity = identity_is }
