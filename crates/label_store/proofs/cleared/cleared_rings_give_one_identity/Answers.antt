use Rattle.label_store.proofs.Unfound.{zeros_identity, stamp_identity, only_identity}
use Rattle.label_store.proofs.cleared.cleared_rings_give_one_identity.Goals as goal

pub returns : goal.returns
returns c = record { wiped = zeros_identity; stamped = stamp_identity; no_other = only_identity }
