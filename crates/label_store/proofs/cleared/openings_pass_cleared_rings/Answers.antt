use Rattle.label_store.proofs.Passed.{none_on_cleared, wiped_unfound, stamp_found, stamp_missed, unhurt_calls}
use Rattle.label_store.proofs.cleared.openings_pass_cleared_rings.Goals as goal

pub returns : goal.returns
returns c = record { records = none_on_cleared; wiped = wiped_unfound; stamped = stamp_found; own = stamp_missed; unhurt = unhurt_calls }
