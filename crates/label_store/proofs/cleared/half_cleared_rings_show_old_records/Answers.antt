use Rattle.label_store.proofs.Unfound.{wipe_before, wipe_held, stamp_before, stamp_held}
use Rattle.label_store.proofs.cleared.half_cleared_rings_show_old_records.Goals as goal

pub returns : goal.returns
returns c = record { wiped_held = wipe_held; stamped_held = stamp_held; wiped = wipe_before; stamped = stamp_before }
