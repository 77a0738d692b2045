use Rattle.txg_history.proofs.Losing.{lost_among, lost_just, lost_by, joined_or_other, stamps_may, stamp_refused}
use Rattle.txg_history.proofs.members.devices_are_lost_by_stamps.Goals as goal

pub returns : goal.returns
returns c = record { only = lost_among; does = lost_by; just = lost_just; joins = joined_or_other; stamps = stamps_may; needed = stamp_refused }
