use Rattle.txg_history.proofs.Settling.{settled_since, settled_since_joined, opening_settles_none, settled_recorded}
use Rattle.txg_history.proofs.settled.settled_groups_were_owed_throughout.Goals as goal

pub returns : goal.returns
returns c = record { since = settled_since; joined = settled_since_joined; opens = opening_settles_none; records = settled_recorded }
