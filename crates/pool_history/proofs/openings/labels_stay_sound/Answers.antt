use Rattle.pool_history.proofs.Tracked.{labels_stay, labels_stay_since}
use Rattle.pool_history.proofs.openings.labels_stay_sound.Goals as goal

pub returns : goal.returns
returns c = record { stays = labels_stay; since = labels_stay_since }
