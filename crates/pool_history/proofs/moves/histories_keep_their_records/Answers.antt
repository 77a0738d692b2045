use Rattle.pool_history.proofs.Surviving.{survives_throughout, survives_sound, crash_may}
use Rattle.pool_history.proofs.moves.histories_keep_their_records.Goals as goal

pub returns : goal.returns
returns c = record { throughout = survives_throughout; sound = survives_sound; crash = crash_may }
