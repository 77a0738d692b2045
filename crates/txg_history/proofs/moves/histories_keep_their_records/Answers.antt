use Rattle.txg_history.proofs.Surviving.{survives_throughout, survives_sound, calls_true, crash_may}
use Rattle.txg_history.proofs.moves.histories_keep_their_records.Goals as goal

pub returns : goal.returns
returns c = record { throughout = survives_throughout; sound = survives_sound; true_to = calls_true; crash = crash_may }
