use Rattle.txg_history.proofs.Calming.{premises_met, stable_true, no_clash}
use Rattle.txg_history.proofs.Verified.{labels_sound}
use Rattle.txg_history.proofs.openings.premises_can_be_met.Goals as goal

pub returns : goal.returns
returns c = record { calm = premises_met; sound = labels_sound; true_to = stable_true; no_clash = no_clash }
