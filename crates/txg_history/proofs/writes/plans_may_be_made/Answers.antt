use Rattle.txg_history.proofs.Sparing.{part_may, reading_sparing, elsewhere_sparing}
use Rattle.txg_history.proofs.writes.plans_may_be_made.Goals as goal

pub returns : goal.returns
returns c = record { allowed = λ codec p plan made outcome. part_may codec plan made outcome p; reading = reading_sparing; elsewhere = elsewhere_sparing }
