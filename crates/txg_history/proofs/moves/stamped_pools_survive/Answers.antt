use Rattle.txg_history.proofs.Stamping.{stamped_survives, stamp_blanks}
use Rattle.txg_history.proofs.moves.stamped_pools_survive.Goals as goal

pub returns : goal.returns
returns c = record { begins = stamped_survives; stamps = stamp_blanks }
