use Rattle.pool_history.proofs.Yields.{finds_some, yield_live}
use Rattle.pool_history.proofs.openings.openings_find_a_live_record.Goals as goal

pub returns : goal.returns
returns c = record { some = finds_some; each = yield_live }
