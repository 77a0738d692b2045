use Rattle.txg_history.proofs.Containing.{found_contents}
use Rattle.txg_history.proofs.Looking.{looks_find}
use Rattle.txg_history.proofs.Yields.{finds_some, yield_live}
use Rattle.txg_history.proofs.openings.openings_find_a_live_record.Goals as goal

pub returns : goal.returns
returns c = record { some = finds_some; each = yield_live; along = looks_find; contents = found_contents }
