use Rattle.pool_moves.proofs.ScanEnds.{step_walks, scrub_walks, stop_walks}
use Rattle.pool_moves.proofs.scans.scans_may_be_made.Goals as goal

pub returns : goal.returns
returns c = record { step = step_walks; scrub = scrub_walks; stop = stop_walks }
