use Rattle.pool_moves.proofs.OpeningWalks.{opening_opens, opening_may, opening_turns, opening_loses}
use Rattle.pool_moves.proofs.Seeking.{row_no_twin}
use Rattle.pool_moves.proofs.openings.openings_read_the_record.Goals as goal

pub returns : goal.returns
returns c = record { state = opening_opens; calls = opening_may; turns = opening_turns; pages = opening_loses; no_twin = row_no_twin }
