use Rattle.pool_moves.proofs.Seeking.{seeks_live}
use Rattle.pool_moves.proofs.openings.openings_seek_a_live_record.Goals as goal

pub returns : goal.returns
returns c = seeks_live
