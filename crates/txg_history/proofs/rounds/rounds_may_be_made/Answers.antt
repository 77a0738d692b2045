use Rattle.txg_history.proofs.RoundMoves.{round_may, round_ends}
use Rattle.txg_history.proofs.RoundShapes.{round_marked}
use Rattle.txg_history.proofs.rounds.rounds_may_be_made.Goals as goal

pub returns : goal.returns
returns c = record { marked = round_marked; allowed = round_may; ends = round_ends }
