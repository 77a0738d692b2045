use Rattle.txg_history.proofs.Turning.{write_marked, write_turn_may, write_turn_ends}
use Rattle.txg_history.proofs.turns.write_turns_may_be_made.Goals as goal

pub returns : goal.returns
returns c = record { marked = write_marked; allowed = write_turn_may; ends = write_turn_ends }
