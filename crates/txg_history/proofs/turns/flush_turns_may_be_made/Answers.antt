use Rattle.txg_history.proofs.Turning.{flush_marked, flush_turn_may, flush_turn_ends}
use Rattle.txg_history.proofs.turns.flush_turns_may_be_made.Goals as goal

pub returns : goal.returns
returns c = record { marked = flush_marked; allowed = flush_turn_may; ends = flush_turn_ends }
