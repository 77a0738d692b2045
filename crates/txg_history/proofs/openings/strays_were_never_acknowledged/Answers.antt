use Rattle.txg_history.proofs.Importing.{past_leave_none, imports_leave_none}
use Rattle.txg_history.proofs.Straying.{missed_by, acked_below, drawn_again, no_stray}
use Rattle.txg_history.proofs.openings.strays_were_never_acknowledged.Goals as goal

pub returns : goal.returns
returns c = record { missed = missed_by; acked = acked_below; premise = no_stray; past = past_leave_none; imports = imports_leave_none; again = drawn_again }
