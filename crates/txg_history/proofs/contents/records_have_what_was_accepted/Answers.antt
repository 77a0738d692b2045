use Rattle.txg_history.proofs.Containing.{drawn_contents, live_contents}
use Rattle.txg_history.proofs.contents.records_have_what_was_accepted.Goals as goal

pub returns : goal.returns
returns c = record { drawn = drawn_contents; live = live_contents }
