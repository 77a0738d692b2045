use Rattle.txg_history.proofs.Paging.{good_kept, good_found}
use Rattle.txg_history.proofs.ReadingBack.{live_read_back, numbered_fits}
use Rattle.txg_history.proofs.Treeing.{freeze_tree}
use Rattle.txg_history.proofs.pages.pages_are_read_back.Goals as goal

pub returns : goal.returns
returns c = record { freezes = freeze_tree; back = live_read_back; config = numbered_fits; good = good_kept; found = good_found }
