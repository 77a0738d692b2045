use Rattle.txg_history.proofs.Copying.{step_copies}
use Rattle.txg_history.proofs.Showing.{clear_may}
use Rattle.txg_history.proofs.Writing.{heal_sparing, copy_sparing}
use Rattle.txg_history.proofs.writes.keys_may_be_written_again.Goals as goal

pub returns : goal.returns
returns c = record { heals = heal_sparing; copies = copy_sparing; copied = step_copies; clears = clear_may }
