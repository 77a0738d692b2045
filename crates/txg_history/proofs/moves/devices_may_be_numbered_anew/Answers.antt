use Rattle.txg_history.proofs.Numbering.{renumbered_survives, renumbered_one, renumbered_promises, renumbered_holds, renumbered_good}
use Rattle.txg_history.proofs.moves.devices_may_be_numbered_anew.Goals as goal

pub returns : goal.returns
returns c = record {
  survives = renumbered_survives;
  same = renumbered_one;
  promises = renumbered_promises;
  holds = renumbered_holds;
  pages = renumbered_good;
}
