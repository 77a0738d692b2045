use Rattle.txg_history.proofs.LooksShow.{best_yields, best_none, looks_true, looks_whole}
use Rattle.txg_history.proofs.openings.looks_show_the_labels.Goals as goal

pub returns : goal.returns
returns c = record { found = best_yields; none = best_none; true_to = looks_true; whole = looks_whole }
