use Rattle.txg_history.proofs.Branching.{day_may}
use Rattle.txg_history.proofs.Resilvering.{week_may}
use Rattle.txg_history.proofs.SmallHistory.{small_history_may}
use Rattle.txg_history.proofs.Suspending.{suspended_may, further_may}
use Rattle.txg_history.proofs.histories.small_histories_are_allowed.Goals as goal

pub returns : goal.returns
returns c = record { week = week_may; day = day_may; whole = small_history_may; suspends = suspended_may; further = further_may }
