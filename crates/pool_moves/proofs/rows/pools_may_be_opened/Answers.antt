use Rattle.pool_moves.proofs.CommitWalks.{opened_kept, found_walks, logs_walks}
use Rattle.pool_moves.proofs.LineWalks.{reopen_walks}
use Rattle.pool_moves.proofs.rows.pools_may_be_opened.Goals as goal

pub returns : goal.returns
returns c = record { opened = opened_kept; reopen = reopen_walks; found = found_walks; logs = logs_walks }
