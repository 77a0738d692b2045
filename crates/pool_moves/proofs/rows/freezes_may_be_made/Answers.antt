use Rattle.pool_moves.proofs.FreezeWalks.{freeze_walks, empty_freeze_walks}
use Rattle.pool_moves.proofs.LineWalks.{freeze_line_walks}
use Rattle.pool_moves.proofs.Needing.{dirty_is}
use Rattle.pool_moves.proofs.rows.freezes_may_be_made.Goals as goal

pub returns : goal.returns
returns c = record { dirty = freeze_walks; line = freeze_line_walks; empty = empty_freeze_walks; keys = dirty_is }
