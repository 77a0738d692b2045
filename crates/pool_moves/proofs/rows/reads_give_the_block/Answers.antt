use Rattle.pool_moves.proofs.Missing.{exhausted_missed}
use Rattle.pool_moves.proofs.ReadWalks.{read_walks, read_right}
use Rattle.pool_moves.proofs.rows.reads_give_the_block.Goals as goal

pub returns : goal.returns
returns c = record { walk = read_walks; right = read_right; exhausted = exhausted_missed }
