use Rattle.pool_moves.proofs.StampWalks.{create_makes, stamps_allowed, stamps_lose, stamps_spare}
use Rattle.pool_moves.proofs.openings.creates_make_a_pool.Goals as goal

pub returns : goal.returns
returns c = record { made = create_makes; allowed = stamps_allowed; lost = stamps_lose; spared = stamps_spare }
