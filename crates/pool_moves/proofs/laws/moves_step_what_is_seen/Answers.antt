use Rattle.pool_moves.proofs.Seeing.{seen_step}
use Rattle.pool_moves.proofs.laws.moves_step_what_is_seen.Goals as goal

pub returns : goal.returns
returns k = λ c v s t kept ok. seen_step c v s t kept ok
