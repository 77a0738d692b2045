-- What holds of the state that a pool's parts are, for each list of suspended groups, holds of each state that it stands for.
use Rattle.std.proofs.Common.{List, refl, sym, subst}
use Rattle.pool_moves.specs.States.{Sums, PoolState}
use Rattle.open_pool.specs.Parts.{PoolParts}
use Rattle.open_pool.specs.State.{ArePinned, Stands, state_of}

pub stands_there : (held : List Sums) (p : PoolParts) → ArePinned held p → Stands p (state_of held p)
stands_there held p pins = record { is = refl; pinned = pins }

pub by_state : (P : PoolState → Type 0) (p : PoolParts) → ((held : List Sums) → ArePinned held p → P (state_of held p))
    → (s : PoolState) → Stands p s → P s
by_state P p each s stands = subst P (sym stands.is) (each s.core.pinned stands.pinned)
