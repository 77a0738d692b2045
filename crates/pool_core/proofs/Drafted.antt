-- A pool whose pair was drawn up for the next number.
use Rattle.std.proofs.Common.{◌≡◌, ℕ, ◌+◌, List, sym, ◌∙◌, subst}
use Rattle.label_store.specs.declared.member.Member.{Member}
use Rattle.pool_core.specs.declared.pool.Pool.{Pool}
use Rattle.pool_core.specs.Drafts.{DrawsTo}
use Rattle.pool_core.specs.Keeping.{Stands, IsSeated}
use Rattle.pool_core.specs.Pairs.{PairState}
use Rattle.pool_core.specs.State.{PoolState, board}
use Rattle.pool_core.proofs.Boards.{board_is, members_are}
use Rattle.pool_core.proofs.Redrawn.{IsRedrawn, draws_to, same_board, still_seated}
use Rattle.pool_core.proofs.Seated.{seated_on}

drafted : (old new : Pool) (pair : PairState) → DrawsTo old pair → new.pair ≡ pair → IsRedrawn (old.number.0 + 1) old.pair new.pair
drafted old new pair draws is = subst (IsRedrawn (old.number.0 + 1) old.pair) (sym is) (draws_to old pair draws)

-- it is seated, on a bank whose sizes stayed
pub drafted_seated : (size size' : ℕ → ℕ) (old new : Pool) (pair : PairState) → DrawsTo old pair → new.pair ≡ pair → ((d : ℕ) → size' d ≡ size d)
    → IsSeated size old → IsSeated size' new
drafted_seated size size' old new pair draws is same seated =
    seated_on size size' new same (still_seated size (old.number.0 + 1) old new (drafted old new pair draws is) seated)

-- its board is the one that it had
pub drafted_board : (old new : Pool) (pair : PairState) (members : List Member) → DrawsTo old pair → new.pair ≡ pair
    → ((s : PoolState) → Stands old.pair s → members ≡ board s) → (s : PoolState) → Stands new.pair s → members ≡ board s
drafted_board old new pair members draws is are s stands =
    members_are old.pair members are ∙ sym (same_board (old.number.0 + 1) old.pair new.pair (drafted old new pair draws is)) ∙ sym (board_is new.pair s stands)
