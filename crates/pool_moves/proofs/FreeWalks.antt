-- Free moves, one after another, and what the history gets of them.
use Rattle.std.proofs.Common.{◌≡◌, ℕ, ◌==◌, Bool, true, List, [], ◌∷◌, ◌++◌, refl, sym, ap, ◌∙◌, append_assoc}
use Rattle.std.specs.List.{AllByRecursion}
use Rattle.bank_core.specs.Disk.{Noted}
use Rattle.txg_history.specs.Events.{Calls, as_events}
use Rattle.txg_history.specs.Moves.{Mays}
use Rattle.txg_history.specs.Pages.{Codec}
use Rattle.txg_history.specs.Pools.{pool_after}
use Rattle.txg_history.proofs.Folding.{mays_first, mays_second, pool_more, with_calls}
use Rattle.pool_moves.specs.Keeping.{IsOfFound, Admits, Walks}
use Rattle.pool_moves.specs.Leaves.{Seat}
use Rattle.pool_moves.specs.Moves.{Move, Makes, Puts, Wrote_key, Flushed_all, Draw, Freeze, Leave, Burn, Copies, Copied, Commits, Sets, Finds, Lose, Comes, Goes, Returns, seats_by, events_of, after_move, after_moves, state_step, steps}
use Rattle.pool_moves.specs.States.{PoolState, Side}
use Rattle.pool_moves.specs.Walking.{events_along, AreAdmitted, IsFree, as_moves}
use Rattle.pool_moves.proofs.Keeping.{of_found_still}
use Rattle.pool_moves.proofs.Lists.{each}

-- A walk is moves that the history allows and the state admits.
pub walk_of : (c : Codec) (vs : List Move) (t : Side) → Mays c t.pool (events_along vs t) → AreAdmitted t vs → Walks c t vs
walk_of c [] t may ok = tt
walk_of c (v ∷ vs) t may ok = (
  (mays_first c (events_of v t.pool) (events_along vs (after_move v t)) t.pool may, ok.0),
  walk_of c vs (after_move v t) (mays_second c (events_of v t.pool) (events_along vs (after_move v t)) t.pool may) ok.1,
)

pub walks_more : (c : Codec) (vs ws : List Move) (t : Side) → Walks c t vs → Walks c (after_moves vs t) ws → Walks c t (vs ++ ws)
walks_more c [] ws t a b = b
walks_more c (v ∷ vs) ws t a b = (a.0, walks_more c vs ws (after_move v t) a.1 b)

pub moves_more : (vs ws : List Move) (t : Side) → after_moves (vs ++ ws) t ≡ after_moves ws (after_moves vs t)
moves_more [] ws t = refl
moves_more (v ∷ vs) ws t = moves_more vs ws (after_move v t)

pub steps_more : (vs ws : List Move) (s : PoolState) → steps (vs ++ ws) s ≡ steps ws (steps vs s)
steps_more [] ws s = refl
steps_more (v ∷ vs) ws s = steps_more vs ws (state_step v s)

pub pool_along : (vs : List Move) (t : Side) → (after_moves vs t).pool ≡ pool_after (events_along vs t) t.pool
pool_along [] t = refl
pool_along (v ∷ vs) t = pool_along vs (after_move v t) ∙ sym (pool_more (events_of v t.pool) (events_along vs (after_move v t)) t.pool)

pub events_more : (vs ws : List Move) (t : Side) → events_along (vs ++ ws) t ≡ events_along vs t ++ events_along ws (after_moves vs t)
events_more [] ws t = refl
events_more (v ∷ vs) ws t = ap (λ l. events_of v t.pool ++ l) (events_more vs ws (after_move v t))
    ∙ sym (append_assoc (events_of v t.pool) (events_along vs (after_move v t)) (events_along ws (after_moves vs (after_move v t))))

-- Free moves.
free_frozen : (v : Move) (t : Side) → IsFree t.seats v → (after_move v t).pool.group.frozen ≡ t.pool.group.frozen
free_frozen (Freeze cells board) t free = absurd free
free_frozen Burn t free = absurd free
free_frozen (Commits draft) t free = absurd free
free_frozen v t free = refl

free_admitted : (v : Move) (t : Side) → t.pool.group.frozen ≡ true → IsFree t.seats v → Admits t v
free_admitted (Makes noted) t f free = tt
free_admitted (Puts a block) t f free = tt
free_admitted (Wrote_key k) t f free = f
free_admitted Flushed_all t f free = f
free_admitted Draw t f free = f
free_admitted (Leave d) t f free = (f, free)
free_admitted (Copies draft d) t f free = tt
free_admitted (Copied draft d) t f free = tt
free_admitted (Sets m own) t f free = tt
free_admitted v t f free = absurd free

pub found_stays : (which : ℕ → Bool) (v : Move) (t : Side) → IsFree t.seats v → AllByRecursion (IsOfFound which) t.seats
    → AllByRecursion (IsOfFound which) (seats_by v t)
found_stays which (Finds m d) t free all = absurd free
found_stays which (Lose d) t free all = absurd free
found_stays which (Comes i d m top own) t free all = absurd free
found_stays which (Goes i) t free all = absurd free
found_stays which (Returns i seat leaf) t free all = absurd free
found_stays which v t free all = of_found_still which v t tt (λ d found own is. is) all

free_stays : (v w : Move) (t : Side) → IsFree t.seats v → IsFree t.seats w → IsFree (seats_by v t) w
free_stays v (Leave d) t free is = found_stays (λ e. d == e) v t free is
free_stays v w t free is = is

pub free_walk : (vs : List Move) (t : Side) → t.pool.group.frozen ≡ true → AllByRecursion (IsFree t.seats) vs → AreAdmitted t vs
free_walk [] t f all = tt
free_walk (v ∷ vs) t f all = (
  free_admitted v t f all.0,
  free_walk vs (after_move v t) (free_frozen v t all.0 ∙ f) (each (λ w is. free_stays v w t all.0 is) vs all.1),
)

-- behind free moves a group is still frozen
pub frozen_along : (vs : List Move) (t : Side) → AllByRecursion (IsFree t.seats) vs → (after_moves vs t).pool.group.frozen ≡ t.pool.group.frozen
frozen_along [] t all = refl
frozen_along (v ∷ vs) t all = frozen_along vs (after_move v t) (each (λ w is. free_stays v w t all.0 is) vs all.1)
    ∙ free_frozen v t all.0

-- and another free move is still free
pub free_along : (vs : List Move) (w : Move) (t : Side) → AllByRecursion (IsFree t.seats) vs → IsFree t.seats w → IsFree (after_moves vs t).seats w
free_along [] w t all is = is
free_along (v ∷ vs) w t all is = free_along vs w (after_move v t)
    (each (λ x free. free_stays v x t all.0 free) vs all.1) (free_stays v w t all.0 is)

-- free, and then more
pub free_then : (vs ws : List Move) (t : Side) → t.pool.group.frozen ≡ true → AllByRecursion (IsFree t.seats) vs → AreAdmitted (after_moves vs t) ws → AreAdmitted t (vs ++ ws)
free_then [] ws t f all ok = ok
free_then (v ∷ vs) ws t f all ok = (
  free_admitted v t f all.0,
  free_then vs ws (after_move v t) (free_frozen v t all.0 ∙ f) (each (λ w is. free_stays v w t all.0 is) vs all.1) ok,
)

-- Calls are free.
pub calls_free : (seats : List Seat) (made : List Noted) → AllByRecursion (IsFree seats) (as_moves made)
calls_free seats [] = tt
calls_free seats (noted ∷ made) = (tt, calls_free seats made)

-- What the history gets of calls, and of more moves behind them.
pub calls_along : (made : List Noted) (ws : List Move) (t : Side) → events_along (as_moves made ++ ws) t ≡ as_events made ++ events_along ws (after_moves (as_moves made) t)
calls_along [] ws t = refl
calls_along (noted ∷ made) ws t = ap (λ l. Calls noted ∷ l) (calls_along made ws (after_move (Makes noted) t))

pub calls_pool : (made : List Noted) (t : Side) → (after_moves (as_moves made) t).pool ≡ with_calls made t.pool
calls_pool [] t = refl
calls_pool (noted ∷ made) t = calls_pool made (after_move (Makes noted) t)
