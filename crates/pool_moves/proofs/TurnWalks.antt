-- Turns may be made: their walks from their rows.
use Rattle.std.proofs.Common.{◌≡◌, true, List, [], ◌∷◌, ◌++◌, refl, sym, subst}
use Rattle.mp_base.specs.declared.place.Key.{Key}
use Rattle.txg_history.specs.Events.{Wrote, Flushed, as_events}
use Rattle.txg_history.specs.Pages.{Codec}
use Rattle.txg_history.specs.Turns.{leavers}
use Rattle.txg_history.proofs.Turning.{write_turn_may, flush_turn_may}
use Rattle.pool_moves.specs.Boards.{board_of, board_under}
use Rattle.pool_moves.specs.Keeping.{Kept, Walks}
use Rattle.pool_moves.specs.Moves.{Move, Wrote_key, Flushed_all}
use Rattle.pool_moves.specs.States.{PoolState, Side}
use Rattle.pool_moves.specs.TurnRows.{RowWriteTurn, RowFlushTurn}
use Rattle.pool_moves.specs.Widening.{AreLeaves}
use Rattle.pool_moves.proofs.Boarding.{frozen_core, is_frozen, seen_frozen, board_just, board_apart, board_found, under_just, under_apart, under_found}
use Rattle.pool_moves.proofs.Widenings.{IsMark, turn_walk}

-- Logs don't concern the marks of a write turn and of the flush turn.
wrote_mark : (c : Codec) (k : Key) → IsMark c (Wrote_key k) (Wrote k)
wrote_mark c k = ((λ p. refl), (λ b o may. record { frozen = may.frozen; not_flushed = may.not_flushed; landed = may.landed }), (λ t f. f))

flushed_mark : (c : Codec) → IsMark c Flushed_all Flushed
flushed_mark c = ((λ p. refl), (λ b o may. record { frozen = may.frozen; all = may.all; held = may.held }), (λ t f. f))

-- A write turn.
write_at : (c : Codec) (s : PoolState) (t : Side) (vs : List Move) → Kept c s t → t.pool.group.frozen ≡ true → RowWriteTurn (frozen_core t) vs → Walks c t vs
write_at c s t vs kept f row = let ms = board_under row.cell.top (frozen_core t).leaves in
    subst (Walks c t) (sym row.moves)
    (turn_walk c s t row.made ms row.results row.leaving (Wrote_key row.key) (Wrote row.key) kept f
    (wrote_mark c row.key) (under_found c s t row.cell.top kept)
    (write_turn_may c t.pool row.key row.cell ms row.results (as_events row.made ++ (leavers ms row.results ++ (Wrote row.key ∷ []))) kept.survives f row.unflushed row.cell_is row.undone
    (under_just c s t row.cell.top kept f) (under_apart c s t row.cell.top kept) (record { made = row.made; phase = row.calls; all = refl }))
    (subst (λ core. AreLeaves core ms row.results row.leaving) (sym (seen_frozen c s t kept f)) row.leaves))

pub write_turn_walks : (c : Codec) (s : PoolState) (t : Side) (vs : List Move) → Kept c s t → RowWriteTurn s.core vs → Walks c t vs
write_turn_walks c s t vs kept row = let f = is_frozen c s t kept row.frozen in
    write_at c s t vs kept f (subst (λ core. RowWriteTurn core vs) (seen_frozen c s t kept f) row)

-- The flush turn.
flush_at : (c : Codec) (s : PoolState) (t : Side) (vs : List Move) → Kept c s t → t.pool.group.frozen ≡ true → RowFlushTurn (frozen_core t) vs → Walks c t vs
flush_at c s t vs kept f row = let ms = board_of (frozen_core t).leaves in
    subst (Walks c t) (sym row.moves)
    (turn_walk c s t row.made ms row.results row.leaving Flushed_all Flushed kept f (flushed_mark c)
    (board_found c s t kept)
    (flush_turn_may c t.pool ms row.results (as_events row.made ++ (leavers ms row.results ++ (Flushed ∷ []))) kept.survives f row.written
    (board_just c s t kept f) (board_apart c s t kept) (record { made = row.made; phase = row.calls; all = refl }))
    (subst (λ core. AreLeaves core ms row.results row.leaving) (sym (seen_frozen c s t kept f)) row.leaves))

pub flush_turn_walks : (c : Codec) (s : PoolState) (t : Side) (vs : List Move) → Kept c s t → RowFlushTurn s.core vs → Walks c t vs
flush_turn_walks c s t vs kept row = let f = is_frozen c s t kept row.frozen in
    flush_at c s t vs kept f (subst (λ core. RowFlushTurn core vs) (seen_frozen c s t kept f) row)
