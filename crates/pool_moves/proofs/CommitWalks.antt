-- Openings and creates may commit their groups without keys.
use Rattle.std.proofs.Common.{◌≡◌, ℕ, Bool, true, false, cond, Some, None, List, [], ◌∷◌, ◌++◌, refl, sym, ap, ◌∙◌, subst}
use Rattle.mp_base.specs.declared.place.Key.{Key}
use Rattle.txg_history.specs.Events.{Opens}
use Rattle.txg_history.specs.Moves.{MayFlush}
use Rattle.txg_history.specs.Pages.{Codec}
use Rattle.txg_history.specs.Pools.{Pool}
use Rattle.txg_history.specs.Records.{Cell, Cells, block_in}
use Rattle.txg_history.specs.Survival.{Survives}
use Rattle.txg_history.proofs.Moving.{event_survives}
use Rattle.pool_moves.specs.CommitRows.{IsOpened, RowFound, NamedLog, RowLogs}
use Rattle.pool_moves.specs.FreezeRow.{RowEmptyFreeze, up_devs}
use Rattle.pool_moves.specs.Keeping.{over, Kept, Walks}
use Rattle.pool_moves.specs.LineRows.{IsSized}
use Rattle.pool_moves.specs.Moves.{Move, Freeze, Flushed_all, steps, step, after_move, after_moves}
use Rattle.pool_moves.specs.States.{PoolState, Side}
use Rattle.pool_moves.proofs.FreeWalks.{walks_more}
use Rattle.pool_moves.proofs.Widenings.{IsLike, widens_like}
use Rattle.pool_moves.proofs.FreezeWalks.{empty_freeze_walks}
use Rattle.pool_moves.proofs.Keeping.{walk_keeps}
use Rattle.pool_moves.proofs.LineWalks.{sized_along}
use Rattle.pool_moves.proofs.RoundWalks.{round_walks}

pub opened_kept : (c : Codec) (s : PoolState) (t : Side) → IsOpened c s t → Kept c s t
opened_kept c s t o = record {
  core = o.core;
  apart = o.apart;
  seated = o.seated;
  away = o.away;
  numbered = o.numbered;
  boarded = λ f. absurd (let no : false ≡ true = sym (ap (λ p. p.group.frozen) o.is) ∙ f in cc);
  topped = o.topped;
  numbers = record {
    below = o.below;
    known = λ on. absurd (let no : false ≡ true = sym (ap (λ p. p.opened) o.is) ∙ on in cc);
    newest = λ f. absurd (let no : false ≡ true = sym (ap (λ p. p.group.frozen) o.is) ∙ f in cc);
  };
  written = λ a. subst (λ p. p.written a ≡ over (s.own.writes a) (cond p.group.frozen (p.group.content a) (block_in p.reads.cells a))) (sym o.is)
      (ap (λ w. over w (block_in o.r.cells a)) (sym (o.unwritten a)));
  survives = subst (Survives c) (sym o.is) (event_survives c o.before (Opens o.r) o.survives o.live);
}

-- a group without keys has nothing to flush
no_key : {A : Type 0} (cells : Cells) (k : Key) (cell : Cell) → cells ≡ (λ k. None) → cells k ≡ Some cell → A
no_key cells k cell none is = absurd (let no : None ≡ Some cell = sym (ap (λ f. f k) none) ∙ is in cc)

empty_flush : (b p : Pool) → IsLike b p → b.group.frozen ≡ true → b.group.cells ≡ (λ k. None) → MayFlush p
empty_flush b p like frozen none = subst MayFlush (sym like.1) (record {
  frozen = frozen;
  all = λ k cell is. no_key b.group.cells k cell none is;
  held = λ d s bytes is n. no_key b.group.cells n.k n.cell none n.cell_is;
})

found_first : (c : Codec) (s : PoolState) (t : Side) (first : List Move) → Kept c s t → RowEmptyFreeze s first → Walks c t (first ++ (Flushed_all ∷ []))
found_first c s t first kept row = let frozen = after_move (Freeze (λ k. None) (up_devs s.core.leaves)) t in
    let like = widens_like row.moves.widens (step (Freeze (λ k. None) (up_devs s.core.leaves)) s.core) frozen
    frozen.pool row.moves.are (frozen.pool.owes, refl) in
    walks_more c first (Flushed_all ∷ []) t (empty_freeze_walks c s t first kept row)
    (subst (λ vs. Walks c (after_moves vs t) (Flushed_all ∷ [])) (sym row.moves.moves)
    (((empty_flush frozen.pool (after_moves row.moves.widens frozen).pool like refl refl, tt), ap (λ p. p.group.frozen) like.1), tt))

pub found_walks : (c : Codec) (size : ℕ → ℕ) (s : PoolState) (t : Side) (vs : List Move) (whole : Bool) → Kept c s t → IsSized size t → RowFound c size s vs whole → Walks c t vs
found_walks c size s t vs whole kept same row = let walks = found_first c s t row.first kept row.freeze in
    subst (Walks c t) (sym row.moves) (walks_more c (row.first ++ (Flushed_all ∷ [])) row.round t walks
    (round_walks c size (steps (row.first ++ (Flushed_all ∷ [])) s) (after_moves (row.first ++ (Flushed_all ∷ [])) t) row.round whole
    (walk_keeps c (row.first ++ (Flushed_all ∷ [])) s t walks kept) (sized_along size (row.first ++ (Flushed_all ∷ [])) t same) row.ends))

pub logs_walks : (c : Codec) (s : PoolState) (t : Side) (vs : List Move) (logs : List NamedLog) → RowLogs s vs logs → Walks c t vs
logs_walks c s t vs logs row = subst (Walks c t) (sym row.0) tt
