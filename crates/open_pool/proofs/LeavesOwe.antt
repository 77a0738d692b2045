-- A freeze and a further number, as moves of the open pool's leaves.
use Rattle.std.proofs.Common.{◌≡◌, ◌+◌, ◌≤◌, ◌^◌, List, [], sym, ap, ◌∙◌, subst, arith}
use Rattle.std.specs.List.{AllByRecursion}
use Rattle.vdev_tree.specs.declared.top.Top.{Top}
use Rattle.txg_history.specs.Records.{Cells}
use Rattle.txg_engine.specs.declared.seat.Seat.{Seat}
use Rattle.txg_engine.specs.Boards.{seats_of}
use Rattle.txg_engine.specs.Logs.{AreGrown, AreOwing, is_off}
use Rattle.pool_moves.specs.FreezeRow.{up_devs}
use Rattle.pool_moves.specs.Moves.{Move, Freeze, Draw, step, on_dev}
use Rattle.pool_moves.specs.States.{PoolSeen}
use Rattle.pool_moves.specs.Widening.{IsWidened, seen_along}
use Rattle.open_pool.specs.Form.{all_leaves}
use Rattle.open_pool.specs.Parts.{PoolParts, all_parts}
use Rattle.open_pool.specs.State.{leaves_from, leaves_under}
use Rattle.open_pool.proofs.FreezeSeats.{on_if_writable}
use Rattle.open_pool.proofs.LeafLeaves.{IsFit}
use Rattle.open_pool.proofs.LeavesByTops.{leaves_at, by_tops, tops_from, all_are_under, HaveTops, have_tops, sizes, same_tops}
use Rattle.open_pool.proofs.LogsWidened.{IsWithin}
use Rattle.open_pool.proofs.NumbersApart.{leaves_differ}
use Rattle.open_pool.proofs.NumbersOwed.{Owes, draws_owe, freezes_owe}
use Rattle.open_pool.proofs.SeatsOfFreeze.{up_are, may_write}
use Rattle.open_pool.proofs.TurnLeaves.{AreInForm}

-- A move that draws a number, and the widenings behind it, with what they leave of the leaves.
pub record OwesNumber (s : PoolSeen) (v : Move) (seats : List Seat) (q : PoolParts) : Type 0 where
  pub moves : List Move
  pub are : IsWidened s v moves
  pub leads : seen_along moves s ≡ record (step v s) { leaves = leaves_from seats 1 (leaves_under q.tops) }
  pub within : AllByRecursion (IsWithin (step v s).number) (all_leaves q)

module _ (s : PoolSeen) (p q : PoolParts) (number : s.number ≡ p.highest) (form : AreInForm p)
    (more : p.highest + 1 ≤ 2 ^ 62)
    (built : sizes (leaves_under q.tops) ≡ sizes (leaves_under p.tops)) where
  fit : IsFit s.number (all_leaves p)
  fit = record {
    differ = leaves_differ (all_leaves p) form.numbers;
    within = subst (λ n. AllByRecursion (IsWithin n) (all_leaves p)) (sym number) form.within;
    few = form.few;
  }

  have : HaveTops (tops_from 1 (leaves_under p.tops)) (all_leaves p)
  have = subst (HaveTops (tops_from 1 (leaves_under p.tops))) (sym (all_are_under p.tops))
      (have_tops 1 (leaves_under p.tops))

  was_at : (seats : List Seat) → s.leaves ≡ leaves_from seats 1 (leaves_under p.tops)
      → s.leaves ≡ leaves_at seats (tops_from 1 (leaves_under p.tops)) (all_leaves p)
  was_at seats seen = seen ∙ by_tops seats 1 (leaves_under p.tops)
      ∙ ap (leaves_at seats (tops_from 1 (leaves_under p.tops))) (sym (all_are_under p.tops))

  owes : (v : Move) (seats : List Seat) → Owes s v seats (tops_from 1 (leaves_under p.tops)) (all_leaves q)
      → OwesNumber s v seats q
  owes v seats o = record {
    moves = o.moves;
    are = o.are;
    leads = o.leads ∙ ap (λ ls. record (step v s) { leaves = ls }) (
        ap (λ ts. leaves_at seats ts (all_leaves q))
        (sym (same_tops 1 (leaves_under q.tops) (leaves_under p.tops) built))
        ∙ ap (leaves_at seats (tops_from 1 (leaves_under q.tops))) (all_are_under q.tops)
        ∙ sym (by_tops seats 1 (leaves_under q.tops)));
    within = o.fit.within;
  }

  -- a further number of a frozen group
  pub draws_number : (seats : List Seat) → s.leaves ≡ leaves_from seats 1 (leaves_under p.tops)
      → AreGrown (is_off seats) (p.highest + 1) (p.highest + 1) (all_leaves p) (all_leaves q)
      → OwesNumber s Draw seats q
  draws_number seats seen grown =
      owes Draw seats (draws_owe s seats (tops_from 1 (leaves_under p.tops)) (all_leaves p) (all_leaves q)
      (was_at seats seen) have (omega (arith, number, more)) fit
      (subst (λ n. AreGrown (is_off seats) (n + 1) (n + 1) (all_leaves p) (all_leaves q)) (sym number) grown))

  module _ (trees : List Top) (parts : p.tops ≡ all_parts trees) where
    -- The leaves' part of a freeze over these trees.
    pub freezes_number : (cells : Cells) → s.leaves ≡ leaves_from [] 1 (leaves_under p.tops)
        → AreOwing (is_off (seats_of 0 trees)) (p.highest + 1) (all_leaves p) (all_leaves q)
        → OwesNumber s (Freeze cells (up_devs s.leaves)) (seats_of 0 trees) q
    freezes_number cells seen owing =
        owes (Freeze cells (up_devs s.leaves)) (seats_of 0 trees)
        (freezes_owe s (seats_of 0 trees) cells (tops_from 1 (leaves_under p.tops)) (all_leaves p) (all_leaves q)
        (was_at [] seen) have (omega (arith, number, more)) fit
        (on_if_writable trees p parts form)
        (subst (λ ls. AllByRecursion (λ leaf. on_dev (up_devs ls) leaf.dev ≡ may_write leaf) (all_leaves p))
        (sym (was_at [] seen))
        (up_are [] (tops_from 1 (leaves_under p.tops)) (all_leaves p) have form.devices))
        (subst (λ n. AreOwing (is_off (seats_of 0 trees)) (n + 1) (all_leaves p) (all_leaves q)) (sym number) owing))
