-- The board of a freeze over the trees of an open pool: who may be written is on it, with a seat of its own.
use Rattle.std.proofs.Common.{◌≡◌, sym, ap, ◌∙◌, subst, List}
use Rattle.std.specs.List.{AllByRecursion}
use Rattle.vdev_tree.specs.declared.top.Top.{Top}
use Rattle.txg_engine.specs.Boards.{seats_of}
use Rattle.open_pool.specs.Form.{all_leaves}
use Rattle.open_pool.specs.Parts.{PoolParts, all_parts}
use Rattle.open_pool.specs.State.{leaves_under}
use Rattle.open_pool.proofs.LeavesByTops.{tops_from, under_all, all_are_under, HaveTops, have_tops}
use Rattle.open_pool.proofs.NumbersApart.{Differ, leaves_differ, seat_numbers, seats_differ}
use Rattle.open_pool.proofs.SeatsOfFreeze.{seats_at, seats_of_tops, have_seats, in_order, on_if_up, IsOnIfUp, HaveSeats}
use Rattle.open_pool.proofs.TurnLeaves.{AreInForm}

module _ (trees : List Top) (p : PoolParts) (parts : p.tops ≡ all_parts trees) (form : AreInForm p) where
  seats_are : seats_of 0 trees ≡ seats_at (tops_from 0 (leaves_under p.tops)) (all_leaves p)
  seats_are = seats_of_tops 0 trees
      ∙ ap (λ ts. seats_at (tops_from 0 (leaves_under ts)) (under_all (leaves_under ts))) (sym parts)
      ∙ ap (seats_at (tops_from 0 (leaves_under p.tops))) (sym (all_are_under p.tops))

  seated : HaveSeats (seats_of 0 trees) (tops_from 0 (leaves_under p.tops)) (all_leaves p)
  seated = subst (λ seats. HaveSeats seats (tops_from 0 (leaves_under p.tops)) (all_leaves p)) (sym seats_are)
      (have_seats (tops_from 0 (leaves_under p.tops)) (all_leaves p)
      (subst (HaveTops (tops_from 0 (leaves_under p.tops))) (sym (all_are_under p.tops))
      (have_tops 0 (leaves_under p.tops)))
      (leaves_differ (all_leaves p) form.numbers))

  differ : Differ (seat_numbers (seats_of 0 trees))
  differ = subst (λ seats. Differ (seat_numbers seats))
      (in_order (seats_of 0 trees) (tops_from 0 (leaves_under p.tops)) (all_leaves p) seated ∙ sym seats_are)
      (seats_differ (seats_of 0 trees) (all_leaves p) (leaves_differ (all_leaves p) form.numbers))

  pub on_if_writable : AllByRecursion (IsOnIfUp (seats_of 0 trees)) (all_leaves p)
  on_if_writable = on_if_up (seats_of 0 trees) (tops_from 0 (leaves_under p.tops)) (all_leaves p) differ seated
