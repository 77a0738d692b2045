-- The first top without a leaf that may be written is the engine's, and its number is told.
use Rattle.std.proofs.Common.{◌≡◌, ℕ, zero, suc, ◌≤◌, ◌==◌, ◌&&◌, ◌||◌, cond, List, [], ◌∷◌, length, Some, None, refl, sym, ap, ◌∙◌, subst}
use Rattle.std.specs.Prelude.{slice_get}
use Rattle.std.specs.List.{AllByRecursion, list_any}
use Rattle.std.specs.Option.{option_map}
use Rattle.mp_base.specs.declared.number.Guid.{Guid}
use Rattle.vdev_tree.specs.declared.top.Top.{Top}
use Rattle.vdev_tree.specs.declared.vdev.LeafVdev.{LeafVdev}
use Rattle.txg_engine.specs.declared.seat.Seat.{Seat}
use Rattle.txg_engine.specs.Boards as engine
use Rattle.txg_engine.specs.Boards.{seats_of, on_board}
use Rattle.txg_engine.specs.Refusing as engine_refusals
use Rattle.txg_engine.specs.Turns.{numbers_of}
use Rattle.pool_codec.specs.Tops.{number_of}
use Rattle.pool_codec.proofs.TreesTold.{number_is_told}
use Rattle.pool_moves.specs.Boards.{has_on, emptied, emptied_of}
use Rattle.pool_moves.specs.Leaves.{LeafSeen}
use Rattle.pool_moves.specs.Refusing.{is_writable_under, unwritable, unwritable_of}
use Rattle.open_pool.specs.Form.{all_leaves}
use Rattle.open_pool.specs.Parts.{PoolParts, all_parts}
use Rattle.open_pool.specs.State.{leaves_from, leaves_under, vdevs_in}
use Rattle.open_pool.proofs.BoardIsSeats.{board_of_seats}
use Rattle.open_pool.proofs.BoardKept.{same_leaves, board_frozen}
use Rattle.open_pool.proofs.FreezeSeats.{on_if_writable}
use Rattle.open_pool.proofs.LeavesByTops.{leaves_at, by_tops, tops_from, under_all, all_are_under}
use Rattle.open_pool.proofs.LeavesInForm.{leaves_are}
use Rattle.open_pool.proofs.NumbersApart.{AreNumbered}
use Rattle.open_pool.proofs.SeatsOfFreeze.{IsOnIfUp}
use Rattle.open_pool.proofs.TreesBuilt.{tops_have_leaves}
use Rattle.open_pool.proofs.TurnLeaves.{AreInForm}

writable_under : (t : ℕ) (seats : List Seat) (tops : List ℕ) (leaves : List LeafVdev) → AllByRecursion (IsOnIfUp seats) leaves
    → list_any (is_writable_under t) (leaves_at [] tops leaves) ≡ has_on t (leaves_at seats tops leaves)
writable_under t seats [] leaves on = refl
writable_under t seats (top ∷ tops) [] on = refl
writable_under t seats (top ∷ tops) (leaf ∷ leaves) on =
    ap (λ b. (b && (top == t)) || list_any (is_writable_under t) (leaves_at [] tops leaves)) (sym on.0.on)
    ∙ ap (λ b. (on_board seats leaf.guid && (top == t)) || b) (writable_under t seats tops leaves on.1)

unwritable_along : (all one : List LeafSeen) (seats : List Seat) (tops : List ℕ) (leaves : List LeafVdev)
    → ((t : ℕ) → list_any (is_writable_under t) all ≡ has_on t one)
    → unwritable_of all (leaves_at [] tops leaves) ≡ emptied_of one (leaves_at seats tops leaves)
unwritable_along all one seats [] leaves same = refl
unwritable_along all one seats (top ∷ tops) [] same = refl
unwritable_along all one seats (top ∷ tops) (leaf ∷ leaves) same =
    ap (λ b. cond b (unwritable_of all (leaves_at [] tops leaves)) (Some top)) (same top)
    ∙ ap (λ o. cond (has_on top one) o (Some top)) (unwritable_along all one seats tops leaves same)

long : (trees : List Top) → length (leaves_under (all_parts trees)) ≡ length trees
long [] = refl
long (t ∷ trees) = ap suc (long trees)

module _ (trees : List Top) (p : PoolParts) (parts : p.tops ≡ all_parts trees) (form : AreInForm p) where
  pub unwritable_is : unwritable (leaves_from [] 1 (leaves_under p.tops)) ≡ option_map suc (engine_refusals.unwritable trees)
  unwritable_is =
      let seats = seats_of 0 trees in
      let tops = tops_from 1 (leaves_under p.tops) in
      let leaves = under_all (leaves_under p.tops) in
      let on : AllByRecursion (IsOnIfUp seats) leaves =
      subst (AllByRecursion (IsOnIfUp seats)) (all_are_under p.tops) (on_if_writable trees p parts form) in
      let board = board_frozen trees p p parts refl (same_leaves (all_leaves p)) (subst AreNumbered (leaves_are trees p parts) form.numbers) in
      let empty = (board_of_seats seats p board form.numbers).empty
      (subst (λ ts. AllByRecursion (λ under. 1 ≤ length under) (leaves_under ts)) (sym parts) (tops_have_leaves trees)) in
      ap unwritable (by_tops [] 1 (leaves_under p.tops))
      ∙ unwritable_along (leaves_at [] tops leaves) (leaves_at seats tops leaves) seats tops leaves
      (λ t. writable_under t seats tops leaves on)
      ∙ ap emptied (sym (by_tops seats 1 (leaves_under p.tops)))
      ∙ empty
      ∙ ap (λ n. option_map suc (engine.emptied n seats)) (ap (λ ts. length (leaves_under ts)) parts ∙ long trees)

some_same : (a b : Guid) → Some a ≡ Some b → a ≡ b
some_same a b same = cc

pub number_there : (trees : List Top) (at : ℕ) (number : Guid) → slice_get (numbers_of trees) at ≡ Some number
    → number_of (vdevs_in (all_parts trees)) (suc at) ≡ number
number_there [] at number is = absurd (let no : None ≡ Some number = is in cc)
number_there (t ∷ trees) zero number is = number_is_told t.mirror t.valid ∙ some_same _ number is
number_there (t ∷ trees) (suc at) number is = number_there trees at number is
