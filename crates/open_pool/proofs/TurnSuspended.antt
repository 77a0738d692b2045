-- A group that is suspended already is burned at once, and the turn tells of it.
use Rattle.std.proofs.Common.{◌≡◌, ℕ, List, [], ◌∷◌, map, Some, Result, Err, refl, sym, ap, ◌∙◌, subst}
use Rattle.std.specs.List.{AllZip}
use Rattle.mp_base.specs.declared.number.Guid.{Guid}
use Rattle.bank_core.specs.BankView.{BankView}
use Rattle.bank_core.proofs.Framing.{makes_none}
use Rattle.vdev_tree.specs.Children.{children_of}
use Rattle.vdev_tree.specs.Tree.{guid_of, Mark, opening}
use Rattle.vdev_tree.specs.declared.top.Top.{Top}
use Rattle.vdev_tree.proofs.Shapes.{top_is, mirror_marks}
use Rattle.dtl_rules.specs.Widening.{leaves_of, marks_of}
use Rattle.txg_engine.specs.declared.seat.Suspended.{Suspended}
use Rattle.txg_engine.specs.Frozen.{FrozenGroup}
use Rattle.txg_engine.specs.Logs.{IsCut}
use Rattle.txg_engine.specs.Turns.{IsTold, Scene, emptied_top, numbers_of}
use Rattle.open_pool.specs.declared.turn.TurnDone.{TurnDone}
use Rattle.open_pool.specs.Parts.{PoolParts}
use Rattle.open_pool.proofs.PlacesEnd.{burned_pool}
use Rattle.open_pool.proofs.TurnAnswers.{IsBurned, burned_pool_kept, burns_at_once}
use Rattle.open_pool.proofs.TurnLeft.{HasTurned, Leaves, MayTurn, TurnLeaves}
use Rattle.open_pool.proofs.TurnSteps.{going}

-- the number of a top that is built so
abbrev number_in : List Mark → Guid
number_in (opening guid kind ∷ marks) = guid
number_in marks = record { 0 = 0 }

numbers_read : (tops : List Top) → map number_in (marks_of tops) ≡ numbers_of tops
numbers_read [] = refl
numbers_read (top ∷ tops) =
    ap (λ ms. number_in ms ∷ map number_in (marks_of tops)) (mirror_marks top.mirror (children_of top.mirror) (top_is top.mirror top.valid))
    ∙ ap (λ ns. guid_of top.mirror ∷ ns) (numbers_read tops)

-- Tops that are built alike have the same numbers.
pub same_numbers : (old new : List Top) → marks_of new ≡ marks_of old → numbers_of new ≡ numbers_of old
same_numbers old new built = sym (numbers_read new) ∙ ap (map number_in) built ∙ numbers_read old

-- A turn before which some top had nobody on the board.
pub suspended_before : (size : ℕ → ℕ) (b : PoolParts) (was is : FrozenGroup) (old new : List Top) (from to : BankView) (result : Result TurnDone Suspended)
    (top : ℕ) (told : Suspended) → MayTurn size b was old → HasTurned was is old new result
    → (let after : Scene = record { group = is; leaves = leaves_of new; bank = to } in
    let before : Scene = record { group = was; leaves = leaves_of old; bank = from } in after ≡ before)
    → emptied_top (numbers_of new) was ≡ Some top → IsTold (numbers_of new) was.numbers.first was.board top told → result ≡ Err told
    → TurnLeaves size b was is old new from to result
suspended_before size b was is old new from to result top told may turned same empty tells says =
    let numbers = same_numbers old new turned.built in
    let stays : is ≡ was = ap (λ (s : Scene). s.group) same in
    subst (TurnLeaves size b was is old new from to) (sym says) (λ held cut m pins writes kept burned.
    let here : IsBurned b was old cut m pins writes = subst (λ g. IsBurned b g old cut m pins writes) stays (record {
      rise = burned.rise;
      merged = burned.merged;
      room = burned.room;
      gives = burned.gives;
      pins_are = burned.pins_are;
      places = burned.places;
      cut = subst (λ ls. AllZip (IsCut is.numbers.first.0) ls (leaves_of cut)) (ap (λ (s : Scene). s.leaves) same) burned.cut;
      built = burned.built ∙ turned.built;
      sectors = burned.sectors ∙ turned.sectors;
    }) in
    subst (λ g. Leaves size held (going b was old) (burned_pool b g m pins writes cut) from to (Err told)) (sym stays)
    (subst (λ bank. Leaves size held (going b was old) (burned_pool b was m pins writes cut) from bank (Err told)) (sym (ap (λ (s : Scene). s.bank) same)) (
      burned_pool_kept b was old cut may.pool may.kept m pins writes here,
      λ were. burns_at_once b was old cut may.pool may.kept m pins writes here size held top told from
          (subst (λ l. emptied_top l was ≡ Some top) numbers empty)
          (subst (λ l. IsTold l was.numbers.first was.board top told) numbers tells) were makes_none,
    )))
