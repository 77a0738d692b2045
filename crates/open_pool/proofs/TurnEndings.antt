-- How a turn ends, by the top that has nobody left on the engine's board.
use Rattle.std.proofs.Common.{◌≡◌, ℕ, zero, suc, ◌-◌, ◌≤◌, ◌^◌, min, List, [], ◌∷◌, length, Some, None, Err, refl, sym, ap, ◌∙◌, arith}
use Rattle.std.specs.Prelude.{slice_get}
use Rattle.std.specs.Option.{option_map}
use Rattle.mp_base.specs.declared.number.Group.{Group}
use Rattle.mp_base.specs.declared.number.Guid.{Guid}
use Rattle.vdev_tree.specs.Tree.{guid_of}
use Rattle.vdev_tree.specs.declared.top.Top.{Top}
use Rattle.pool_codec.specs.Tops.{number_of}
use Rattle.pool_codec.proofs.TreesTold.{number_is_told}
use Rattle.txg_engine.specs.declared.seat.Suspended.{Suspended}
use Rattle.txg_engine.specs.Boards as engine
use Rattle.txg_engine.specs.Frozen.{FrozenGroup}
use Rattle.txg_engine.specs.Turns.{IsTold, numbers_of, emptied_top}
use Rattle.pool_moves.specs.Boards.{emptied}
use Rattle.pool_moves.specs.LineRows.{suspended_by}
use Rattle.pool_moves.specs.States.{Sums}
use Rattle.open_pool.specs.Committing.{suspended_as, turn_says}
use Rattle.open_pool.specs.Form.{IsPool}
use Rattle.open_pool.specs.Parts.{PoolParts, all_parts}
use Rattle.open_pool.specs.State.{leaves_under, seen_of, state_of, vdevs_in}
use Rattle.open_pool.proofs.TreesBuilt.{tops_have_leaves}
use Rattle.open_pool.proofs.TurnParts.{shown}
use Rattle.open_pool.proofs.TurnSteps.{going}

as_many : (tops : List Top) → length (leaves_under (all_parts tops)) ≡ length (numbers_of tops)
as_many [] = refl
as_many (top ∷ tops) = omega (arith, as_many tops)

-- the number that is told of a top is its mirror's
number_at : (tops : List Top) (i : ℕ) (m : Guid) → slice_get (numbers_of tops) i ≡ Some m
    → number_of (vdevs_in (all_parts tops)) (suc i) ≡ m
number_at [] i m at = absurd (let no : None ≡ Some m = at in cc)
number_at (top ∷ tops) zero m at =
    let same : guid_of top.mirror ≡ m = (let some : Some (guid_of top.mirror) ≡ Some m = at in cc) in
    number_is_told top.mirror top.valid ∙ same
number_at (top ∷ tops) (suc i) m at = number_at tops i m at

turned : (a b : ℕ) → min a b ≡ min b a
turned a b = omega arith

-- A pool with a frozen group, and what the engine found on its board.
module _ (b : PoolParts) (group : FrozenGroup) (trees : List Top) (pool : IsPool (going b group trees)) (low : 1 ≤ group.numbers.first.0)
    (held : List Sums) where
  emptied_is : emptied (seen_of held (going b group trees)).leaves ≡ option_map suc (emptied_top (numbers_of trees) group)
  emptied_is = (shown b group trees pool low).empty (tops_have_leaves trees)
      ∙ ap (λ n. option_map suc (engine.emptied n group.board)) (as_many trees)

  pub none_emptied : emptied_top (numbers_of trees) group ≡ None → emptied (seen_of held (going b group trees)).leaves ≡ None
  none_emptied none = emptied_is ∙ ap (option_map suc) none

  pub one_emptied : (top : ℕ) → emptied_top (numbers_of trees) group ≡ Some top
      → emptied (seen_of held (going b group trees)).leaves ≡ Some (suc top)
  one_emptied top is = emptied_is ∙ ap (option_map suc) is

  -- what is told of a suspended group is what the row tells
  pub told_says : (top : ℕ) (told : Suspended) → IsTold (numbers_of trees) group.numbers.first group.board top told
      → Err told ≡ turn_says (suspended_by (state_of held (going b group trees)) (suc top))
  told_says top told is =
      ap (λ (g : Group). Err (record told { group = g })) is.number
      ∙ ap (λ (m : Guid). Err (record { group = group.numbers.first; top = m; faults = told.faults })) (sym (number_at trees top told.top is.top_is))
      ∙ ap (λ (n : ℕ). Err (suspended_as group.numbers.first.0 (number_of (vdevs_in (all_parts trees)) (suc top)) n))
      (is.faults_are ∙ turned (2 ^ 64 - 1) (engine.faults_under top group.board)
      ∙ ap (λ n. min n (2 ^ 64 - 1)) (sym ((shown b group trees pool low).faults top)))
