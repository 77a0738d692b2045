-- The state of a new pool is that of its parts, and a freeze without keys leads to that of its first group.
use Rattle.std.proofs.Common.{◌≡◌, ℕ, ◌<◌, ◌≤◌, ◌^◌, true, List, [], ◌∷◌, ◌++◌, None, refl, sym, ap, ◌∙◌, subst, arith}
use mathlib.Core.Path.{fun_ext}
use Rattle.std.specs.Prelude.{IsTrue}
use Rattle.std.specs.List.{AllByRecursion}
use Rattle.mp_base.specs.Name.{is_name}
use Rattle.mp_base.specs.declared.number.Guid.{Guid}
use Rattle.block_map.specs.Map.{IsEmpty}
use Rattle.dtl_rules.specs.Widening.{sectors_of}
use Rattle.pool_codec.specs.Pointers.{sum_in}
use Rattle.txg_engine.specs.declared.seat.Numbers.{Numbers}
use Rattle.txg_engine.specs.Boards.{seats_of}
use Rattle.txg_engine.specs.Frozen.{FrozenGroup}
use Rattle.txg_engine.specs.Writes.{block_at}
use Rattle.pool_moves.specs.FreezeRow.{RowEmptyFreeze, up_devs}
use Rattle.pool_moves.specs.Moves.{Move, Freeze, Flushed_all, step, steps}
use Rattle.pool_moves.specs.ReadRow.{made_in}
use Rattle.pool_moves.specs.StampRow.{NewMember, new_state, next_from}
use Rattle.pool_moves.specs.States.{PoolState}
use Rattle.pool_moves.specs.Widening.{IsWidened}
use Rattle.pool_moves.proofs.FreeWalks.{steps_more}
use Rattle.open_pool.specs.Creating.{AreNewTops, IsAsked}
use Rattle.open_pool.specs.Freezing.{FreezeParts, FreezesParts, group_at}
use Rattle.open_pool.specs.Parts.{PoolParts, all_parts}
use Rattle.open_pool.specs.State.{cells_of, leaves_under, own_state, seen_of, state_of, sums_of}
use Rattle.open_pool.proofs.FreezeSteps as freeze_steps
use Rattle.open_pool.proofs.FreezeSteps.{begun_parts, tops_count}
use Rattle.open_pool.proofs.NewForm as forms
use Rattle.open_pool.proofs.NewForm.{new_parts}
use Rattle.open_pool.proofs.LeavesOwe.{OwesNumber}
use Rattle.open_pool.proofs.PartRows.{made_first, made_widens}
use Rattle.open_pool.proofs.TurnLeaves.{AreInForm}
use Rattle.open_pool.proofs.TurnSteps.{going}
use Rattle.open_pool.proofs.NewTopsShown.{leaves_shown, numbers_shown, children_shown, room_shown}

module _ (size : ℕ → ℕ) (name : List ℕ) (pool : Guid) (blocks : ℕ) (asked : List (List NewMember)) (old new : FreezeParts) (group : FrozenGroup)
    (is : IsAsked size blocks asked) (tops : AreNewTops size 1 asked old.trees) (empty_map : IsEmpty blocks (sectors_of old.trees) old.map)
    (unwritten : old.unfrozen.writes ≡ []) (unpinned : old.pins.places ≡ []) (f : FreezesParts (group_at 1) old new group)
    (named : IsTrue (is_name name)) (in_range : pool.0 < 2 ^ 64) where
  abbrev before : PoolParts
  before = new_parts name pool (next_from 1 asked) old

  state_before : state_of [] before ≡ new_state size name pool blocks asked
  state_before =
      let volume = empty_map.volume in
      let writes : block_at old.unfrozen.writes ≡ (λ a. None) = fun_ext (λ a. ap (λ ws. block_at ws a) unwritten) in
      let numbers = numbers_shown size asked old.trees tops in
      let children = children_shown size asked old.trees tops in
      let room = room_shown size asked old.trees tops in
      let leaves = leaves_shown size 1 1 asked old.trees tops in
      let committed : sums_of old.map ≡ (λ k. None) = fun_ext (λ k. ap sum_in (empty_map.keys k)) in
      cc

  abbrev shape : AreInForm before
  shape = forms.form size name pool blocks asked old new group is tops empty_map unwritten unpinned f named in_range

  abbrev owes : OwesNumber (seen_of [] before) (Freeze (cells_of group.items) (up_devs (seen_of [] before).leaves)) (seats_of 0 old.trees)
      (begun_parts before new group)
  owes = freeze_steps.owes before old new group f shape (omega arith) []

  -- the moves of the freeze
  pub first : List Move
  first = owes.moves

  no_cells : cells_of group.items ≡ (λ k. None)
  no_cells = fun_ext (λ k. ap (λ items. cells_of items k)
      (forms.itemless size name pool blocks asked old new group is tops empty_map unwritten unpinned f named in_range))

  pub freezes : RowEmptyFreeze (new_state size name pool blocks asked) first
  unfolding first
  freezes = record {
    idle = refl;
    unwritten = λ a. refl;
    tops = subst (λ (s : PoolState). AllByRecursion (λ leaf. 1 ≤ leaf.top) s.core.leaves) state_before
        (tops_count [] 1 (leaves_under (all_parts old.trees)) (omega arith));
    moves = subst (λ (s : PoolState). IsWidened s.core (Freeze (λ k. None) (up_devs s.core.leaves)) owes.moves) state_before
        (subst (λ cells. IsWidened (seen_of [] before) (Freeze cells (up_devs (seen_of [] before).leaves)) owes.moves) no_cells owes.are);
  }

  abbrev flushed : FrozenGroup
  flushed = record group { flushed = true }

  abbrev begun : PoolParts
  begun = going (new_parts name pool (next_from 1 asked) new) flushed new.trees

  -- its first group, whose flush turn is passed over
  pub leads : steps (first ++ (Flushed_all ∷ [])) (new_state size name pool blocks asked) ≡ state_of [] begun
  unfolding first
  leads =
      steps_more owes.moves (Flushed_all ∷ []) (new_state size name pool blocks asked)
      ∙ ap (λ s. steps (Flushed_all ∷ []) (steps owes.moves s)) (sym state_before)
      ∙ ap (steps (Flushed_all ∷ [])) (freeze_steps.steps_are before old new group f shape (omega arith) [])
      ∙ ap (λ n. state_of [] (record begun { highest = n })) (sym (ap (λ (n : Numbers). n.last.0) f.begins.numbers))

  -- what no event tells is as it was, and no call is made
  pub own_is : (new_state size name pool blocks asked).own ≡ own_state begun
  own_is =
      ap (λ (s : PoolState). record (s.own) { writes = λ a. None }) (sym state_before)
      ∙ freeze_steps.own_is before old new group f shape (omega arith)

  pub quiet : made_in (first ++ (Flushed_all ∷ [])) ≡ []
  unfolding first
  quiet = made_first owes.moves (Flushed_all ∷ []) refl ∙ ap made_in owes.are.moves
      ∙ made_widens (step (Freeze (cells_of group.items) (up_devs (seen_of [] before).leaves)) (seen_of [] before)) owes.are.widens owes.are.are
