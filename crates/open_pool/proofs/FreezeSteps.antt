-- The steps of a freeze: its moves lead to the state with the group that begins, and logs stay small.
use Rattle.std.proofs.Common.{◌≡◌, ℕ, suc, ◌+◌, ◌≤◌, ◌^◌, false, List, [], ◌∷◌, ◌++◌, length, map, Some, None, refl, sym, ap, ◌∙◌, subst, arith}
use mathlib.Core.Path.{fun_ext}
use Rattle.std.specs.List.{AllByRecursion}
use Rattle.mp_base.specs.declared.place.Key.{Key}
use Rattle.vdev_tree.specs.declared.vdev.LeafVdev.{LeafVdev}
use Rattle.dtl_rules.specs.Widening.{leaves_of}
use Rattle.pool_codec.specs.Pointers.{sum_in}
use Rattle.pool_codec.specs.Tops.{room_of}
use Rattle.txg_engine.specs.declared.item.Item.{Item}
use Rattle.txg_engine.specs.declared.seat.Numbers.{Numbers}
use Rattle.txg_engine.specs.declared.seat.Seat.{Seat}
use Rattle.txg_engine.specs.Boards.{seats_of}
use Rattle.txg_engine.specs.Frozen.{FrozenGroup}
use Rattle.txg_engine.specs.Logs.{AreOwing, is_off}
use Rattle.txg_engine.specs.Writes.{block_at}
use Rattle.pool_moves.specs.FreezeRow.{up_devs}
use Rattle.pool_moves.specs.Moves.{Move, Freeze, Widen, steps, state_step}
use Rattle.pool_moves.specs.States.{Sums, PoolState, frozen_seen}
use Rattle.pool_moves.specs.Widening.{AreWidens, seen_along}
use Rattle.std.specs.Prelude.{sum}
use Rattle.pool_config.specs.Seen.{leaf_seen, ranges_of}
use Rattle.pool_config.specs.Validity.{log_length}
use Rattle.pool_config.proofs.Bounds.{sum_cons}
use Rattle.pool_moves.specs.Moves.{step}
use Rattle.pool_moves.specs.States.{PoolSeen}
use Rattle.pool_moves.specs.Widening.{ranges_together}
use Rattle.open_pool.specs.Form.{all_leaves}
use Rattle.open_pool.proofs.LeavesByTops.{leaves_at, by_tops, tops_from, under_all, under_trees, HaveTops, have_tops}
use Rattle.open_pool.proofs.LeavesInForm.{leaves_are}
use Rattle.open_pool.proofs.LeavesKept.{AreKept, owing_kept}
use Rattle.open_pool.proofs.LogsWidened.{IsWithin}
use Rattle.open_pool.proofs.RecordStill.{ranges_at}
use Rattle.open_pool.proofs.TurnLeaves.{AreInForm}
use Rattle.open_pool.specs.Freezing.{FreezeParts, FreezesParts, group_at}
use Rattle.open_pool.specs.Parts.{PoolParts, all_parts}
use Rattle.open_pool.specs.State.{cells_of, is_done, group_of, leaf_of, leaves_from, leaves_under, sectors_in, own_state, seen_of, state_of, sums_of}
use Rattle.open_pool.proofs.BoardKept.{AreSameLeaves}
use Rattle.open_pool.proofs.FreezeRefused.{idle_parts, sectors_are}
use Rattle.open_pool.proofs.LeavesInForm.{on_leaves}
use Rattle.open_pool.proofs.LeavesOwe.{OwesNumber, freezes_number}
use Rattle.open_pool.proofs.LeavesStay.{owing_same}
use Rattle.open_pool.proofs.TreesBuilt.{built_sizes, trees_told}

-- The pool with the group that begins.
abbrev pub begun_parts : PoolParts → FreezeParts → FrozenGroup → PoolParts
begun_parts r parts group = record (idle_parts r parts) { highest = r.highest + 1; frozen = Some group }

-- widenings change the leaves alone
widens_own : (vs : List Move) (s : PoolState) → AreWidens s.core vs → steps vs s ≡ record { own = s.own; core = seen_along vs s.core }
widens_own [] s are = refl
widens_own (Widen m low high ∷ vs) s are = widens_own vs (state_step (Widen m low high) s) are.2
widens_own (v ∷ vs) s are = absurd are

-- every leaf is under a top
pub tops_count : (seats : List Seat) (first : ℕ) (tops : List (List LeafVdev)) → 1 ≤ first
    → AllByRecursion (λ leaf. 1 ≤ leaf.top) (leaves_from seats first tops)
tops_count seats first [] some = tt
tops_count seats first (under ∷ tops) some = front under (tops_count seats (suc first) tops (omega arith))
  where
    front : (under : List LeafVdev) → AllByRecursion (λ leaf. 1 ≤ leaf.top) (leaves_from seats (suc first) tops)
        → AllByRecursion (λ leaf. 1 ≤ leaf.top) (map (leaf_of seats first) under ++ leaves_from seats (suc first) tops)
    front [] rest = rest
    front (leaf ∷ under) rest = (some, front under rest)

none_done : (items : List Item) (written : ℕ) → written ≡ 0 → (k : Key) → is_done items written k ≡ false
none_done items written none k = ap (λ n. is_done items n k) none

-- Logs that were widened have few ranges together.
ends_small : (s : PoolSeen) (vs : List Move) → AreWidens s vs → ranges_together (seen_along vs s).number (seen_along vs s).leaves ≤ 4096
ends_small s [] are = are
ends_small s (Widen m low high ∷ vs) are = ends_small (step (Widen m low high) s) vs are.2
ends_small s (v ∷ vs) are = absurd are

ranges_sum : (number : ℕ) (seats : List Seat) (tops : List ℕ) (leaves : List LeafVdev) → number ≤ 2 ^ 62 → HaveTops tops leaves
    → AllByRecursion (IsWithin number) leaves
    → ranges_together number (leaves_at seats tops leaves) ≡ sum (map log_length (map leaf_seen leaves))
ranges_sum number seats [] [] high have within = refl
ranges_sum number seats [] (leaf ∷ leaves) high have within = absurd have
ranges_sum number seats (top ∷ tops) [] high have within = absurd have
ranges_sum number seats (top ∷ tops) (leaf ∷ leaves) high have within =
    let here = ap length (ranges_at number leaf high within.0) in
    let rest = ranges_sum number seats tops leaves high have.1 within.1 in
    let all = sum_cons (length (ranges_of leaf.log)) (map log_length (map leaf_seen leaves)) in
    omega (arith, here, rest, all)

module _ (r : PoolParts) (old new : FreezeParts) (group : FrozenGroup) (f : FreezesParts (group_at (r.highest + 1)) old new group)
    (form : AreInForm (idle_parts r old)) (more : r.highest + 1 ≤ 2 ^ 62) where
  pub same_leaves_then : AreSameLeaves (leaves_of old.trees) (leaves_of new.trees)
  same_leaves_then = owing_same (is_off (seats_of 0 old.trees)) (r.highest + 1) (leaves_of old.trees) (leaves_of new.trees) f.logs

  abbrev pub freezing : (held : List Sums) → Move
  freezing held = Freeze (cells_of group.items) (up_devs (seen_of held (idle_parts r old)).leaves)

  -- the leaves' part
  pub owes : (held : List Sums) → OwesNumber (seen_of held (idle_parts r old)) (freezing held) (seats_of 0 old.trees) (begun_parts r new group)
  owes held =
      freezes_number (seen_of held (idle_parts r old)) (idle_parts r old) (begun_parts r new group) refl
      form more (built_sizes old.trees new.trees f.built)
      old.trees refl (cells_of group.items) refl
      (on_leaves (AreOwing (is_off (seats_of 0 old.trees)) (r.highest + 1)) old.trees new.trees (idle_parts r old) (begun_parts r new group)
      refl refl f.logs)

  pub group_is : frozen_seen (r.highest + 1) (cells_of group.items) ≡ group_of (Some group)
  group_is =
      let b = f.begins in
      let first : r.highest + 1 ≡ group.numbers.first.0 = ap (λ (n : Numbers). n.first.0) (sym b.numbers) in
      let done : (λ k. false) ≡ is_done group.items group.written =
      fun_ext (λ k. sym (none_done group.items group.written b.unwritten k)) in
      let flushed : false ≡ group.flushed = sym b.unflushed in
      let begun : false ≡ group.begun = sym b.unbegun in
      cc

  pub sectors_same : sectors_in (all_parts old.trees) ≡ sectors_in (all_parts new.trees)
  sectors_same = sectors_are old.trees ∙ sym f.sectors ∙ sym (sectors_are new.trees)

  pub seen_is : (held : List Sums) → seen_along (owes held).moves (seen_of held (idle_parts r old)) ≡ seen_of held (begun_parts r new group)
  seen_is held =
      let leads = (owes held).leads in
      let committed : sums_of old.map ≡ sums_of new.map = fun_ext (λ k. ap sum_in (sym (f.begins.freeze.takes.keys k))) in
      let room : room_of (sectors_in (all_parts old.trees)) ≡ room_of (sectors_in (all_parts new.trees)) = ap room_of sectors_same in
      let leaves : leaves_from (seats_of 0 old.trees) 1 (leaves_under (all_parts new.trees))
      ≡ leaves_from group.board 1 (leaves_under (all_parts new.trees)) =
      ap (λ seats. leaves_from seats 1 (leaves_under (all_parts new.trees))) (sym f.begins.board) in
      let seen = group_is in
      leads ∙ cc

  pub own_is : record (own_state (idle_parts r old)) { writes = λ a. None } ≡ own_state (begun_parts r new group)
  own_is =
      let blocks : old.map.blocks ≡ new.map.blocks = sym f.begins.freeze.takes.volume.blocks in
      let writes : (λ a. None) ≡ block_at new.unfrozen.writes = fun_ext (λ a. ap (λ ws. block_at ws a) (sym f.empty)) in
      let alike = trees_told old.trees new.trees f.built same_leaves_then in
      let numbers = alike.numbers in
      let children = alike.children in
      cc

  pub steps_are : (held : List Sums) → steps (owes held).moves (state_of held (idle_parts r old)) ≡ state_of held (begun_parts r new group)
  steps_are held =
      let o = owes held in
      let s = state_of held (idle_parts r old) in
      ap (λ vs. steps vs s) o.are.moves
      ∙ widens_own o.are.widens (state_step (freezing held) s) o.are.are
      ∙ ap (λ vs. record { own = record (own_state (idle_parts r old)) { writes = λ a. None }; core = seen_along vs s.core }) (sym o.are.moves)
      ∙ ap (λ core. record { own = record (own_state (idle_parts r old)) { writes = λ a. None }; core = core }) (seen_is held)
      ∙ ap (λ own. record { own = own; core = seen_of held (begun_parts r new group) }) own_is

  pub within_then : AllByRecursion (IsWithin (r.highest + 1)) (all_leaves (begun_parts r new group))
  within_then = (owes []).within

  pub few_then : sum (map log_length (map leaf_seen (leaves_of new.trees))) ≤ 4096
  few_then =
      let o = owes [] in
      let unders = leaves_under (all_parts new.trees) in
      let s = seen_of [] (idle_parts r old) in
      let small : ranges_together (r.highest + 1) (leaves_from (seats_of 0 old.trees) 1 unders) ≤ 4096 =
      subst (λ (t : PoolSeen). ranges_together t.number t.leaves ≤ 4096)
      (ap (λ vs. seen_along vs s) (sym o.are.moves) ∙ o.leads) (ends_small (step (freezing []) s) o.are.widens o.are.are) in
      subst (λ ls. sum (map log_length (map leaf_seen ls)) ≤ 4096) (under_trees new.trees)
      (subst (λ n. n ≤ 4096)
      (ap (ranges_together (r.highest + 1)) (by_tops (seats_of 0 old.trees) 1 unders)
      ∙ ranges_sum (r.highest + 1) (seats_of 0 old.trees) (tops_from 1 unders) (under_all unders) more (have_tops 1 unders)
      (subst (AllByRecursion (IsWithin (r.highest + 1))) (leaves_are new.trees (begun_parts r new group) refl ∙ sym (under_trees new.trees)) within_then)) small)

  pub kept_then : AreKept (leaves_of old.trees) (leaves_of new.trees)
  kept_then = owing_kept (is_off (seats_of 0 old.trees)) (r.highest + 1) (leaves_of old.trees) (leaves_of new.trees) f.logs
