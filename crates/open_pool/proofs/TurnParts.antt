-- A write turn of the engine, and its flush turn, are the rows' parts, and leave the pool in its form.
use Rattle.std.proofs.Common.{◌≡◌, ℕ, ◌≤◌, Bool, List, [], refl, sym, ap, ◌∙◌, subst, arith}
use Rattle.std.specs.Prelude.{All}
use Rattle.std.specs.List.{AllByRecursion, flat_map}
use Rattle.label_store.specs.declared.member.Member.{Member}
use Rattle.block_map.specs.Keys.{root}
use Rattle.block_map.specs.Map.{pointer_at}
use Rattle.vdev_tree.specs.declared.top.Top.{Top}
use Rattle.dtl_rules.specs.Widening.{leaves_of, marks_of, sectors_of}
use Rattle.txg_engine.specs.Boards.{behind_turn}
use Rattle.txg_engine.specs.Frozen.{FrozenGroup}
use Rattle.txg_engine.specs.Logs.{AreBehind, IsReady}
use Rattle.pool_moves.specs.LineRows.{count_moves}
use Rattle.pool_moves.specs.Moves.{steps}
use Rattle.pool_moves.specs.States.{Sums, PoolSeen, PoolState}
use Rattle.pool_moves.specs.Widening.{ranges_together}
use Rattle.pool_moves.proofs.KindsOfMoves.{counts_set}
use Rattle.txg_engine.proofs.TopsServed.{behind_seated}
use Rattle.open_pool.specs.Form.{all_leaves, config_of, IsPool}
use Rattle.open_pool.specs.Parts.{PoolParts, TopParts, all_parts}
use Rattle.open_pool.specs.State.{leaves_from, leaves_under, seen_of, state_of}
use Rattle.open_pool.proofs.BoardIsSeats.{IsBoard, board_of_seats}
use Rattle.open_pool.proofs.BoardKept.{AreSameLeaves, board_behind}
use Rattle.open_pool.proofs.FewRanges.{HasFewRanges, few_left, few_counted, together_are}
use Rattle.open_pool.proofs.GoingKept.{GoesOn, behind_settled, trees_leaves}
use Rattle.open_pool.proofs.LeavesInForm.{in_form}
use Rattle.open_pool.proofs.LeavesStay.{behind_same}
use Rattle.open_pool.proofs.LogsWidened.{IsWithin}
use Rattle.open_pool.proofs.MembersAgree.{IsCrew}
use Rattle.open_pool.proofs.RecordKept.{few_recorded, ranges_in_all, tops_seen}
use Rattle.open_pool.proofs.TreesBuilt.{built_sizes, trees_told}
use Rattle.open_pool.proofs.TurnLeaves.{AreInForm, TurnsLeaves, turns_leaves}
use Rattle.open_pool.proofs.TurnSteps.{going, AreLikeTops}

-- trees that are built alike over the same leaves
pub like_tops : (old new : List Top) → marks_of new ≡ marks_of old → sectors_of new ≡ sectors_of old
    → AreSameLeaves (leaves_of old) (leaves_of new) → AreLikeTops old new
like_tops old new built sectors same = record {
  told = trees_told old new built same;
  sectors = sectors;
}

-- A frozen group's pool, before a turn over members of its board.
module _ (b : PoolParts) (group : FrozenGroup) (old : List Top) (pool : IsPool (going b group old)) (low : 1 ≤ group.numbers.first.0) where
  abbrev p : PoolParts
  p = going b group old

  pub form : AreInForm p
  form = in_form old p refl pool.recordable pool.leaves

  pub shown : IsBoard group.board (leaves_under (all_parts old))
  shown = board_of_seats group.board p pool.board form.numbers

  few_before : (held : List Sums) → HasFewRanges (seen_of held p)
  few_before held =
      subst (λ n. n ≤ 4096) (sym (together_are group.numbers.last.0 group.board (all_parts old) ∙ ap (ranges_in_all group.numbers.last.0) (trees_leaves old)))
      (few_recorded (config_of p (record { 0 = group.numbers.last.0 }) (pointer_at b.map root)) group.numbers.last.0 old (tops_seen old)
      pool.recordable pool.recordable.number.1
      (subst (AllByRecursion (IsWithin group.numbers.last.0)) (trees_leaves old) form.within))

  module _ (new : List Top) (built : marks_of new ≡ marks_of old) (sectors : sectors_of new ≡ sectors_of old)
      (ms : List Member) (done : List Bool) (crew : IsCrew (all_leaves p) ms)
      (behind : AreBehind group.numbers ms done (leaves_of old) (leaves_of new)) where
    -- the group with this board
    abbrev is : (flushed begun : Bool) → ℕ → FrozenGroup
    is flushed begun written = record group { flushed = flushed; begun = begun; written = written; board = behind_turn ms done group.board }

    behind_there : AreBehind group.numbers ms done (all_leaves p) (flat_map (λ (top : TopParts). top.leaves) (all_parts new))
    behind_there = subst (λ ls. AreBehind group.numbers ms done ls (flat_map (λ (top : TopParts). top.leaves) (all_parts new)))
        (sym (trees_leaves old))
        (subst (AreBehind group.numbers ms done (leaves_of old)) (sym (trees_leaves new)) behind)

    -- its leavers and their counts, from each state with its leaves and numbers
    pub leavers : (s : PoolSeen) (flushed begun : Bool) (written : ℕ) → s.leaves ≡ leaves_from group.board 1 (leaves_under (all_parts old))
        → s.number ≡ group.numbers.last.0 → s.group.first ≡ group.numbers.first.0
        → TurnsLeaves s ms done (behind_turn ms done group.board) (going b (is flushed begun written) new)
    leavers s flushed begun written seen number first =
        turns_leaves s group.board p (going b (is flushed begun written) new) group.numbers ms done seen number refl (sym first)
        (subst (λ n. 1 ≤ n) (sym first) low) pool.board form crew (built_sizes old new built) behind_there

    few_after : (s : PoolSeen) (flushed begun : Bool) (written : ℕ) → s.leaves ≡ leaves_from group.board 1 (leaves_under (all_parts old))
        → s.number ≡ group.numbers.last.0
        → TurnsLeaves s ms done (behind_turn ms done group.board) (going b (is flushed begun written) new)
        → (own : PoolState) → ranges_in_all group.numbers.last.0 (leaves_of new) ≤ 4096
    few_after s flushed begun written seen number left own =
        let before : HasFewRanges s = subst (λ n. ranges_together n s.leaves ≤ 4096) (sym number)
        (subst (λ ls. ranges_together group.numbers.last.0 ls ≤ 4096) (sym seen) (few_before [])) in
        let t : PoolState = record own { core = record s { leaves = left.between } } in
        let after : HasFewRanges (steps (count_moves s.leaves ms done) t).core =
        few_counted (count_moves s.leaves ms done) t (counts_set s.leaves ms done)
        (subst HasFewRanges left.leads (few_left s ms done left.leaving left.are before)) in
        subst (λ n. n ≤ 4096) (together_are group.numbers.last.0 (behind_turn ms done group.board) (all_parts new)
        ∙ ap (ranges_in_all group.numbers.last.0) (trees_leaves new))
        (subst (λ n. ranges_together n (leaves_from (behind_turn ms done group.board) 1 (leaves_under (all_parts new))) ≤ 4096) number
        (subst (λ (u : PoolState). HasFewRanges u.core) (left.counted t refl) after))

    pub same_leaves_there : AreSameLeaves (leaves_of old) (leaves_of new)
    same_leaves_there = behind_same group.numbers ms done (leaves_of old) (leaves_of new) behind

    -- so the group goes on
    pub goes_on : (flushed begun : Bool) (written : ℕ)
        → All (IsReady (behind_turn ms done group.board) group.numbers.last.0) (leaves_of new)
        → GoesOn b group (is flushed begun written) old new
    goes_on flushed begun written ready =
        let s = seen_of [] p in
        let left = leavers s flushed begun written refl refl refl in
        let same = same_leaves_there in
        record {
          built = built;
          sectors = sectors;
          items = refl;
          first = refl;
          later = omega arith;
          high = pool.recordable.number.1;
          unacked = pool.group.unacked;
          same = same;
          settled = behind_settled group.numbers ms done (leaves_of old) (leaves_of new) behind;
          within = subst (AllByRecursion (IsWithin group.numbers.last.0)) (trees_leaves new) left.within;
          few = few_after s flushed begun written refl refl left (state_of [] p);
          board = board_behind ms done group.board p (going b (is flushed begun written) new) (built_sizes old new built)
              (subst (λ ls. AreSameLeaves ls (all_leaves (going b (is flushed begun written) new))) (sym (trees_leaves old))
              (subst (AreSameLeaves (leaves_of old)) (sym (trees_leaves new)) same)) pool.board;
          seated = λ top. behind_seated ms done top group.board;
          ready = ready;
        }
