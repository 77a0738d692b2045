-- What a write turn and the flush turn leave: the pool whose group goes on, or the one behind the group that was suspended.
use Rattle.std.proofs.Common.{◌≡◌, ℕ, ◌+◌, Bool, true, false, List, inl, inr, length, map, Option, Some, None, Result, Ok, Err, refl, sym, subst, arith}
use Rattle.std.proofs.lemmas.Bool.{true≢false, false_from_ne_true, eqb-true, eqb-false}
use Rattle.std.proofs.lemmas.Option.{slice_get_cases}
use Rattle.bank_core.specs.Asks.{Ask}
use Rattle.bank_core.specs.BankView.{BankView}
use Rattle.bank_core.specs.Calls.{Makes}
use Rattle.bank_core.specs.Disk.{Noted}
use Rattle.label_store.specs.declared.member.Member.{Member}
use Rattle.label_store.specs.Phases.{IsPhase}
use Rattle.vdev_tree.specs.declared.top.Top.{Top}
use Rattle.dtl_rules.specs.Widening.{leaves_of}
use Rattle.txg_history.specs.Turns.{write_plan, flush_plan}
use Rattle.txg_engine.specs.declared.item.Item.{Item}
use Rattle.txg_engine.specs.declared.seat.Suspended.{Suspended}
use Rattle.txg_engine.specs.Boards as engine
use Rattle.txg_engine.specs.Boards.{behind_turn}
use Rattle.txg_engine.specs.Frozen.{FrozenGroup, is_written_out}
use Rattle.txg_engine.specs.Items.{cell_of}
use Rattle.txg_engine.specs.Logs.{AreBehind}
use Rattle.txg_engine.specs.Turns.{Answers, IsTurnBy, emptied_top, numbers_of}
use Rattle.pool_moves.specs.LineRows.{TurnReply, Write, Flush, RowTurn}
use Rattle.pool_moves.specs.States.{Sums}
use Rattle.pool_codec.specs.Codecs.{pool_codec}
use Rattle.open_pool.specs.declared.turn.TurnDone.{TurnDone}
use Rattle.open_pool.specs.declared.turn.TurnDone.TheVariants as done
use Rattle.open_pool.specs.Answering.{Does}
use Rattle.open_pool.specs.Committing.{turn_says}
use Rattle.open_pool.specs.Form.{IsPool, all_leaves}
use Rattle.open_pool.specs.Parts.{PoolParts}
use Rattle.open_pool.specs.State.{state_of}
use Rattle.open_pool.specs.Turning.{FlushesBoard, WritesKey, answered}
use Rattle.open_pool.proofs.GoingKept.{going_kept}
use Rattle.open_pool.proofs.MembersAgree.{IsCrew, board_crew, under_crew}
use Rattle.open_pool.proofs.PartRows.{IsPart, flush_part, write_part}
use Rattle.open_pool.proofs.TurnAnswers.{burned_pool_kept, part_burns, part_goes}
use Rattle.open_pool.proofs.TurnLeft.{HasTurned, Leaves, MayTurn, TurnLeaves}
use Rattle.open_pool.proofs.TurnParts.{form, goes_on}
use Rattle.open_pool.proofs.TurnSteps.{going}
use Rattle.open_pool.proofs.TurnSuspended.{same_numbers, suspended_before}

-- A part of a turn, which answers so where the group goes on.
module _ (size : ℕ → ℕ) (b : PoolParts) (was : FrozenGroup) (old new : List Top) (from to : BankView) (may : MayTurn size b was old)
    (reply : TurnReply) (kind : TurnDone) (says : turn_says reply ≡ Ok kind)
    (as_goes : (is : FrozenGroup) → ((held : List Sums) → Leaves size held (going b was old) (going b is new) from to (Ok kind))
    → TurnLeaves size b was is old new from to (Ok kind))
    (flushed : Bool) (written : ℕ) (ms : List Member) (crew : IsCrew (all_leaves (going b was old)) ms) where
  abbrev behind : List Bool → FrozenGroup
  behind done = record was { flushed = flushed; written = written; board = behind_turn ms done was.board }

  -- The group goes on behind it, or is suspended.
  part_left : (result : Result TurnDone Suspended) (done : List Bool) → HasTurned was (behind done) old new result
      → emptied_top (numbers_of new) was ≡ None → AreBehind was.numbers ms done (leaves_of old) (leaves_of new)
      → (made : List Noted) → Makes made from to → ((held : List Sums) → IsPart size held (going b was old) (going b (behind done) new) false reply made)
      → (outcome : Result (Unit {0}) Suspended) → Answers (numbers_of new) (behind done) (emptied_top (numbers_of new) (behind done)) outcome
      → TurnLeaves size b was (behind done) old new from to (answered kind outcome)
  part_left result done turned none are made calls part outcome answers =
      by (going_kept b was (behind done) old new may.pool
      (goes_on b was old may.pool may.kept.low new turned.built turned.sectors ms done crew are flushed was.begun written turned.ready))
      (subst (λ l. emptied_top l was ≡ None) (same_numbers old new turned.built) none) (emptied_top (numbers_of new) (behind done)) refl outcome answers
    where
      by : IsPool (going b (behind done) new) → emptied_top (numbers_of old) was ≡ None
          → (top : Option ℕ) → emptied_top (numbers_of new) (behind done) ≡ top
          → (outcome : Result (Unit {0}) Suspended) → Answers (numbers_of new) (behind done) top outcome
          → TurnLeaves size b was (behind done) old new from to (answered kind outcome)
      by pool full None none (Ok x) answers = as_goes (behind done) (λ held. (
        pool,
        λ were.
            subst (λ r. Does (RowTurn pool_codec size (state_of held (going b was old))) turn_says r (state_of held (going b was old)) (going b (behind done) new)
            from to) says
            (part_goes size held b was (behind done) old new reply made from to may.pool may.kept.low pool may.kept.low full none (part held) were calls),
      ))
      by pool full None none (Err told) answers = absurd (true≢false (sym answers))
      by pool full (Some top) some (Ok x) answers = absurd answers
      by pool full (Some top) some (Err told) answers = λ held cut m pins writes kept burned. (
        burned_pool_kept b (behind done) new cut pool kept m pins writes burned,
        λ were. part_burns b (behind done) new cut pool kept m pins writes burned size held was old reply made top told from to may.pool may.kept.low full
            (part held) some answers were calls,
      )

  abbrev Turns : (plan : Member → List Ask) → FrozenGroup → Option ℕ → Result (Unit {0}) Suspended → Type 0
  Turns plan is top outcome =
      let noted : FrozenGroup = record was { flushed = flushed; written = written } in
      IsTurnBy top (numbers_of new) plan ms noted (record { group = was; leaves = leaves_of old; bank = from })
      (record { group = is; leaves = leaves_of new; bank = to }) outcome

  -- So a turn of it does, where a top with nobody on the board before it suspends the group at once.
  turn_left : (plan : Member → List Ask) (is : FrozenGroup) (result : Result TurnDone Suspended) → HasTurned was is old new result
      → ((held : List Sums) (made : List Noted) (done : List Bool) → IsPhase plan ms (map (λ m. true) ms) done made
      → AreBehind was.numbers ms done (leaves_of old) (leaves_of new)
      → IsPart size held (going b was old) (going b (behind done) new) false reply made)
      → (outcome : Result (Unit {0}) Suspended) → Turns plan is (emptied_top (numbers_of new) was) outcome
      → result ≡ answered kind outcome → TurnLeaves size b was is old new from to result
  turn_left plan is result turned part outcome turn answer = by (emptied_top (numbers_of new) was) refl outcome turn answer
    where
      by : (top : Option ℕ) → emptied_top (numbers_of new) was ≡ top → (outcome : Result (Unit {0}) Suspended) → Turns plan is top outcome
          → result ≡ answered kind outcome → TurnLeaves size b was is old new from to result
      by (Some top) some (Ok x) turn answer = absurd turn.1
      by (Some top) some (Err told) turn answer = suspended_before size b was is old new from to result top told may turned turn.0 some turn.1 answer
      by None none outcome turn answer =
          let works = turn.0 in
          let made = works.calls in
          subst (TurnLeaves size b was is old new from to) (sym answer)
          (subst (λ g. HasTurned was g old new result → Answers (numbers_of new) g (emptied_top (numbers_of new) g) outcome
          → TurnLeaves size b was g old new from to (answered kind outcome)) (sym works.group)
          (λ turned answers. part_left result works.results turned none works.leaves made.made made.calls
          (λ held. part held made.made works.results made.phase works.leaves) outcome answers)
          turned turn.1)

module _ (size : ℕ → ℕ) (b : PoolParts) (was is : FrozenGroup) (old new : List Top) (from to : BankView) (result : Result TurnDone Suspended)
    (may : MayTurn size b was old) (turned : HasTurned was is old new result) where
  -- The next key's turn.
  pub writes_key : is_written_out was ≡ false
      → WritesKey (numbers_of new) (record { group = was; leaves = leaves_of old; bank = from }) (record { group = is; leaves = leaves_of new; bank = to }) result
      → TurnLeaves size b was is old new from to result
  writes_key left writes =
      let more = eqb-false was.written (length was.items) left in
      let unflushed : was.flushed ≡ false = false_from_ne_true was.flushed (λ flushed. more (may.kept.flushed flushed)) in
      elim (slice_get_cases was.items was.written).1 [
        | inl next ↦ (let item : Item = next.0 in
            let top = item.pointer.place.top in
            let shape = form b was old may.pool may.kept.low in
            turn_left size b was old new from to may Write done.Write refl (λ g goes. goes) was.flushed (was.written + 1)
            (engine.board_under top was.board) (under_crew was.board (going b was old) may.pool.board shape.numbers shape.devices top)
            (write_plan (cell_of item)) is result turned
            (λ held made done phase behind. write_part size held b was old new may.pool may.kept turned.built turned.sectors made done
            item next.2 unflushed phase behind)
            writes.outcome (writes.turn item next.2) writes.says)
        | inr past ↦ (let within = may.kept.within in absurd (more (omega (arith, past.0, within))))
      ]

  -- The flush turn.
  pub flushes_board : is_written_out was ≡ true → was.flushed ≡ false
      → FlushesBoard (numbers_of new) (record { group = was; leaves = leaves_of old; bank = from }) (record { group = is; leaves = leaves_of new; bank = to })
      result
      → TurnLeaves size b was is old new from to result
  flushes_board out unflushed flushes =
      let shape = form b was old may.pool may.kept.low in
      turn_left size b was old new from to may Flush done.Flush refl (λ g goes. goes) true was.written
      (engine.board_of was.board) (board_crew was.board (going b was old) may.pool.board shape.numbers shape.devices)
      flush_plan is result turned
      (λ held made done phase behind. flush_part size held b was old new may.pool may.kept turned.built turned.sectors made done
      (eqb-true was.written (length was.items) out) unflushed phase behind)
      flushes.outcome flushes.turn flushes.says
