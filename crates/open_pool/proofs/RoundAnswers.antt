-- What a round answers is what its row says, and the pool is left as the row's moves leave it.
use Rattle.std.proofs.Common.{◌≡◌, ℕ, suc, cond, Bool, true, false, List, [], ◌∷◌, ◌++◌, Some, None, Err, refl, sym, ap, ◌∙◌, subst}
use Rattle.std.specs.List.{AllZip}
use Rattle.bank_core.specs.BankView.{BankView}
use Rattle.bank_core.specs.Calls.{Makes}
use Rattle.bank_core.specs.Disk.{Noted}
use Rattle.label_store.specs.Rounds.{Commit, IsRound}
use Rattle.label_store.specs.Seats.{AreSeated}
use Rattle.block_map.specs.Map.{Map}
use Rattle.vdev_tree.specs.declared.top.Top.{Top}
use Rattle.dtl_rules.specs.Widening.{leaves_of, marks_of, sectors_of}
use Rattle.txg_history.specs.Rounds.{all_true}
use Rattle.txg_engine.specs.declared.seat.Suspended.{Suspended}
use Rattle.txg_engine.specs.Boards as engine
use Rattle.txg_engine.specs.Boards.{behind_turn}
use Rattle.txg_engine.specs.Ending.{IsAdopted}
use Rattle.txg_engine.specs.Frozen.{FrozenGroup, IsGroup}
use Rattle.txg_engine.specs.Logs.{AreBehind, IsSettled}
use Rattle.txg_engine.specs.Pins.{PinsSeen}
use Rattle.txg_engine.specs.Turns.{IsTold, emptied_top, numbers_of}
use Rattle.txg_engine.specs.Writes.{OpenGroup}
use Rattle.pool_codec.specs.Codecs.{pool_codec}
use Rattle.pool_moves.specs.LineRows.{Round, Committed, EndsBy, EndsTurn, RowTurn, StartsBy, suspended_by}
use Rattle.pool_moves.specs.Moves.{Burn, Commits, step, steps, Starts}
use Rattle.pool_moves.specs.Drafts.{draft_of}
use Rattle.pool_moves.specs.States.{Sums, sums, PoolState}
use Rattle.pool_moves.proofs.FreeWalks.{steps_more}
use Rattle.open_pool.specs.Answering.{Does}
use Rattle.open_pool.specs.Committing.{turn_says}
use Rattle.open_pool.specs.Form.{IsPool}
use Rattle.open_pool.specs.Parts.{PoolParts}
use Rattle.open_pool.specs.State.{ArePinned, cells_of, own_state, seen_of, state_of}
use Rattle.open_pool.specs.Turning.{Draws}
use Rattle.open_pool.proofs.DraftFits.{drawn_of}
use Rattle.open_pool.proofs.EndStates.{commit_steps}
use Rattle.open_pool.proofs.LeavesStay.{settled_same}
use Rattle.open_pool.proofs.MembersAgree.{board_crew}
use Rattle.open_pool.proofs.PartRows.{made_first}
use Rattle.open_pool.proofs.PlacesEnd.{acknowledged, adopted_pins, adopted_sums, burned_pool}
use Rattle.open_pool.proofs.RoundParts.{IsWholeRound, behind_round, failed_round, stale}
use Rattle.open_pool.proofs.TurnAnswers.{IsBurned, burn_leads, burn_pins, does_turn, pins_still}
use Rattle.open_pool.proofs.TurnEndings.{none_emptied, one_emptied, told_says}
use Rattle.open_pool.proofs.TurnLeaves.{TurnsLeaves}
use Rattle.open_pool.proofs.TurnParts.{form, leavers, like_tops, same_leaves_there}
use Rattle.open_pool.proofs.TurnSteps.{going, own_kept, room_kept, AreLikeTops}

-- The moves of a whole round lead to the pool whose record is acknowledged.
pub whole_leads : (size : ℕ → ℕ) (held : List Sums) (b : PoolParts) (group : FrozenGroup) (old new : List Top) (m : Map) (pins : PinsSeen)
    (made : List Noted) → (pool : IsPool (going b group old)) (kept : IsGroup group) → (r : IsWholeRound size held b group old made)
    → IsAdopted group.items b.pins.places b.map m → pins.places ≡ []
    → marks_of new ≡ marks_of old → sectors_of new ≡ sectors_of old → AllZip IsSettled (leaves_of old) (leaves_of new)
    → steps (r.moves ++ Commits r.draft ∷ []) (state_of held (going b group old)) ≡ state_of [] (acknowledged b group m pins new)
whole_leads size held b group old new m pins made pool kept r adopted none built sectors settles =
    let s = state_of held (going b group old) in
    steps_more r.moves (Commits r.draft ∷ []) s ∙ ap (steps (Commits r.draft ∷ [])) r.leads
    ∙ commit_steps held b group old new (like_tops old new built sectors (settled_same (leaves_of old) (leaves_of new) settles)) built m pins r.draft r.number_is
    (adopted_sums b group old pool.places pool.apart kept.rise m pins new kept.low pool.group.signed adopted none) adopted.volume.blocks settles

-- A whole round commits.
pub round_commits : (size : ℕ → ℕ) (held : List Sums) (b : PoolParts) (group : FrozenGroup) (old new : List Top) (m : Map) (pins : PinsSeen)
    (made : List Noted) (from to : BankView) → (pool : IsPool (going b group old)) (kept : IsGroup group) → emptied_top (numbers_of old) group ≡ None
    → (r : IsWholeRound size held b group old made) → IsAdopted group.items b.pins.places b.map m → pins.places ≡ []
    → marks_of new ≡ marks_of old → sectors_of new ≡ sectors_of old → AllZip IsSettled (leaves_of old) (leaves_of new)
    → Makes made from to
    → Does (RowTurn pool_codec size (state_of held (going b group old))) turn_says (turn_says (Committed group.numbers.last.0))
    (state_of held (going b group old)) (acknowledged b group m pins new) from to
round_commits size held b group old new m pins made from to pool kept full r adopted none built sectors settles calls =
    let s = state_of held (going b group old) in
    does_turn size held [] (going b group old) (acknowledged b group m pins new) (r.moves ++ Commits r.draft ∷ []) (Committed group.numbers.last.0)
    (turn_says (Committed group.numbers.last.0)) from to
    (subst (λ o. StartsBy o pool_codec size s (r.moves ++ Commits r.draft ∷ []) (Committed group.numbers.last.0))
    (sym (none_emptied b group old pool kept.low held full)) r.is_part)
    refl
    (whole_leads size held b group old new m pins made pool kept r adopted none built sectors settles)
    (adopted_pins b group old pool.places pool.apart kept.rise m pins new kept.low pool.group.signed adopted none)
    (subst (λ l. Makes l from to) (sym r.calls) calls)

module _ (size : ℕ → ℕ) (held : List Sums) (b : PoolParts) (group : FrozenGroup) (old : List Top) (pool : IsPool (going b group old)) (kept : IsGroup group)
    (flushed : group.flushed ≡ true) (full : emptied_top (numbers_of old) group ≡ None) (seated : AreSeated size (engine.board_of group.board))
    (commit : Commit) (draws : Draws commit (drawn_of b group old)) (made : List Noted) (done : List Bool)
    (round : IsRound size commit (engine.board_of group.board) done made)
    (mid : List Top) (built : marks_of mid ≡ marks_of old) (sectors : sectors_of mid ≡ sectors_of old)
    (behind : AreBehind group.numbers (engine.board_of group.board) done (leaves_of old) (leaves_of mid)) where
  -- the group behind a round in which a leaf failed
  abbrev pub failed_group : FrozenGroup
  failed_group = record group { begun = true; board = behind_turn (engine.board_of group.board) done group.board }

  left : TurnsLeaves (step (Starts (draft_of commit (seen_of held (going b group old)).leaves)) (seen_of held (going b group old)))
      (engine.board_of group.board) done (behind_turn (engine.board_of group.board) done group.board) (going b failed_group mid)
  left = leavers b group old pool kept.low mid built sectors (engine.board_of group.board) done
      (board_crew group.board (going b group old) pool.board (form b group old pool kept.low).numbers (form b group old pool kept.low).devices)
      behind (step (Starts (draft_of commit (seen_of held (going b group old)).leaves)) (seen_of held (going b group old))) group.flushed true group.written
      refl refl refl

  like : AreLikeTops old mid
  like = like_tops old mid built sectors (same_leaves_there b group old pool kept.low mid built sectors (engine.board_of group.board) done
      (board_crew group.board (going b group old) pool.board (form b group old pool kept.low).numbers (form b group old pool kept.low).devices) behind)

  abbrev there : PoolState
  there = behind_round size held b group old pool kept flushed full seated commit draws made done round (going b failed_group mid) left

  there_is : there ≡ stale held b failed_group mid
  there_is =
      ap (λ (f : ℕ → ℕ). record (stale held b failed_group mid) {
        own = own_state (going b group old);
        core = record ((stale held b failed_group mid).core) { room = f };
      }) (sym (room_kept old mid like))
      ∙ ap (λ own. record (stale held b failed_group mid) { own = own }) (sym (own_kept b group failed_group old mid like))

  -- It suspends the group where a top has nobody left.
  pub round_burns : all_true done ≡ false → made ≡ round.first ++ (round.second ++ round.third)
      → (new : List Top) (m : Map) (pins : PinsSeen) (writes : OpenGroup) (top : ℕ) (told : Suspended) (from to : BankView)
      → (pool' : IsPool (going b failed_group mid)) (kept' : IsGroup failed_group) → IsBurned b failed_group mid new m pins writes
      → emptied_top (numbers_of mid) failed_group ≡ Some top → IsTold (numbers_of mid) group.numbers.first failed_group.board top told
      → ArePinned held (going b group old) → Makes made from to
      → Does (RowTurn pool_codec size (state_of held (going b group old))) turn_says (Err told) (state_of held (going b group old))
      (burned_pool b failed_group m pins writes new) from to
  round_burns failed all new m pins writes top told from to pool' kept' burned empty is were calls =
      let s = state_of held (going b group old) in
      let t = state_of held (going b failed_group mid) in
      let r = failed_round size held b group old pool kept flushed full seated commit draws made done round (going b failed_group mid) left failed all in
      does_turn size held (cond true (sums (cells_of group.items) ∷ held) held) (going b group old) (burned_pool b failed_group m pins writes new)
      (r.moves ++ Burn ∷ []) (suspended_by t (suc top)) (Err told) from to
      (subst (λ o. StartsBy o pool_codec size s (r.moves ++ Burn ∷ []) (suspended_by t (suc top))) (sym (none_emptied b group old pool kept.low held full))
      (r.is_part (Burn ∷ []) (suspended_by t (suc top))
      (subst (λ u. EndsTurn u true (Round group.numbers.last.0) (Burn ∷ []) (suspended_by t (suc top))) (sym there_is)
      (subst (λ o. EndsBy o (stale held b failed_group mid) true (Round group.numbers.last.0) (Burn ∷ []) (suspended_by t (suc top)))
      (sym (one_emptied b failed_group mid pool' kept'.low held top empty)) (refl, refl)))))
      (told_says b failed_group mid pool' kept'.low held top told is)
      (steps_more r.moves (Burn ∷ []) s ∙ ap (steps (Burn ∷ [])) (r.leads ∙ there_is)
      ∙ burn_leads b failed_group mid new pool' kept' m pins writes burned held)
      (burn_pins b failed_group mid new pool' kept' m pins writes burned held (pins_still held b group failed_group old mid were))
      (subst (λ l. Makes l from to) (sym (made_first r.moves (Burn ∷ []) refl ∙ r.calls)) calls)
