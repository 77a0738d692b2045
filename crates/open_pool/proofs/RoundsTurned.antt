-- A round of the engine leaves what a turn leaves.
use Rattle.std.proofs.Common.{◌≡◌, ◌⊎◌, ℕ, ◌+◌, ◌≤◌, ◌^◌, Bool, true, false, List, map, Option, Some, None, Result, Ok, Err, refl, sym, ap, ◌∙◌, subst, arith}
use Rattle.std.specs.Prelude.{All, IsErrAnd}
use Rattle.std.specs.List.{AllZip}
use Rattle.mp_base.specs.declared.place.Pointer.{Pointer}
use Rattle.bank_core.specs.BankView.{BankView}
use Rattle.label_store.specs.declared.member.Member.{Member}
use Rattle.label_store.specs.Committing.{Commits}
use Rattle.label_store.specs.Rounds.{Commit}
use Rattle.label_store.specs.Seats.{AreSeated}
use Rattle.block_map.specs.Keys.{root}
use Rattle.block_map.specs.Map.{pointer_at}
use Rattle.vdev_tree.specs.declared.top.Top.{Top}
use Rattle.vdev_tree.specs.declared.vdev.LeafVdev.{LeafVdev}
use Rattle.dtl_rules.specs.Widening.{leaves_of, sectors_of}
use Rattle.pool_config.specs.Seen.{top_seen}
use Rattle.pool_config.specs.Validity.{IsHole, IsPlaced}
use Rattle.txg_engine.specs.declared.close_turn.Closed.{Closed}
use Rattle.txg_engine.specs.declared.seat.Suspended.{Suspended}
use Rattle.txg_engine.specs.Boards.{behind_turn, board_of}
use Rattle.txg_engine.specs.Frozen.{FrozenGroup, IsGroup}
use Rattle.txg_engine.specs.Items.{laid}
use Rattle.txg_engine.specs.Logs.{AreBehind, AreGrown, IsReady, IsSettled, is_off}
use Rattle.txg_engine.specs.Turns.{EndsRound, GoesOn, IsSuspended, MakesRound, all_done, emptied_top, numbers_of, with_next}
use Rattle.txg_engine.proofs.Closing.{falls, seated_members}
use Rattle.pool_codec.specs.Codecs.{pool_codec}
use Rattle.open_pool.specs.declared.turn.TurnDone.{TurnDone}
use Rattle.open_pool.specs.declared.turn.TurnDone.TheVariants as done
use Rattle.open_pool.specs.Form.{IsPool}
use Rattle.open_pool.specs.Parts.{PoolParts}
use Rattle.open_pool.specs.Turning.{Draws, closed_as}
use Rattle.open_pool.proofs.DraftFits.{drawn_of}
use Rattle.open_pool.proofs.DraftValid.{root_placed}
use Rattle.open_pool.proofs.GoingKept.{going_kept, root_kept}
use Rattle.open_pool.proofs.GroupEnds.{acknowledged_kept}
use Rattle.open_pool.proofs.MembersAgree.{board_crew}
use Rattle.open_pool.proofs.PlacesEnd.{adopted_apart, adopted_places}
use Rattle.open_pool.proofs.RoundAnswers.{round_burns, round_commits}
use Rattle.open_pool.proofs.RoundDraws.{drawn_goes, round_goes}
use Rattle.open_pool.proofs.RoundParts.{whole_round}
use Rattle.open_pool.proofs.TurnAnswers.{burned_pool_kept}
use Rattle.open_pool.proofs.TurnLeft.{HasTurned, MayTurn, TurnLeaves}
use Rattle.open_pool.proofs.TurnParts.{form, goes_on}
use Rattle.open_pool.proofs.TurnSteps.{going}

module _ (b : PoolParts) (was is : FrozenGroup) (old new : List Top) (from to : BankView) (result : Result TurnDone Suspended) (commit : Commit)
    (outcome : Result Closed Suspended) (may : MayTurn from.size b was old) (turned : HasTurned was is old new result) (flushed : was.flushed ≡ true)
    (full : emptied_top (numbers_of old) was ≡ None) (same : numbers_of new ≡ numbers_of old) (draws : Draws commit (drawn_of b was old))
    (round : MakesRound pool_codec.head_of commit (numbers_of new) (record { group = was; leaves = leaves_of old; bank = from })
    (record { group = is; leaves = leaves_of new; bank = to }) outcome)
    (says : result ≡ closed_as outcome) where
  abbrev board : List Member
  board = board_of was.board

  abbrev pool : IsPool (going b was old)
  pool = may.pool

  abbrev kept : IsGroup was
  kept = may.kept

  abbrev commits : Commits pool_codec.head_of from.size commit board round.results from to
  commits = round.commits

  abbrev left : FrozenGroup
  left = record was { begun = true; board = behind_turn (board_of was.board) round.results was.board }

  seated : AreSeated from.size board
  seated = seated_members from.size (sectors_of old) was.board board refl may.seated.seats

  -- by what the group is, and by what is answered
  leaves_so : (g : FrozenGroup) (r : Result TurnDone Suspended) → is ≡ g → result ≡ r
      → (All (IsReady g.board g.numbers.last.0) (leaves_of new) → TurnLeaves from.size b was g old new from to r)
      → TurnLeaves from.size b was is old new from to result
  leaves_so g r group answer so =
      subst (TurnLeaves from.size b was is old new from to) (sym answer)
      (subst (λ (x : FrozenGroup). TurnLeaves from.size b was x old new from to r) (sym group)
      (so (subst (λ (x : FrozenGroup). All (IsReady x.board x.numbers.last.0) (leaves_of new)) group turned.ready)))

  -- no leaf failed
  whole_leaves : all_done round.results ≡ true → AllZip IsSettled (leaves_of old) (leaves_of new)
      → TurnLeaves from.size b was (record was { begun = true; acked = true }) old new from to (Ok (done.Committed was.numbers.last))
  whole_leaves all settles = λ held m pins adopted none.
      let placed = subst (λ (r : Pointer). IsHole r ⊎ IsPlaced was.numbers.last (map top_seen new) r) (sym (adopted.keys root))
      (root_kept was.numbers.last was.numbers.last old new (laid was.items (pointer_at b.map) root) (omega arith) turned.sectors
      (root_placed b was old pool kept)) in (
        refl,
        (
          acknowledged_kept b was old new pool m pins kept.order may.rise adopted turned.built turned.sectors settles
              (adopted_places b was old pool.places pool.apart kept.rise m pins new kept.low pool.group.signed adopted none)
              (adopted_apart b was old pool.places pool.apart kept.rise m pins new kept.low pool.group.signed adopted none) placed,
          λ were. round_commits from.size held b was old new m pins commits.made from to pool kept full
              (whole_round from.size held b was old pool kept flushed full seated commit draws commits.made round.results commits.round all commits.round.all)
              adopted none turned.built turned.sectors settles commits.calls,
        ),
      )

  -- one failed, and each top has somebody left
  drawn_leaves : all_done round.results ≡ false → (between : List LeafVdev) → AreBehind was.numbers board round.results (leaves_of old) between
      → emptied_top (numbers_of new) left ≡ None
      → AreGrown (is_off left.board) (was.numbers.last.0 + 1) (was.numbers.last.0 + 1) between (leaves_of new)
      → All (IsReady left.board (was.numbers.last.0 + 1)) (leaves_of new)
      → TurnLeaves from.size b was (record left { numbers = with_next was.numbers }) old new from to (Ok (done.Round was.numbers.last))
  drawn_leaves failed between behind none grown ready = λ held.
      let more : was.numbers.last.0 + 1 ≤ 2 ^ 62 =
      (let high = kept.high in let fewer = falls board board round.results was.board left.board refl refl commits.round failed refl in
      omega (arith, high, fewer)) in (
        going_kept b was (record left { numbers = with_next was.numbers }) old new pool
            (drawn_goes from.size held b was old pool kept flushed full seated commit draws commits.made round.results commits.round between new
            turned.built turned.sectors behind grown more ready),
        λ were. round_goes from.size held b was old pool kept flushed full seated commit draws commits.made round.results commits.round between new
            turned.built turned.sectors behind grown more failed commits.round.all none from to were commits.calls,
      )

  -- one failed, and a top has nobody left
  told_leaves : all_done round.results ≡ false → AreBehind was.numbers board round.results (leaves_of old) (leaves_of new)
      → (top : ℕ) (told : Suspended) → emptied_top (numbers_of new) left ≡ Some top → IsSuspended (numbers_of new) left top told
      → All (IsReady left.board was.numbers.last.0) (leaves_of new)
      → TurnLeaves from.size b was left old new from to (Err told)
  told_leaves failed behind top told empty tells ready = λ held cut m pins writes kept' burned.
      let shape = form b was old pool kept.low in
      let pool' = going_kept b was left old new pool (goes_on b was old pool kept.low new turned.built turned.sectors board round.results
      (board_crew was.board (going b was old) pool.board shape.numbers shape.devices) behind was.flushed true was.written ready) in (
        burned_pool_kept b left new cut pool' kept' m pins writes burned,
        λ were. round_burns from.size held b was old pool kept flushed full seated commit draws commits.made round.results commits.round new
            turned.built turned.sectors behind failed commits.round.all cut m pins writes top told from to pool' kept' burned empty tells were
            commits.calls,
      )

  suspended : (top : ℕ) → all_done round.results ≡ false → AreBehind was.numbers board round.results (leaves_of old) (leaves_of new)
      → emptied_top (numbers_of new) left ≡ Some top → is ≡ left → (o : Result Closed Suspended) → result ≡ closed_as o
      → IsErrAnd o (IsSuspended (numbers_of new) left top) → TurnLeaves from.size b was is old new from to result
  suspended top failed behind empty group (Ok x) answer tells = absurd tells
  suspended top failed behind empty group (Err told) answer tells =
      leaves_so left (Err told) group answer (told_leaves failed behind top told empty tells)

  goes : (top : Option ℕ) → emptied_top (numbers_of new) left ≡ top → all_done round.results ≡ false → (between : List LeafVdev)
      → AreBehind was.numbers board round.results (leaves_of old) between
      → GoesOn top (numbers_of new) left between (record { group = is; leaves = leaves_of new; bank = to }) outcome
      → TurnLeaves from.size b was is old new from to result
  goes (Some top) empty failed between behind (group, leaves, tells) =
      suspended top failed (subst (AreBehind was.numbers board round.results (leaves_of old)) (sym leaves) behind) empty group outcome says tells
  goes None empty failed between behind (drawn, answer) =
      leaves_so (record left { numbers = with_next was.numbers }) (Ok (done.Round was.numbers.last)) drawn.group (says ∙ ap closed_as answer)
      (drawn_leaves failed between behind empty drawn.grown)

  by_end : (whole : Bool) → all_done round.results ≡ whole
      → EndsRound whole (numbers_of new) round.results (record was { begun = true }) (record { group = was; leaves = leaves_of old; bank = from })
      (record { group = is; leaves = leaves_of new; bank = to }) outcome
      → TurnLeaves from.size b was is old new from to result
  by_end true all (group, settles, answer) =
      leaves_so (record was { begun = true; acked = true }) (Ok (done.Committed was.numbers.last)) group (says ∙ ap closed_as answer)
      (λ ready. whole_leaves all settles)
  by_end false failed (between, behind, more) = goes (emptied_top (numbers_of new) left) refl failed between behind more

  -- What a round leaves.
  pub round_made : TurnLeaves from.size b was is old new from to result
  round_made = by_end (all_done round.results) refl round.ends
