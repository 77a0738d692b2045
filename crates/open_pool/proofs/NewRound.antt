-- The round of a new pool's first record: a row, whether or not a leaf fails in it.
use Rattle.std.proofs.Common.{◌≡◌, ℕ, Bool, true, false, List, [], ◌∷◌, ◌++◌, length, Some, None, refl, sym, ap, ◌∙◌, subst}
use Rattle.std.specs.List.{AllZip}
use Rattle.label_store.specs.Rounds.{Commit, IsRound}
use Rattle.label_store.specs.Seats.{AreSeated}
use Rattle.bank_core.specs.Disk.{Noted}
use Rattle.block_map.specs.Map.{Map}
use Rattle.mp_base.specs.declared.number.Guid.{Guid}
use Rattle.vdev_tree.specs.declared.top.Top.{Top}
use Rattle.vdev_tree.specs.declared.vdev.LeafVdev.{LeafVdev}
use Rattle.dtl_rules.specs.Widening.{leaves_of, marks_of, sectors_of}
use Rattle.txg_engine.specs.Boards as engine
use Rattle.txg_engine.specs.Ending.{IsAdopted}
use Rattle.txg_engine.specs.Frozen.{FrozenGroup, IsGroup}
use Rattle.txg_engine.specs.Logs.{AreBehind, IsSettled}
use Rattle.txg_engine.specs.Pins.{PinsSeen}
use Rattle.txg_engine.specs.Turns.{emptied_top, numbers_of}
use Rattle.txg_history.specs.Rounds.{all_true}
use Rattle.pool_codec.specs.Codecs.{pool_codec}
use Rattle.pool_moves.specs.Boards.{board_of}
use Rattle.pool_moves.specs.Drafts.{draft_of}
use Rattle.pool_moves.specs.FreezeRow.{RowEmptyFreeze}
use Rattle.pool_moves.specs.Moves.{Move, Commits, Flushed_all, Starts, step, steps}
use Rattle.pool_moves.specs.ReadRow.{made_in}
use Rattle.pool_moves.specs.StampRow.{CommitsFirst, CreateReply, Created, FaultOn, first_failed, found_reply, name_in}
use Rattle.pool_moves.specs.States.{PoolState}
use Rattle.pool_moves.specs.TurnRows.{FitsOwn, RowRound}
use Rattle.pool_moves.proofs.FreeWalks.{steps_more}
use Rattle.open_pool.specs.Form.{IsPool, all_leaves}
use Rattle.open_pool.specs.Parts.{PoolParts, all_parts}
use Rattle.open_pool.specs.State.{own_state, seen_of, state_of}
use Rattle.open_pool.specs.Turning.{Draws}
use Rattle.open_pool.proofs.DraftFits.{drawn_of}
use Rattle.open_pool.proofs.GoingKept.{trees_leaves}
use Rattle.open_pool.proofs.LeafLeaves.{same_length}
use Rattle.open_pool.proofs.LeavesStay.{behind_same}
use Rattle.open_pool.proofs.MembersAgree.{board_crew}
use Rattle.open_pool.proofs.NewSeats.{none_fails}
use Rattle.open_pool.proofs.PartRows.{made_more}
use Rattle.open_pool.proofs.PlacesEnd.{acknowledged}
use Rattle.open_pool.proofs.RoundAnswers.{whole_leads}
use Rattle.open_pool.proofs.RoundDraws.{these_are, these_sizes, with_these}
use Rattle.open_pool.proofs.RoundParts.{failed_row, whole_round}
use Rattle.open_pool.proofs.TurnLeaves.{turns_leaves}
use Rattle.open_pool.proofs.TurnParts.{form, shown}
use Rattle.open_pool.proofs.TurnSteps.{going}

-- The first commit from a state, with its calls, and where it leads.
pub record FirstCommit (size : ℕ → ℕ) (s : PoolState) (reply : CreateReply) (made : List Noted) : Type 0 where
  pub moves : List Move
  pub commits : CommitsFirst pool_codec size s moves reply
  pub calls : made_in moves ≡ made

-- Moves lead from the state `s` to that of the pool with its first group, whose flush turn is passed over.
module _ (size : ℕ → ℕ) (s : PoolState) (first : List Move) (freeze : RowEmptyFreeze s first) (b : PoolParts) (group : FrozenGroup) (old : List Top)
    (leads : steps (first ++ (Flushed_all ∷ [])) s ≡ state_of [] (going b group old)) (own_is : s.own ≡ own_state (going b group old))
    (quiet : made_in (first ++ (Flushed_all ∷ [])) ≡ [])
    (pool : IsPool (going b group old)) (kept : IsGroup group)
    (flushed : group.flushed ≡ true) (full : emptied_top (numbers_of old) group ≡ None) (seated : AreSeated size (engine.board_of group.board))
    (commit : Commit) (draws : Draws commit (drawn_of b group old)) (made : List Noted) (done : List Bool)
    (round : IsRound size commit (engine.board_of group.board) done made) (all : made ≡ round.first ++ (round.second ++ round.third)) where
  abbrev before : List Move
  before = first ++ (Flushed_all ∷ [])

  abbrev there : PoolState
  there = state_of [] (going b group old)

  -- a round from this state is the first commit
  abbrev IsFirst : (moves : List Move) (whole : Bool) (reply : CreateReply) → PoolState → Type 0
  IsFirst moves whole reply t = (row : RowRound pool_codec size t.core moves whole) → FitsOwn pool_codec s.own row.draft
      → reply ≡ found_reply (first_failed (board_of t.core.leaves) row.results) s.core.leaves → CommitsFirst pool_codec size s (before ++ moves) reply

  found_there : (moves : List Move) (whole : Bool) (reply : CreateReply) → IsFirst moves whole reply (steps before s)
  found_there moves whole reply row own says = record {
    whole = whole;
    row = record { first = first; freeze = freeze; round = moves; ends = row; own = own; moves = refl };
    says = says;
  }

  found : (moves : List Move) (whole : Bool) (reply : CreateReply) → IsFirst moves whole reply there
  found moves whole reply = subst (IsFirst moves whole reply) leads (found_there moves whole reply)

  members_are : board_of there.core.leaves ≡ engine.board_of group.board
  members_are = (shown b group old pool kept.low).members

  all_calls : (moves : List Move) → made_in moves ≡ made → made_in (before ++ moves) ≡ made
  all_calls moves calls = made_more before moves quiet ∙ calls

  -- No leaf failed: the pool is there.
  pub commits : all_true done ≡ true → (new : List Top) (m : Map) (pins : PinsSeen) → IsAdopted group.items b.pins.places b.map m → pins.places ≡ []
      → marks_of new ≡ marks_of old → sectors_of new ≡ sectors_of old → AllZip IsSettled (leaves_of old) (leaves_of new)
      → (c : FirstCommit size s Created made) × (steps c.moves s ≡ state_of [] (acknowledged b group m pins new))
  commits whole new m pins adopted none built sectors settles =
      let r = whole_round size [] b group old pool kept flushed full seated commit draws made done round whole all in (
        record {
          moves = before ++ (r.moves ++ Commits r.draft ∷ []);
          commits = found (r.moves ++ Commits r.draft ∷ []) true Created r.row (subst (λ own. FitsOwn pool_codec own r.row.draft) (sym own_is) r.own)
              (ap (λ o. found_reply o s.core.leaves) (sym (none_fails (board_of there.core.leaves) r.row.results r.all)));
          calls = all_calls (r.moves ++ Commits r.draft ∷ []) r.calls;
        },
        steps_more before (r.moves ++ Commits r.draft ∷ []) s
            ∙ ap (steps (r.moves ++ Commits r.draft ∷ [])) leads
            ∙ whole_leads size [] b group old new m pins made pool kept r adopted none built sectors settles,
      )

  -- A leaf failed, the first of them this one.
  pub fails : all_true done ≡ false → (between : List LeafVdev) → AreBehind group.numbers (engine.board_of group.board) done (leaves_of old) between
      → (guid : Guid) → first_failed (engine.board_of group.board) done ≡ Some guid → FirstCommit size s (FaultOn (name_in s.core.leaves guid)) made
  fails failed between behind guid first_is =
      let same = behind_same group.numbers (engine.board_of group.board) done (leaves_of old) between behind in
      let long = same_length (leaves_of old) between same ∙ sym (ap length (trees_leaves old)) in
      let mid : PoolParts = record (going b group old) { tops = with_these (all_parts old) between } in
      let shape = form b group old pool kept.low in
      let begun = step (Starts (draft_of commit (seen_of [] (going b group old)).leaves)) (seen_of [] (going b group old)) in
      let left = turns_leaves begun group.board (going b group old) mid group.numbers (engine.board_of group.board) done refl refl refl refl kept.low pool.board
      shape (board_crew group.board (going b group old) pool.board shape.numbers shape.devices) (these_sizes (all_parts old) between long)
      (subst (λ ls. AreBehind group.numbers (engine.board_of group.board) done ls (all_leaves mid)) (sym (trees_leaves old))
      (subst (AreBehind group.numbers (engine.board_of group.board) done (leaves_of old)) (sym (these_are (all_parts old) between long)) behind)) in
      let r = failed_row size [] b group old pool kept flushed full seated commit draws made done round mid left failed all in
      record {
        moves = before ++ r.moves;
        commits = found r.moves false (FaultOn (name_in s.core.leaves guid)) r.row (subst (λ own. FitsOwn pool_codec own r.row.draft) (sym own_is) r.own)
            (ap (λ o. found_reply o s.core.leaves)
            (sym (ap (first_failed (board_of there.core.leaves)) r.results ∙ ap (λ ms. first_failed ms done) members_are ∙ first_is)));
        calls = all_calls r.moves r.calls;
      }
