-- Behind a round with a leaf that failed a further number is drawn: the moves lead to the state of the pool that goes on with it.
use Rattle.std.proofs.Common.{◌≡◌, ℕ, suc, ◌+◌, ◌≤◌, ◌^◌, Bool, true, false, List, [], ◌∷◌, ◌++◌, length, take, drop, None, refl, sym, ap, ◌∙◌, subst, arith, length-append}
use Rattle.std.specs.Prelude.{All}
use Rattle.std.specs.List.{AllByRecursion, flat_map}
use Rattle.std.specs.Option.{option_map}
use Rattle.std.proofs.lemmas.List.{length-drop, length-take-le, length-map, take-append-drop}
use Rattle.bank_core.specs.BankView.{BankView}
use Rattle.bank_core.specs.Calls.{Makes}
use Rattle.bank_core.specs.Disk.{Noted}
use Rattle.vdev_tree.specs.declared.top.Top.{Top}
use Rattle.vdev_tree.specs.declared.vdev.LeafVdev.{LeafVdev}
use Rattle.dtl_rules.specs.Widening.{leaves_of, marks_of, sectors_of}
use Rattle.txg_engine.specs.declared.seat.Seat.{Seat}
use Rattle.txg_engine.specs.Boards as engine
use Rattle.txg_engine.specs.Boards.{behind_turn}
use Rattle.txg_engine.specs.Frozen.{FrozenGroup, IsGroup}
use Rattle.txg_engine.specs.Logs.{AreBehind, AreGrown, IsReady, is_off}
use Rattle.txg_engine.specs.Turns.{emptied_top, numbers_of, with_next}
use Rattle.txg_engine.proofs.TopsServed.{behind_seated}
use Rattle.open_pool.specs.Form.{all_leaves, IsPool}
use Rattle.open_pool.specs.Parts.{TopParts, PoolParts, all_parts}
use Rattle.open_pool.specs.State.{leaves_under, sectors_in, vdevs_in}
use Rattle.label_store.specs.Rounds.{Commit, IsRound}
use Rattle.label_store.specs.Seats.{AreSeated}
use Rattle.txg_history.specs.Rounds.{all_true}
use Rattle.pool_codec.specs.Codecs.{pool_codec}
use Rattle.pool_moves.specs.Boards.{emptied}
use Rattle.pool_moves.specs.Drafts.{draft_of}
use Rattle.pool_moves.specs.LineRows.{Round, EndsBy, RowTurn, StartsBy}
use Rattle.pool_moves.specs.Moves.{Move, Starts, Draw, step, steps}
use Rattle.pool_moves.specs.ReadRow.{made_in}
use Rattle.pool_moves.specs.States.{Sums, PoolSeen, PoolState}
use Rattle.pool_moves.proofs.FreeWalks.{steps_more}
use Rattle.pool_moves.proofs.KindsOfMoves.{AnyLeaf, AnySet, IsWithin, within_kind, all_widened}
use Rattle.open_pool.specs.Form.{HasBoard}
use Rattle.open_pool.specs.Answering.{Does}
use Rattle.open_pool.specs.Committing.{turn_says}
use Rattle.open_pool.proofs.TurnAnswers.{does_turn, pins_still}
use Rattle.open_pool.proofs.TurnEndings.{none_emptied}
use Rattle.open_pool.specs.State.{ArePinned, leaves_from, own_state, seen_of, state_of}
use Rattle.open_pool.proofs.BoardIsSeats.{HaveLeaves, board_of_seats}
use Rattle.open_pool.proofs.BoardKept.{AreSameLeaves, board_behind}
use Rattle.open_pool.specs.Turning.{Draws}
use Rattle.open_pool.proofs.DraftFits.{drawn_of}
use Rattle.open_pool.proofs.FormKept.{form_kept}
use Rattle.open_pool.proofs.FewRanges.{HasFewRanges, few_behind, together_are}
use Rattle.open_pool.proofs.GoingKept.{GoesOn, behind_settled, grown_settled, settled_twice, trees_leaves}
use Rattle.open_pool.proofs.LogsWidened as logs
use Rattle.open_pool.proofs.RecordKept.{ranges_in_all}
use Rattle.open_pool.proofs.LeafLeaves.{same_length}
use Rattle.open_pool.proofs.LeavesByTops.{sizes}
use Rattle.open_pool.proofs.LeavesOwe.{OwesNumber, draws_number}
use Rattle.open_pool.proofs.LeavesStay.{are_grown_like, behind_same, like_leaves, same_twice}
use Rattle.open_pool.proofs.MembersAgree.{board_crew}
use Rattle.open_pool.proofs.PartRows.{made_first, made_widens}
use Rattle.open_pool.proofs.RoundParts.{behind_round, failed_round}
use Rattle.open_pool.proofs.TreesBuilt.{built_sizes, tops_have_leaves}
use Rattle.open_pool.proofs.TurnLeaves.{AreInForm, TurnsLeaves, turns_leaves}
use Rattle.open_pool.proofs.TurnParts.{form, like_tops}
use Rattle.open_pool.proofs.TurnSteps.{going, own_kept, room_kept, steps_within, AreLikeTops}

-- Tops with other leaves, as many each.
abbrev pub with_these : List TopParts → List LeafVdev → List TopParts
with_these [] leaves = []
with_these (top ∷ tops) leaves = record top { leaves = take (length top.leaves) leaves } ∷ with_these tops (drop (length top.leaves) leaves)

abbrev pub all_under : List TopParts → List LeafVdev
all_under tops = flat_map (λ (top : TopParts). top.leaves) tops

same_sectors : (tops : List TopParts) (leaves : List LeafVdev) → sectors_in (with_these tops leaves) ≡ sectors_in tops
same_sectors [] leaves = refl
same_sectors (top ∷ tops) leaves = ap (λ ns. top.sectors ∷ ns) (same_sectors tops (drop (length top.leaves) leaves))

same_vdevs : (tops : List TopParts) (leaves : List LeafVdev) → vdevs_in (with_these tops leaves) ≡ vdevs_in tops
same_vdevs [] leaves = refl
same_vdevs (top ∷ tops) leaves = ap (λ vs. top.vdevs ∷ vs) (same_vdevs tops (drop (length top.leaves) leaves))

pub these_are : (tops : List TopParts) (leaves : List LeafVdev) → length leaves ≡ length (all_under tops) → all_under (with_these tops leaves) ≡ leaves
these_are [] [] long = refl
these_are [] (leaf ∷ leaves) long = absurd (omega (arith, long))
these_are (top ∷ tops) leaves long =
    let split = length-append top.leaves (all_under tops) in
    ap (λ ls. take (length top.leaves) leaves ++ ls)
    (these_are tops (drop (length top.leaves) leaves) (let left = length-drop (length top.leaves) leaves in omega (arith, long, split, left)))
    ∙ take-append-drop (length top.leaves) leaves

pub these_sizes : (tops : List TopParts) (leaves : List LeafVdev) → length leaves ≡ length (all_under tops)
    → sizes (leaves_under (with_these tops leaves)) ≡ sizes (leaves_under tops)
these_sizes [] leaves long = refl
these_sizes (top ∷ tops) leaves long =
    let split = length-append top.leaves (all_under tops) in
    ap (λ n. n ∷ sizes (leaves_under (with_these tops (drop (length top.leaves) leaves))))
    (length-take-le (length top.leaves) leaves (omega (arith, long, split)))
    ∙ ap (λ ns. length top.leaves ∷ ns)
    (these_sizes tops (drop (length top.leaves) leaves) (let left = length-drop (length top.leaves) leaves in omega (arith, long, split, left)))

have_by : (xs ys : List (List LeafVdev)) → sizes xs ≡ sizes ys → HaveLeaves ys → HaveLeaves xs
have_by [] ys same have = tt
have_by (x ∷ xs) [] same have = absurd (cc)
have_by (x ∷ xs) (y ∷ ys) same have =
    let head : length x ≡ length y = cc in
    let tail : sizes xs ≡ sizes ys = cc in
    let some = have.0 in (omega (arith, head, some), have_by xs ys tail have.1)

as_many : (tops : List Top) → length (leaves_under (all_parts tops)) ≡ length (numbers_of tops)
as_many [] = refl
as_many (top ∷ tops) = omega (arith, as_many tops)

-- A failed round behind which each top has somebody on the board, and the number that is drawn.
module _ (size : ℕ → ℕ) (held : List Sums) (b : PoolParts) (group : FrozenGroup) (old : List Top) (pool : IsPool (going b group old)) (kept : IsGroup group)
    (flushed : group.flushed ≡ true) (full : emptied_top (numbers_of old) group ≡ None) (seated : AreSeated size (engine.board_of group.board))
    (commit : Commit) (draws : Draws commit (drawn_of b group old)) (made : List Noted) (done : List Bool)
    (round : IsRound size commit (engine.board_of group.board) done made)
    (between : List LeafVdev) (new : List Top) (built : marks_of new ≡ marks_of old) (sectors : sectors_of new ≡ sectors_of old)
    (behind : AreBehind group.numbers (engine.board_of group.board) done (leaves_of old) between)
    (grown : AreGrown (is_off (behind_turn (engine.board_of group.board) done group.board)) (group.numbers.last.0 + 1) (group.numbers.last.0 + 1)
    between (leaves_of new))
    (more : group.numbers.last.0 + 1 ≤ 2 ^ 62) where
  abbrev p : PoolParts
  p = going b group old

  abbrev seats : List Seat
  seats = behind_turn (engine.board_of group.board) done group.board

  abbrev pub drawn_group : FrozenGroup
  drawn_group = record group { begun = true; board = behind_turn (engine.board_of group.board) done group.board; numbers = with_next group.numbers }

  abbrev mid : PoolParts
  mid = record (going b group old) { tops = with_these (all_parts old) between }

  first_same : AreSameLeaves (leaves_of old) between
  first_same = behind_same group.numbers (engine.board_of group.board) done (leaves_of old) between behind

  rest_same : AreSameLeaves between (leaves_of new)
  rest_same = like_leaves between (leaves_of new) (are_grown_like (is_off seats) (group.numbers.last.0 + 1) (group.numbers.last.0 + 1) between (leaves_of new) grown)

  long : length between ≡ length (all_under (all_parts old))
  long = same_length (leaves_of old) between first_same ∙ sym (ap length (trees_leaves old))

  mid_is : all_leaves mid ≡ between
  mid_is = these_are (all_parts old) between long

  mid_sizes : sizes (leaves_under mid.tops) ≡ sizes (leaves_under (all_parts old))
  mid_sizes = these_sizes (all_parts old) between long

  to_mid : AreSameLeaves (all_leaves p) (all_leaves mid)
  to_mid = subst (λ ls. AreSameLeaves ls (all_leaves mid)) (sym (trees_leaves old)) (subst (AreSameLeaves (leaves_of old)) (sym mid_is) first_same)

  abbrev begun : PoolSeen
  begun = step (Starts (draft_of commit (seen_of held (going b group old)).leaves)) (seen_of held (going b group old))

  left : TurnsLeaves (step (Starts (draft_of commit (seen_of held (going b group old)).leaves)) (seen_of held (going b group old)))
      (engine.board_of group.board) done (behind_turn (engine.board_of group.board) done group.board) mid
  left = turns_leaves begun group.board p mid group.numbers (engine.board_of group.board) done refl refl refl refl kept.low pool.board
      (form b group old pool kept.low)
      (board_crew group.board p pool.board (form b group old pool kept.low).numbers (form b group old pool kept.low).devices) mid_sizes
      (subst (λ ls. AreBehind group.numbers (engine.board_of group.board) done ls (all_leaves mid)) (sym (trees_leaves old))
      (subst (AreBehind group.numbers (engine.board_of group.board) done (leaves_of old)) (sym mid_is) behind))

  mid_form : AreInForm mid
  mid_form = form_kept p mid to_mid left.within pool.recordable.number.1 (form b group old pool kept.low)

  mid_board : HasBoard seats mid
  mid_board = board_behind (engine.board_of group.board) done group.board p mid mid_sizes to_mid pool.board

  abbrev there : PoolState
  there = behind_round size held b group old pool kept flushed full seated commit draws made done round mid left

  to_new : sizes (leaves_under (all_parts new)) ≡ sizes (leaves_under mid.tops)
  to_new = built_sizes old new built ∙ sym mid_sizes

  not_emptied : engine.emptied (length (numbers_of new)) seats ≡ None → emptied there.core.leaves ≡ None
  not_emptied none =
      (board_of_seats seats mid mid_board mid_form.numbers).empty (have_by (leaves_under mid.tops) (leaves_under (all_parts old)) mid_sizes (tops_have_leaves old))
      ∙ ap (λ n. option_map suc (engine.emptied n seats))
      (sym (length-map (leaves_under mid.tops) length) ∙ ap length (sym to_new) ∙ length-map (leaves_under (all_parts new)) length ∙ as_many new)
      ∙ ap (option_map suc) none

  draw : OwesNumber there.core Draw seats (going b drawn_group new)
  draw = draws_number there.core mid (going b drawn_group new) refl mid_form more to_new seats refl
      (subst (λ ls. AreGrown (is_off seats) (group.numbers.last.0 + 1) (group.numbers.last.0 + 1) ls (all_leaves (going b drawn_group new))) (sym mid_is)
      (subst (AreGrown (is_off seats) (group.numbers.last.0 + 1) (group.numbers.last.0 + 1) between) (sym (trees_leaves new)) grown))

  all_same : AreSameLeaves (leaves_of old) (leaves_of new)
  all_same = same_twice (leaves_of old) between (leaves_of new) first_same rest_same

  like : AreLikeTops old new
  like = like_tops old new built sectors all_same

  draw_leads : steps draw.moves there ≡ state_of held (going b drawn_group new)
  draw_leads =
      steps_within draw.moves there (all_widened AnyLeaf AnySet IsWithin within_kind there.core Draw draw.moves tt draw.are)
      ∙ ap (λ core. record there { core = core }) draw.leads
      ∙ ap (λ (f : ℕ → ℕ). record (state_of held (going b drawn_group new)) {
        own = own_state (going b group old);
        core = record (seen_of held (going b drawn_group new)) { room = f };
      }) (sym (room_kept old new like))
      ∙ ap (λ own. record (state_of held (going b drawn_group new)) { own = own }) (sym (own_kept b group drawn_group old new like))

  -- The whole turn, as a row.
  pub record IsDrawnRound : Type 0 where
    pub moves : List Move
    pub leads : steps moves (state_of held (going b group old)) ≡ state_of held (going b drawn_group new)
    pub calls : made_in moves ≡ made
    pub is_turn : StartsBy None pool_codec size (state_of held (going b group old)) moves (Round group.numbers.last.0)

  pub drawn_round : all_true done ≡ false → made ≡ round.first ++ (round.second ++ round.third)
      → engine.emptied (length (numbers_of new)) seats ≡ None → IsDrawnRound
  drawn_round failed all none =
      let r = failed_round size held b group old pool kept flushed full seated commit draws made done round mid left failed all in
      record {
        moves = r.moves ++ draw.moves;
        leads = steps_more r.moves draw.moves (state_of held (going b group old)) ∙ ap (steps draw.moves) r.leads ∙ draw_leads;
        calls = made_first r.moves draw.moves (ap made_in draw.are.moves ∙ made_widens (step Draw there.core) draw.are.widens draw.are.are) ∙ r.calls;
        is_turn = r.is_part draw.moves (Round group.numbers.last.0)
            (subst (λ o. EndsBy o there true (Round group.numbers.last.0) draw.moves (Round group.numbers.last.0)) (sym (not_emptied none)) (draw.are, refl));
      }

  -- and the group goes on with that number
  pub drawn_goes : All (IsReady drawn_group.board drawn_group.numbers.last.0) (leaves_of new) → GoesOn b group drawn_group old new
  drawn_goes ready =
      let q = going b drawn_group new in
      let after : HasFewRanges (record (step Draw there.core) { leaves = leaves_from seats 1 (leaves_under (all_parts new)) }) =
      subst HasFewRanges draw.leads (few_behind Draw draw.moves there.core draw.are) in
      record {
        built = built;
        sectors = sectors;
        items = refl;
        first = refl;
        later = omega arith;
        high = more;
        unacked = pool.group.unacked;
        same = all_same;
        settled = settled_twice (leaves_of old) between (leaves_of new)
            (behind_settled group.numbers (engine.board_of group.board) done (leaves_of old) between behind)
            (grown_settled (is_off seats) (group.numbers.last.0 + 1) (group.numbers.last.0 + 1) between (leaves_of new) grown);
        within = subst (AllByRecursion (logs.IsWithin (group.numbers.last.0 + 1))) (trees_leaves new) draw.within;
        few = subst (λ n. n ≤ 4096) (together_are (group.numbers.last.0 + 1) seats (all_parts new)
            ∙ ap (ranges_in_all (group.numbers.last.0 + 1)) (trees_leaves new)) after;
        board = board_behind (engine.board_of group.board) done group.board p q (built_sizes old new built)
            (subst (λ ls. AreSameLeaves ls (all_leaves q)) (sym (trees_leaves old))
            (subst (AreSameLeaves (leaves_of old)) (sym (trees_leaves new)) all_same)) pool.board;
        seated = λ top. behind_seated (engine.board_of group.board) done top group.board;
        ready = ready;
      }

  -- So the round answers what its row says.
  pub round_goes : all_true done ≡ false → made ≡ round.first ++ (round.second ++ round.third)
      → engine.emptied (length (numbers_of new)) seats ≡ None → (from to : BankView) → ArePinned held (going b group old) → Makes made from to
      → Does (RowTurn pool_codec size (state_of held (going b group old))) turn_says (turn_says (Round group.numbers.last.0))
      (state_of held (going b group old)) (going b drawn_group new) from to
  round_goes failed all none from to were calls =
      let r = drawn_round failed all none in
      does_turn size held held (going b group old) (going b drawn_group new) r.moves (Round group.numbers.last.0) (turn_says (Round group.numbers.last.0))
      from to
      (subst (λ o. StartsBy o pool_codec size (state_of held (going b group old)) r.moves (Round group.numbers.last.0))
      (sym (none_emptied b group old pool kept.low held full)) r.is_turn)
      refl r.leads (pins_still held b group drawn_group old new were) (subst (λ l. Makes l from to) (sym r.calls) calls)
