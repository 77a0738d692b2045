-- The engine's rounds are the row's, whole or with a leaf that failed.
use Rattle.std.proofs.Common.{◌≡◌, inr, ℕ, Bool, true, false, List, [], ◌∷◌, ◌++◌, map, Some, None, refl, sym, ap, ◌∙◌, subst, append-nil}
use Rattle.std.specs.List.{AllByRecursion}
use Rattle.std.proofs.lemmas.Bool.{true≢false}
use Rattle.mp_base.specs.declared.number.Group.{Group}
use Rattle.bank_core.specs.Asks.{Ask}
use Rattle.bank_core.specs.Disk.{Noted}
use Rattle.label_store.specs.declared.member.Member.{Member}
use Rattle.label_store.specs.Phases.{IsPhase}
use Rattle.label_store.specs.Rounds.{Commit, IsRound, first_plan, second_plan, third_plan}
use Rattle.label_store.specs.Seats.{AreSeated}
use Rattle.vdev_tree.specs.declared.top.Top.{Top}
use Rattle.txg_history.specs.Rounds.{all_true}
use Rattle.txg_engine.specs.Boards as engine
use Rattle.txg_engine.specs.Boards.{behind_turn}
use Rattle.txg_engine.specs.Frozen.{FrozenGroup, IsGroup}
use Rattle.txg_engine.specs.Turns.{emptied_top, numbers_of}
use Rattle.pool_codec.specs.Codecs.{pool_codec}
use Rattle.pool_moves.specs.Boards.{board_of}
use Rattle.pool_moves.specs.Drafts.{draft_of}
use Rattle.pool_moves.specs.Leaves.{LeafSeen}
use Rattle.pool_moves.specs.LineRows.{TurnReply, Round, Committed, EndsTurn, StartsBy, count_moves}
use Rattle.pool_moves.specs.Moves.{Draft, Move, Starts, Copies, Commits, step, steps}
use Rattle.pool_moves.specs.ReadRow.{made_in}
use Rattle.pool_moves.specs.States.{Sums, PoolSeen, PoolState}
use Rattle.pool_moves.specs.TurnRows.{round_moves, ended, FitsOwn, IsThirdMoves, EndsRound, RowRound}
use Rattle.pool_moves.specs.Walking.{as_moves}
use Rattle.pool_moves.specs.Widening.{AreLeaves, seen_along}
use Rattle.pool_moves.proofs.FreeWalks.{steps_more}
use Rattle.pool_moves.proofs.KindsOfMoves.{AnyLeaf, AnySet, IsWithin, within_kind, any_failing, all_leave, all_calls, counts_set}
use Rattle.pool_moves.proofs.Lists.{all_append}
use Rattle.pool_moves.proofs.ReadWalks.{made_calls}
use Rattle.pool_moves.proofs.Widenings.{calls_seen}
use Rattle.open_pool.specs.Form.{IsPool}
use Rattle.open_pool.specs.Parts.{PoolParts}
use Rattle.open_pool.specs.State.{group_of, leaves_from, leaves_under, own_state, seen_of, state_of}
use Rattle.open_pool.specs.Turning.{Draws}
use Rattle.open_pool.proofs.DraftFits.{drawn_of, fits_own, fits_state}
use Rattle.open_pool.proofs.LeafLeaves.{seen_more}
use Rattle.open_pool.proofs.PartRows.{made_left, made_sets, made_first}
use Rattle.open_pool.proofs.TurnEndings.{none_emptied}
use Rattle.open_pool.proofs.TurnLeaves.{TurnsLeaves}
use Rattle.open_pool.proofs.TurnParts.{shown}
use Rattle.open_pool.proofs.TurnSteps.{going, steps_within}

-- The third phase with its marks: it makes these calls, and leaves what is seen.
record ThirdsOf (plan : Member → List Ask) (draft : Draft) (ms : List Member) (was is : List Bool) (made : List Noted) : Type 0 where
  moves : List Move
  are : IsThirdMoves plan draft ms was is moves
  calls : made_in moves ≡ made
  seen : (s : PoolSeen) → seen_along moves s ≡ s
  within : AllByRecursion IsWithin moves

ended_calls : (c : Bool) (draft : Draft) (d : ℕ) (vs : List Move) → made_in (ended c draft d ++ vs) ≡ made_in vs
ended_calls true draft d vs = refl
ended_calls false draft d vs = refl

ended_seen : (c : Bool) (draft : Draft) (d : ℕ) (vs : List Move) (s : PoolSeen) → seen_along (ended c draft d ++ vs) s ≡ seen_along vs s
ended_seen true draft d vs s = refl
ended_seen false draft d vs s = refl

ended_within : (c : Bool) (draft : Draft) (d : ℕ) (vs : List Move) → AllByRecursion IsWithin vs → AllByRecursion IsWithin (ended c draft d ++ vs)
ended_within true draft d vs all = (tt, all)
ended_within false draft d vs all = all

thirds_of : (plan : Member → List Ask) (draft : Draft) (ms : List Member) (was is : List Bool) (made : List Noted) → IsPhase plan ms was is made
    → ThirdsOf plan draft ms was is made
thirds_of plan draft [] [] [] made phase = record { moves = []; are = refl; calls = sym phase; seen = λ s. refl; within = tt }
thirds_of plan draft (m ∷ ms) (true ∷ was) (c ∷ is) made phase =
    let (mine, rest, all, turn, more) = phase in
    let r = thirds_of plan draft ms was is rest more in
    record {
      moves = Copies draft m.dev ∷ (as_moves mine ++ (ended c draft m.dev ++ r.moves));
      are = (mine, r.moves, refl, turn, r.are);
      calls = made_calls mine (ended c draft m.dev ++ r.moves) ∙ ap (λ l. mine ++ l) (ended_calls c draft m.dev r.moves ∙ r.calls) ∙ sym all;
      seen = λ s. seen_more (as_moves mine) (ended c draft m.dev ++ r.moves) s
          ∙ ap (seen_along (ended c draft m.dev ++ r.moves)) (calls_seen mine s) ∙ ended_seen c draft m.dev r.moves s ∙ r.seen s;
      within = (
        tt,
        all_append IsWithin (as_moves mine) (ended c draft m.dev ++ r.moves) (all_calls AnyLeaf AnySet IsWithin within_kind mine)
            (ended_within c draft m.dev r.moves r.within),
      );
    }
thirds_of plan draft (m ∷ ms) (false ∷ was) (c ∷ is) made phase =
    let (mine, rest, all, turn, more) = phase in
    let r = thirds_of plan draft ms was is rest more in
    record {
      moves = r.moves;
      are = (turn.1, r.are);
      calls = r.calls ∙ ap (λ l. l ++ rest) (sym turn.0) ∙ sym all;
      seen = r.seen;
      within = r.within;
    }
thirds_of plan draft [] [] (c ∷ is) made phase = absurd phase
thirds_of plan draft [] (b ∷ was) is made phase = absurd phase
thirds_of plan draft (m ∷ ms) [] is made phase = absurd phase
thirds_of plan draft (m ∷ ms) (b ∷ was) [] made phase = absurd phase

-- A round up to its end leaves that it has begun.
round_seen : (draft : Draft) (first second : List Noted) (thirds : List Move) (s : PoolSeen) → ((u : PoolSeen) → seen_along thirds u ≡ u)
    → seen_along (round_moves draft first second thirds) s ≡ step (Starts draft) s
round_seen draft first second thirds s same =
    let u = step (Starts draft) s in
    seen_more (as_moves first) (as_moves second ++ thirds) u
    ∙ ap (seen_along (as_moves second ++ thirds)) (calls_seen first u)
    ∙ seen_more (as_moves second) thirds u
    ∙ ap (seen_along thirds) (calls_seen second u)
    ∙ same u

round_within : (draft : Draft) (first second : List Noted) (thirds : List Move) → AllByRecursion IsWithin thirds
    → AllByRecursion IsWithin (round_moves draft first second thirds)
round_within draft first second thirds all = (
  tt,
  all_append IsWithin (as_moves first) (as_moves second ++ thirds) (all_calls AnyLeaf AnySet IsWithin within_kind first)
      (all_append IsWithin (as_moves second) thirds (all_calls AnyLeaf AnySet IsWithin within_kind second) all),
)

round_calls : (draft : Draft) (first second third : List Noted) (thirds vs : List Move) → made_in thirds ≡ third → made_in vs ≡ []
    → made_in (round_moves draft first second thirds ++ vs) ≡ first ++ (second ++ third)
round_calls draft first second third thirds vs is none =
    made_first (round_moves draft first second thirds) vs none
    ∙ made_calls first (as_moves second ++ thirds)
    ∙ ap (λ l. first ++ l) (made_calls second thirds ∙ ap (λ l. second ++ l) is)

-- where all answered nobody is counted
pub none_counted : (leaves : List LeafSeen) (ms : List Member) (done : List Bool) → all_true done ≡ true → count_moves leaves ms done ≡ []
none_counted leaves [] done all = refl
none_counted leaves (m ∷ ms) [] all = refl
none_counted leaves (m ∷ ms) (true ∷ done) all = none_counted leaves ms done all
none_counted leaves (m ∷ ms) (false ∷ done) all = absurd (true≢false (sym all))

-- A state whose group's number waits for no round.
abbrev pub stale : List Sums → PoolParts → FrozenGroup → List Top → PoolState
stale held b group trees = record (state_of held (going b group trees)) {
  core = record (seen_of held (going b group trees)) { group = record (group_of (Some group)) { fresh = false } };
}

-- A round with a leaf that failed, up to its end, and with each ending.
pub record IsFailedRound (size : ℕ → ℕ) (held : List Sums) (b : PoolParts) (group : FrozenGroup) (old : List Top) (behind : PoolState)
    (made : List Noted) : Type 0 where
  pub moves : List Move
  pub leads : steps moves (state_of held (going b group old)) ≡ behind
  pub calls : made_in moves ≡ made
  pub is_part : (ending : List Move) (reply : TurnReply) → EndsTurn behind true (Round group.numbers.last.0) ending reply
      → StartsBy None pool_codec size (state_of held (going b group old)) (moves ++ ending) reply

-- A whole one: its last move acknowledges it, and the moves before lead to the state with its round.
pub record IsWholeRound (size : ℕ → ℕ) (held : List Sums) (b : PoolParts) (group : FrozenGroup) (old : List Top) (made : List Noted) : Type 0 where
  pub moves : List Move
  pub draft : Draft
  pub number_is : draft.commit.number.0 ≡ group.numbers.last.0
  pub leads : steps moves (state_of held (going b group old))
      ≡ record (state_of held (going b group old)) {
        core = record (seen_of held (going b group old)) { group = record (group_of (Some group)) { fresh = false; begun = true } };
      }
  pub calls : made_in (moves ++ Commits draft ∷ []) ≡ made
  pub is_part : StartsBy None pool_codec size (state_of held (going b group old)) (moves ++ Commits draft ∷ []) (Committed group.numbers.last.0)
  pub row : RowRound pool_codec size (seen_of held (going b group old)) (moves ++ Commits draft ∷ []) true
  pub own : FitsOwn pool_codec (own_state (going b group old)) row.draft
  pub all : all_true row.results ≡ true

-- A round with a leaf that failed, alone: who answered it, and its calls.
pub record IsFailedRow (size : ℕ → ℕ) (held : List Sums) (b : PoolParts) (group : FrozenGroup) (old : List Top) (made : List Noted) (done : List Bool)
    : Type 0 where
  pub moves : List Move
  pub row : RowRound pool_codec size (seen_of held (going b group old)) moves false
  pub own : FitsOwn pool_codec (own_state (going b group old)) row.draft
  pub results : row.results ≡ done
  pub calls : made_in moves ≡ made

module _ (size : ℕ → ℕ) (held : List Sums) (b : PoolParts) (group : FrozenGroup) (old : List Top) (pool : IsPool (going b group old)) (kept : IsGroup group)
    (flushed : group.flushed ≡ true) (full : emptied_top (numbers_of old) group ≡ None) (seated : AreSeated size (engine.board_of group.board))
    (commit : Commit) (draws : Draws commit (drawn_of b group old)) (made : List Noted) (done : List Bool)
    (round : IsRound size commit (engine.board_of group.board) done made) where
  abbrev s : PoolState
  s = state_of held (going b group old)

  abbrev draft : Draft
  draft = draft_of commit (seen_of held (going b group old)).leaves

  ms_are : board_of (seen_of held (going b group old)).leaves ≡ engine.board_of group.board
  ms_are = (shown b group old pool kept.low).members

  thirds : ThirdsOf (third_plan size commit) (draft_of commit (seen_of held (going b group old)).leaves) (engine.board_of group.board) round.in_second done round.third
  thirds = thirds_of (third_plan size commit) (draft_of commit (seen_of held (going b group old)).leaves) (engine.board_of group.board) round.in_second done round.third round.copies

  front : List Move
  front = round_moves draft round.first round.second thirds.moves

  row : (whole : Bool) → whole ≡ all_true done → (ending : List Move)
      → EndsRound whole (seen_along front s.core) draft (board_of s.core.leaves) done ending
      → RowRound pool_codec size s.core (front ++ ending) whole
  unfolding front
  row whole is ending ends =
      record {
        frozen = refl;
        flushed = flushed;
        fresh = refl;
        boards = none_emptied b group old pool kept.low held full;
        draft = draft;
        leaves = refl;
        fits = fits_state held b group old pool kept commit draws;
        seated = subst (AreSeated size) (sym ms_are) seated;
        first = round.first;
        second = round.second;
        thirds = thirds.moves;
        in_first = round.in_first;
        in_second = round.in_second;
        results = done;
        whole_is = is;
        configs = subst (λ l. IsPhase (first_plan size commit) l (map (λ m. true) l) round.in_first round.first) (sym ms_are) round.configs;
        uberblocks = subst (λ l. IsPhase (second_plan size commit) l round.in_first round.in_second round.second) (sym ms_are) round.uberblocks;
        copies = subst (λ l. IsThirdMoves (third_plan size commit) draft l round.in_second done thirds.moves) (sym ms_are) thirds.are;
        ending = ending;
        ends = ends;
        moves = refl;
      }

  front_leads : steps front (state_of held (going b group old))
      ≡ record (state_of held (going b group old)) { core = step (Starts draft) (seen_of held (going b group old)) }
  unfolding front
  front_leads =
      steps_within front s (round_within draft round.first round.second thirds.moves thirds.within)
      ∙ ap (λ core. record (state_of held (going b group old)) { core = core }) (round_seen draft round.first round.second thirds.moves s.core thirds.seen)

  pub whole_round : all_true done ≡ true → made ≡ round.first ++ (round.second ++ round.third) → IsWholeRound size held b group old made
  unfolding front row
  whole_round whole all = record {
    moves = front;
    draft = draft;
    number_is = ap (λ (g : Group). g.0) draws.number;
    leads = front_leads;
    calls = round_calls draft round.first round.second round.third thirds.moves (Commits draft ∷ []) thirds.calls refl ∙ sym all;
    is_part = inr (inr (record {
      part = front ++ Commits draft ∷ [];
      whole = true;
      row = row true (sym whole) (Commits draft ∷ []) refl;
      own = fits_own held b group old pool kept commit draws;
      behind = front ++ Commits draft ∷ [];
      counted = sym (ap (λ l. (front ++ Commits draft ∷ []) ++ l) (none_counted s.core.leaves (board_of s.core.leaves) done whole)
          ∙ append-nil (front ++ Commits draft ∷ []));
      ending = [];
      ends = (refl, refl);
      moves = sym (append-nil (front ++ Commits draft ∷ []));
    }));
    row = row true (sym whole) (Commits draft ∷ []) refl;
    own = fits_own held b group old pool kept commit draws;
    all = whole;
  }

  -- Leaves that left the board in it, and the leaves that it leaves.
  module _ (mid : PoolParts)
      (left : TurnsLeaves (step (Starts (draft_of commit (seen_of held (going b group old)).leaves)) (seen_of held (going b group old)))
      (engine.board_of group.board) done (behind_turn (engine.board_of group.board) done group.board) mid) where
    abbrev pub behind_round : PoolState
    behind_round = record (state_of held (going b group old)) {
      core = record (step (Starts (draft_of commit (seen_of held (going b group old)).leaves)) (seen_of held (going b group old))) {
        leaves = leaves_from (behind_turn (engine.board_of group.board) done group.board) 1 (leaves_under mid.tops);
      };
    }

    part_seen : seen_along (front ++ left.leaving) s.core ≡ record (step (Starts draft) s.core) { leaves = left.between }
    unfolding front
    part_seen = seen_more front left.leaving s.core
        ∙ ap (seen_along left.leaving) (round_seen draft round.first round.second thirds.moves s.core thirds.seen) ∙ left.leads

    part_within : AllByRecursion IsWithin (front ++ left.leaving)
    unfolding front
    part_within = all_append IsWithin front left.leaving (round_within draft round.first round.second thirds.moves thirds.within)
        (all_leave AnyLeaf AnySet IsWithin within_kind (step (Starts draft) s.core) (engine.board_of group.board) done left.leaving
        (any_failing (engine.board_of group.board) done) left.are)

    failed_leads : steps ((front ++ left.leaving) ++ count_moves s.core.leaves (engine.board_of group.board) done) (state_of held (going b group old))
        ≡ behind_round
    failed_leads =
        steps_more (front ++ left.leaving) (count_moves s.core.leaves (engine.board_of group.board) done) s
        ∙ ap (steps (count_moves s.core.leaves (engine.board_of group.board) done))
        (steps_within (front ++ left.leaving) s part_within ∙ ap (λ core. record (state_of held (going b group old)) { core = core }) part_seen)
        ∙ left.counted (record (state_of held (going b group old)) { core = record (step (Starts draft) s.core) { leaves = left.between } }) refl

    failed_calls : made ≡ round.first ++ (round.second ++ round.third)
        → made_in ((front ++ left.leaving) ++ count_moves s.core.leaves (engine.board_of group.board) done) ≡ made
    unfolding front
    failed_calls all =
        made_first (front ++ left.leaving) (count_moves s.core.leaves (engine.board_of group.board) done)
        (made_sets (count_moves s.core.leaves (engine.board_of group.board) done) (counts_set s.core.leaves (engine.board_of group.board) done))
        ∙ round_calls draft round.first round.second round.third thirds.moves left.leaving thirds.calls
        (made_left (step (Starts draft) s.core) (engine.board_of group.board) done left.leaving left.are)
        ∙ sym all

    row_left : all_true done ≡ false → RowRound pool_codec size s.core (front ++ left.leaving) false
    unfolding front
    row_left failed = row false (sym failed) left.leaving
        (subst (λ l. AreLeaves (seen_along front s.core) l done left.leaving) (sym ms_are)
        (subst (λ u. AreLeaves u (engine.board_of group.board) done left.leaving)
        (sym (round_seen draft round.first round.second thirds.moves s.core thirds.seen)) left.are))

    pub failed_round : all_true done ≡ false → made ≡ round.first ++ (round.second ++ round.third)
        → IsFailedRound size held b group old behind_round made
    unfolding row row_left
    failed_round failed all = record {
      moves = (front ++ left.leaving) ++ count_moves s.core.leaves (engine.board_of group.board) done;
      leads = failed_leads;
      calls = failed_calls all;
      is_part = λ ending reply ends. inr (inr (record {
        part = front ++ left.leaving;
        whole = false;
        row = row_left failed;
        own = fits_own held b group old pool kept commit draws;
        behind = (front ++ left.leaving) ++ count_moves s.core.leaves (engine.board_of group.board) done;
        counted = ap (λ l. (front ++ left.leaving) ++ count_moves s.core.leaves l done) (sym ms_are);
        ending = ending;
        ends = subst (λ u. EndsTurn u true (Round group.numbers.last.0) ending reply) (sym failed_leads) ends;
        moves = refl;
      }));
    }

    pub failed_row : all_true done ≡ false → made ≡ round.first ++ (round.second ++ round.third) → IsFailedRow size held b group old made done
    unfolding front row row_left
    failed_row failed all = record {
      moves = front ++ left.leaving;
      row = row_left failed;
      own = fits_own held b group old pool kept commit draws;
      results = refl;
      calls = round_calls draft round.first round.second round.third thirds.moves left.leaving thirds.calls
          (made_left (step (Starts draft) s.core) (engine.board_of group.board) done left.leaving left.are)
          ∙ sym all;
    }
