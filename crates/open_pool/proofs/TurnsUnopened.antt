-- A group's turns don't ask whether its pool has acknowledged a record before, and the one that acknowledges says that it has.
use Rattle.std.proofs.Common.{◌≡◌, inl, inr, ℕ, Bool, true, false, cond, List, [], ◌∷◌, ◌++◌, Option, Some, None, refl, sym, ap, ◌∙◌, subst, append-nil}
use Rattle.std.proofs.lemmas.Bool.{true≢false}
use Rattle.label_store.specs.declared.member.Member.{Member}
use Rattle.txg_history.specs.Pages.{Codec}
use Rattle.pool_moves.specs.Boards.{board_of, board_under, emptied}
use Rattle.pool_moves.specs.LineRows.{TurnReply, Write, Flush, Round, Committed, Draws, EndsBy, EndsTurn, IsTurnOf, IsRoundPart, StartsBy, RowTurn, TurnBy, AreTurns, EndsGroup, count_moves, moves_in}
use Rattle.pool_moves.specs.Moves.{Move, Draw, Leave, Widen, Commits, Draft, own_step, step, state_step, steps}
use Rattle.pool_moves.specs.States.{PoolSeen, PoolState}
use Rattle.pool_moves.specs.TurnRows.{RowWriteTurn, RowFlushTurn, RowRound, FitsState, EndsRound, round_moves}
use Rattle.pool_moves.specs.Widening.{AreWidens, IsWidened, AreLeaves, seen_along}
use Rattle.pool_moves.proofs.FreeWalks.{steps_more}
use Rattle.open_pool.specs.Resuming.{as_opened}
use Rattle.open_pool.proofs.RoundParts.{none_counted}

-- a pool that has acknowledged a record, or hasn't
abbrev seen_by : Bool → PoolSeen → PoolSeen
seen_by b s = record s { opened = b }

abbrev state_by : Bool → PoolState → PoolState
state_by b s = record s { core = seen_by b s.core }

-- and whether it has behind moves
abbrev opens : Move → Bool → Bool
opens (Commits draft) b = true
opens v b = b

abbrev opens_all : List Move → Bool → Bool
opens_all [] b = b
opens_all (v ∷ vs) b = opens_all vs (opens v b)

step_by : (v : Move) (b : Bool) (s : PoolSeen) → step v (seen_by b s) ≡ seen_by (opens v b) (step v s)
step_by (Commits draft) b s = refl
step_by v b s = refl

state_step_by : (v : Move) (b : Bool) (s : PoolState) → state_step v (state_by b s) ≡ state_by (opens v b) (state_step v s)
state_step_by v b s = ap (λ core. record { own = own_step v s.core.group.cells s.own; core = core }) (step_by v b s.core)

steps_by : (vs : List Move) (b : Bool) (s : PoolState) → steps vs (state_by b s) ≡ state_by (opens_all vs b) (steps vs s)
steps_by [] b s = refl
steps_by (v ∷ vs) b s = ap (steps vs) (state_step_by v b s) ∙ steps_by vs (opens v b) (state_step v s)

along_by : (vs : List Move) (b : Bool) (s : PoolSeen) → seen_along vs (seen_by b s) ≡ seen_by (opens_all vs b) (seen_along vs s)
along_by [] b s = refl
along_by (v ∷ vs) b s = ap (seen_along vs) (step_by v b s) ∙ along_by vs (opens v b) (step v s)

-- Widenings, and leaves that leave the board.
widens_by : (b : Bool) (s : PoolSeen) (vs : List Move) → AreWidens (seen_by b s) vs → AreWidens s vs
widens_by b s [] are = are
widens_by b s (Widen m low high ∷ vs) are = (
  are.0,
  record { leaf = are.1.leaf; most = are.1.most; number_is = are.1.number_is; spans = are.1.spans },
  widens_by b (step (Widen m low high) s) vs are.2,
)
widens_by b s (v ∷ vs) are = absurd are

widened_by : (b : Bool) (s : PoolSeen) (v : Move) (vs : List Move) → IsWidened (seen_by b s) v vs → IsWidened s v vs
widened_by b s v vs w = record {
  widens = w.widens;
  are = widens_by (opens v b) (step v s) w.widens (subst (λ t. AreWidens t w.widens) (step_by v b s) w.are);
  moves = w.moves;
}

leaves_by : (b : Bool) (s : PoolSeen) (ms : List Member) (results : List Bool) (vs : List Move) → AreLeaves (seen_by b s) ms results vs → AreLeaves s ms results vs
leaves_by b s [] results vs are = are
leaves_by b s (m ∷ ms) [] vs are = are
leaves_by b s (m ∷ ms) (true ∷ results) vs are = leaves_by b s ms results vs are
leaves_by b s (m ∷ ms) (false ∷ results) vs (first, rest, is, one, more) = (
  first,
  rest,
  is,
  widened_by b s (Leave m.dev) first one,
  leaves_by (opens_all first b) (seen_along first s) ms results rest (subst (λ t. AreLeaves t ms results rest) (along_by first b s) more),
)

-- The parts of turns.
abbrev write_by : (b : Bool) (s : PoolSeen) (vs : List Move) → RowWriteTurn (seen_by b s) vs → RowWriteTurn s vs
write_by b s vs row = record {
  frozen = row.frozen;
  unflushed = row.unflushed;
  key = row.key;
  cell = row.cell;
  cell_is = row.cell_is;
  undone = row.undone;
  least = row.least;
  made = row.made;
  results = row.results;
  calls = row.calls;
  leaving = row.leaving;
  leaves = leaves_by b s (board_under row.cell.top s.leaves) row.results row.leaving row.leaves;
  moves = row.moves;
}

abbrev flush_by : (b : Bool) (s : PoolSeen) (vs : List Move) → RowFlushTurn (seen_by b s) vs → RowFlushTurn s vs
flush_by b s vs row = record {
  frozen = row.frozen;
  written = row.written;
  made = row.made;
  results = row.results;
  calls = row.calls;
  leaving = row.leaving;
  leaves = leaves_by b s (board_of s.leaves) row.results row.leaving row.leaves;
  moves = row.moves;
}

round_ends : (whole b : Bool) (s : PoolSeen) (draft : Draft) (ms : List Member) (results : List Bool) (vs : List Move)
    → EndsRound whole (seen_by b s) draft ms results vs → EndsRound whole s draft ms results vs
round_ends true b s draft ms results vs ends = ends
round_ends false b s draft ms results vs ends = leaves_by b s ms results vs ends

module _ (c : Codec) (size : ℕ → ℕ) where
  fits_by : (b : Bool) (s : PoolSeen) (draft : Draft) → FitsState c (seen_by b s) draft → FitsState c s draft
  fits_by b s draft fits = record {
    pool_is = fits.pool_is;
    number_is = fits.number_is;
    is_record = fits.is_record;
    sealed = fits.sealed;
    name_is = fits.name_is;
    room_is = fits.room_is;
    inside = fits.inside;
    root = fits.root;
    leaves_are = fits.leaves_are;
  }

  abbrev round_by : (b : Bool) (s : PoolSeen) (vs : List Move) (whole : Bool) → RowRound c size (seen_by b s) vs whole → RowRound c size s vs whole
  round_by b s vs whole row =
      let front = round_moves row.draft row.first row.second row.thirds in
      record {
        frozen = row.frozen;
        flushed = row.flushed;
        fresh = row.fresh;
        boards = row.boards;
        draft = row.draft;
        leaves = row.leaves;
        fits = fits_by b s row.draft row.fits;
        seated = row.seated;
        first = row.first;
        second = row.second;
        thirds = row.thirds;
        in_first = row.in_first;
        in_second = row.in_second;
        results = row.results;
        whole_is = row.whole_is;
        configs = row.configs;
        uberblocks = row.uberblocks;
        copies = row.copies;
        ending = row.ending;
        ends = round_ends whole (opens_all front b) (seen_along front s) row.draft (board_of s.leaves) row.results row.ending
            (subst (λ t. EndsRound whole t row.draft (board_of s.leaves) row.results row.ending) (along_by front b s) row.ends);
        moves = row.moves;
      }

  -- How a turn ends.
  draws_by : (draws b : Bool) (s : PoolSeen) (vs : List Move) → Draws draws (seen_by b s) vs → Draws draws s vs
  draws_by true b s vs drawn = widened_by b s Draw vs drawn
  draws_by false b s vs none = none

  ends_by : (o : Option ℕ) (b : Bool) (s : PoolState) (draws : Bool) (going : TurnReply) (vs : List Move) (reply : TurnReply)
      → EndsBy o (state_by b s) draws going vs reply → EndsBy o s draws going vs reply
  ends_by (Some top) b s draws going vs reply ends = ends
  ends_by None b s draws going vs reply ends = (draws_by draws b s.core vs ends.0, ends.1)

  ends_behind : (behind : List Move) (b : Bool) (s : PoolState) (draws : Bool) (going : TurnReply) (vs : List Move) (reply : TurnReply)
      → EndsTurn (steps behind (state_by b s)) draws going vs reply → EndsTurn (steps behind s) draws going vs reply
  ends_behind behind b s draws going vs reply ends =
      ends_by (emptied (steps behind s).core.leaves) (opens_all behind b) (steps behind s) draws going vs reply
      (subst (λ t. EndsTurn t draws going vs reply) (steps_by behind b s) ends)

  turn_of : (b : Bool) (s : PoolState) (part : List Move) (ms : List Member) (results : List Bool) (going : TurnReply) (vs : List Move) (reply : TurnReply)
      → IsTurnOf (state_by b s) part ms results going vs reply → IsTurnOf s part ms results going vs reply
  turn_of b s part ms results going vs reply turn = record {
    ending = turn.ending;
    ends = ends_behind (part ++ count_moves s.core.leaves ms results) b s false going turn.ending reply turn.ends;
    moves = turn.moves;
  }

  round_part : (b : Bool) (s : PoolState) (vs : List Move) (reply : TurnReply) → IsRoundPart c size (state_by b s) vs reply → IsRoundPart c size s vs reply
  round_part b s vs reply round = record {
    part = round.part;
    whole = round.whole;
    row = round_by b s.core round.part round.whole round.row;
    own = round.own;
    behind = round.behind;
    counted = round.counted;
    ending = round.ending;
    ends = by round.whole round.ends;
    moves = round.moves;
  }
    where
      by : (whole : Bool) → cond whole ((round.ending ≡ []) × (reply ≡ Committed s.core.number))
          (EndsTurn (steps round.behind (state_by b s)) true (Round s.core.number) round.ending reply)
          → cond whole ((round.ending ≡ []) × (reply ≡ Committed s.core.number))
          (EndsTurn (steps round.behind s) true (Round s.core.number) round.ending reply)
      by true ends = ends
      by false ends = ends_behind round.behind b s true (Round s.core.number) round.ending reply ends

  starts_by : (o : Option ℕ) (b : Bool) (s : PoolState) (vs : List Move) (reply : TurnReply) → StartsBy o c size (state_by b s) vs reply → StartsBy o c size s vs reply
  starts_by (Some top) b s vs reply starts = starts
  starts_by None b s vs reply (inl part) = inl (record {
    part = part.part;
    row = write_by b s.core part.part part.row;
    turn = turn_of b s part.part (board_under part.row.cell.top s.core.leaves) part.row.results Write vs reply part.turn;
  })
  starts_by None b s vs reply (inr (inl part)) = inr (inl (record {
    part = part.part;
    unflushed = part.unflushed;
    row = flush_by b s.core part.part part.row;
    turn = turn_of b s part.part (board_of s.core.leaves) part.row.results Flush vs reply part.turn;
  }))
  starts_by None b s vs reply (inr (inr part)) = inr (inr (round_part b s vs reply part))

  row_by : (b : Bool) (s : PoolState) (vs : List Move) (reply : TurnReply) → RowTurn c size (state_by b s) vs reply → RowTurn c size s vs reply
  row_by b s vs reply = by s.core.group.frozen
    where
      by : (frozen : Bool) → TurnBy frozen c size (state_by b s) vs reply → TurnBy frozen c size s vs reply
      by false turn = turn
      by true turn = starts_by (emptied s.core.leaves) b s vs reply turn

  turns_by : (b : Bool) (s : PoolState) (turns : List (List Move × TurnReply)) (reply : TurnReply) → AreTurns c size (state_by b s) turns reply
      → AreTurns c size s turns reply
  turns_by b s [] reply are = absurd are
  turns_by b s (turn ∷ []) reply are = (row_by b s turn.0 turn.1 are.0, are.1, are.2)
  turns_by b s (turn ∷ (next ∷ turns)) reply are = (
    row_by b s turn.0 turn.1 are.0,
    are.1,
    turns_by (opens_all turn.0 b) (steps turn.0 s) (next ∷ turns) reply
        (subst (λ t. AreTurns c size t (next ∷ turns) reply) (steps_by turn.0 b s) are.2),
  )

  -- So a group is ended by the same turns.
  pub ends_unopened : (s : PoolState) (vs : List Move) (reply : TurnReply) → EndsGroup c size (as_opened s) vs reply → EndsGroup c size s vs reply
  ends_unopened s vs reply ends = record { turns = ends.turns; are = turns_by true s ends.turns reply ends.are; moves = ends.moves }

  -- Behind an acknowledgement the pool reads the record of this number.
  pub record HasCommitted (n : ℕ) (s : PoolState) : Type 0 where
    pub opened : s.core.opened ≡ true
    pub read : s.core.read_number ≡ n

  abbrev is_commit : TurnReply → Bool
  is_commit (Committed n) = true
  is_commit reply = false

  other_end : (o : Option ℕ) (s : PoolState) (draws : Bool) (going : TurnReply) (vs : List Move) (reply : TurnReply) → is_commit going ≡ false
      → EndsBy o s draws going vs reply → is_commit reply ≡ false
  other_end (Some top) s draws going vs reply other ends = ap is_commit ends.1
  other_end None s draws going vs reply other ends = ap is_commit ends.1 ∙ other

  other_turn : (s : PoolState) (part : List Move) (ms : List Member) (results : List Bool) (going : TurnReply) (vs : List Move) (reply : TurnReply)
      → is_commit going ≡ false → IsTurnOf s part ms results going vs reply → is_commit reply ≡ false
  other_turn s part ms results going vs reply other turn =
      let behind = steps (part ++ count_moves s.core.leaves ms results) s in
      other_end (emptied behind.core.leaves) behind false going turn.ending reply other turn.ends

  same_commit : (m n : ℕ) → Committed m ≡ Committed n → m ≡ n
  same_commit m n same = cc

  round_commits : (s : PoolState) (vs : List Move) (n : ℕ) → IsRoundPart c size s vs (Committed n) → HasCommitted n (steps vs s)
  round_commits s vs n round = by round.whole refl round.ends round.row.ends
    where
      front : List Move
      front = round_moves round.row.draft round.row.first round.row.second round.row.thirds

      by : (whole : Bool) → round.whole ≡ whole
          → cond whole ((round.ending ≡ []) × (Committed n ≡ Committed s.core.number))
          (EndsTurn (steps round.behind s) true (Round s.core.number) round.ending (Committed n))
          → EndsRound whole (seen_along front s.core) round.row.draft (board_of s.core.leaves) round.row.results round.row.ending
          → HasCommitted n (steps vs s)
      by false part ends end = absurd (true≢false
          (other_end (emptied (steps round.behind s).core.leaves) (steps round.behind s) true (Round s.core.number) round.ending (Committed n) refl ends))
      by true whole ends end =
          let counts = none_counted s.core.leaves (board_of s.core.leaves) round.row.results (sym round.row.whole_is ∙ whole) in
          let moves : vs ≡ front ++ (Commits round.row.draft ∷ []) =
          round.moves ∙ ap (λ ws. round.behind ++ ws) ends.0 ∙ append-nil round.behind ∙ round.counted ∙ ap (λ ws. round.part ++ ws) counts
          ∙ append-nil round.part ∙ round.row.moves ∙ ap (λ ws. front ++ ws) end in
          subst (HasCommitted n) (sym (ap (λ ws. steps ws s) moves ∙ steps_more front (Commits round.row.draft ∷ []) s)) (record {
            opened = refl;
            read = round.row.fits.number_is ∙ sym (same_commit n s.core.number ends.1);
          })

  turn_commits : (s : PoolState) (vs : List Move) (n : ℕ) → RowTurn c size s vs (Committed n) → HasCommitted n (steps vs s)
  turn_commits s vs n = by s.core.group.frozen
    where
      starts : (o : Option ℕ) → StartsBy o c size s vs (Committed n) → HasCommitted n (steps vs s)
      starts (Some top) turn = absurd (true≢false (ap is_commit turn.1))
      starts None (inl part) = absurd (true≢false
          (other_turn s part.part (board_under part.row.cell.top s.core.leaves) part.row.results Write vs (Committed n) refl part.turn))
      starts None (inr (inl part)) = absurd (true≢false
          (other_turn s part.part (board_of s.core.leaves) part.row.results Flush vs (Committed n) refl part.turn))
      starts None (inr (inr part)) = round_commits s vs n part

      by : (frozen : Bool) → TurnBy frozen c size s vs (Committed n) → HasCommitted n (steps vs s)
      by false turn = absurd (true≢false (ap is_commit turn.1))
      by true turn = starts (emptied s.core.leaves) turn

  turns_commit : (s : PoolState) (turns : List (List Move × TurnReply)) (n : ℕ) → AreTurns c size s turns (Committed n) → HasCommitted n (steps (moves_in turns) s)
  turns_commit s [] n are = absurd are
  turns_commit s (turn ∷ []) n are =
      subst (λ ws. HasCommitted n (steps ws s)) (sym (append-nil turn.0))
      (turn_commits s turn.0 n (subst (RowTurn c size s turn.0) (sym are.2) are.0))
  turns_commit s (turn ∷ (next ∷ turns)) n are =
      subst (HasCommitted n) (sym (steps_more turn.0 (moves_in (next ∷ turns)) s))
      (turns_commit (steps turn.0 s) (next ∷ turns) n are.2)

  pub group_commits : (s : PoolState) (vs : List Move) (n : ℕ) → EndsGroup c size s vs (Committed n) → HasCommitted n (steps vs s)
  group_commits s vs n ends = subst (λ ws. HasCommitted n (steps ws s)) (sym ends.moves) (turns_commit s ends.turns n ends.are)

  still_open : (vs : List Move) → opens_all vs true ≡ true
  still_open [] = refl
  still_open (v ∷ vs) = ap (opens_all vs) (by v) ∙ still_open vs
    where
      by : (v : Move) → opens v true ≡ true
      by (Commits draft) = refl
      by v = refl

  -- and there the two states are one
  pub opened_then : (s : PoolState) (vs : List Move) (n : ℕ) → EndsGroup c size s vs (Committed n) → steps vs (as_opened s) ≡ steps vs s
  opened_then s vs n ends =
      steps_by vs true s
      ∙ ap (λ b. state_by b (steps vs s)) (still_open vs ∙ sym (group_commits s vs n ends).opened)
