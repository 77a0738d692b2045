-- Rows that are so by the sizes of devices are so by others, where each leaf's device has the same size.
use Rattle.std.proofs.Common.{◌≡◌, inl, inr, ℕ, zero, suc, ◌≤◌, Bool, true, false, Option, Some, None, List, [], ◌∷◌, map, ap, subst}
use Rattle.std.specs.Prelude.{slice_get}
use Rattle.std.specs.List.{AllByRecursion}
use Rattle.bank_core.specs.Asks.{Ask}
use Rattle.bank_core.specs.Disk.{Noted}
use Rattle.label_store.specs.declared.member.Member.{Member}
use Rattle.label_store.specs.Layout.{even_labels, odd_labels}
use Rattle.label_store.specs.Phases.{IsTurn, IsPhase}
use Rattle.label_store.specs.Plans.{config_plan, ring_plan}
use Rattle.label_store.specs.Rounds.{uberblock_of, first_plan, second_plan, third_plan}
use Rattle.label_store.specs.Seats.{AreSeated}
use Rattle.txg_history.specs.Pages.{Codec}
use Rattle.pool_moves.specs.Boards.{is_on, board_of, emptied}
use Rattle.pool_moves.specs.Leaves.{LeafSeen}
use Rattle.pool_moves.specs.LineRows.{TurnReply, Committed, IsRoundPart, StartsBy, TurnBy, RowTurn, AreTurns, EndsGroup, CommitsOpen, SyncReply, CommitsFor, SyncOpen, SyncBehind, EndsFirst, SyncBy, RowSync}
use Rattle.pool_moves.specs.Moves.{Draft, Move, steps}
use Rattle.pool_moves.specs.Refusing.{FreezeRefusal}
use Rattle.pool_moves.specs.States.{PoolSeen, PoolState}
use Rattle.pool_moves.specs.TurnRows.{IsThirdMoves, RowRound}
use Rattle.host_core.proofs.CallsOnLeaves.{IsOn, IsSuch, AreSuch, still_steps, on_board, turn_on, group_on, row_freeze_on}

module _ (size other : ℕ → ℕ) where
  -- the device has one size by both
  abbrev pub IsSame : ℕ → Type 0
  IsSame d = size d ≡ other d

  abbrev pub AreSame : List LeafSeen → Type 0
  AreSame leaves = AreSuch IsSame leaves

  abbrev Seated : List Member → Type 0
  Seated ms = AllByRecursion (λ m. IsSame m.dev) ms

  abbrev ArePlanned : (plan now : Member → List Ask) → Type 0
  ArePlanned plan now = (m : Member) → IsSame m.dev → plan m ≡ now m

  phase_at : (plan now : Member → List Ask) → ArePlanned plan now → (ms : List Member) (was is : List Bool) (made : List Noted) → Seated ms
      → IsPhase plan ms was is made → IsPhase now ms was is made
  phase_at plan now same [] [] [] made seated phase = phase
  phase_at plan now same [] [] (c ∷ is) made seated phase = absurd phase
  phase_at plan now same [] (b ∷ was) is made seated phase = absurd phase
  phase_at plan now same (m ∷ ms) [] is made seated phase = absurd phase
  phase_at plan now same (m ∷ ms) (b ∷ was) [] made seated phase = absurd phase
  phase_at plan now same (m ∷ ms) (b ∷ was) (c ∷ is) made seated (mine, rest, whole, turn, more) =
      (mine, rest, whole, subst (λ asks. IsTurn asks b c mine) (same m seated.0) turn, phase_at plan now same ms was is rest seated.1 more)

  third_at : (plan now : Member → List Ask) → ArePlanned plan now → (draft : Draft) (ms : List Member) (was is : List Bool) (vs : List Move) → Seated ms
      → IsThirdMoves plan draft ms was is vs → IsThirdMoves now draft ms was is vs
  third_at plan now same draft [] [] [] vs seated third = third
  third_at plan now same draft [] [] (c ∷ is) vs seated third = absurd third
  third_at plan now same draft [] (b ∷ was) is vs seated third = absurd third
  third_at plan now same draft (m ∷ ms) [] is vs seated third = absurd third
  third_at plan now same draft (m ∷ ms) (b ∷ was) [] vs seated third = absurd third
  third_at plan now same draft (m ∷ ms) (true ∷ was) (c ∷ is) vs seated (mine, rest, whole, turn, more) =
      (mine, rest, whole, subst (λ asks. IsTurn asks true c mine) (same m seated.0) turn, third_at plan now same draft ms was is rest seated.1 more)
  third_at plan now same draft (m ∷ ms) (false ∷ was) (c ∷ is) vs seated third = (third.0, third_at plan now same draft ms was is vs seated.1 third.1)

  member_at : (ms : List Member) (i : ℕ) (m : Member) → Seated ms → slice_get ms i ≡ Some m → IsSame m.dev
  member_at [] i m seated at = absurd (let no : None ≡ Some m = at in cc)
  member_at (n ∷ ms) zero m seated at = subst (λ (x : Member). IsSame x.dev) (let is : n ≡ m = cc in is) seated.0
  member_at (n ∷ ms) (suc i) m seated at = member_at ms i m seated.1 at

  seated_at : (ms : List Member) → Seated ms → AreSeated size ms → AreSeated other ms
  seated_at ms seated all = λ i m at. subst (λ n. 320 ≤ n) (member_at ms i m seated at) (all i m at)

  module _ (c : Codec) where
    abbrev round_at : (s : PoolSeen) (vs : List Move) (whole : Bool) → AreSame s.leaves → RowRound c size s vs whole → RowRound c other s vs whole
    round_at s vs whole same row =
        let ms = board_of s.leaves in
        let seated : Seated ms = on_board IsSame is_on s.leaves same in
        record {
          frozen = row.frozen;
          flushed = row.flushed;
          fresh = row.fresh;
          boards = row.boards;
          draft = row.draft;
          leaves = row.leaves;
          fits = row.fits;
          seated = seated_at ms seated row.seated;
          first = row.first;
          second = row.second;
          thirds = row.thirds;
          in_first = row.in_first;
          in_second = row.in_second;
          results = row.results;
          whole_is = row.whole_is;
          configs = phase_at (first_plan size row.draft.commit) (first_plan other row.draft.commit)
              (λ m e. ap (λ n. config_plan m.dev (even_labels n) row.draft.commit.blob) e) ms (map (λ m. true) ms) row.in_first row.first seated row.configs;
          uberblocks = phase_at (second_plan size row.draft.commit) (second_plan other row.draft.commit)
              (λ m e. ap (λ n. ring_plan m.dev n (uberblock_of row.draft.commit m)) e) ms row.in_first row.in_second row.second seated row.uberblocks;
          copies = third_at (third_plan size row.draft.commit) (third_plan other row.draft.commit)
              (λ m e. ap (λ n. config_plan m.dev (odd_labels n) row.draft.commit.blob) e) row.draft ms row.in_second row.results row.thirds seated row.copies;
          ending = row.ending;
          ends = row.ends;
          moves = row.moves;
        }

    part_at : (s : PoolState) (vs : List Move) (reply : TurnReply) → AreSame s.core.leaves → IsRoundPart c size s vs reply → IsRoundPart c other s vs reply
    part_at s vs reply same w = record {
      part = w.part;
      whole = w.whole;
      row = round_at s.core w.part w.whole same w.row;
      own = w.own;
      behind = w.behind;
      counted = w.counted;
      ending = w.ending;
      ends = w.ends;
      moves = w.moves;
    }

    starts_at : (found : Option ℕ) (s : PoolState) (vs : List Move) (reply : TurnReply) → AreSame s.core.leaves → StartsBy found c size s vs reply
        → StartsBy found c other s vs reply
    starts_at (Some top) s vs reply same row = row
    starts_at None s vs reply same (inl w) = inl w
    starts_at None s vs reply same (inr (inl w)) = inr (inl w)
    starts_at None s vs reply same (inr (inr w)) = inr (inr (part_at s vs reply same w))

    turn_by_at : (frozen : Bool) (s : PoolState) (vs : List Move) (reply : TurnReply) → AreSame s.core.leaves → TurnBy frozen c size s vs reply
        → TurnBy frozen c other s vs reply
    turn_by_at false s vs reply same row = row
    turn_by_at true s vs reply same row = starts_at (emptied s.core.leaves) s vs reply same row

    pub turn_at : (s : PoolState) (vs : List Move) (reply : TurnReply) → AreSame s.core.leaves → RowTurn c size s vs reply → RowTurn c other s vs reply
    turn_at s vs reply same row = turn_by_at s.core.group.frozen s vs reply same row

    -- behind moves on the leaves' devices
    behind : (vs : List Move) (s : PoolState) → (AreSame s.core.leaves → AllByRecursion (IsOn IsSame) vs) → AreSame s.core.leaves → AreSame (steps vs s).core.leaves
    behind vs s on same = still_steps IsSame (IsSuch IsSame) vs s (on same) same

    turns_at : (s : PoolState) (turns : List (List Move × TurnReply)) (reply : TurnReply) → AreSame s.core.leaves → AreTurns c size s turns reply
        → AreTurns c other s turns reply
    turns_at s [] reply same are = absurd are
    turns_at s (turn ∷ []) reply same are = (turn_at s turn.0 turn.1 same are.0, are.1, are.2)
    turns_at s (turn ∷ (next ∷ turns)) reply same are = (
      turn_at s turn.0 turn.1 same are.0,
      are.1,
      turns_at (steps turn.0 s) (next ∷ turns) reply (behind turn.0 s (turn_on IsSame c size s turn.0 turn.1 are.0) same) are.2,
    )

    group_at : (s : PoolState) (vs : List Move) (reply : TurnReply) → AreSame s.core.leaves → EndsGroup c size s vs reply → EndsGroup c other s vs reply
    group_at s vs reply same w = record { turns = w.turns; are = turns_at s w.turns reply same w.are; moves = w.moves }

    commits_at : (s : PoolState) (vs : List Move) (reply : TurnReply) → AreSame s.core.leaves → CommitsOpen c size s vs reply → CommitsOpen c other s vs reply
    commits_at s vs reply same w = record {
      first = w.first;
      freeze = w.freeze;
      rest = w.rest;
      ends = group_at (steps w.first s) w.rest reply (behind w.first s (row_freeze_on IsSame c s w.first w.freeze) same) w.ends;
      moves = w.moves;
    }

    for_at : (refusal : Option FreezeRefusal) (s : PoolState) (vs : List Move) (reply : SyncReply) → AreSame s.core.leaves
        → CommitsFor refusal c size s vs reply → CommitsFor refusal c other s vs reply
    for_at (Some refusal) s vs reply same row = row
    for_at None s vs reply same row = (row.0, commits_at s vs row.0 same row.1, row.2)

    open_at : (s : PoolState) (vs : List Move) (reply : SyncReply) → AreSame s.core.leaves → SyncOpen c size s vs reply → SyncOpen c other s vs reply
    open_at s vs reply same row = (row.0, row.1, for_at row.0 s vs reply same row.2)

    behind_at : (turn : TurnReply) (s : PoolState) (vs : List Move) (reply : SyncReply) → AreSame s.core.leaves → SyncBehind turn c size s vs reply
        → SyncBehind turn c other s vs reply
    behind_at (Committed number) s vs reply same (inl row) = inl row
    behind_at (Committed number) s vs reply same (inr row) = inr (open_at s vs reply same row)
    behind_at turn s vs reply same row = row

    first_at : (s : PoolState) (vs : List Move) (reply : SyncReply) → AreSame s.core.leaves → EndsFirst c size s vs reply → EndsFirst c other s vs reply
    first_at s vs reply same w = record {
      first = w.first;
      turn = w.turn;
      ends = group_at s w.first w.turn same w.ends;
      rest = w.rest;
      behind = behind_at w.turn (steps w.first s) w.rest reply (behind w.first s (group_on IsSame c size s w.first w.turn w.ends) same) w.behind;
      moves = w.moves;
    }

    sync_by_at : (frozen : Bool) (s : PoolState) (vs : List Move) (reply : SyncReply) → AreSame s.core.leaves → SyncBy frozen c size s vs reply
        → SyncBy frozen c other s vs reply
    sync_by_at false s vs reply same row = open_at s vs reply same row
    sync_by_at true s vs reply same row = first_at s vs reply same row

    pub sync_at : (s : PoolState) (vs : List Move) (reply : SyncReply) → AreSame s.core.leaves → RowSync c size s vs reply → RowSync c other s vs reply
    sync_at s vs reply same row = sync_by_at s.core.group.frozen s vs reply same row
