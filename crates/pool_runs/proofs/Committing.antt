-- What is acknowledged where a group ends so.
use Rattle.std.proofs.Common.{◌≡◌, inl, inr, ℕ, ◌+◌, ◌<◌, ◌≤◌, Bool, true, false, cond, List, [], ◌∷◌, ◌++◌, Option, Some, None, refl, sym, ap, ◌∙◌, subst, append-nil, append_assoc, arith}
use Rattle.std.specs.List.{AllByRecursion}
use Rattle.bank_core.specs.Disk.{Noted}
use Rattle.txg_history.specs.Pages.{Codec}
use Rattle.txg_history.specs.Pools.{Pool, pool_after}
use Rattle.txg_history.specs.Records.{Cells, number_of, block_at, block_in}
use Rattle.pool_moves.specs.AwayRows.{is_spare, leaf_named}
use Rattle.pool_moves.specs.Boards.{board_of, board_under, emptied}
use Rattle.pool_moves.specs.FreezeRow.{up_devs}
use Rattle.pool_moves.specs.Keeping.{over, Kept, Walks}
use Rattle.pool_moves.specs.Leaves.{LeafSeen, Seat}
use Rattle.pool_moves.specs.LineRows.{TurnReply, Idle, Write, Flush, Round, Committed, Suspended, count_moves, EndsBy, EndsTurn, IsTurnOf, IsRoundPart, StartsBy, TurnBy, RowTurn, AreTurns, moves_in, EndsGroup, CommitsOpen, SyncReply, Ended, EndsFirst, CommitsFor, SyncBehind, SyncBy, RowSync}
use Rattle.pool_moves.specs.Moves.{Draft, Move, Makes, Lose, Puts, Freeze, Draw, Burn, Commits, Sets, events_of, step, state_step, steps, after_move, after_moves}
use Rattle.pool_moves.specs.Refusing.{FreezeRefusal}
use Rattle.pool_moves.specs.States.{PoolState, Side}
use Rattle.pool_moves.specs.TreeRows.{goes_out, is_there, IsCleaned, Detached, DetachBehind, CommitsWithout, DetachFor, DetachLeaf, DetachBy, RowDetach}
use Rattle.pool_moves.specs.TurnRows.{round_moves, RowRound}
use Rattle.pool_moves.specs.Walking.{as_moves}
use Rattle.pool_moves.specs.Widening.{IsWidened}
use Rattle.pool_moves.proofs.FreeWalks.{moves_more}
use Rattle.pool_moves.proofs.Keeping.{walk_keeps}
use Rattle.pool_moves.proofs.LineWalks.{IsSet, counts_set}
use Rattle.pool_runs.specs.Acts.{does, pool_along}
use Rattle.pool_runs.specs.Committing.{FreezesNone, CommitsAll, CommitsGroup}
use Rattle.pool_runs.proofs.Acting.{own_events, move_number}
use Rattle.pool_runs.proofs.GroupMoves.{IsKind, more, all_group, all_sync, all_widens, all_turn, all_commits}

-- Moves that end in an acknowledgement of record n.
pub record EndsIn (vs : List Move) (n : ℕ) : Type 0 where
  pub body : List Move
  pub draft : Draft
  pub sets : List Move
  pub all_set : AllByRecursion IsSet sets
  pub moves : vs ≡ body ++ (Commits draft ∷ sets)
  pub number : draft.commit.number.0 ≡ n

committed_number : (a b : ℕ) → Committed a ≡ Committed b → a ≡ b
committed_number a b e = cc

not_committed : {A : Type 0} (top : Option ℕ) (s : PoolState) (draws : Bool) (going : TurnReply) (vs : List Move) (n : ℕ) → (going ≡ Committed n → ⊥) → EndsBy top s draws going vs (Committed n) → A
not_committed (Some top) s draws going vs n off ends = absurd (let no = ends.1 in cc)
not_committed None s draws going vs n off ends = absurd (off (sym ends.1))

part_commits : {A : Type 0} (s : PoolState) (part : List Move) (ms : _) (results : List Bool) (going : TurnReply) (vs : List Move) (n : ℕ) → (going ≡ Committed n → ⊥) → IsTurnOf s part ms results going vs (Committed n) → A
part_commits s part ms results going vs n off turn = not_committed (emptied (steps (part ++ count_moves s.core.leaves ms results) s).core.leaves) (steps (part ++ count_moves s.core.leaves ms results) s) false going turn.ending n off turn.ends

pub record CommitsNow (s : PoolState) (vs : List Move) (n : ℕ) : Type 0 where
  pub ends : EndsIn vs n
  pub number : n ≡ s.core.number

round_commits : (c : Codec) (size : ℕ → ℕ) (s : PoolState) (vs : List Move) (n : ℕ) → IsRoundPart c size s vs (Committed n) → CommitsNow s vs n
round_commits c size s vs n w = of w.whole w.row w.ends w.counted
  where
    of : (whole : Bool) → (row : RowRound c size s.core w.part whole) → cond whole ((w.ending ≡ []) × (Committed n ≡ Committed s.core.number)) (EndsTurn (steps w.behind s) true (Round s.core.number) w.ending (Committed n))
        → w.behind ≡ w.part ++ count_moves s.core.leaves (board_of s.core.leaves) w.row.results → CommitsNow s vs n
    of true row ends counted = record {
      ends = record {
        body = round_moves row.draft row.first row.second row.thirds;
        draft = row.draft;
        sets = count_moves s.core.leaves (board_of s.core.leaves) w.row.results;
        all_set = counts_set s.core.leaves (board_of s.core.leaves) w.row.results;
        moves = w.moves ∙ (ap (λ l. w.behind ++ l) ends.0 ∙ (append-nil w.behind ∙ (counted ∙ (ap (λ l. l ++ count_moves s.core.leaves (board_of s.core.leaves) w.row.results)
            (row.moves ∙ ap (λ l. round_moves row.draft row.first row.second row.thirds ++ l) row.ends)
            ∙ append_assoc (round_moves row.draft row.first row.second row.thirds) (Commits row.draft ∷ []) (count_moves s.core.leaves (board_of s.core.leaves) w.row.results)))));
        number = row.fits.number_is ∙ sym (committed_number n s.core.number ends.1);
      };
      number = committed_number n s.core.number ends.1;
    }
    of false row ends counted = not_committed (emptied (steps w.behind s).core.leaves) (steps w.behind s) true (Round s.core.number) w.ending n (λ e. absurd (cc)) ends

starts_commits : (top : Option ℕ) (c : Codec) (size : ℕ → ℕ) (s : PoolState) (vs : List Move) (n : ℕ) → StartsBy top c size s vs (Committed n) → CommitsNow s vs n
starts_commits (Some top) c size s vs n row = absurd (let no = row.1 in cc)
starts_commits None c size s vs n (inl w) = part_commits s w.part (board_under w.row.cell.top s.core.leaves) w.row.results Write vs n (λ e. absurd (cc)) w.turn
starts_commits None c size s vs n (inr (inl w)) = part_commits s w.part (board_of s.core.leaves) w.row.results Flush vs n (λ e. absurd (cc)) w.turn
starts_commits None c size s vs n (inr (inr w)) = round_commits c size s vs n w

turn_commits_by : (frozen : Bool) (c : Codec) (size : ℕ → ℕ) (s : PoolState) (vs : List Move) (n : ℕ) → TurnBy frozen c size s vs (Committed n) → CommitsNow s vs n
turn_commits_by false c size s vs n row = absurd (let no = row.1 in cc)
turn_commits_by true c size s vs n row = starts_commits (emptied s.core.leaves) c size s vs n row

pub turn_commits : (c : Codec) (size : ℕ → ℕ) (s : PoolState) (vs : List Move) (n : ℕ) → RowTurn c size s vs (Committed n) → CommitsNow s vs n
turn_commits c size s vs n row = turn_commits_by s.core.group.frozen c size s vs n row

-- numbers never fall
number_up : (v : Move) (s : PoolState) → s.core.number ≤ (state_step v s).core.number
number_up (Makes noted) s = omega arith
number_up (Freeze cells board) s = omega arith
number_up Draw s = omega arith
number_up v s = omega arith

pub numbers_up : (vs : List Move) (s : PoolState) → s.core.number ≤ (steps vs s).core.number
numbers_up [] s = omega arith
numbers_up (v ∷ vs) s = let one = number_up v s in let rest = numbers_up vs (state_step v s) in omega (arith, one, rest)

pub record GroupCommits (s : PoolState) (vs : List Move) (n : ℕ) : Type 0 where
  pub ends : EndsIn vs n
  pub up : s.core.number ≤ n

pub ends_behind : (vs ws : List Move) (n : ℕ) → EndsIn ws n → EndsIn (vs ++ ws) n
ends_behind vs ws n e = record {
  body = vs ++ e.body;
  draft = e.draft;
  sets = e.sets;
  all_set = e.all_set;
  moves = ap (λ l. vs ++ l) e.moves ∙ sym (append_assoc vs e.body (Commits e.draft ∷ e.sets));
  number = e.number;
}

set_more : (sets more : List Move) → AllByRecursion IsSet sets → AllByRecursion IsSet more → AllByRecursion IsSet (sets ++ more)
set_more [] more a b = b
set_more (v ∷ sets) more a b = (a.0, set_more sets more a.1 b)

pub ends_before : (vs sets : List Move) (n : ℕ) → EndsIn vs n → AllByRecursion IsSet sets → EndsIn (vs ++ sets) n
ends_before vs sets n e all = record {
  body = e.body;
  draft = e.draft;
  sets = e.sets ++ sets;
  all_set = set_more e.sets sets e.all_set all;
  moves = ap (λ l. l ++ sets) e.moves ∙ append_assoc e.body (Commits e.draft ∷ e.sets) sets;
  number = e.number;
}

turns_commit : (c : Codec) (size : ℕ → ℕ) (s : PoolState) (turns : List (List Move × TurnReply)) (n : ℕ) → AreTurns c size s turns (Committed n) → GroupCommits s (moves_in turns) n
turns_commit c size s [] n are = absurd are
turns_commit c size s (turn ∷ []) n are = let now = turn_commits c size s turn.0 n (subst (RowTurn c size s turn.0) (sym are.2) are.0) in record {
  ends = subst (λ l. EndsIn l n) (sym (append-nil turn.0)) now.ends;
  up = let e = now.number in omega (arith, e);
}
turns_commit c size s (turn ∷ (next ∷ turns)) n are = let rest = turns_commit c size (steps turn.0 s) (next ∷ turns) n are.2 in record {
  ends = ends_behind turn.0 (moves_in (next ∷ turns)) n rest.ends;
  up = let one = numbers_up turn.0 s in let two = rest.up in omega (arith, one, two);
}

pub group_commits : (c : Codec) (size : ℕ → ℕ) (s : PoolState) (vs : List Move) (n : ℕ) → EndsGroup c size s vs (Committed n) → GroupCommits s vs n
group_commits c size s vs n g = let now = turns_commit c size s g.turns n g.are in record { ends = subst (λ l. EndsIn l n) (sym g.moves) now.ends; up = now.up }

-- What the pool is behind them.
sets_pool : (sets : List Move) (t : Side) → AllByRecursion IsSet sets → (after_moves sets t).pool ≡ t.pool
sets_pool [] t all = refl
sets_pool (Sets m own ∷ sets) t all = sets_pool sets (after_move (Sets m own) t) all.1
sets_pool (v ∷ sets) t all = absurd all.0

pub record IsAckedAs (p : Pool) (n : ℕ) : Type 0 where
  pub reads : p.acked ≡ p.reads
  pub number : number_of p.acked ≡ n
  pub idle : p.group.frozen ≡ false

pub ends_pool : (vs : List Move) (n : ℕ) (t : Side) → (e : EndsIn vs n) → (after_moves vs t).pool ≡ (after_move (Commits e.draft) (after_moves e.body t)).pool
ends_pool vs n t e = ap (λ l. (after_moves l t).pool) e.moves
    ∙ (ap (λ x. x.pool) (moves_more e.body (Commits e.draft ∷ e.sets) t) ∙ sets_pool e.sets (after_move (Commits e.draft) (after_moves e.body t)) e.all_set)

pub ends_acked : (vs : List Move) (n : ℕ) (t : Side) → EndsIn vs n → IsAckedAs (after_moves vs t).pool n
ends_acked vs n t e = subst (λ p. IsAckedAs p n) (sym (ends_pool vs n t e)) (record { reads = refl; number = e.number; idle = refl })

-- Moves that leave what was written, and those that leave the open writes.
abbrev pub KeepsWritten : Move → Type 0
KeepsWritten (Puts a block) = ⊥
KeepsWritten v = Unit {0}

abbrev pub KeepsWrites : Move → Type 0
KeepsWrites (Puts a block) = ⊥
KeepsWrites (Freeze cells board) = ⊥
KeepsWrites Burn = ⊥
KeepsWrites v = Unit {0}

pub written_kind : IsKind KeepsWritten
written_kind = record {
  calls = λ noted. tt;
  leave = λ d. tt;
  set = λ m own. tt;
  wrote = λ k. tt;
  flushed = tt;
  draw = tt;
  widen = λ m low high. tt;
  starts = λ draft. tt;
  copies = λ draft d. tt;
  copied = λ draft d. tt;
  commits = λ draft. tt;
}

pub writes_kind : IsKind KeepsWrites
writes_kind = record {
  calls = λ noted. tt;
  leave = λ d. tt;
  set = λ m own. tt;
  wrote = λ k. tt;
  flushed = tt;
  draw = tt;
  widen = λ m low high. tt;
  starts = λ draft. tt;
  copies = λ draft d. tt;
  copied = λ draft d. tt;
  commits = λ draft. tt;
}

pub move_written : (v : Move) (p : Pool) → KeepsWritten v → (pool_after (events_of v p) p).written ≡ p.written
move_written (Puts a block) p keeps = absurd keeps
move_written v p keeps = refl

pub written_along : (vs : List Move) (t : Side) → AllByRecursion KeepsWritten vs → (after_moves vs t).pool.written ≡ t.pool.written
written_along [] t all = refl
written_along (v ∷ vs) t all = written_along vs (after_move v t) all.1 ∙ move_written v t.pool all.0

move_writes : (v : Move) (s : PoolState) → KeepsWrites v → (state_step v s).own.writes ≡ s.own.writes
move_writes (Puts a block) s keeps = absurd keeps
move_writes (Freeze cells board) s keeps = absurd keeps
move_writes Burn s keeps = absurd keeps
move_writes v s keeps = refl

pub writes_along : (vs : List Move) (s : PoolState) → AllByRecursion KeepsWrites vs → (steps vs s).own.writes ≡ s.own.writes
writes_along [] s all = refl
writes_along (v ∷ vs) s all = writes_along vs (state_step v s) all.1 ∙ move_writes v s all.0

steps_more : (vs ws : List Move) (s : PoolState) → steps (vs ++ ws) s ≡ steps ws (steps vs s)
steps_more [] ws s = refl
steps_more (v ∷ vs) ws s = steps_more vs ws (state_step v s)

-- Behind a freeze and the group's end nothing is an open write.
pub frozen_writes : (first rest : List Move) (s : PoolState) (cells : Cells) (board : ℕ → Bool) → IsWidened s.core (Freeze cells board) first → AllByRecursion KeepsWrites rest
    → (steps (first ++ rest) s).own.writes ≡ (λ x. None)
frozen_writes first rest s cells board is all = ap (λ x. x.own.writes) (steps_more first rest s) ∙ (writes_along rest (steps first s) all
    ∙ (ap (λ l. (steps l s).own.writes) is.moves ∙ writes_along is.widens (state_step (Freeze cells board) s) (all_widens KeepsWrites writes_kind (step (Freeze cells board) s.core) is.widens is.are)))

-- so what is acknowledged has what was written
pub kept_blocks : (c : Codec) (s : PoolState) (t : Side) (n : ℕ) → Kept c s t → IsAckedAs t.pool n → s.own.writes ≡ (λ x. None) → (a : ℕ) → block_at t.pool.acked a ≡ t.pool.written a
kept_blocks c s t n kept acked none a = ap (λ r. block_at r a) acked.reads ∙ sym (kept.written a ∙ (ap (λ f. over (s.own.writes a) (cond f (t.pool.group.content a) (block_in t.pool.reads.cells a))) acked.idle
    ∙ ap (λ w. over (w a) (block_in t.pool.reads.cells a)) none))

-- A sync.
record SyncCommits (s : PoolState) (vs : List Move) (n : ℕ) : Type 0 where
  up : s.core.number < n
  ends : EndsIn vs n
  none : (steps vs s).own.writes ≡ (λ x. None)

ended_turn : (a b : TurnReply) → Ended a ≡ Ended b → a ≡ b
ended_turn a b e = cc

-- a new group's numbers are above those that were drawn before
open_up : (c : Codec) (size : ℕ → ℕ) (s : PoolState) (vs : List Move) (n : ℕ) → CommitsOpen c size s vs (Committed n) → s.core.number < n
open_up c size s vs n w =
    let frozen : s.core.number + 1 ≤ (steps w.first s).core.number = subst (λ l. s.core.number + 1 ≤ (steps l s).core.number) (sym w.freeze.moves.moves)
    (numbers_up w.freeze.moves.widens (state_step (Freeze w.freeze.cells (up_devs s.core.leaves)) s)) in
    let most = (group_commits c size (steps w.first s) w.rest n w.ends).up in omega (arith, frozen, most)

-- and so above the record that was acknowledged
acked_below : (c : Codec) (s : PoolState) (t : Side) (n : ℕ) → Kept c s t → s.core.number < n → number_of t.pool.acked < n
acked_below c s t n kept up =
    let top : number_of t.pool.acked ≤ s.core.number = subst (λ h. number_of t.pool.acked ≤ h) (sym (ap (λ core. core.number) kept.core)) kept.survives.order.acked_top in
    omega (arith, top, up)

open_commits : (refusal : Option FreezeRefusal) (c : Codec) (size : ℕ → ℕ) (s : PoolState) (vs : List Move) (n : ℕ) → CommitsFor refusal c size s vs (Ended (Committed n)) → SyncCommits s vs n
open_commits (Some refusal) c size s vs n row = absurd (let no = row.1 in cc)
open_commits None c size s vs n row =
    let w : CommitsOpen c size s vs (Committed n) = subst (CommitsOpen c size s vs) (sym (ended_turn (Committed n) row.0 row.2)) row.1 in
    let rest = group_commits c size (steps w.first s) w.rest n w.ends in record {
      up = open_up c size s vs n w;
      ends = subst (λ l. EndsIn l n) (sym w.moves) (ends_behind w.first w.rest n rest.ends);
      none = ap (λ l. (steps l s).own.writes) w.moves ∙ frozen_writes w.first w.rest s w.freeze.cells (up_devs s.core.leaves) w.freeze.moves
          (all_group KeepsWrites writes_kind c size (steps w.first s) w.rest (Committed n) (λ bad. absurd bad) w.ends);
    }

behind_commits : (turn : TurnReply) (c : Codec) (size : ℕ → ℕ) (s : PoolState) (first vs : List Move) (n : ℕ) → SyncBehind turn c size s vs (Ended (Committed n)) → SyncCommits s vs n
behind_commits (Committed number) c size s first vs n (inl row) = absurd (let no = row.1 in cc)
behind_commits (Committed number) c size s first vs n (inr row) = open_commits row.0 c size s vs n row.2
behind_commits Idle c size s first vs n row = absurd (let no = row.1 in cc)
behind_commits Write c size s first vs n row = absurd (let no = row.1 in cc)
behind_commits Flush c size s first vs n row = absurd (let no = row.1 in cc)
behind_commits (Round number) c size s first vs n row = absurd (let no = row.1 in cc)
behind_commits (Suspended group top faults) c size s first vs n row = absurd (let no = row.1 in cc)

sync_commits : (frozen : Bool) (c : Codec) (size : ℕ → ℕ) (s : PoolState) (vs : List Move) (n : ℕ) → SyncBy frozen c size s vs (Ended (Committed n)) → SyncCommits s vs n
sync_commits false c size s vs n row = open_commits row.0 c size s vs n row.2
sync_commits true c size s vs n row = let behind = behind_commits row.turn c size (steps row.first s) row.first row.rest n row.behind in record {
  up = let first = numbers_up row.first s in let last = behind.up in omega (arith, first, last);
  ends = subst (λ l. EndsIn l n) (sym row.moves) (ends_behind row.first row.rest n behind.ends);
  none = ap (λ l. (steps l s).own.writes) row.moves ∙ (ap (λ x. x.own.writes) (steps_more row.first row.rest s) ∙ behind.none);
}

pub sync_all : (c : Codec) (size : ℕ → ℕ) (s : PoolState) (t : Side) (vs : List Move) (n : ℕ) → Kept c s t → Kept c (steps vs s) (after_moves vs t)
    → RowSync c size s vs (Ended (Committed n)) → CommitsAll t.pool (after_moves vs t).pool n
sync_all c size s t vs n begun kept row =
    let commits = sync_commits s.core.group.frozen c size s vs n row in
    let acked = ends_acked vs n t commits.ends in record {
      above = acked_below c s t n begun commits.up;
      acked = acked.number;
      blocks = λ a. kept_blocks c (steps vs s) (after_moves vs t) n kept acked commits.none a
          ∙ ap (λ w. w a) (written_along vs t (all_sync KeepsWritten written_kind (λ cells board. tt) s.core.group.frozen c size s vs (Ended (Committed n)) (λ bad. tt) row));
    }

-- A turn acknowledges what was written before its group's freeze.
abbrev pub KeepsContent : Move → Type 0
KeepsContent (Freeze cells board) = ⊥
KeepsContent v = Unit {0}

pub content_kind : IsKind KeepsContent
content_kind = record {
  calls = λ noted. tt;
  leave = λ d. tt;
  set = λ m own. tt;
  wrote = λ k. tt;
  flushed = tt;
  draw = tt;
  widen = λ m low high. tt;
  starts = λ draft. tt;
  copies = λ draft d. tt;
  copied = λ draft d. tt;
  commits = λ draft. tt;
}

move_content : (v : Move) (p : Pool) → KeepsContent v → (pool_after (events_of v p) p).group.content ≡ p.group.content
move_content (Makes noted) p keeps = refl
move_content (Freeze cells board) p keeps = absurd keeps
move_content v p keeps = refl

content_along : (vs more : List Move) (t : Side) → AllByRecursion KeepsContent (vs ++ more) → (after_moves vs t).pool.group.content ≡ t.pool.group.content
content_along [] more t all = refl
content_along (v ∷ vs) more t all = content_along vs more (after_move v t) all.1 ∙ move_content v t.pool all.0

pub walk_first : (c : Codec) (vs ws : List Move) (t : Side) → Walks c t (vs ++ ws) → Walks c t vs
walk_first c [] ws t walks = tt
walk_first c (v ∷ vs) ws t walks = (walks.0, walk_first c vs ws (after_move v t) walks.1)

pub walk_second : (c : Codec) (vs ws : List Move) (t : Side) → Walks c t (vs ++ ws) → Walks c (after_moves vs t) ws
walk_second c [] ws t walks = walks
walk_second c (v ∷ vs) ws t walks = walk_second c vs ws (after_move v t) walks.1

ends_content : (c : Codec) (s : PoolState) (t : Side) (vs : List Move) (n : ℕ) → Kept c s t → Walks c t vs → EndsIn vs n → AllByRecursion KeepsContent vs
    → CommitsGroup t.pool (after_moves vs t).pool n
ends_content c s t vs n kept walks e keeps =
    let ending = Commits e.draft ∷ e.sets in
    let all : Walks c t (e.body ++ ending) = subst (Walks c t) e.moves walks in
    let now = walk_second c e.body ending t all in
    let before = walk_keeps c e.body s t (walk_first c e.body ending t all) kept in record {
      acked = (ends_acked vs n t e).number;
      blocks = λ a. ap (λ p. block_at p.acked a) (ends_pool vs n t e) ∙ (before.survives.come_to.contents now.0.0.0.frozen a
          ∙ ap (λ f. f a) (content_along e.body ending t (subst (AllByRecursion KeepsContent) e.moves keeps)));
    }

-- So does a group that is ended by its turns.
pub group_all : (c : Codec) (size : ℕ → ℕ) (s : PoolState) (t : Side) (vs : List Move) (n : ℕ) → Kept c s t → Walks c t vs
    → EndsGroup c size s vs (Committed n) → CommitsGroup t.pool (after_moves vs t).pool n
group_all c size s t vs n kept walks row = ends_content c s t vs n kept walks (group_commits c size s vs n row).ends
    (all_group KeepsContent content_kind c size s vs (Committed n) (λ bad. tt) row)

-- The frozen group that a sync ended before its own freeze was refused, or found no memory.
pub first_all : (c : Codec) (size : ℕ → ℕ) (s : PoolState) (t : Side) (vs : List Move) (reply : SyncReply) → Kept c s t → Walks c t vs → FreezesNone reply
    → EndsFirst c size s vs reply → (n : ℕ) × CommitsGroup t.pool (after_moves vs t).pool n
first_all c size s t vs reply kept walks none row = by row.turn row.ends row.behind
  where
    refused : (refusal : Option FreezeRefusal) (rest : List Move) → CommitsFor refusal c size (steps row.first s) rest reply → rest ≡ []
    refused (Some refusal) rest of = of.0
    refused None rest of = absurd (subst FreezesNone of.2 none)

    idle : (n : ℕ) (rest : List Move) → SyncBehind (Committed n) c size (steps row.first s) rest reply → rest ≡ []
    idle n rest (inl of) = of.0
    idle n rest (inr of) = refused of.0 rest of.2

    only : (rest : List Move) → rest ≡ [] → vs ≡ row.first ++ rest → vs ≡ row.first
    only rest is all = all ∙ (ap (λ l. row.first ++ l) is ∙ append-nil row.first)

    by : (turn : TurnReply) → EndsGroup c size s row.first turn → SyncBehind turn c size (steps row.first s) row.rest reply
        → (n : ℕ) × CommitsGroup t.pool (after_moves vs t).pool n
    by (Committed n) ends behind = let same = only row.rest (idle n row.rest behind) row.moves in (
      n,
      subst (λ l. CommitsGroup t.pool (after_moves l t).pool n) (sym same)
          (group_all c size s t row.first n kept (subst (Walks c t) same walks) ends),
    )
    by Idle ends behind = absurd (subst FreezesNone behind.1 none)
    by Write ends behind = absurd (subst FreezesNone behind.1 none)
    by Flush ends behind = absurd (subst FreezesNone behind.1 none)
    by (Round number) ends behind = absurd (subst FreezesNone behind.1 none)
    by (Suspended group top faults) ends behind = absurd (subst FreezesNone behind.1 none)

pub turn_all : (c : Codec) (size : ℕ → ℕ) (s : PoolState) (t : Side) (vs : List Move) (n : ℕ) → Kept c s t → Walks c t vs
    → RowTurn c size s vs (Committed n) → CommitsGroup t.pool (after_moves vs t).pool n
turn_all c size s t vs n kept walks row = ends_content c s t vs n kept walks (turn_commits c size s vs n row).ends
    (all_turn KeepsContent content_kind c size s vs (Committed n) (λ bad. tt) row)

-- the pool behind its own moves
pub does_pool : (g : ℕ) (vs : List Move) (t : Side) → t.pool.pool.0 ≡ g → pool_along (does g vs) t.pool ≡ (after_moves vs t).pool
does_pool g [] t number = refl
does_pool g (v ∷ vs) t number = ap (pool_along (does g vs)) (ap (λ vs. pool_after vs t.pool) (own_events g v t.pool number)) ∙ does_pool g vs (after_move v t) (ap (λ n. n.0) (move_number v t.pool) ∙ number)

-- A detach: the pool commits without the leaf, and then the leaf's device is cleaned, which acknowledges nothing.
record CommitsFirst (s : PoolState) (vs : List Move) (n : ℕ) : Type 0 where
  front : List Move
  rest : List Move
  moves : vs ≡ front ++ rest
  up : s.core.number < n
  ends : EndsIn front n
  none : (steps front s).own.writes ≡ (λ x. None)
  keeps : AllByRecursion KeepsWritten front
  acked : (t : Side) → (after_moves rest t).pool.acked ≡ t.pool.acked

cleaned_acked : (there : Bool) (dev : Option ℕ) (spare : Bool) (size : ℕ → ℕ) (vs : List Move) (t : Side) → IsCleaned there dev spare size vs → (after_moves vs t).pool.acked ≡ t.pool.acked
cleaned_acked true (Some d) spare size vs t row = ap (λ l. (after_moves l t).pool.acked) row.3 ∙ made_acked row.0 (after_move (Lose d) t)
  where
    made_acked : (made : List Noted) (t : Side) → (after_moves (as_moves made) t).pool.acked ≡ t.pool.acked
    made_acked [] t = refl
    made_acked (noted ∷ made) t = made_acked made (after_move (Makes noted) t)
cleaned_acked true None spare size vs t row = ap (λ l. (after_moves l t).pool.acked) row
cleaned_acked false dev spare size vs t row = ap (λ l. (after_moves l t).pool.acked) row

without_commits : (c : Codec) (size : ℕ → ℕ) (s : PoolState) (name : List ℕ) (leaf : LeafSeen) (seat : Seat) (vs : List Move) (n : ℕ)
    → CommitsWithout c size s name leaf seat vs (Detached n) → CommitsFirst s vs n
without_commits c size s name leaf seat vs n row = by row.turn row.commit row.behind
  where
    same : (a b : ℕ) → Detached a ≡ Detached b → a ≡ b
    same a b e = cc

    by : (turn : TurnReply) → CommitsOpen c size (steps (goes_out s name leaf) s) row.part turn → DetachBehind turn size s name leaf seat row.rest (Detached n) → CommitsFirst s vs n
    by (Committed k) commit behind =
        let out = goes_out s name leaf in
        let gone = steps out s in
        let w : CommitsOpen c size gone row.part (Committed n) = subst (λ k. CommitsOpen c size gone row.part (Committed k)) (sym (same n k behind.1)) commit in
        let rest = group_commits c size (steps w.first gone) w.rest n w.ends in record {
          front = out ++ row.part;
          rest = row.rest;
          moves = row.moves ∙ sym (append_assoc out row.part row.rest);
          up = let first = numbers_up out s in let last = open_up c size gone row.part n w in omega (arith, first, last);
          ends = ends_behind out row.part n (subst (λ l. EndsIn l n) (sym w.moves) (ends_behind w.first w.rest n rest.ends));
          none = ap (λ x. x.own.writes) (steps_more out row.part s) ∙ (ap (λ l. (steps l gone).own.writes) w.moves
              ∙ frozen_writes w.first w.rest gone w.freeze.cells (up_devs gone.core.leaves) w.freeze.moves
              (all_group KeepsWrites writes_kind c size (steps w.first gone) w.rest (Committed n) (λ bad. absurd bad) w.ends));
          keeps = (tt, (tt, all_commits KeepsWritten written_kind (λ cells board. tt) c size gone row.part (Committed n) (λ bad. tt) w));
          acked = λ t. cleaned_acked (is_there leaf.own.mode) leaf.dev (is_spare s leaf) size row.rest t behind.0;
        }
    by (Suspended g top faults) commit behind = absurd (let no = behind.1 in cc)
    by Idle commit behind = absurd behind
    by Write commit behind = absurd behind
    by Flush commit behind = absurd behind
    by (Round k) commit behind = absurd behind

detach_commits : (found : Option LeafSeen) (c : Codec) (size : ℕ → ℕ) (s : PoolState) (name : List ℕ) (seat : Seat) (vs : List Move) (n : ℕ) → DetachBy found c size s name seat vs (Detached n)
    → CommitsFirst s vs n
detach_commits None c size s name seat vs n row = absurd (let no = row.1 in cc)
detach_commits (Some leaf) c size s name seat vs n row = by s.core.group.frozen row
  where
    for : (refusal : Option FreezeRefusal) → DetachFor refusal c size s name leaf seat vs (Detached n) → CommitsFirst s vs n
    for (Some refusal) row = absurd (let no = row.1 in cc)
    for None row = without_commits c size s name leaf seat vs n row

    by : (frozen : Bool) → DetachLeaf frozen c size s name leaf seat vs (Detached n) → CommitsFirst s vs n
    by true row = absurd (let no = row.1 in cc)
    by false (inl row) = absurd (let no = row.3 in cc)
    by false (inr row) = for row.1.0 row.1.2

pub detach_all : (c : Codec) (size : ℕ → ℕ) (s : PoolState) (t : Side) (name : List ℕ) (seat : Seat) (vs : List Move) (n : ℕ) → Kept c s t → Walks c t vs
    → RowDetach c size s name seat vs (Detached n) → CommitsAll t.pool (after_moves vs t).pool n
detach_all c size s t name seat vs n kept walks row =
    let w = detach_commits (leaf_named name s.core.leaves) c size s name seat vs n row in
    let before = walk_keeps c w.front s t (walk_first c w.front w.rest t (subst (Walks c t) w.moves walks)) kept in
    let acked = ends_acked w.front n t w.ends in
    let same : (after_moves vs t).pool.acked ≡ (after_moves w.front t).pool.acked =
    ap (λ l. (after_moves l t).pool.acked) w.moves ∙ (ap (λ x. x.pool.acked) (moves_more w.front w.rest t) ∙ w.acked (after_moves w.front t)) in record {
      above = acked_below c s t n kept w.up;
      acked = ap number_of same ∙ acked.number;
      blocks = λ a. ap (λ r. block_at r a) same
          ∙ (kept_blocks c (steps w.front s) (after_moves w.front t) n before acked w.none a ∙ ap (λ f. f a) (written_along w.front t w.keeps));
    }
