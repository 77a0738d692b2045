-- The parts of a group's turns, of which each move is of one kind.
use Rattle.std.proofs.Common.{◌≡◌, ℕ, Bool, true, false, cond, Option, Some, None, List, [], ◌∷◌, ◌++◌, refl, ◌∙◌}
use Rattle.std.specs.List.{AllByRecursion, find}
use Rattle.mp_base.specs.declared.number.Guid.{Guid}
use Rattle.mp_base.specs.declared.place.Key.{Key}
use Rattle.bank_core.specs.Asks.{Ask}
use Rattle.bank_core.specs.Disk.{Noted}
use Rattle.label_store.specs.declared.member.Member.{Member}
use Rattle.label_store.specs.Rounds.{third_plan}
use Rattle.txg_history.specs.Pages.{Codec}
use Rattle.pool_moves.specs.Boards.{board_of, board_under}
use Rattle.pool_moves.specs.CommitRows.{uncounts}
use Rattle.pool_moves.specs.Leaves.{OwnLeaf, LeafSeen}
use Rattle.pool_moves.specs.LineRows.{write_failed, has_number, sets_failed, count_moves}
use Rattle.pool_moves.specs.Moves.{Draft, Move, Makes, Wrote_key, Flushed_all, Draw, Leave, Widen, Starts, Copies, Copied, Commits, Sets, Freeze, Burn, step, state_step, steps}
use Rattle.pool_moves.specs.States.{PoolSeen, PoolState}
use Rattle.pool_moves.specs.TurnRows.{turn_moves, round_moves, ended, IsThirdMoves, EndsRound, RowWriteTurn, RowFlushTurn, RowRound}
use Rattle.pool_moves.specs.Walking.{as_moves}
use Rattle.pool_moves.specs.Widening.{AreWidens, IsWidened, AreLeaves, seen_along}
use Rattle.pool_moves.proofs.Lists.{either, all_append}

-- A kind that has each move of a turn, but its burn and its commit: a leaf leaves where F says so, and May what is set of it.
pub record IsKind (F : ℕ → Type 0) (May : Guid → OwnLeaf → Type 0) (P : Move → Type 0) : Type 0 where
  pub calls : (noted : Noted) → P (Makes noted)
  pub leave : (d : ℕ) → F d → P (Leave d)
  pub set : (m : Guid) (own : OwnLeaf) → May m own → P (Sets m own)
  pub wrote : (k : Key) → P (Wrote_key k)
  pub flushed : P Flushed_all
  pub draw : P Draw
  pub widen : (m : Guid) (low high : ℕ) → P (Widen m low high)
  pub starts : (draft : Draft) → P (Starts draft)
  pub copies : (draft : Draft) (d : ℕ) → P (Copies draft d)
  pub copied : (draft : Draft) (d : ℕ) → P (Copied draft d)

-- any leaf may leave, and anything may be set
abbrev pub AnyLeaf : ℕ → Type 0
AnyLeaf d = Unit {0}

abbrev pub AnySet : Guid → OwnLeaf → Type 0
AnySet m own = Unit {0}

-- what may be set of each of these leaves by a failed call
abbrev pub MaySet : (May : Guid → OwnLeaf → Type 0) → List LeafSeen → Type 0
MaySet May leaves = AllByRecursion (λ leaf. May leaf.guid (write_failed leaf.own)) leaves

pub any_may : (leaves : List LeafSeen) → MaySet AnySet leaves
any_may [] = tt
any_may (leaf ∷ leaves) = (tt, any_may leaves)

-- each member without a good result may leave
abbrev pub Failing : (F : ℕ → Type 0) → List Member → (results : List Bool) → Type 0
Failing F [] results = Unit {0}
Failing F (m ∷ ms) [] = Unit {0}
Failing F (m ∷ ms) (true ∷ results) = Failing F ms results
Failing F (m ∷ ms) (false ∷ results) = F m.dev × Failing F ms results

pub any_failing : (ms : List Member) (results : List Bool) → Failing AnyLeaf ms results
any_failing [] results = tt
any_failing (m ∷ ms) [] = tt
any_failing (m ∷ ms) (true ∷ results) = any_failing ms results
any_failing (m ∷ ms) (false ∷ results) = (tt, any_failing ms results)

module _ (F : ℕ → Type 0) (May : Guid → OwnLeaf → Type 0) (P : Move → Type 0) (k : IsKind F May P) where
  abbrev All : List Move → Type 0
  All vs = AllByRecursion P vs

  pub all_calls : (made : List Noted) → All (as_moves made)
  all_calls [] = tt
  all_calls (noted ∷ made) = (k.calls noted, all_calls made)

  pub all_widens : (s : PoolSeen) (vs : List Move) → AreWidens s vs → All vs
  all_widens s [] are = tt
  all_widens s (Widen m low high ∷ vs) are = (k.widen m low high, all_widens (step (Widen m low high) s) vs are.2)
  all_widens s (v ∷ vs) are = absurd are

  pub all_widened : (s : PoolSeen) (v : Move) (vs : List Move) → P v → IsWidened s v vs → All vs
  all_widened s v vs is w = rw w.moves (is, all_widens (step v s) w.widens w.are)

  pub all_leave : (s : PoolSeen) (ms : List Member) (results : List Bool) (vs : List Move) → Failing F ms results
      → AreLeaves s ms results vs → All vs
  all_leave s [] results vs failing are = rw are tt
  all_leave s (m ∷ ms) [] vs failing are = rw are tt
  all_leave s (m ∷ ms) (true ∷ results) vs failing are = all_leave s ms results vs failing are
  all_leave s (m ∷ ms) (false ∷ results) vs failing (first, rest, is, one, more) =
      rw is (all_append P first rest (all_widened s (Leave m.dev) first (k.leave m.dev failing.0) one)
      (all_leave (seen_along first s) ms results rest failing.1 more))

  all_failed : (test : LeafSeen → Bool) (leaves : List LeafSeen) → MaySet May leaves
      → All (sets_failed (find test leaves))
  all_failed test [] may = tt
  all_failed test (leaf ∷ leaves) may = either (λ t. All (sets_failed (cond t (Some leaf) (find test leaves))))
      (k.set _ _ may.0, tt) (all_failed test leaves may.1) (test leaf)

  pub all_counts : (leaves : List LeafSeen) (ms : List Member) (results : List Bool) → MaySet May leaves
      → All (count_moves leaves ms results)
  all_counts leaves [] results may = tt
  all_counts leaves (m ∷ ms) [] may = tt
  all_counts leaves (m ∷ ms) (true ∷ results) may = all_counts leaves ms results may
  all_counts leaves (m ∷ ms) (false ∷ results) may = all_append P (sets_failed (find (has_number m.guid) leaves))
      (count_moves leaves ms results) (all_failed (has_number m.guid) leaves may) (all_counts leaves ms results may)

  pub all_third : (plan : Member → List Ask) (draft : Draft) (ms : List Member) (was is : List Bool) (vs : List Move)
      → IsThirdMoves plan draft ms was is vs → All vs
  all_third plan draft [] [] [] vs third = rw third tt
  all_third plan draft [] [] (c ∷ is) vs third = absurd third
  all_third plan draft [] (b ∷ was) is vs third = absurd third
  all_third plan draft (m ∷ ms) [] is vs third = absurd third
  all_third plan draft (m ∷ ms) (b ∷ was) [] vs third = absurd third
  all_third plan draft (m ∷ ms) (true ∷ was) (c ∷ is) vs (mine, rest, whole, turn, more) = rw whole (
    k.copies draft m.dev,
    all_append P (as_moves mine) (ended c draft m.dev ++ rest) (all_calls mine)
        (all_append P (ended c draft m.dev) rest (ends c) (all_third plan draft ms was is rest more)),
  )
    where
      ends : (c : Bool) → All (ended c draft m.dev)
      ends true = (k.copied draft m.dev, tt)
      ends false = tt
  all_third plan draft (m ∷ ms) (false ∷ was) (c ∷ is) vs third = all_third plan draft ms was is vs third.1

  -- A write turn, the flush turn, and a round.
  all_turn_moves : (s : PoolSeen) (made : List Noted) (ms : List Member) (results : List Bool) (leaving : List Move)
      (mark : Move) → P mark → Failing F ms results → AreLeaves s ms results leaving
      → All (turn_moves made leaving mark)
  all_turn_moves s made ms results leaving mark is failing are =
      all_append P (as_moves made) (leaving ++ (mark ∷ [])) (all_calls made)
      (all_append P leaving (mark ∷ []) (all_leave s ms results leaving failing are) (is, tt))

  pub all_write : (s : PoolSeen) (vs : List Move) (row : RowWriteTurn s vs)
      → Failing F (board_under row.cell.top s.leaves) row.results → All vs
  all_write s vs row failing = rw row.moves (all_turn_moves s row.made (board_under row.cell.top s.leaves) row.results
      row.leaving (Wrote_key row.key) (k.wrote row.key) failing row.leaves)

  pub all_flush : (s : PoolSeen) (vs : List Move) (row : RowFlushTurn s vs) → Failing F (board_of s.leaves) row.results
      → All vs
  all_flush s vs row failing = rw row.moves
      (all_turn_moves s row.made (board_of s.leaves) row.results row.leaving Flushed_all k.flushed failing row.leaves)

  pub all_round : (c : Codec) (size : ℕ → ℕ) (s : PoolSeen) (vs : List Move) (whole : Bool)
      (row : RowRound c size s vs whole)
      → (whole ≡ true → (draft : Draft) → P (Commits draft)) → Failing F (board_of s.leaves) row.results → All vs
  all_round c size s vs whole row commits failing = let ms = board_of s.leaves in
      let pre = round_moves row.draft row.first row.second row.thirds in rw row.moves (all_append P pre row.ending (
        k.starts row.draft,
        all_append P (as_moves row.first) (as_moves row.second ++ row.thirds) (all_calls row.first)
            (all_append P (as_moves row.second) row.thirds (all_calls row.second)
            (all_third (third_plan size row.draft.commit) row.draft ms row.in_second row.results row.thirds
            row.copies)),
      ) (ends whole (seen_along pre s) commits row.ends))
    where
      ends : (whole : Bool) (s' : PoolSeen) → (whole ≡ true → (draft : Draft) → P (Commits draft))
          → EndsRound whole s' row.draft (board_of s.leaves) row.results row.ending → All row.ending
      ends true s' commits is = rw is (commits refl row.draft, tt)
      ends false s' commits is = all_leave s' (board_of s.leaves) row.results row.ending failing is

-- Moves within a group leave it frozen.
abbrev pub IsWithin : Move → Type 0
IsWithin (Makes noted) = Unit {0}
IsWithin (Wrote_key k) = Unit {0}
IsWithin Flushed_all = Unit {0}
IsWithin Draw = Unit {0}
IsWithin (Leave d) = Unit {0}
IsWithin (Widen m low high) = Unit {0}
IsWithin (Starts draft) = Unit {0}
IsWithin (Copies draft d) = Unit {0}
IsWithin (Copied draft d) = Unit {0}
IsWithin (Sets m own) = Unit {0}
IsWithin v = ⊥

pub within_kind : IsKind AnyLeaf AnySet IsWithin
within_kind = record {
  calls = λ noted. tt;
  leave = λ d f. tt;
  set = λ m own may. tt;
  wrote = λ k. tt;
  flushed = tt;
  draw = tt;
  widen = λ m low high. tt;
  starts = λ draft. tt;
  copies = λ draft d. tt;
  copied = λ draft d. tt;
}

-- a part of a frozen group's turn, with the counts behind it
pub counted_within : (part : List Move) (leaves : List LeafSeen) (ms : List Member) (results : List Bool)
    → AllByRecursion IsWithin part → AllByRecursion IsWithin (part ++ count_moves leaves ms results)
counted_within part leaves ms results all = all_append IsWithin part (count_moves leaves ms results) all
    (all_counts AnyLeaf AnySet IsWithin within_kind leaves ms results (any_may leaves))

still_frozen : (v : Move) (s : PoolState) → IsWithin v → (state_step v s).core.group.frozen ≡ s.core.group.frozen
still_frozen (Freeze cells board) s is = absurd is
still_frozen Burn s is = absurd is
still_frozen (Commits draft) s is = absurd is
still_frozen v s is = refl

pub frozen_within : (vs : List Move) (s : PoolState) → AllByRecursion IsWithin vs
    → (steps vs s).core.group.frozen ≡ s.core.group.frozen
frozen_within [] s all = refl
frozen_within (v ∷ vs) s all = frozen_within vs (state_step v s) all.1 ∙ still_frozen v s all.0

-- Moves of what no event tells, and what is set of each leaf.
abbrev pub IsSet : Move → Type 0
IsSet (Sets m own) = Unit {0}
IsSet v = ⊥

pub counts_set : (leaves : List LeafSeen) (ms : List Member) (results : List Bool)
    → AllByRecursion IsSet (count_moves leaves ms results)
counts_set leaves [] results = tt
counts_set leaves (m ∷ ms) [] = tt
counts_set leaves (m ∷ ms) (true ∷ results) = counts_set leaves ms results
counts_set leaves (m ∷ ms) (false ∷ results) = all_append IsSet (sets_failed (find (has_number m.guid) leaves))
    (count_moves leaves ms results) (failed (find (has_number m.guid) leaves)) (counts_set leaves ms results)
  where
    failed : (found : Option LeafSeen) → AllByRecursion IsSet (sets_failed found)
    failed None = tt
    failed (Some leaf) = (tt, tt)

pub uncounts_set : (leaves : List LeafSeen) → AllByRecursion IsSet (uncounts leaves)
uncounts_set [] = tt
uncounts_set (leaf ∷ leaves) = (tt, uncounts_set leaves)
