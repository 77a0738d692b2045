-- In the turns of a group no leaf leaves the board but one that failed, and it is suspended where that leaves a top
-- nobody.
use Rattle.std.proofs.Common.{◌≡◌, ◌⊎◌, inl, inr, ℕ, ◌+◌, ◌≤◌, ◌==◌, Bool, true, cond, List, [], ◌∷◌, ◌++◌, map, Option, Some, refl, sym, ap, ◌∙◌, subst, arith}
use Rattle.std.specs.List.{AllByRecursion, list_any}
use Rattle.mp_base.specs.declared.number.Guid.{Guid}
use Rattle.bank_core.specs.Asks.{Ask}
use Rattle.label_store.specs.declared.member.Member.{Member}
use Rattle.label_store.specs.Phases.{IsPhase}
use Rattle.label_store.specs.Rounds.{first_plan, second_plan, third_plan}
use Rattle.txg_history.specs.Pages.{Codec}
use Rattle.txg_history.specs.Turns.{write_plan, flush_plan}
use Rattle.pool_moves.specs.Boards.{board_of, board_under, emptied}
use Rattle.pool_moves.specs.Leaves.{OwnLeaf, LeafSeen}
use Rattle.pool_moves.specs.LineRows.{TurnReply, count_moves, suspended_by, RowTurn, EndsGroup}
use Rattle.pool_moves.specs.Moves.{Move, Makes, Freeze, Wrote_key, Flushed_all, Draw, Leave, Widen, Burn, Starts, Copies, Copied, Commits, Sets, Finds, Comes as Comes_in, Goes, Returns, Clear, leaf_step, state_step, steps}
use Rattle.pool_moves.specs.ReadRow.{made_in}
use Rattle.pool_moves.specs.States.{ScanSeen, PoolSeen, PoolState}
use Rattle.pool_moves.specs.TurnRows.{turn_moves, round_moves, RowRound}
use Rattle.pool_moves.specs.Walking.{as_moves}
use Rattle.pool_moves.specs.Widening.{AreWidens}
use Rattle.pool_moves.proofs.FreeWalks.{steps_more}
use Rattle.pool_moves.proofs.GroupTurns.{IsAcked, HasParts, Comes as TurnComes, turn_comes as turn_by_parts, group_comes as group_by_parts}
use Rattle.pool_moves.proofs.Keeping.{IsStill, leaves_still}
use Rattle.pool_moves.proofs.KindsOfMoves.{IsKind, MaySet, Failing, all_widens, all_widened, all_counts, all_write, all_flush, all_round}
use Rattle.pool_moves.proofs.Lists.{either, all_append, all_map, any_map}
use Rattle.pool_runs.specs.Counting.{IsSuspended}
use Rattle.pool_runs.proofs.Failing.{FailedOn, start_failing, IsPlanOn, phase_failing, third_failing, moves_left, moves_right, as_calls, IsCaught, caught_first, caught_second}

next_up : (n : ℕ) → n ≤ n + 1
next_up n = omega (arith)

up_more : (a b d : ℕ) → a ≤ b → b ≤ d → a ≤ d
up_more a b d one more = omega (arith, one, more)

-- Each member that is not good behind a round failed in it.
pub round_failing : (c : Codec) (size : ℕ → ℕ) (s : PoolSeen) (part : List Move) (whole : Bool)
    (row : RowRound c size s part whole) (F : ℕ → Type 0)
    → ((d : ℕ) → FailedOn d (made_in (as_moves row.first ++ (as_moves row.second ++ row.thirds))) → F d)
    → Failing F (board_of s.leaves) row.results
round_failing c size s part whole row F fails =
    let ms = board_of s.leaves in
    let more = as_moves row.second ++ row.thirds in
    let one = phase_failing F (first_plan size row.draft.commit) (λ m. (refl, (refl, (refl, tt)))) ms
    (map (λ m. true) ms) row.in_first row.first
    (λ d f. fails d (moves_left d (as_moves row.first) more (as_calls d row.first f))) row.configs
    (start_failing F ms) in
    let two = phase_failing F (second_plan size row.draft.commit)
    (λ m. (refl, (refl, (refl, (refl, (refl, tt)))))) ms row.in_first row.in_second row.second
    (λ d f. fails d (moves_right d (as_moves row.first) more
    (moves_left d (as_moves row.second) row.thirds (as_calls d row.second f)))) row.uberblocks one in
    third_failing F (third_plan size row.draft.commit) row.draft
    (λ m. (refl, (refl, (refl, tt)))) ms row.in_second row.results row.thirds
    (λ d f. fails d (moves_right d (as_moves row.first) more (moves_right d (as_moves row.second) row.thirds f)))
    row.copies two

-- Whose leaf may leave the board, what may be set of a leaf, and whether the group may be acknowledged.
module _ (Fails : ℕ → Type 0) (May : Guid → OwnLeaf → Type 0) (Ack : Type 0) where
  abbrev pub IsJust : Move → Type 0
  IsJust (Makes noted) = Unit {0}
  IsJust (Wrote_key k) = Unit {0}
  IsJust Flushed_all = Unit {0}
  IsJust Draw = Unit {0}
  IsJust (Leave d) = Fails d
  IsJust (Widen m low high) = Unit {0}
  IsJust (Starts draft) = Unit {0}
  IsJust (Copies draft d) = Unit {0}
  IsJust (Copied draft d) = Unit {0}
  IsJust (Sets m own) = May m own
  IsJust (Commits draft) = Ack
  IsJust v = ⊥

  abbrev pub AreJust : List Move → Type 0
  AreJust vs = AllByRecursion IsJust vs

  just_kind : IsKind Fails May IsJust
  just_kind = record {
    calls = λ noted. tt;
    leave = λ d fails. fails;
    set = λ m own may. may;
    wrote = λ k. tt;
    flushed = tt;
    draw = tt;
    widen = λ m low high. tt;
    starts = λ draft. tt;
    copies = λ draft d. tt;
    copied = λ draft d. tt;
  }

  pub just_widens : (s : PoolSeen) (vs : List Move) → AreWidens s vs → AreJust vs
  just_widens s vs are = all_widens Fails May IsJust just_kind s vs are

  -- what may be set stays so
  abbrev pub KeepsMay : Type 0
  KeepsMay = (vs : List Move) (s : PoolState) → AreJust vs → MaySet May s.core.leaves
      → MaySet May (steps vs s).core.leaves

  -- So it is of each part of a turn.
  abbrev Justly : PoolState → List Move → Type 0
  Justly s vs = MaySet May s.core.leaves → IsCaught Fails vs → AreJust vs

  counted : (s : PoolState) (vs : List Move) (ms : List Member) (results : List Bool) → (IsCaught Fails vs → AreJust vs)
      → Justly s (vs ++ count_moves s.core.leaves ms results)
  counted s vs ms results just may caught = let counts = count_moves s.core.leaves ms results in
      all_append IsJust vs counts (just (caught_first Fails vs counts caught))
      (all_counts Fails May IsJust just_kind s.core.leaves ms results may)

  turn_failing : (plan : Member → List Ask) (ms : List Member) (made : _) (results : List Bool) (leaving : List Move)
      (mark : Move) → IsPlanOn plan → IsPhase plan ms (map (λ m. true) ms) results made
      → IsCaught Fails (turn_moves made leaving mark) → Failing Fails ms results
  turn_failing plan ms made results leaving mark on calls caught =
      phase_failing Fails plan on ms (map (λ m. true) ms) results made
      (λ d f. caught d (moves_left d (as_moves made) (leaving ++ (mark ∷ [])) (as_calls d made f))) calls
      (start_failing Fails ms)

  just_parts : KeepsMay → (c : Codec) (size : ℕ → ℕ) → HasParts c size Ack Justly
  just_parts keeps c size = record {
    none = λ s may caught. tt;
    more = λ s vs ws first rest may caught. let just = first may (caught_first Fails vs ws caught) in
        all_append IsJust vs ws just (rest (keeps vs s just may) (caught_second Fails vs ws caught));
    write = λ s vs row. let ms = board_under row.cell.top s.core.leaves in counted s vs ms row.results
        (λ caught. all_write Fails May IsJust just_kind s.core vs row (turn_failing (write_plan row.cell) ms row.made
        row.results row.leaving (Wrote_key row.key) (λ m. (refl, tt)) row.calls
        (subst (IsCaught Fails) row.moves caught)));
    flush = λ s vs row. let ms = board_of s.core.leaves in counted s vs ms row.results
        (λ caught. all_flush Fails May IsJust just_kind s.core vs row (turn_failing flush_plan ms row.made
        row.results row.leaving Flushed_all (λ m. (refl, tt)) row.calls (subst (IsCaught Fails) row.moves caught)));
    round = λ s vs whole row ack. counted s vs (board_of s.core.leaves) row.results
        (λ caught. all_round Fails May IsJust just_kind c size s.core vs whole row (λ on draft. ack on)
        (round_failing c size s.core vs whole row Fails (λ d f. subst (IsCaught Fails) row.moves caught d
        (moves_left d (round_moves row.draft row.first row.second row.thirds) row.ending f))));
    draw = λ s vs frozen is may caught. all_widened Fails May IsJust just_kind s.core Draw vs tt is;
  }

  -- Behind just moves a top has nobody left on its board, and the reply tells it.
  pub record IsLostBehind (s : PoolState) (reply : TurnReply) : Type 0 where
    pub moves : List Move
    pub just : AreJust moves
    pub at : ℕ
    pub empty : emptied (steps moves s).core.leaves ≡ Some at
    pub tells : reply ≡ suspended_by (steps moves s) at

  pub lost_more : (vs : List Move) (s : PoolState) (reply : TurnReply) → AreJust vs → IsLostBehind (steps vs s) reply
      → IsLostBehind s reply
  lost_more vs s reply just lost = record {
    moves = vs ++ lost.moves;
    just = all_append IsJust vs lost.moves just lost.just;
    at = lost.at;
    empty = ap (λ u. emptied u.core.leaves) (steps_more vs lost.moves s) ∙ lost.empty;
    tells = lost.tells ∙ ap (λ u. suspended_by u lost.at) (sym (steps_more vs lost.moves s));
  }

  -- So a turn and a group come to this, or all their moves are just, and it isn't suspended.
  abbrev pub Comes : PoolState → List Move → TurnReply → Type 0
  Comes s vs reply = IsLostBehind s reply ⊎ (AreJust vs × (IsSuspended reply → ⊥))

  module _ (keeps : KeepsMay) (c : Codec) (size : ℕ → ℕ) (s : PoolState) (vs : List Move) (reply : TurnReply)
      (ack : IsAcked reply → Ack) (may : MaySet May s.core.leaves) (caught : IsCaught Fails vs) where
    come : TurnComes c size Ack Justly (just_parts keeps c size) s vs reply → Comes s vs reply
    come (inl lost) = inl (record {
      moves = lost.moves;
      just = lost.holds may (caught_first Fails lost.moves (Burn ∷ []) (subst (IsCaught Fails) lost.is caught));
      at = lost.at;
      empty = lost.empty;
      tells = lost.tells;
    })
    come (inr here) = inr (here.0 may caught, here.1)

    pub turn_comes : RowTurn c size s vs reply → Comes s vs reply
    turn_comes row = come (turn_by_parts c size Ack Justly (just_parts keeps c size) s vs reply ack row)

    pub group_comes : EndsGroup c size s vs reply → Comes s vs reply
    group_comes ends = come (group_by_parts c size Ack Justly (just_parts keeps c size) s vs reply ack ends)

  -- A just move goes through the leaves one by one, and each stays in its place.
  just_still : (v : Move) → IsJust v → IsStill v
  just_still (Comes_in i d m top own) just = just
  just_still (Goes i) just = just
  just_still (Returns i seat leaf) just = just
  just_still v just = tt

  pub step_leaves : (P : List LeafSeen → Type 0) (v : Move) (s : PoolState) → IsJust v
      → P (map (leaf_step v s.core.number s.core.group.first s.core.scan) s.core.leaves)
      → P (state_step v s).core.leaves
  step_leaves P v s just is = subst P (sym (leaves_still v s.core (just_still v just))) is

  leaf_stays : (v : Move) (number first : ℕ) (scan : ScanSeen) (leaf : LeafSeen) → IsJust v
      → ((leaf_step v number first scan leaf).guid ≡ leaf.guid) × ((leaf_step v number first scan leaf).dev ≡ leaf.dev)
      × ((leaf_step v number first scan leaf).top ≡ leaf.top)
  leaf_stays (Finds m d) number first scan leaf just = absurd just
  leaf_stays (Clear d) number first scan leaf just = absurd just
  leaf_stays (Sets m own) number first scan leaf just = either
      (λ t. ((cond t (record leaf { own = own }) leaf).guid ≡ leaf.guid)
      × ((cond t (record leaf { own = own }) leaf).dev ≡ leaf.dev)
      × ((cond t (record leaf { own = own }) leaf).top ≡ leaf.top))
      (refl, refl, refl) (refl, refl, refl) (leaf.guid.0 == m.0)
  leaf_stays v number first scan leaf just = (refl, refl, refl)

  -- So what is so of some leaf by its number, its device and its top stays so, and what is so of each.
  pub steps_any : (test : Guid → Option ℕ → ℕ → Bool) (vs : List Move) (s : PoolState) → AreJust vs
      → list_any (λ leaf. test leaf.guid leaf.dev leaf.top) (steps vs s).core.leaves
      ≡ list_any (λ leaf. test leaf.guid leaf.dev leaf.top) s.core.leaves
  steps_any test [] s just = refl
  steps_any test (v ∷ vs) s just = steps_any test vs (state_step v s) just.1
      ∙ step_leaves (λ l. list_any (λ leaf. test leaf.guid leaf.dev leaf.top) l
      ≡ list_any (λ leaf. test leaf.guid leaf.dev leaf.top) s.core.leaves) v s just.0
      (any_map (λ leaf. test leaf.guid leaf.dev leaf.top) (leaf_step v s.core.number s.core.group.first s.core.scan)
      (λ leaf. let same = leaf_stays v s.core.number s.core.group.first s.core.scan leaf just.0 in
      rw (same.0, same.1, same.2) refl) s.core.leaves)

  pub steps_places : (Q : Guid → Option ℕ → Type 0) (vs : List Move) (s : PoolState) → AreJust vs
      → AllByRecursion (λ leaf. Q leaf.guid leaf.dev) s.core.leaves
      → AllByRecursion (λ leaf. Q leaf.guid leaf.dev) (steps vs s).core.leaves
  steps_places Q [] s just all = all
  steps_places Q (v ∷ vs) s just all = steps_places Q vs (state_step v s) just.1
      (step_leaves (AllByRecursion (λ leaf. Q leaf.guid leaf.dev)) v s just.0
      (all_map (λ leaf. Q leaf.guid leaf.dev) (leaf_step v s.core.number s.core.group.first s.core.scan)
      (λ leaf is. let same = leaf_stays v s.core.number s.core.group.first s.core.scan leaf just.0 in
      rw (same.0, same.1) is) s.core.leaves all))

-- Tops keep their numbers, and the number that was drawn never falls.
step_tops : (v : Move) (s : PoolState) → ((state_step v s).own.top_number ≡ s.own.top_number)
    × (s.core.number ≤ (state_step v s).core.number)
step_tops (Freeze cells board) s = (refl, next_up s.core.number)
step_tops Draw s = (refl, next_up s.core.number)
step_tops v s = (refl, omega (arith))

pub steps_tops : (vs : List Move) (s : PoolState) → ((steps vs s).own.top_number ≡ s.own.top_number)
    × (s.core.number ≤ (steps vs s).core.number)
steps_tops [] s = (refl, omega (arith))
steps_tops (v ∷ vs) s = let one = step_tops v s in let more = steps_tops vs (state_step v s) in (
  more.0 ∙ one.0,
  up_more s.core.number (state_step v s).core.number (steps vs (state_step v s)).core.number one.1 more.1,
)
