-- The turns of a group, one after another: what is so of their parts is so of them, or the group was suspended.
use Rattle.std.proofs.Common.{◌≡◌, ◌⊎◌, inl, inr, ⊎_elim, ℕ, Bool, true, false, cond, Option, Some, None, List, [], ◌∷◌, ◌++◌, append_assoc, append-nil, refl, sym, ap, ◌∙◌, subst}
use Rattle.std.specs.List.{AllByRecursion}
use Rattle.label_store.specs.declared.member.Member.{Member}
use Rattle.txg_history.specs.Pages.{Codec}
use Rattle.pool_moves.specs.Boards.{board_of, board_under, emptied}
use Rattle.pool_moves.specs.CommitRows.{uncounts, RowReopen}
use Rattle.pool_moves.specs.FreezeRow.{RowFreeze, RowEmptyFreeze}
use Rattle.pool_moves.specs.LineRows.{TurnReply, Write, Flush, Round, Committed, Suspended, count_moves, suspended_by, Draws, EndsBy, EndsTurn, IsWritePart, IsFlushPart, IsRoundPart, StartsBy, TurnBy, RowTurn, Ends, AreTurns, moves_in, EndsGroup, CommitsOpen, FreezeReply, FreezeFor, FreezeBy, RowFreezeLine, SyncReply, Ended, CommitsFor, SyncOpen, SyncBehind, SyncBy}
use Rattle.pool_moves.specs.Moves.{Draft, Move, Draw, Burn, Commits, steps}
use Rattle.pool_moves.specs.Refusing.{FreezeRefusal}
use Rattle.pool_moves.specs.States.{PoolState}
use Rattle.pool_moves.specs.TurnRows.{RowWriteTurn, RowFlushTurn, RowRound}
use Rattle.pool_moves.specs.Widening.{IsWidened}
use Rattle.pool_moves.proofs.FreeWalks.{steps_more}
use Rattle.pool_moves.proofs.Lists.{all_append}
use Rattle.pool_moves.proofs.KindsOfMoves.{IsKind, AnyLeaf, AnySet, any_failing, any_may, all_widened, all_counts, all_write, all_flush, all_round, IsWithin, within_kind, counted_within, frozen_within, IsSet, uncounts_set}

-- the group was suspended, and it was acknowledged
abbrev pub IsLost : TurnReply → Type 0
IsLost (Suspended group top faults) = Unit {0}
IsLost reply = ⊥

abbrev pub IsAcked : TurnReply → Type 0
IsAcked (Committed number) = Unit {0}
IsAcked reply = ⊥

abbrev pub LosesSync : SyncReply → Type 0
LosesSync (Ended turn) = IsLost turn
LosesSync reply = ⊥

-- What is so of the parts of a frozen group's turns, from the state before each; of a whole round where Ack is.
pub record HasParts (c : Codec) (size : ℕ → ℕ) (Ack : Type 0) (A : PoolState → List Move → Type 0) : Type 0 where
  pub none : (s : PoolState) → A s []
  pub more : (s : PoolState) (vs ws : List Move) → A s vs → A (steps vs s) ws → A s (vs ++ ws)
  pub write : (s : PoolState) (vs : List Move) (row : RowWriteTurn s.core vs)
      → A s (vs ++ count_moves s.core.leaves (board_under row.cell.top s.core.leaves) row.results)
  pub flush : (s : PoolState) (vs : List Move) (row : RowFlushTurn s.core vs)
      → A s (vs ++ count_moves s.core.leaves (board_of s.core.leaves) row.results)
  pub round : (s : PoolState) (vs : List Move) (whole : Bool) (row : RowRound c size s.core vs whole)
      → (whole ≡ true → Ack) → A s (vs ++ count_moves s.core.leaves (board_of s.core.leaves) row.results)
  pub draw : (s : PoolState) (vs : List Move) → s.core.group.frozen ≡ true → IsWidened s.core Draw vs → A s vs

-- so each move may be of a kind
pub kind_parts : (c : Codec) (size : ℕ → ℕ) (Ack : Type 0) (P : Move → Type 0) → IsKind AnyLeaf AnySet P
    → (Ack → (draft : Draft) → P (Commits draft)) → HasParts c size Ack (λ s vs. AllByRecursion P vs)
kind_parts c size Ack P k commits = record {
  none = λ s. tt;
  more = λ s vs ws a b. all_append P vs ws a b;
  write = λ s vs row. let ms = board_under row.cell.top s.core.leaves in
      counted s vs ms row.results (all_write AnyLeaf AnySet P k s.core vs row (any_failing ms row.results));
  flush = λ s vs row. let ms = board_of s.core.leaves in
      counted s vs ms row.results (all_flush AnyLeaf AnySet P k s.core vs row (any_failing ms row.results));
  round = λ s vs whole row ack. let ms = board_of s.core.leaves in counted s vs ms row.results
      (all_round AnyLeaf AnySet P k c size s.core vs whole row (λ on. commits (ack on)) (any_failing ms row.results));
  draw = λ s vs frozen is. all_widened AnyLeaf AnySet P k s.core Draw vs k.draw is;
}
  where
    counted : (s : PoolState) (vs : List Move) (ms : List Member) (results : List Bool) → AllByRecursion P vs
        → AllByRecursion P (vs ++ count_moves s.core.leaves ms results)
    counted s vs ms results all = all_append P vs (count_moves s.core.leaves ms results) all
        (all_counts AnyLeaf AnySet P k s.core.leaves ms results (any_may s.core.leaves))

module _ (c : Codec) (size : ℕ → ℕ) (Ack : Type 0) (A : PoolState → List Move → Type 0) (k : HasParts c size Ack A)
  where
    -- Behind such moves a top has nobody left on its board: the group is suspended by the last move.
    pub record IsLostBehind (s : PoolState) (vs : List Move) (reply : TurnReply) : Type 0 where
      pub moves : List Move
      pub holds : A s moves
      pub frozen : (steps moves s).core.group.frozen ≡ true
      pub at : ℕ
      pub empty : emptied (steps moves s).core.leaves ≡ Some at
      pub is : vs ≡ moves ++ (Burn ∷ [])
      pub tells : reply ≡ suspended_by (steps moves s) at

    abbrev pub Comes : PoolState → List Move → TurnReply → Type 0
    Comes s vs reply = IsLostBehind s vs reply ⊎ (A s vs × (IsLost reply → ⊥))

    pub lost_more : (s : PoolState) (vs ws : List Move) (reply : TurnReply) → A s vs
        → IsLostBehind (steps vs s) ws reply → IsLostBehind s (vs ++ ws) reply
    lost_more s vs ws reply first lost = record {
      moves = vs ++ lost.moves;
      holds = k.more s vs lost.moves first lost.holds;
      frozen = ap (λ u. u.core.group.frozen) (steps_more vs lost.moves s) ∙ lost.frozen;
      at = lost.at;
      empty = ap (λ u. emptied u.core.leaves) (steps_more vs lost.moves s) ∙ lost.empty;
      is = ap (λ l. vs ++ l) lost.is ∙ sym (append_assoc vs lost.moves (Burn ∷ []));
      tells = lost.tells ∙ ap (λ u. suspended_by u lost.at) (sym (steps_more vs lost.moves s));
    }

    ends_come : (s : PoolState) (behind vs ending : List Move) (found : Option ℕ) (draws : Bool)
        (going reply : TurnReply) → (IsLost going → ⊥) → emptied (steps behind s).core.leaves ≡ found → A s behind
        → (steps behind s).core.group.frozen ≡ true → vs ≡ behind ++ ending
        → EndsBy found (steps behind s) draws going ending reply → Comes s vs reply
    ends_come s behind vs ending (Some at) draws going reply plain is holds frozen moves ends = inl (record {
      moves = behind;
      holds = holds;
      frozen = frozen;
      at = at;
      empty = is;
      is = moves ∙ ap (λ l. behind ++ l) ends.0;
      tells = ends.1;
    })
    ends_come s behind vs ending None draws going reply plain is holds frozen moves ends =
        inr (rw moves (k.more s behind ending holds (drawn draws ends.0)), λ bad. plain (subst IsLost ends.1 bad))
      where
        drawn : (draws : Bool) → Draws draws (steps behind s).core ending → A (steps behind s) ending
        drawn true is = k.draw (steps behind s) ending frozen is
        drawn false is = rw is (k.none (steps behind s))

    write_comes : (s : PoolState) (vs : List Move) (reply : TurnReply) → IsWritePart s vs reply → Comes s vs reply
    write_comes s vs reply w = let ms = board_under w.row.cell.top s.core.leaves in
        let behind = w.part ++ count_moves s.core.leaves ms w.row.results in
        ends_come s behind vs w.turn.ending (emptied (steps behind s).core.leaves) false Write reply (λ bad. bad) refl
        (k.write s w.part w.row) (frozen_within behind s (counted_within w.part s.core.leaves ms w.row.results
        (all_write AnyLeaf AnySet IsWithin within_kind s.core w.part w.row (any_failing ms w.row.results)))
        ∙ w.row.frozen) w.turn.moves w.turn.ends

    flush_comes : (s : PoolState) (vs : List Move) (reply : TurnReply) → IsFlushPart s vs reply → Comes s vs reply
    flush_comes s vs reply w = let ms = board_of s.core.leaves in
        let behind = w.part ++ count_moves s.core.leaves ms w.row.results in
        ends_come s behind vs w.turn.ending (emptied (steps behind s).core.leaves) false Flush reply (λ bad. bad) refl
        (k.flush s w.part w.row) (frozen_within behind s (counted_within w.part s.core.leaves ms w.row.results
        (all_flush AnyLeaf AnySet IsWithin within_kind s.core w.part w.row (any_failing ms w.row.results)))
        ∙ w.row.frozen) w.turn.moves w.turn.ends

    round_comes : (s : PoolState) (vs : List Move) (reply : TurnReply) → (IsAcked reply → Ack)
        → IsRoundPart c size s vs reply → Comes s vs reply
    round_comes s vs reply ack w = of w.whole w.row w.ends w.counted
      where
        of : (whole : Bool) (row : RowRound c size s.core w.part whole)
            → cond whole ((w.ending ≡ []) × (reply ≡ Committed s.core.number))
            (EndsTurn (steps w.behind s) true (Round s.core.number) w.ending reply)
            → w.behind ≡ w.part ++ count_moves s.core.leaves (board_of s.core.leaves) row.results → Comes s vs reply
        of true row ends counted = inr (
          rw (w.moves, ends.0, append-nil w.behind, counted) (k.round s w.part true row (λ on. ack (rw ends.1 tt))),
          (λ bad. subst IsLost ends.1 bad),
        )
        of false row ends counted = ends_come s w.behind vs w.ending (emptied (steps w.behind s).core.leaves) true
            (Round s.core.number) reply (λ bad. bad) refl (rw counted (k.round s w.part false row (λ on. absurd (cc))))
            (frozen_within w.behind s
            (rw counted (counted_within w.part s.core.leaves (board_of s.core.leaves) row.results
            (all_round AnyLeaf AnySet IsWithin within_kind c size s.core w.part false row (λ on. absurd (cc))
            (any_failing (board_of s.core.leaves) row.results)))) ∙ row.frozen) w.moves ends

    starts_come : (found : Option ℕ) (s : PoolState) (vs : List Move) (reply : TurnReply) → emptied s.core.leaves
        ≡ found
        → s.core.group.frozen ≡ true → (IsAcked reply → Ack) → StartsBy found c size s vs reply → Comes s vs reply
    starts_come (Some at) s vs reply is frozen ack row = inl (record {
      moves = [];
      holds = k.none s;
      frozen = frozen;
      at = at;
      empty = is;
      is = row.0;
      tells = row.1;
    })
    starts_come None s vs reply is frozen ack (inl w) = write_comes s vs reply w
    starts_come None s vs reply is frozen ack (inr (inl w)) = flush_comes s vs reply w
    starts_come None s vs reply is frozen ack (inr (inr w)) = round_comes s vs reply ack w

    turn_by_comes : (frozen : Bool) (s : PoolState) (vs : List Move) (reply : TurnReply) → s.core.group.frozen ≡ frozen
        → (IsAcked reply → Ack) → TurnBy frozen c size s vs reply → Comes s vs reply
    turn_by_comes false s vs reply f ack row = inr (rw row.0 (k.none s), λ bad. subst IsLost row.1 bad)
    turn_by_comes true s vs reply f ack row = starts_come (emptied s.core.leaves) s vs reply refl f ack row

    pub turn_comes : (s : PoolState) (vs : List Move) (reply : TurnReply) → (IsAcked reply → Ack)
        → RowTurn c size s vs reply → Comes s vs reply
    turn_comes s vs reply ack row = turn_by_comes s.core.group.frozen s vs reply refl ack row

    -- a turn that isn't the last
    not_acked : (reply : TurnReply) → Ends reply ≡ false → IsAcked reply → Ack
    not_acked (Committed number) going is = absurd (cc)
    not_acked reply going is = absurd is

    not_lost : (s : PoolState) (vs : List Move) (reply : TurnReply) → Ends reply ≡ false → Comes s vs reply → A s vs
    not_lost s vs reply going (inl lost) = absurd (let no : true ≡ false = sym (ap Ends lost.tells) ∙ going in cc)
    not_lost s vs reply going (inr here) = here.0

    turns_come : (s : PoolState) (turns : List (List Move × TurnReply)) (reply : TurnReply) → (IsAcked reply → Ack)
        → AreTurns c size s turns reply → Comes s (moves_in turns) reply
    turns_come s [] reply ack are = absurd are
    turns_come s (turn ∷ []) reply ack are = rw (append-nil turn.0, are.2)
        (turn_comes s turn.0 turn.1 (λ is. ack (rw are.2 is)) are.0)
    turns_come s (turn ∷ (next ∷ turns)) reply ack are =
        let first = not_lost s turn.0 turn.1 are.1 (turn_comes s turn.0 turn.1 (not_acked turn.1 are.1) are.0) in
        ⊎_elim (λ lost. inl (lost_more s turn.0 (moves_in (next ∷ turns)) reply first lost))
        (λ rest. inr (k.more s turn.0 (moves_in (next ∷ turns)) first rest.0, rest.1))
        (turns_come (steps turn.0 s) (next ∷ turns) reply ack are.2)

    pub group_comes : (s : PoolState) (vs : List Move) (reply : TurnReply) → (IsAcked reply → Ack)
        → EndsGroup c size s vs reply → Comes s vs reply
    group_comes s vs reply ack g = rw g.moves (turns_come s g.turns reply ack g.are)

    -- Where such moves may be burned, all of it holds.
    abbrev Burns : PoolState → Type 0
    Burns s = (vs : List Move) → A s vs → (steps vs s).core.group.frozen ≡ true → A s (vs ++ (Burn ∷ []))

    pub settled : (s : PoolState) (vs : List Move) (reply : TurnReply) → (IsLost reply → Burns s) → Comes s vs reply
        → A s vs
    settled s vs reply burns (inl lost) = rw lost.is (burns (rw lost.tells tt) lost.moves lost.holds lost.frozen)
    settled s vs reply burns (inr here) = here.0

-- So it is of lines that end a group and freeze one, where a suspended group's moves may be burned.
module _ (c : Codec) (size : ℕ → ℕ) (A : PoolState → List Move → Type 0) (k : HasParts c size (Unit {0}) A)
    (Lost : Type 0) (burns : Lost → (s : PoolState) (vs : List Move) → A s vs → (steps vs s).core.group.frozen ≡ true
    → A s (vs ++ (Burn ∷ [])))
  where
    pub turn_holds : (s : PoolState) (vs : List Move) (reply : TurnReply) → (IsLost reply → Lost)
        → RowTurn c size s vs reply → A s vs
    turn_holds s vs reply bad row = settled c size (Unit {0}) A k s vs reply (λ lost. burns (bad lost) s)
        (turn_comes c size (Unit {0}) A k s vs reply (λ is. tt) row)

    pub group_holds : (s : PoolState) (vs : List Move) (reply : TurnReply) → (IsLost reply → Lost)
        → EndsGroup c size s vs reply → A s vs
    group_holds s vs reply bad ends = settled c size (Unit {0}) A k s vs reply (λ lost. burns (bad lost) s)
        (group_comes c size (Unit {0}) A k s vs reply (λ is. tt) ends)

    module _ (freezes : (s : PoolState) (vs : List Move) → RowFreeze c s vs → A s vs) where
      pub commits_hold : (s : PoolState) (vs : List Move) (reply : TurnReply) → (IsLost reply → Lost)
          → CommitsOpen c size s vs reply → A s vs
      commits_hold s vs reply bad w = rw w.moves (k.more s w.first w.rest (freezes s w.first w.freeze)
          (group_holds (steps w.first s) w.rest reply bad w.ends))

      pub freeze_line_holds : (s : PoolState) (vs : List Move) (reply : FreezeReply) → RowFreezeLine c s vs reply
          → A s vs
      freeze_line_holds s vs reply row = by s.core.group.frozen row
        where
          for : (refusal : Option FreezeRefusal) → FreezeFor refusal c s vs reply → A s vs
          for (Some refusal) row = rw row.0 (k.none s)
          for None row = freezes s vs row.0

          by : (frozen : Bool) → FreezeBy frozen c s vs reply → A s vs
          by true row = rw row.0 (k.none s)
          by false row = for row.0 row.2

      open_holds : (s : PoolState) (vs : List Move) (reply : SyncReply) → (LosesSync reply → Lost)
          → SyncOpen c size s vs reply → A s vs
      open_holds s vs reply bad row = for row.0 row.2
        where
          for : (refusal : Option FreezeRefusal) → CommitsFor refusal c size s vs reply → A s vs
          for (Some refusal) row = rw row.0 (k.none s)
          for None row = commits_hold s vs row.0 (λ lost. bad (rw row.2 lost)) row.1

      behind_holds : (turn : TurnReply) (s : PoolState) (vs : List Move) (reply : SyncReply) → (LosesSync reply → Lost)
          → SyncBehind turn c size s vs reply → A s vs
      behind_holds (Committed number) s vs reply bad (inl row) = rw row.0 (k.none s)
      behind_holds (Committed number) s vs reply bad (inr row) = open_holds s vs reply bad row
      behind_holds turn s vs reply bad row = rw row.0 (k.none s)

      -- where the first group was suspended, so was the line
      first_lost : (turn : TurnReply) (s : PoolState) (vs : List Move) (reply : SyncReply)
          → SyncBehind turn c size s vs reply → IsLost turn → LosesSync reply
      first_lost (Suspended group top faults) s vs reply row lost = rw row.1 tt
      first_lost turn s vs reply row lost = absurd lost

      pub sync_holds : (frozen : Bool) (s : PoolState) (vs : List Move) (reply : SyncReply) → (LosesSync reply → Lost)
          → SyncBy frozen c size s vs reply → A s vs
      sync_holds false s vs reply bad row = open_holds s vs reply bad row
      sync_holds true s vs reply bad row = rw row.moves (k.more s row.first row.rest (group_holds s row.first row.turn
          (λ lost. bad (first_lost row.turn (steps row.first s) row.rest reply row.behind lost))
          row.ends) (behind_holds row.turn (steps row.first s) row.rest reply bad row.behind))

    -- the commit of an opening
    pub reopen_holds : ((s : PoolState) (vs : List Move) → RowEmptyFreeze s vs → A s vs)
        → ((s : PoolState) (vs : List Move) → AllByRecursion IsSet vs → A s vs)
        → (s : PoolState) (vs : List Move) (reply : TurnReply) → (IsLost reply → Lost) → RowReopen c size s vs reply
        → A s vs
    reopen_holds empty sets s vs reply bad w = let zeros = uncounts (steps w.rest (steps w.first s)).core.leaves in
        rw w.moves (k.more s w.first (w.rest ++ zeros) (empty s w.first w.freeze)
        (k.more (steps w.first s) w.rest zeros (group_holds (steps w.first s) w.rest reply bad w.ends)
        (sets (steps w.rest (steps w.first s)) zeros (uncounts_set (steps w.rest (steps w.first s)).core.leaves))))
