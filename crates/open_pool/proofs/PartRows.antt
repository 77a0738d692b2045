-- The engine's write turn and its flush turn are the rows' parts of a turn.
use Rattle.std.proofs.Common.{◌≡◌, inl, inr, ℕ, suc, ◌+◌, Bool, true, false, List, [], ◌∷◌, ◌++◌, length, map, take, Some, None, refl, sym, ap, ◌∙◌, subst, arith, append-nil}
use Rattle.std.proofs.Math.Seq.{take-length}
use Rattle.std.specs.Prelude.{is_some, slice_get}
use Rattle.std.specs.List.{AllByRecursion}
use Rattle.bank_core.specs.Disk.{Noted}
use Rattle.label_store.specs.declared.member.Member.{Member}
use Rattle.label_store.specs.Phases.{IsPhase}
use Rattle.vdev_tree.specs.declared.top.Top.{Top}
use Rattle.dtl_rules.specs.Widening.{leaves_of, marks_of, sectors_of}
use Rattle.txg_history.specs.Turns.{write_plan, flush_plan}
use Rattle.txg_engine.specs.declared.item.Item.{Item}
use Rattle.txg_engine.specs.Boards as engine
use Rattle.txg_engine.specs.Boards.{behind_turn}
use Rattle.txg_engine.specs.Frozen.{FrozenGroup, IsGroup}
use Rattle.txg_engine.specs.Items.{cell_of}
use Rattle.txg_engine.specs.Logs.{AreBehind}
use Rattle.pool_codec.specs.Codecs.{pool_codec}
use Rattle.pool_moves.specs.Boards.{board_of, board_under}
use Rattle.pool_moves.specs.Leaves.{LeafSeen}
use Rattle.pool_moves.specs.LineRows.{TurnReply, Write, Flush, EndsTurn, IsTurnOf, StartsBy, count_moves}
use Rattle.pool_moves.specs.Moves.{Move, Makes, Leave, Widen, Sets, Wrote_key, Flushed_all, step, steps}
use Rattle.pool_moves.specs.ReadRow.{made_in}
use Rattle.pool_moves.specs.States.{Sums, PoolSeen}
use Rattle.pool_moves.specs.TurnRows.{turn_moves}
use Rattle.pool_moves.specs.Widening.{AreLeaves, AreWidens, seen_along}
use Rattle.pool_moves.proofs.KindsOfMoves.{IsSet, counts_set}
use Rattle.pool_moves.proofs.ReadWalks.{made_calls}
use Rattle.open_pool.specs.Form.{IsPool}
use Rattle.open_pool.specs.Parts.{PoolParts}
use Rattle.open_pool.specs.State.{cells_of, is_done, seen_of, state_of}
use Rattle.open_pool.proofs.KeysDone.{next_key}
use Rattle.open_pool.proofs.MembersAgree.{board_crew, under_crew}
use Rattle.open_pool.proofs.TurnParts.{form, leavers, like_tops, same_leaves_there, shown}
use Rattle.open_pool.proofs.TurnSteps.{going, write_leads, flush_leads}

-- Moves without a device call among them.
pub made_more : (vs ws : List Move) → made_in vs ≡ [] → made_in (vs ++ ws) ≡ made_in ws
made_more [] ws none = refl
made_more (Makes noted ∷ vs) ws none = absurd (let no : noted ∷ made_in vs ≡ [] = none in cc)
made_more (v ∷ vs) ws none = made_more vs ws none

pub made_widens : (s : PoolSeen) (vs : List Move) → AreWidens s vs → made_in vs ≡ []
made_widens s [] are = refl
made_widens s (Widen m low high ∷ vs) are = made_widens (step (Widen m low high) s) vs are.2
made_widens s (v ∷ vs) are = absurd are

pub made_left : (s : PoolSeen) (ms : List Member) (done : List Bool) (vs : List Move) → AreLeaves s ms done vs → made_in vs ≡ []
made_left s [] done vs are = ap made_in are
made_left s (m ∷ ms) [] vs are = ap made_in are
made_left s (m ∷ ms) (true ∷ done) vs are = made_left s ms done vs are
made_left s (m ∷ ms) (false ∷ done) vs are =
    ap made_in are.2
    ∙ made_more are.0 are.1 (ap made_in are.3.moves ∙ made_widens (step (Leave m.dev) s) are.3.widens are.3.are)
    ∙ made_left (seen_along are.0 s) ms done are.1 are.4

pub made_sets : (vs : List Move) → AllByRecursion IsSet vs → made_in vs ≡ []
made_sets [] all = refl
made_sets (Sets m own ∷ vs) all = made_sets vs all.1
made_sets (v ∷ vs) all = absurd all.0

pub made_first : (vs ws : List Move) → made_in ws ≡ [] → made_in (vs ++ ws) ≡ made_in vs
made_first [] ws none = none
made_first (Makes noted ∷ vs) ws none = ap (λ l. noted ∷ l) (made_first vs ws none)
made_first (v ∷ vs) ws none = made_first vs ws none

-- A turn's calls are those that it made.
made_turn : (s : PoolSeen) (made : List Noted) (ms : List Member) (done : List Bool) (leaving : List Move) (mark : Move) (leaves : List LeafSeen)
    → AreLeaves s ms done leaving → made_in (mark ∷ []) ≡ []
    → made_in (turn_moves made leaving mark ++ count_moves leaves ms done) ≡ made
made_turn s made ms done leaving mark leaves are none =
    made_first (turn_moves made leaving mark) (count_moves leaves ms done) (made_sets (count_moves leaves ms done) (counts_set leaves ms done))
    ∙ made_calls made (leaving ++ (mark ∷ []))
    ∙ ap (λ l. made ++ l) (made_more leaving (mark ∷ []) (made_left s ms done leaving are) ∙ none)
    ∙ append-nil made

-- A part of a turn: its moves lead from the one pool to the other, and make these calls; and with each ending it is a turn.
pub record IsPart (size : ℕ → ℕ) (held : List Sums) (p q : PoolParts) (draws : Bool) (going : TurnReply) (made : List Noted) : Type 0 where
  pub moves : List Move
  pub leads : steps moves (state_of held p) ≡ state_of held q
  pub calls : made_in moves ≡ made
  pub is : (ending : List Move) (reply : TurnReply) → EndsTurn (state_of held q) draws going ending reply
      → StartsBy None pool_codec size (state_of held p) (moves ++ ending) reply

all_taken : (items : List Item) (n : ℕ) → n ≡ length items → take n items ≡ items
all_taken items n is = ap (λ k. take k items) is ∙ take-length items

next_top : (t : ℕ) → t + 1 ≡ suc t
next_top t = omega arith

module _ (size : ℕ → ℕ) (held : List Sums) (b : PoolParts) (group : FrozenGroup) (old new : List Top) (pool : IsPool (going b group old)) (kept : IsGroup group)
    (built : marks_of new ≡ marks_of old) (sectors : sectors_of new ≡ sectors_of old) (made : List Noted) (done : List Bool) where
  pub write_part : (item : Item) → slice_get group.items group.written ≡ Some item → group.flushed ≡ false
      → let ms = engine.board_under item.pointer.place.top group.board in
      IsPhase (write_plan (cell_of item)) ms (map (λ m. true) ms) done made
      → AreBehind group.numbers ms done (leaves_of old) (leaves_of new)
      → IsPart size held (going b group old) (going b (record group { written = group.written + 1; board = behind_turn ms done group.board }) new)
      false Write made
  write_part item at unflushed phase behind =
      let top = item.pointer.place.top in
      let ms = engine.board_under top group.board in
      let crew = under_crew group.board (going b group old) pool.board (form b group old pool kept.low).numbers
      (form b group old pool kept.low).devices top in
      let left = leavers b group old pool kept.low new built sectors ms done crew behind (seen_of held (going b group old)) group.flushed group.begun
      (group.written + 1) refl refl refl in
      let next = next_key group.items group.written item kept.rise at in
      let is_ms : board_under (top + 1) (seen_of held (going b group old)).leaves ≡ ms =
      ap (λ t. board_under t (seen_of held (going b group old)).leaves) (next_top top) ∙ (shown b group old pool kept.low).under top in
      let leads = write_leads held b group old new
      (like_tops old new built sectors (same_leaves_there b group old pool kept.low new built sectors ms done crew behind))
      (behind_turn ms done group.board) made ms done item
      (λ k. ap (λ n. is_done group.items n k) (next_top group.written) ∙ next.done k) left in
      let part = turn_moves made left.leaving (Wrote_key item.key) in
      record {
        moves = part ++ count_moves (seen_of held (going b group old)).leaves ms done;
        leads = leads;
        calls = made_turn (seen_of held (going b group old)) made ms done left.leaving (Wrote_key item.key)
            (seen_of held (going b group old)).leaves left.are refl;
        is = λ ending reply ends. inl (record {
          part = part;
          row = record {
            frozen = refl;
            unflushed = unflushed;
            key = item.key;
            cell = cell_of item;
            cell_is = next.cell_is;
            undone = next.undone;
            least = next.least;
            made = made;
            results = done;
            calls = subst (λ l. IsPhase (write_plan (cell_of item)) l (map (λ m. true) l) done made) (sym is_ms) phase;
            leaving = left.leaving;
            leaves = subst (λ l. AreLeaves (seen_of held (going b group old)) l done left.leaving) (sym is_ms) left.are;
            moves = refl;
          };
          turn = subst (λ l. IsTurnOf (state_of held (going b group old)) part l done Write
              ((part ++ count_moves (seen_of held (going b group old)).leaves ms done) ++ ending) reply) (sym is_ms) (record {
                ending = ending;
                ends = subst (λ u. EndsTurn u false Write ending reply) (sym leads) ends;
                moves = refl;
              });
        });
      }

  pub flush_part : group.written ≡ length group.items → group.flushed ≡ false
      → let ms = engine.board_of group.board in
      IsPhase flush_plan ms (map (λ m. true) ms) done made
      → AreBehind group.numbers ms done (leaves_of old) (leaves_of new)
      → IsPart size held (going b group old) (going b (record group { flushed = true; board = behind_turn ms done group.board }) new) false Flush made
  flush_part written unflushed phase behind =
      let ms = engine.board_of group.board in
      let crew = board_crew group.board (going b group old) pool.board (form b group old pool kept.low).numbers
      (form b group old pool kept.low).devices in
      let left = leavers b group old pool kept.low new built sectors ms done crew behind (seen_of held (going b group old)) true group.begun
      group.written refl refl refl in
      let is_ms : board_of (seen_of held (going b group old)).leaves ≡ ms = (shown b group old pool kept.low).members in
      let leads = flush_leads held b group old new
      (like_tops old new built sectors (same_leaves_there b group old pool kept.low new built sectors ms done crew behind))
      (behind_turn ms done group.board) made ms done left in
      let part = turn_moves made left.leaving Flushed_all in
      record {
        moves = part ++ count_moves (seen_of held (going b group old)).leaves ms done;
        leads = leads;
        calls = made_turn (seen_of held (going b group old)) made ms done left.leaving Flushed_all
            (seen_of held (going b group old)).leaves left.are refl;
        is = λ ending reply ends. inr (inl (record {
          part = part;
          unflushed = unflushed;
          row = record {
            frozen = refl;
            written = λ k cell is. ap (λ items. is_some (cells_of items k)) (all_taken group.items group.written written) ∙ ap is_some is;
            made = made;
            results = done;
            calls = subst (λ l. IsPhase flush_plan l (map (λ m. true) l) done made) (sym is_ms) phase;
            leaving = left.leaving;
            leaves = subst (λ l. AreLeaves (seen_of held (going b group old)) l done left.leaving) (sym is_ms) left.are;
            moves = refl;
          };
          turn = subst (λ l. IsTurnOf (state_of held (going b group old)) part l done Flush
              ((part ++ count_moves (seen_of held (going b group old)).leaves ms done) ++ ending) reply) (sym is_ms) (record {
                ending = ending;
                ends = subst (λ u. EndsTurn u false Flush ending reply) (sym leads) ends;
                moves = refl;
              });
        }));
      }
