-- What a write turn and the flush turn leave: their moves step the state to that of the pool behind them.
use Rattle.std.proofs.Common.{◌≡◌, ℕ, ◌+◌, cond, Bool, true, List, [], ◌∷◌, ◌++◌, Some, refl, sym, ap, ◌∙◌}
use mathlib.Core.Path.{fun_ext}
use Rattle.std.specs.List.{AllByRecursion}
use Rattle.mp_base.specs.declared.number.Guid.{Guid}
use Rattle.mp_base.specs.declared.place.Key.{Key}
use Rattle.bank_core.specs.Disk.{Noted}
use Rattle.label_store.specs.declared.member.Member.{Member}
use Rattle.vdev_tree.specs.declared.top.Top.{Top}
use Rattle.dtl_rules.specs.Widening.{sectors_of}
use Rattle.txg_history.specs.Groups.{same_key}
use Rattle.txg_history.specs.Trees.{Child}
use Rattle.txg_engine.specs.declared.item.Item.{Item}
use Rattle.txg_engine.specs.declared.seat.Seat.{Seat}
use Rattle.txg_engine.specs.Frozen.{FrozenGroup}
use Rattle.pool_codec.specs.Tops.{room_of}
use Rattle.pool_moves.specs.Leaves.{LeafSeen}
use Rattle.pool_moves.specs.LineRows.{count_moves}
use Rattle.pool_moves.specs.Moves.{Move, Freeze, Burn, Puts, Comes, Returns, Scan_from, Scrubs, Shapes, Wrote_key, Flushed_all, step, state_step, steps}
use Rattle.pool_moves.specs.States.{Sums, PoolSeen, PoolState}
use Rattle.pool_moves.specs.TurnRows.{turn_moves}
use Rattle.pool_moves.specs.Walking.{as_moves}
use Rattle.pool_moves.specs.Widening.{AreLeaves, seen_along}
use Rattle.pool_moves.proofs.FreeWalks.{steps_more}
use Rattle.pool_moves.proofs.KindsOfMoves.{AnyLeaf, AnySet, IsWithin, within_kind, any_failing, all_leave, all_calls}
use Rattle.pool_moves.proofs.Lists.{all_append}
use Rattle.pool_moves.proofs.Widenings.{seen_of, calls_seen}
use Rattle.open_pool.specs.Parts.{PoolParts, all_parts}
use Rattle.open_pool.specs.State.{group_of, is_done, leaves_from, leaves_under, own_state, sectors_in, seen_of as core_of, state_of}
use Rattle.open_pool.proofs.FaultsCounted.{with_leaves}
use Rattle.open_pool.proofs.LeafLeaves.{seen_more}
use Rattle.open_pool.proofs.TreesStay.{AreTreesAlike}
use Rattle.open_pool.proofs.TurnLeaves.{TurnsLeaves}

-- A pool whose frozen group is this one, over these trees.
abbrev pub going : PoolParts → FrozenGroup → List Top → PoolParts
going b group trees = record b { highest = group.numbers.last.0; tops = all_parts trees; frozen = Some group }

-- Moves within a group leave what no event tells.
own_still : (v : Move) (s : PoolState) → IsWithin v → (state_step v s).own ≡ s.own
own_still (Freeze cells board) s is = absurd is
own_still Burn s is = absurd is
own_still (Puts a block) s is = absurd is
own_still (Comes i d m top own) s is = absurd is
own_still (Returns i seat leaf) s is = absurd is
own_still (Scan_from hi eligible) s is = absurd is
own_still Scrubs s is = absurd is
own_still (Shapes top children) s is = absurd is
own_still v s is = refl

own_along : (vs : List Move) (s : PoolState) → AllByRecursion IsWithin vs → (steps vs s).own ≡ s.own
own_along [] s all = refl
own_along (v ∷ vs) s all = own_along vs (state_step v s) all.1 ∙ own_still v s all.0

-- so they step what is seen alone
pub steps_within : (vs : List Move) (s : PoolState) → AllByRecursion IsWithin vs
    → steps vs s ≡ record s { core = seen_along vs s.core }
steps_within vs s all =
    ap (λ own. record (steps vs s) { own = own }) (own_along vs s all)
    ∙ ap (λ core. record s { core = core }) (seen_of vs s)

pub sectors_are : (tops : List Top) → sectors_in (all_parts tops) ≡ sectors_of tops
sectors_are [] = refl
sectors_are (top ∷ tops) = ap (λ ns. top.sectors ∷ ns) (sectors_are tops)

-- trees that are built alike have the same tops
pub record AreLikeTops (old new : List Top) : Type 0 where
  pub told : AreTreesAlike old new
  pub sectors : sectors_of new ≡ sectors_of old

pub own_kept : (b : PoolParts) (was is : FrozenGroup) (old new : List Top) → AreLikeTops old new
    → own_state (going b is new) ≡ own_state (going b was old)
own_kept b was is old new like =
    ap (λ (f : ℕ → Guid). record (own_state (going b is new)) { top_number = f }) like.told.numbers
    ∙ ap (λ (f : ℕ → List Child). record (own_state (going b was old)) { children = f }) like.told.children

pub room_kept : (old new : List Top) → AreLikeTops old new
    → room_of (sectors_in (all_parts new)) ≡ room_of (sectors_in (all_parts old))
room_kept old new like = ap room_of (sectors_are new ∙ like.sectors ∙ sym (sectors_are old))

-- A turn's calls, its leavers and its mark, where these lead to such leaves.
turn_seen : (s : PoolSeen) (made : List Noted) (leaving : List Move) (mark : Move) (between : List LeafSeen)
    → seen_along leaving s ≡ record s { leaves = between }
    → seen_along (turn_moves made leaving mark) s ≡ step mark (record s { leaves = between })
turn_seen s made leaving mark between leads =
    seen_more (as_moves made) (leaving ++ (mark ∷ [])) s
    ∙ ap (seen_along (leaving ++ (mark ∷ []))) (calls_seen made s)
    ∙ seen_more leaving (mark ∷ []) s
    ∙ ap (step mark) leads

turn_within : (s : PoolSeen) (made : List Noted) (ms : List Member) (done : List Bool) (leaving : List Move) (mark : Move)
    → AreLeaves s ms done leaving → IsWithin mark → AllByRecursion IsWithin (turn_moves made leaving mark)
turn_within s made ms done leaving mark are is =
    all_append IsWithin (as_moves made) (leaving ++ (mark ∷ [])) (all_calls AnyLeaf AnySet IsWithin within_kind made)
    (all_append IsWithin leaving (mark ∷ []) (all_leave AnyLeaf AnySet IsWithin within_kind s ms done leaving
    (any_failing ms done) are) (is, tt))

-- The state behind a turn and its counts, where the mark leaves the leaves.
pub turn_steps : (s : PoolState) (made : List Noted) (ms : List Member) (done : List Bool) (mark : Move)
    (seats : List Seat) (q : PoolParts) (left : TurnsLeaves s.core ms done seats q) → IsWithin mark
    → ((ls : List LeafSeen) → (step mark (record (s.core) { leaves = ls })).leaves ≡ ls)
    → steps (turn_moves made left.leaving mark ++ count_moves s.core.leaves ms done) s
    ≡ with_leaves (leaves_from seats 1 (leaves_under q.tops))
    (record s { core = step mark (record (s.core) { leaves = left.between }) })
turn_steps s made ms done mark seats q left is stay =
    let part = turn_moves made left.leaving mark in
    steps_more part (count_moves s.core.leaves ms done) s
    ∙ ap (steps (count_moves s.core.leaves ms done))
    (steps_within part s (turn_within s.core made ms done left.leaving mark left.are is)
    ∙ ap (λ core. record s { core = core }) (turn_seen s.core made left.leaving mark left.between left.leads))
    ∙ left.counted (record s { core = step mark (record (s.core) { leaves = left.between }) }) (stay left.between)

-- So the state behind a write turn, and behind the flush turn, is that of the pool behind it.
module _ (held : List Sums) (b : PoolParts) (group : FrozenGroup) (old new : List Top) (like : AreLikeTops old new) (seats : List Seat) where
  abbrev behind : Bool → ℕ → FrozenGroup
  behind flushed written = record group { flushed = flushed; written = written; board = seats }

  finally : (flushed : Bool) (written : ℕ) (done : Key → Bool) → ((k : Key) → is_done group.items written k ≡ done k)
      → with_leaves (leaves_from seats 1 (leaves_under (all_parts new)))
      (record (state_of held (going b group old)) {
        core = record (core_of held (going b group old)) { group = record (group_of (Some group)) { flushed = flushed; done = done } };
      })
      ≡ state_of held (going b (behind flushed written) new)
  finally flushed written done same =
      ap (λ (f : Key → Bool). with_leaves (leaves_from seats 1 (leaves_under (all_parts new)))
      (record (state_of held (going b group old)) {
        core = record (core_of held (going b group old)) { group = record (group_of (Some group)) { flushed = flushed; done = f } };
      })) (fun_ext (λ k. sym (same k)))
      ∙ ap (λ (f : ℕ → ℕ). record (state_of held (going b (behind flushed written) new)) {
        own = own_state (going b group old);
        core = record (core_of held (going b (behind flushed written) new)) { room = f };
      }) (sym (room_kept old new like))
      ∙ ap (λ own. record (state_of held (going b (behind flushed written) new)) { own = own })
      (sym (own_kept b group (behind flushed written) old new like))

  pub write_leads : (made : List Noted) (ms : List Member) (done : List Bool) (item : Item)
      → ((k : Key) → is_done group.items (group.written + 1) k ≡ cond (same_key item.key k) true (is_done group.items group.written k))
      → (left : TurnsLeaves (core_of held (going b group old)) ms done seats (going b (behind group.flushed (group.written + 1)) new))
      → steps (turn_moves made left.leaving (Wrote_key item.key) ++ count_moves (core_of held (going b group old)).leaves ms done)
      (state_of held (going b group old))
      ≡ state_of held (going b (behind group.flushed (group.written + 1)) new)
  write_leads made ms done item same left =
      turn_steps (state_of held (going b group old)) made ms done (Wrote_key item.key) seats
      (going b (behind group.flushed (group.written + 1)) new) left tt (λ ls. refl)
      ∙ finally group.flushed (group.written + 1) (λ k. cond (same_key item.key k) true (is_done group.items group.written k)) same

  pub flush_leads : (made : List Noted) (ms : List Member) (done : List Bool)
      → (left : TurnsLeaves (core_of held (going b group old)) ms done seats (going b (behind true group.written) new))
      → steps (turn_moves made left.leaving Flushed_all ++ count_moves (core_of held (going b group old)).leaves ms done)
      (state_of held (going b group old))
      ≡ state_of held (going b (behind true group.written) new)
  flush_leads made ms done left =
      turn_steps (state_of held (going b group old)) made ms done Flushed_all seats
      (going b (behind true group.written) new) left tt (λ ls. refl)
      ∙ finally true group.written (is_done group.items group.written) (λ k. refl)
