use Rattle.std.proofs.Common.{◌≡◌, List, [], ◌++◌, Some, drop, length, map, take, refl, sym, ap, ◌∙◌, subst}
use Rattle.std.specs.Prelude.{All, IfSome}
use Rattle.std.specs.List.{AllZip}
use Rattle.vdev_tree.specs.declared.top.Top.{Top}
use Rattle.dtl_rules.specs.Widening.{leaves_of, marks_of, sectors_of}
use Rattle.txg_engine.specs.Boards.{as_taken, on_board}
use Rattle.txg_engine.specs.Frozen.{FrozenGroup}
use Rattle.txg_engine.specs.Logs.{AreGrown, is_leaf, IsReady}
use Rattle.pool_moves.specs.States.{Sums}
use Rattle.open_pool.specs.contracts.pool.Pool.{the_view}
use Rattle.open_pool.specs.Form.{HasGroup, IsPool, all_leaves}
use Rattle.open_pool.specs.Offline.{IsStillIt, LeavesBoard, numbers_under}
use Rattle.open_pool.specs.Parts.{PoolParts, all_parts}
use Rattle.open_pool.specs.State.{seats_in}
use Rattle.open_pool.proofs.BoardLeft.{LeavesIt, all_still, items_back, leaves_board, left_by, off_now, stands_left}
use Rattle.open_pool.proofs.LeavesInForm.{leaves_are}
use Rattle.open_pool.proofs.pool.Pool.leave_board.Goals as goal

pub leave-requires-clause-ready : goal.leave-requires-clause-ready
leave-requires-clause-ready c =
    let p = c.args.self.now in
    let frozen : p.frozen ≡ Some c.in-Some.frozen = ap (λ (q : PoolParts). q.frozen) (sym c.self.view_is) ∙ c.in-Some.is in
    let parts : p.tops ≡ all_parts c.self.inside.tops.items = ap (λ (q : PoolParts). q.tops) (sym c.self.view_is) in
    let pool : IsPool p = subst IsPool c.self.view_is c.self.invariant.0 in
    let had : HasGroup p c.in-Some.frozen = subst (λ f. IfSome f (HasGroup p)) frozen pool.group in
    subst (λ (trees : List Top). All (IsReady c.in-Some.frozen.board c.in-Some.frozen.numbers.last.0) (leaves_of trees)) (sym c.deref_mut.ensures.value)
    (subst (All (IsReady c.in-Some.frozen.board c.in-Some.frozen.numbers.last.0)) (leaves_are c.self.inside.tops.items p parts) had.ready)

left_it : (c : goal.After-self-in-Some-1) (held : List Sums)
    → LeavesIt c.args.at held c.args.self.now (record (c.args.self.now) {
      tops = all_parts c.leave.new.tops;
      frozen = Some (record (c.in-Some.frozen) { board = left_by c.args.at c.in-Some.frozen.board });
    })
left_it c held =
    let p = c.args.self.now in
    let value = c.deref_mut.ensures.value in
    let group = c.in-Some.frozen in
    leaves_board p group c.self.inside.tops.items c.leave.new.tops c.args.at held (ap (λ (q : PoolParts). q.tops) (sym c.self.view_is))
    (ap (λ (q : PoolParts). q.frozen) (sym c.self.view_is) ∙ c.in-Some.is) (subst IsPool c.self.view_is c.self.invariant.0) c.keeps_its_form.ensures.low
    (c.leave.ensures.built ∙ ap marks_of value) (c.leave.ensures.sectors ∙ ap sectors_of value)
    (λ on. subst (λ (trees : List Top). AreGrown (is_leaf c.args.at) group.numbers.first.0 group.numbers.last.0 (leaves_of trees) (leaves_of c.leave.new.tops))
    value (c.leave.ensures.leaves on))
    (λ off. c.leave.ensures.unchanged off ∙ value)
    (subst (λ (g : FrozenGroup). All (IsReady g.board g.numbers.last.0) (leaves_of c.leave.new.tops)) c.leave.ensures.group c.leave.ensures.ready)

tops_back : (c : goal.After-self-in-Some-1) → take c.self.inside.tops.len (c.leave.new.tops ++ drop (length c.leave.new.tops) c.self.inside.tops.items)
    ≡ c.leave.new.tops
tops_back c = items_back c.self.inside.tops.len c.deref_mut.result.now c.leave.new.tops c.self.inside.tops.items c.deref_mut.ensures.len c.leave.ensures.built

-- what holds of the pool with these trees and this group holds of the pool that is left
back : (c : goal.After-self-in-Some-1) (P : PoolParts → Type 0)
    → P (record (c.args.self.now) {
      tops = all_parts c.leave.new.tops;
      frozen = Some (record (c.in-Some.frozen) { board = left_by c.args.at c.in-Some.frozen.board });
    })
    → P (record (the_view c.self.inside) {
      tops = all_parts (take c.self.inside.tops.len (c.leave.new.tops ++ drop (length c.leave.new.tops) c.self.inside.tops.items));
      frozen = Some c.leave.new.self;
    })
back c P has =
    subst (λ (p : PoolParts). P (record p {
      tops = all_parts (take c.self.inside.tops.len (c.leave.new.tops ++ drop (length c.leave.new.tops) c.self.inside.tops.items));
      frozen = Some c.leave.new.self;
    })) (sym c.self.view_is)
    (subst (λ (trees : List Top). P (record (c.args.self.now) { tops = all_parts trees; frozen = Some c.leave.new.self })) (sym (tops_back c))
    (subst (λ (g : FrozenGroup). P (record (c.args.self.now) { tops = all_parts c.leave.new.tops; frozen = Some g })) (sym c.leave.ensures.group) has))

pub invariant_of-self : goal.invariant_of-self
invariant_of-self c = (back c IsPool (left_it c []).kept, c.self.invariant.1)

pub returns-in-Some-clause-left : goal.returns-in-Some-clause-left
returns-in-Some-clause-left c = λ s stands.
    back c (LeavesBoard c.args.at c.args.self.now s)
    (stands_left c.args.at c.args.self.now _ s stands (left_it c s.core.pinned) refl)

pub returns-in-Some-clause-off : goal.returns-in-Some-clause-off
returns-in-Some-clause-off c = ap (λ (group : FrozenGroup). on_board group.board c.args.at) c.leave.ensures.group
    ∙ off_now c.args.at (map (as_taken c.args.at) c.in-Some.frozen.board)

pub returns-in-Some-clause-still : goal.returns-in-Some-clause-still
returns-in-Some-clause-still c =
    back c (λ q. AllZip (IsStillIt (seats_in c.args.self.now.frozen) (seats_in q.frozen)) (all_leaves c.args.self.now) (all_leaves q)) (left_it c []).still

pub returns-in-Some-clause-tops : goal.returns-in-Some-clause-tops
returns-in-Some-clause-tops c =
    back c (λ q. numbers_under q.tops ≡ numbers_under c.args.self.now.tops) (left_it c []).numbers

pub returns-in_default-clause-still : goal.returns-in_default-clause-still
returns-in_default-clause-still c =
    subst (λ (p : PoolParts). AllZip (IsStillIt (seats_in p.frozen) (seats_in c.self.inside.frozen)) (all_leaves p) (all_leaves (the_view c.self.inside))) c.self.view_is
    (all_still (seats_in c.self.inside.frozen) (all_leaves (the_view c.self.inside)))
