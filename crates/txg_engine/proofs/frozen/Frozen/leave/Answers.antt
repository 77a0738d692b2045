use Rattle.std.proofs.Common.{List, map, refl, sym, ap, subst, ◌∙◌}
use Rattle.std.specs.Prelude.{All}
use Rattle.dtl_rules.specs.Widening.{leaves_of}
use Rattle.txg_engine.specs.declared.seat.Seat.{Seat}
use Rattle.txg_engine.specs.Boards.{on_board, without, as_taken, AreServed}
use Rattle.txg_engine.specs.Frozen.{FrozenGroup}
use Rattle.txg_engine.specs.Logs.{IsReady}
use Rattle.txg_engine.proofs.GroupsKept.{seen, taken_kept}
use Rattle.txg_engine.proofs.Ready.{off_already, not_taken, board_ready, taken_board}
use Rattle.txg_engine.proofs.SeatsKept.{left_seated}
use Rattle.txg_engine.proofs.frozen.Frozen.leave.Goals as goal

pub leave-requires-clause-ready : goal.leave-requires-clause-ready
leave-requires-clause-ready c =
    let seats = c.self.inside.board in
    let last = c.self.inside.numbers.last.0 in
    subst (λ (l : List Seat). All (IsReady l last) (leaves_of c.args.tops.now)) (sym c.mark_taken.ensures)
    (board_ready seats (map (as_taken c.args.member) seats) last (leaves_of c.args.tops.now)
    (λ x. taken_board c.args.member x seats) (rw (← c.self.view_is) at c.requires.ready))

pub invariant_of-self : goal.invariant_of-self
invariant_of-self c =
    let behind = c.leave.ensures.board ∙ ap (map (without c.args.member)) c.mark_taken.ensures in
    let kept = (rw (← c.self.view_is) at c.requires.kept) (sym c.has.ensures ∙ c.if-has.true) in (
      taken_kept (seen c.self.inside) c.self.invariant.0 c.args.member c.leave.new.board behind (subst AreServed (sym behind) kept),
      c.self.invariant.1,
    )

pub returns-then-has-clause-seated : goal.returns-then-has-clause-seated
returns-then-has-clause-seated c = λ size sectors seated.
    let group : FrozenGroup = seen c.self.inside in
    left_seated size sectors group (record group { board = c.leave.new.board }) c.args.member refl
    (c.leave.ensures.board ∙ ap (map (without c.args.member)) c.mark_taken.ensures) (rw (← c.self.view_is) at seated)

pub returns-else-has-clause-group : goal.returns-else-has-clause-group
returns-else-has-clause-group c =
    let seats = c.args.self.now.board in
    let off = ap (λ (group : FrozenGroup). on_board group.board c.args.member) (sym c.self.view_is)
    ∙ sym c.has.ensures ∙ c.if-has.false in
    ap (λ (l : List Seat). record (c.args.self.now) { board = l })
    (sym (ap (map (without c.args.member)) (not_taken c.args.member seats off) ∙ off_already c.args.member seats off))
