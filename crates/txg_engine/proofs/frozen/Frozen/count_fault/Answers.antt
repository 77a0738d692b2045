use Rattle.std.proofs.Common.{List, map, refl, sym, subst}
use Rattle.std.specs.Prelude.{All}
use Rattle.txg_engine.specs.declared.seat.Seat.{Seat}
use Rattle.txg_engine.specs.Boards.{failed}
use Rattle.txg_engine.specs.Frozen.{FrozenGroup}
use Rattle.txg_engine.specs.Logs.{IsReady}
use Rattle.txg_engine.proofs.GroupsKept.{seen, counted_kept}
use Rattle.txg_engine.proofs.Ready.{board_ready, same_board}
use Rattle.txg_engine.proofs.SeatsKept.{counted_seated}
use Rattle.txg_engine.proofs.frozen.Frozen.count_fault.Goals as goal

pub invariant_of-self : goal.invariant_of-self
invariant_of-self c = (
  counted_kept (seen c.self.inside) c.self.invariant.0 c.args.member c.count_fault.new.self c.count_fault.ensures,
  c.self.invariant.1,
)

pub returns-clause-ready : goal.returns-clause-ready
returns-clause-ready c = λ leaves ready.
    let seats = c.self.inside.board in
    let was = rw (← c.self.view_is) at ready in
    subst (λ (l : List Seat). All (IsReady l c.self.inside.numbers.last.0) leaves) (sym c.count_fault.ensures)
    (board_ready seats (map (failed c.args.member) seats) c.self.inside.numbers.last.0 leaves
    (λ x. same_board c.args.member x seats) was)

pub returns-clause-seated : goal.returns-clause-seated
returns-clause-seated c = λ size sectors seated.
    let group : FrozenGroup = seen c.self.inside in
    counted_seated size sectors group (record group { board = c.count_fault.new.self }) c.args.member refl c.count_fault.ensures
    (rw (← c.self.view_is) at seated)
