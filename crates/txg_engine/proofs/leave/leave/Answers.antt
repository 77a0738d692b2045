use Rattle.std.proofs.Common.{List, sym, subst}
use Rattle.std.specs.Prelude.{All}
use Rattle.dtl_rules.specs.Widening.{leaves_of}
use Rattle.txg_engine.specs.declared.seat.Seat.{Seat}
use Rattle.txg_engine.specs.Logs.{IsReady}
use Rattle.txg_engine.proofs.Ready.{left_ready}
use Rattle.txg_engine.proofs.leave.leave.Goals as goal

pub returns-clause-ready : goal.returns-clause-ready
returns-clause-ready c =
    subst (λ (seats : List Seat). All (IsReady seats c.args.numbers.last.0) (leaves_of c.owe_all.new.tops)) (sym c.remove.ensures)
    (left_ready c.args.member c.args.board.now c.args.numbers.first.0 c.args.numbers.last.0 c.requires.order
    (leaves_of c.args.tops.now) (leaves_of c.owe_all.new.tops) c.owe_all.ensures.leaves c.requires.ready)
