use Rattle.std.proofs.Common.{List, map, sym, subst}
use Rattle.std.specs.Prelude.{All}
use Rattle.dtl_rules.specs.Widening.{leaves_of}
use Rattle.txg_engine.specs.declared.seat.Seat.{Seat}
use Rattle.txg_engine.specs.Boards.{failed}
use Rattle.txg_engine.specs.Logs.{IsReady}
use Rattle.txg_engine.proofs.Ready.{counted_ready, board_ready, same_board}
use Rattle.txg_engine.proofs.fails.fail.Goals as goal

pub leave-requires-clause-ready : goal.leave-requires-clause-ready
leave-requires-clause-ready c =
    subst (λ (seats : List Seat). All (IsReady seats c.args.numbers.last.0) (leaves_of c.count_failed_write.new.tops)) (sym c.count_fault.ensures)
    (board_ready c.args.board.now (map (failed c.args.member) c.args.board.now) c.args.numbers.last.0 (leaves_of c.count_failed_write.new.tops)
    (λ x. same_board c.args.member x c.args.board.now)
    (counted_ready c.args.board.now c.args.numbers.last.0 c.args.member (leaves_of c.args.tops.now) (leaves_of c.count_failed_write.new.tops) c.count_failed_write.ensures.leaves c.requires.ready))
