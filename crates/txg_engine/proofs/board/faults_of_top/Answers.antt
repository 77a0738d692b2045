use Rattle.std.proofs.Common.{◌∙◌}
use Rattle.txg_engine.proofs.Seating.{faults_more}
use Rattle.txg_engine.proofs.board.faults_of_top.Goals as goal

pub loop-seat-preserved : goal.loop-seat-preserved
loop-seat-preserved c =
    c.with_faults-faults.ensures
    ∙ faults_more c.args.top c.loop-seat.seat-index c.args.seats.now _ c.loop-seat.faults c.loop-seat-test.true c.loop-seat.invariant
