use Rattle.std.proofs.Common.{◌≡◌, ◌-◌, ◌^◌, min, take}
use Rattle.txg_engine.specs.Boards.{faults_under}
use Rattle.txg_engine.proofs.board.faults_of_top.Given as goal

abbrev pub invariant-loop-seat : goal.invariant-loop-seat
invariant-loop-seat l = l.faults ≡ min (2 ^ 64 - 1) (faults_under l.top (take l.seat-index l.seats))
