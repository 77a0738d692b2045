use Rattle.std.proofs.Common.{length, ap, arith}
use Rattle.pool_core.proofs.Growing.{seat_more}
use Rattle.pool_core.proofs.pair.Pair.board.Goals as goal

pub push_seat-requires-2 : goal.push_seat-requires-2
push_seat-requires-2 c = omega (arith, seat_more c.first.result.now c.new-board.result c.push_seat.new.board c.push_seat.ensures, ap length c.new-board.ensures)
