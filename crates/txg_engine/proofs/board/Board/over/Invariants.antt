use Rattle.std.proofs.Common.{◌≡◌, ◌++◌, drop}
use Rattle.txg_engine.specs.Boards.{seats_of}
use Rattle.txg_engine.proofs.board.Board.over.Given as goal

abbrev pub invariant-loop-i : goal.invariant-loop-i
invariant-loop-i l = l.seats.items ++ seats_of l.i (drop l.i l.tops) ≡ seats_of 0 l.tops
