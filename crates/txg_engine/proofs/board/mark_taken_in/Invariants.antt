use Rattle.std.proofs.Common.{◌≡◌, ◌++◌, map, take, drop}
use Rattle.txg_engine.specs.Boards.{as_taken}
use Rattle.txg_engine.proofs.board.mark_taken_in.Given as goal

abbrev pub invariant-loop-i : goal.invariant-loop-i
invariant-loop-i l = l.seats.items ≡ map (as_taken l.member) (take l.i l.initial.seats.items) ++ drop l.i l.initial.seats.items
