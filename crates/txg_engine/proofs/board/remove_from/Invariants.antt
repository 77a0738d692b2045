use Rattle.std.proofs.Common.{◌≡◌, ◌++◌, map, take, drop}
use Rattle.txg_engine.specs.Boards.{without}
use Rattle.txg_engine.proofs.board.remove_from.Given as goal

abbrev pub invariant-loop-i : goal.invariant-loop-i
invariant-loop-i l = l.seats.items ≡ map (without l.member) (take l.i l.initial.seats.items) ++ drop l.i l.initial.seats.items
