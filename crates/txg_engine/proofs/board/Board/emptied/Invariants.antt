use Rattle.std.proofs.Common.{◌≡◌, ◌-◌}
use Rattle.txg_engine.specs.Boards.{emptied, emptied_from}
use Rattle.txg_engine.proofs.board.Board.emptied.Given as goal

abbrev pub invariant-loop-top : goal.invariant-loop-top
invariant-loop-top l = emptied_from l.top (l.tops - l.top) l.self ≡ emptied l.tops l.self
