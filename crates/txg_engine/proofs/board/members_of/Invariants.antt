use Rattle.std.proofs.Common.{◌≡◌, ◌≤◌, length, take}
use Rattle.txg_engine.specs.Boards.{board_of}
use Rattle.txg_engine.proofs.board.members_of.Given as goal

abbrev pub invariant-loop-seat : goal.invariant-loop-seat
invariant-loop-seat l = record {
  members : l.members ≡ board_of (take l.seat-index l.seats);
  few : length l.members ≤ l.seat-index;
}
