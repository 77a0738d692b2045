use Rattle.std.proofs.Common.{◌≡◌, ◌≤◌, ◌++◌, length, take}
use Rattle.std.specs.List.{filter_map}
use Rattle.vdev_tree.specs.Tree.{leaves}
use Rattle.txg_engine.specs.Boards.{seat_of}
use Rattle.txg_engine.proofs.board.seat_all.Given as goal

abbrev pub invariant-loop-place : goal.invariant-loop-place
invariant-loop-place l = record {
  seats : l.seats.items ≡ l.initial.seats.items ++ filter_map (seat_of l.number) (take l.place (leaves l.top.mirror));
  inside : l.place ≤ length (leaves l.top.mirror);
}
