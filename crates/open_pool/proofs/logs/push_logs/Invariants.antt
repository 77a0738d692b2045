use Rattle.std.proofs.Common.{◌≡◌, ◌≤◌, ◌++◌, length, map, take}
use Rattle.std.specs.Prelude.{All}
use Rattle.vdev_tree.specs.Tree.{leaves}
use Rattle.open_pool.specs.Telling.{IsRising, log_of, logs_told}
use Rattle.open_pool.proofs.logs.push_logs.Given as goal

abbrev pub invariant-loop-place : goal.invariant-loop-place
invariant-loop-place l = record {
  logs : logs_told l.logs.items ≡ logs_told l.initial.logs.items ++ map log_of (take l.place (leaves l.top.mirror));
  rise : All IsRising l.logs.items;
  inside : l.place ≤ length (leaves l.top.mirror);
}
