use Rattle.std.proofs.Common.{◌≡◌, ◌≤◌, ◌++◌, length, take}
use Rattle.vdev_tree.specs.Tree.{leaves}
use Rattle.open_pool.specs.Scanning.{scan_leaves}
use Rattle.open_pool.proofs.scan.push_under.Given as goal

abbrev pub invariant-loop-place : goal.invariant-loop-place
invariant-loop-place l = record {
  seats : l.list ≡ l.initial.list ++ scan_leaves (take l.place (leaves l.top.mirror));
  inside : l.place ≤ length (leaves l.top.mirror);
}
