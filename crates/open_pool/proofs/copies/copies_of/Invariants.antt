use Rattle.std.proofs.Common.{◌≡◌, ◌≤◌, length, take}
use Rattle.vdev_tree.specs.Tree.{leaves}
use Rattle.open_pool.specs.Copies.{copies_on}
use Rattle.open_pool.proofs.copies.copies_of.Given as goal

abbrev pub invariant-loop-place : goal.invariant-loop-place
invariant-loop-place l = record {
  copies : l.copies ≡ copies_on l.birth.0 (take l.place (leaves l.top.mirror));
  inside : l.place ≤ length (leaves l.top.mirror);
}
