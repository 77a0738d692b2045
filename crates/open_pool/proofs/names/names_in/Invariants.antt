use Rattle.std.proofs.Common.{◌≡◌, ◌≤◌, length, map, take}
use Rattle.vdev_tree.specs.Tree.{leaves}
use Rattle.open_pool.proofs.names.names_in.Given as goal

abbrev pub invariant-loop-place : goal.invariant-loop-place
invariant-loop-place l = record {
  names : l.names.items ≡ map (λ leaf. leaf.name) (take l.place (leaves l.top.mirror));
  inside : l.place ≤ length (leaves l.top.mirror);
}
