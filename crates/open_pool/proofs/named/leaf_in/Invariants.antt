use Rattle.std.specs.Prelude.{◌≡◌, None, take}
use Rattle.std.specs.List.{find}
use Rattle.vdev_tree.specs.Tree.{leaves, is_named}
use Rattle.open_pool.proofs.named.leaf_in.Given as goal

abbrev pub invariant-loop-place : goal.invariant-loop-place
invariant-loop-place l = find (is_named l.name) (take l.place (leaves l.top.mirror)) ≡ None
