use Rattle.std.proofs.Common.{take}
use Rattle.vdev_tree.specs.Tree.{leaves}
use Rattle.open_pool.specs.Scanning.{HasOwing}
use Rattle.open_pool.proofs.resilver.owes_under.Given as goal

abbrev pub invariant-loop-place : goal.invariant-loop-place
invariant-loop-place l = HasOwing (take l.place (leaves l.top.mirror)) → ⊥
