use Rattle.std.proofs.Common.{◌≡◌, false, List, take}
use Rattle.std.specs.List.{list_any, AllZip}
use Rattle.vdev_tree.specs.Children.{Child, IsChild}
use Rattle.open_pool.proofs.SpareLeaves.{stands_in}
use Rattle.open_pool.proofs.spares.is_spare_among.Given as goal

abbrev pub invariant-loop-child : goal.invariant-loop-child
invariant-loop-child l = (cs : List Child) → AllZip IsChild l.children cs → list_any (stands_in l.at) (take l.child-index cs) ≡ false
