use Rattle.std.proofs.Common.{◌≡◌, false, List, take}
use Rattle.std.specs.List.{list_any, AllZip}
use Rattle.vdev_tree.specs.Children.{Child, IsChild}
use Rattle.vdev_tree.specs.Edits.{allows}
use Rattle.vdev_tree.proofs.seat.first_that_allows.Given as goal

abbrev pub invariant-loop-i : goal.invariant-loop-i
invariant-loop-i l = (cs : List Child) → AllZip IsChild l.children cs → list_any (allows l.edit l.at) (take l.i cs) ≡ false
