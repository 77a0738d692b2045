use Rattle.std.proofs.Common.{◌≡◌, ℕ, take}
use Rattle.std.specs.List.{flat_map}
use Rattle.vdev_tree.specs.Tree.{leaves}
use Rattle.dtl_rules.specs.Logs.{in_extent}
use Rattle.dtl_rules.specs.Rules.{outage_of}
use Rattle.dtl_rules.proofs.logs.+outage.Given as goal

abbrev pub invariant-loop-child : goal.invariant-loop-child
invariant-loop-child l = (g : ℕ) → in_extent l.all g ≡ outage_of (flat_map leaves (take l.child-index l.child-items)) g
