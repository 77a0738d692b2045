use Rattle.std.proofs.Common.{◌≡◌, ℕ, take}
use Rattle.std.specs.List.{list_any, flat_map}
use Rattle.group_set.specs.Groups.{holds}
use Rattle.vdev_tree.specs.Tree.{leaves}
use Rattle.dtl_rules.specs.Rules.{owes}
use Rattle.dtl_rules.proofs.logs.+partial.Given as goal

abbrev pub invariant-loop-child : goal.invariant-loop-child
invariant-loop-child l = (g : ℕ) → holds l.all g ≡ list_any (λ leaf. owes leaf g) (flat_map leaves (take l.child-index l.child-items))
