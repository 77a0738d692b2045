use Rattle.std.proofs.Common.{◌≡◌, ◌+◌, ◌-◌, ◌^◌, min, max, All, take}
use Rattle.std.specs.List.{flat_map}
use Rattle.vdev_tree.specs.Tree.{leaves}
use Rattle.dtl_rules.specs.Widening.{total_ranges, most_ranges, IsCounted}
use Rattle.dtl_rules.proofs.widening.+tally_with.Given as goal

abbrev pub invariant-loop-child : goal.invariant-loop-child
invariant-loop-child l = record {
  total : l.tally.total ≡ min (2 ^ 64 - 1) (l.fn.before.total + total_ranges (flat_map leaves (take l.child-index l.child-items)));
  most : l.tally.most ≡ max l.fn.before.most (most_ranges (flat_map leaves (take l.child-index l.child-items)));
  counted : All IsCounted (flat_map leaves (take l.child-index l.child-items));
}
