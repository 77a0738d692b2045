use Rattle.std.proofs.Common.{◌≡◌, ◌-◌, ◌^◌, min, All, take}
use Rattle.dtl_rules.specs.Widening.{leaves_of, total_ranges, most_ranges, IsCounted}
use Rattle.dtl_rules.proofs.widening.tally_of_all.Given as goal

abbrev pub invariant-loop-top : goal.invariant-loop-top
invariant-loop-top l = record {
  total : l.tally.total ≡ min (2 ^ 64 - 1) (total_ranges (leaves_of (take l.top-index l.tops)));
  most : l.tally.most ≡ most_ranges (leaves_of (take l.top-index l.tops));
  counted : All IsCounted (leaves_of (take l.top-index l.tops));
}
