use Rattle.std.proofs.Common.{◌≡◌, All}
use Rattle.dtl_rules.specs.Widening.{leaves_of, marks_of, sectors_of, total_ranges, IsCounted, Widenings}
use Rattle.dtl_rules.proofs.widening.fit.Given as goal

abbrev pub invariant-loop-tally : goal.invariant-loop-tally
invariant-loop-tally l = record {
  widened : Widenings (leaves_of l.initial.tops) (leaves_of l.tops);
  counted : All IsCounted (leaves_of l.tops) → All IsCounted (leaves_of l.initial.tops);
  built : marks_of l.tops ≡ marks_of l.initial.tops;
  sectors : sectors_of l.tops ≡ sectors_of l.initial.tops;
}

abbrev pub decreases-loop-tally : goal.decreases-loop-tally
decreases-loop-tally l = total_ranges (leaves_of l.tops)
