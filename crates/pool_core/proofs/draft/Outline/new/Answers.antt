use Rattle.pool_core.proofs.Outlining.{outlined}
use Rattle.pool_core.proofs.draft.Outline.new.Goals as goal

pub returns : goal.returns
returns c = record {
  first = outlined c.args.pair.now.first c.first.result.now c.in_ok-to_ranges.field-0 c.first.ensures c.in_ok-to_ranges.ensures.ranges;
  second = outlined c.args.pair.now.second c.second.result.now c.in_ok-to_ranges-2.field-0 c.second.ensures c.in_ok-to_ranges-2.ensures.ranges;
}
