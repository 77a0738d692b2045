use Rattle.dtl_rules.specs.Widening.{leaves_of}
use Rattle.txg_engine.proofs.FewRanges.{fitted}
use Rattle.txg_engine.proofs.changes.change_and_fit.Goals as goal

pub returns-clause-leaves : goal.returns-clause-leaves
returns-clause-leaves g c = record {
  grown = leaves_of c.change_tops.new.tops;
  grow = c.change_tops.ensures.leaves;
  counted = c.fit.ensures.counted;
  widened = c.fit.ensures.widened;
  small = fitted c.change_tops.new.tops c.fit.new.tops c.fit.ensures.built c.fit.ensures.small;
}
