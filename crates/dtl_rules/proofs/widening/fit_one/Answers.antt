use Rattle.std.proofs.Common.{get_or, ap, ◌∙◌}
use Rattle.vdev_tree.specs.Tree.{marks}
use Rattle.dtl_rules.specs.Widening.{marks_of}
use Rattle.dtl_rules.proofs.Tops.{one_top, widened_one}
use Rattle.dtl_rules.proofs.widening.fit_one.Goals as goal

pub returns-clause-widened : goal.returns-clause-widened
returns-clause-widened c =
    let top = c.args.top.now in
    widened_one c.from_mut.result.now c.fit.new.tops top (get_or c.fit.new.tops 0 top) c.from_mut.ensures.value
    (one_top c.fit.new.tops top (marks top.mirror) (c.fit.ensures.built ∙ ap marks_of c.from_mut.ensures.value)) c.fit.ensures.widened
