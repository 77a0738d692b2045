use Rattle.dtl_rules.specs.Widening.{leaves_of}
use Rattle.dtl_rules.proofs.Widened.{largest_found}
use Rattle.dtl_rules.proofs.widening.widen_largest.Goals as goal

pub returns-clause-widens : goal.returns-clause-widens
returns-clause-widens c =
    largest_found c.widen_first_of.result c.args.most (leaves_of c.args.tops.now) (leaves_of c.widen_first_of.new.tops) c.requires.most c.requires.several
    c.widen_first_of.ensures.found c.widen_first_of.ensures.none
