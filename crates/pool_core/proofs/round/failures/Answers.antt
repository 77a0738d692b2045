use Rattle.std.proofs.Common.{rules, tests, ◌∙◌}
use Rattle.std.specs.Prelude.{not}
use Rattle.std.proofs.lemmas.Iterator.{YieldsList-from_slice}
use Rattle.std.proofs.lemmas.Iterator.Consumers.{count_from_yields_List, YieldsList-from_filter}
use Rattle.pool_core.proofs.Ending.{failures_are}
use Rattle.pool_core.proofs.round.failures.Goals as goal

pub returns : goal.returns
returns c =
    count_from_yields_List c.filter.result c.count.result c.count.ensures.ran
    (YieldsList-from_filter _ not (YieldsList-from_slice c.args.stayed.now cc) c.filter.ensures.closure (λ x r q k. search (rules, tests)))
    ∙ failures_are c.args.stayed.now
