use Rattle.label_store.proofs.Openings.{none_configured}
use Rattle.label_store.proofs.opening.newer_record.Goals as goal

pub returns-in-None-2-clause-none : goal.returns-in-None-2-clause-none
returns-in-None-2-clause-none g c =
    none_configured g.R.BlobRule.head_of c.args.parts.now c.args.name.now c.args.place c.args.above c.in-Some.u c.in-Some.ensures.exact
    (rw c.in-None-2.is at c.in_ok-config_in.ensures.none)
