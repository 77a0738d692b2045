use Rattle.label_store.proofs.Openings.{not_newer}
use Rattle.label_store.proofs.opening.newer_at.Goals as goal

pub returns-in-Some-clause-exact : goal.returns-in-Some-clause-exact
returns-in-Some-clause-exact c = λ u at lt. c.in-Some.ensures.exact u at

pub returns-in-Some-2-clause-exact : goal.returns-in-Some-2-clause-exact
returns-in-Some-2-clause-exact c = λ u at lt. absurd (not_newer c.in-Some.u u c.args.above (c.in-Some.ensures.exact u at) c.if-above-u.false lt)

pub returns-in-None-clause-exact : goal.returns-in-None-clause-exact
returns-in-None-clause-exact c = λ u at lt. c.in-None.ensures.exact u at
