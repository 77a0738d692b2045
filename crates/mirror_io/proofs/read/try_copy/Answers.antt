use Rattle.std.proofs.Common.{sym, ◌∙◌}
use Rattle.mirror_io.proofs.Trying.{not_due, due}
use Rattle.mirror_io.proofs.read.try_copy.Goals as goal

pub returns-then-not-is_due-clause-tries : goal.returns-then-not-is_due-clause-tries
returns-then-not-is_due-clause-tries g c = not_due (sym c.is_due.ensures ∙ c.if-not-is_due.true)

pub returns-clause-tries : goal.returns-clause-tries
returns-clause-tries g c = due c.is_good.result (sym c.is_due.ensures ∙ c.if-not-is_due.false) c.is_good.ensures c.read_copy.ensures.read
