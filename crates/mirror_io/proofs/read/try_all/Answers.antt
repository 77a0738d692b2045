use Rattle.std.specs.List.{filter}
use Rattle.mirror_io.specs.Copies.{is_due}
use Rattle.std.proofs.Common.{true}
use Rattle.mirror_io.proofs.Trying.{tries_more, tries_stop}
use Rattle.mirror_io.proofs.read.try_all.Goals as goal

pub returns-then-try_due-clause-tries : goal.returns-then-try_due-clause-tries
returns-then-try_due-clause-tries g c = tries_stop (filter (is_due true) c.args.copies.now) c.if-try_due.ensures.tries

pub returns-clause-tries : goal.returns-clause-tries
returns-clause-tries g c =
    tries_more c.if-try_due.ensures.tries (rw (c.try_due.ensures.unchanged c.if-try_due.false) at c.try_due-2.ensures.tries)
