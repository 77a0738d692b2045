use Rattle.mirror_io.proofs.Answering.{none_read, one_read, one_good, missed_causes, served_causes}
use Rattle.mirror_io.proofs.Reading.{tried_good}
use Rattle.mirror_io.specs.Copies.{tries}
use Rattle.mirror_io.proofs.read.read_good.Goals as goal

pub returns-then-not-try_all-clause-read : goal.returns-then-not-try_all-clause-read
returns-then-not-try_all-clause-read g c = none_read c.clear_seen.ensures c.if-not-try_all.ensures.tries

pub returns-then-not-try_all-clause-causes : goal.returns-then-not-try_all-clause-causes
returns-then-not-try_all-clause-causes g c = missed_causes (none_read c.clear_seen.ensures c.if-not-try_all.ensures.tries)

pub returns-clause-read : goal.returns-clause-read
returns-clause-read g c = one_read c.requires.apart c.clear_seen.ensures c.if-not-try_all.ensures.tries c.heal_all.ensures

pub returns-clause-taken : goal.returns-clause-taken
returns-clause-taken g c =
    let t = c.if-not-try_all.ensures.tries in
    tried_good c.args.at (g.J.Judge.Good c.args.judge.now) (tries c.args.copies.now) t.made t.wrong c.try_all.new.out t.is_tried

pub returns-clause-good : goal.returns-clause-good
returns-clause-good g c =
    one_good c.requires.apart (one_read c.requires.apart c.clear_seen.ensures c.if-not-try_all.ensures.tries c.heal_all.ensures)

pub returns-clause-causes : goal.returns-clause-causes
returns-clause-causes g c =
    served_causes c.requires.apart (one_read c.requires.apart c.clear_seen.ensures c.if-not-try_all.ensures.tries c.heal_all.ensures)
