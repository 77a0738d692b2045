use Rattle.host_machine.specs.Tracking.{Takes}
use Rattle.host_machine.proofs.Cutting.{line_cut, born_cut}
use Rattle.host_machine.proofs.stops.stops_may_come_within_a_line.Goals as goal

pub returns-clause-line : goal.returns-clause-line
returns-clause-line c = λ p h entry made next f. line_cut (Takes p.name h entry.asked made) p h made next f

pub returns-clause-born : goal.returns-clause-born
returns-clause-born c = born_cut
