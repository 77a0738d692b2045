use Rattle.host_machine.specs.Tracking.{Takes}
use Rattle.host_machine.proofs.EachLine.{line_follows}
use Rattle.host_machine.proofs.laws.lines_follow_each_pool.Goals as goal

pub returns : goal.returns
returns c = record { line = λ p h entry made next whole fit all step. line_follows (Takes p.name h entry.asked made) p h next entry made (λ d taken. taken) fit all step.step }
