use Rattle.std.proofs.Common.{refl}
use Rattle.host_front.proofs.Seating.{new_seated}
use Rattle.host_front.proofs.host.Host.new.Goals as goal

pub returns-clause-seated : goal.returns-clause-seated
returns-clause-seated c = λ size sized apart. new_seated size sized apart refl
