use Rattle.host_machine.proofs.Bearing.{create_begins}
use Rattle.host_machine.proofs.laws.creates_begin_a_pool.Goals as goal

pub returns : goal.returns
returns c = record { begins = create_begins }
