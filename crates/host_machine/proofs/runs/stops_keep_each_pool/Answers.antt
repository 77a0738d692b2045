use Rattle.host_machine.proofs.Running.{next_run}
use Rattle.host_machine.proofs.runs.stops_keep_each_pool.Goals as goal

pub returns : goal.returns
returns c = record { next_run = next_run }
