use Rattle.pool_runs.proofs.SmallRuns.{small_runs, small_fair, small_stops}
use Rattle.pool_runs.proofs.SmallRunsMeetPremises.{small_keeps_up, small_premises}
use Rattle.pool_runs.proofs.laws.small_runs_are_runs.Goals as goal

pub returns : goal.returns
returns k = record { run = small_runs; fair = small_fair; stops = small_stops; keeps_up = small_keeps_up; premises = small_premises }
