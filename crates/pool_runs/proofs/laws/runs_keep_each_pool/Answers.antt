use Rattle.pool_runs.proofs.Bearing.{born_headline}
use Rattle.pool_runs.proofs.Founding.{founds}
use Rattle.pool_runs.proofs.Heading.{first_headline}
use Rattle.pool_runs.proofs.Pasting.{next_begins, past_stranger}
use Rattle.pool_runs.proofs.laws.runs_keep_each_pool.Goals as goal

pub returns : goal.returns
returns k = record { first = first_headline; born = born_headline; made = founds; next = next_begins; strangers = past_stranger }
