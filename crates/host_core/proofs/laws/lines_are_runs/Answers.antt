use Rattle.host_core.proofs.LinesAreRuns.{host_begins, one_more_line, lines_make, lines_run, lines_stand}
use Rattle.host_core.proofs.laws.lines_are_runs.Goals as goal

pub returns : goal.returns
returns c = record { begins = host_begins; more = one_more_line; calls = lines_make; stands = lines_stand; run = lines_run }
