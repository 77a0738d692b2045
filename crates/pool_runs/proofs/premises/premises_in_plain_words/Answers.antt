use Rattle.pool_runs.proofs.LabelsKeepUp.{labels_keep_up}
use Rattle.pool_runs.proofs.PlainPremises.{premises_met, premises_at}
use Rattle.pool_runs.proofs.StraysOverRuns.{passed_by, none_passed, newest_none}
use Rattle.pool_runs.proofs.premises.premises_in_plain_words.Goals as goal

pub returns : goal.returns
returns k = record { labels = labels_keep_up; missed = passed_by; strays = none_passed; newest = newest_none; premises = premises_met; moments = premises_at }
