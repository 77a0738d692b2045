use Rattle.txg_history.proofs.ScansBring.{cleared_copied, groups_leave}
use Rattle.txg_history.proofs.scans.scans_clear_only_copied_groups.Goals as goal

pub returns : goal.returns
returns c = record { copied = cleared_copied; only = groups_leave }
