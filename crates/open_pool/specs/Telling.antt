-- What `logs` tells of leaves.
use Rattle.std.specs.Prelude.{◌^◌, List, map}
use Rattle.mp_base.specs.Ranges.{Rises}
use Rattle.group_set.specs.Groups.{holds}
use Rattle.group_set.specs.Ranges.{in_ranges}
use Rattle.vdev_tree.specs.declared.vdev.LeafVdev.{LeafVdev}
use Rattle.pool_moves.specs.CommitRows.{NamedLog}
use Rattle.open_pool.specs.declared.logs.LeafLog.{LeafLog}

-- a leaf's name and log, and those that are told
abbrev pub log_of : LeafVdev → NamedLog
log_of leaf = record { name = leaf.name; owes = holds leaf.log }

abbrev pub log_told : LeafLog → NamedLog
log_told log = record { name = log.name; owes = in_ranges log.log }

abbrev pub logs_told : List LeafLog → List NamedLog
logs_told logs = map log_told logs

-- the ranges of a log rise, and no two of them touch
abbrev pub IsRising : LeafLog → Type 0
IsRising log = Rises 1 (2 ^ 62) log.log
