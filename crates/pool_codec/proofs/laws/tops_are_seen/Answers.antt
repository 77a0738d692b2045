use Rattle.pool_codec.proofs.LeavesKept.{vdevs_seen, sectors_seen}
use Rattle.pool_codec.proofs.laws.tops_are_seen.Goals as goal

pub returns-clause-vdevs : goal.returns-clause-vdevs
returns-clause-vdevs c = vdevs_seen

pub returns-clause-sectors : goal.returns-clause-sectors
returns-clause-sectors c = sectors_seen
