use Rattle.mirror_io.proofs.SumReads.{block_read}
use Rattle.mirror_io.proofs.read.read_block.Goals as goal

pub returns-clause-read : goal.returns-clause-read
returns-clause-read g c = block_read c.read_good.ensures.read
