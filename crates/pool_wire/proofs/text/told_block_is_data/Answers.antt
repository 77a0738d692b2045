use Rattle.pool_wire.proofs.Texts.{told_again}
use Rattle.pool_wire.proofs.text.told_block_is_data.Goals as goal

pub returns : goal.returns
returns c = told_again
