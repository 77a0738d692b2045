use Rattle.pool_lines.proofs.Texts.{told_again}
use Rattle.pool_lines.proofs.text.told_block_is_data.Goals as goal

pub returns : goal.returns
returns c = told_again
