use Rattle.mirror_io.proofs.Finding.{block_right, good_found}
use Rattle.mirror_io.proofs.laws.reads_give_the_block.Goals as goal

pub returns : goal.returns
returns c = record {
  right = block_right;
  found = good_found;
}
