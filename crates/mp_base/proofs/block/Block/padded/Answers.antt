use Rattle.std.proofs.Common.{rules}
use Rattle.mp_base.proofs.Blocks.{filled}
use Rattle.mp_base.proofs.block.Block.padded.Goals as goal

pub returns : goal.returns
returns c = filled c.args.bytes.now c.in_ok-all.all.items _ _ (search rules) c.in_ok-all.ensures.items c.in_ok-all.ensures.len c.in_ok-resize.ensures.items
