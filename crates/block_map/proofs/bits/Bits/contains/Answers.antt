use Rattle.block_map.proofs.Bitmaps.{bit_is}
use Rattle.block_map.proofs.bits.Bits.contains.Goals as goal

pub returns : goal.returns
returns c = rw (← c.self.view_is) (bit_is c.self.inside.words.items c.args.at _ c.index.ensures (rw (← c.self.view_is) at c.requires))
