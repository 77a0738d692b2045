use Rattle.block_map.proofs.Bitmaps.{some_is}
use Rattle.block_map.proofs.bits.Bits.has_some.Goals as goal

pub returns : goal.returns
returns c = rw (← c.self.view_is) (some_is c.self.inside.words.items c.args.word _ c.index.ensures (rw (← c.self.view_is) at c.requires))
