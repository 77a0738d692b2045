use Rattle.std.proofs.Common.{arith}
use Rattle.block_map.proofs.Bitmaps.{least_in_word}
use Rattle.block_map.proofs.bits.Bits.least_in.Goals as goal

pub returns : goal.returns
returns c = rw (← c.self.view_is) (least_in_word c.self.inside.words.items c.args.word _ c.index-bits.ensures (rw (← c.self.view_is) at c.requires.inside) (omega arith) (rw (← c.self.view_is) at c.requires.some))
