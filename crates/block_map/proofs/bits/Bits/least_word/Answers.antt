use Rattle.std.proofs.Common.{arith, ap}
use Rattle.std.proofs.Common.{length}
use Rattle.block_map.proofs.Bitmaps.{no_word_upto}
use Rattle.block_map.proofs.bits.Bits.least_word.Goals as goal

pub returns-clause-none : goal.returns-clause-none
returns-clause-none c = no_word_upto c.args.self.now c.args.from c.loop-word.word (omega (arith, c.self.inside.words.ok.0, ap length c.self.view_is)) c.loop-word.invariant
