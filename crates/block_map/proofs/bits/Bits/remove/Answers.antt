use Rattle.block_map.proofs.Bitmaps.{holds_cleared, holds_cleared_other}
use Rattle.block_map.proofs.bits.Bits.remove.Goals as goal

pub returns-clause-gone : goal.returns-clause-gone
returns-clause-gone c = holds_cleared c.self.inside.words.items c.args.at _ (rw (← c.self.view_is) at c.requires)

pub returns-clause-others : goal.returns-clause-others
returns-clause-others c = rw (← c.self.view_is) (holds_cleared_other c.self.inside.words.items c.args.at _ c.index_mut.ensures.value (rw (← c.self.view_is) at c.requires))
