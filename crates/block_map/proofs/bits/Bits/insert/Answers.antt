use Rattle.block_map.proofs.Bitmaps.{holds_set, holds_set_other}
use Rattle.block_map.proofs.bits.Bits.insert.Goals as goal

pub returns-clause-there : goal.returns-clause-there
returns-clause-there c = holds_set c.self.inside.words.items c.args.at _ (rw (← c.self.view_is) at c.requires)

pub returns-clause-others : goal.returns-clause-others
returns-clause-others c = rw (← c.self.view_is) (holds_set_other c.self.inside.words.items c.args.at _ c.index_mut.ensures.value (rw (← c.self.view_is) at c.requires))
