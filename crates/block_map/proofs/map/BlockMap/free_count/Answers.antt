use Rattle.std.proofs.Common.{◌∙◌, sym}
use Rattle.block_map.proofs.CountedPlaces.{they_are_counted}
use Rattle.block_map.proofs.map.BlockMap.free_count.Goals as goal

pub returns-clause-places : goal.returns-clause-places
returns-clause-places c = rw (c.count.ensures.count, ← c.self.view_is)
    (they_are_counted (record { blocks = c.self.inside.blocks; sectors = c.self.inside.sectors.items; pointers = c.self.inside.pointers.items; free = c.self.inside.free; pinned = c.self.inside.pinned; count = c.self.inside.opened.count }) c.self.inside.opened c.self.invariant (sym c.count.ensures.count ∙ c.count.ensures.counted))
