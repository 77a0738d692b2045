use Rattle.std.proofs.Common.{◌∙◌, sym}
use Rattle.block_map.proofs.CountedPlaces.{they_are_counted}
use Rattle.block_map.proofs.PointersFit.{pointer_fits, pointer_in_form}
use Rattle.block_map.proofs.map.BlockMap.keeps_its_form.Goals as goal

pub returns-clause-pointers : goal.returns-clause-pointers
returns-clause-pointers c = rw (← c.self.view_is) (pointer_fits (record { blocks = c.self.inside.blocks; sectors = c.self.inside.sectors.items; pointers = c.self.inside.pointers.items; free = c.self.inside.free; pinned = c.self.inside.pinned; count = c.self.inside.opened.count }) c.self.inside.opened c.self.invariant)

pub returns-clause-form : goal.returns-clause-form
returns-clause-form c = rw (← c.self.view_is) (pointer_in_form (record { blocks = c.self.inside.blocks; sectors = c.self.inside.sectors.items; pointers = c.self.inside.pointers.items; free = c.self.inside.free; pinned = c.self.inside.pinned; count = c.self.inside.opened.count }) c.self.inside.opened c.self.invariant)

pub returns-clause-counted : goal.returns-clause-counted
returns-clause-counted c = rw (← c.self.view_is)
    (they_are_counted (record { blocks = c.self.inside.blocks; sectors = c.self.inside.sectors.items; pointers = c.self.inside.pointers.items; free = c.self.inside.free; pinned = c.self.inside.pinned; count = c.self.inside.opened.count }) c.self.inside.opened c.self.invariant (sym c.count.ensures.count ∙ c.count.ensures.counted))
