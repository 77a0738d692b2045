use Rattle.std.proofs.Common.{true}
use Rattle.block_map.proofs.PlacesChanged.{number_in_room, free_kept, free_is}
use Rattle.block_map.proofs.map.BlockMap.give_place.Goals as goal

pub reopen-requires-clause-room : goal.reopen-requires-clause-room
reopen-requires-clause-room c =
    number_in_room c.self.inside.blocks c.self.inside.sectors.items c.self.inside.pointers.items c.self.inside.free c.self.inside.pinned c.self.inside.opened c.self.invariant _
    (rw (← c.self.view_is) at c.number-at.ensures.inside)

pub invariant_of-self : goal.invariant_of-self
invariant_of-self c =
    free_kept c.self.inside.blocks c.self.inside.sectors.items c.self.inside.pointers.items c.self.inside.free c.self.inside.pinned c.self.inside.opened c.self.invariant
    c.args.place (rw (← c.self.view_is) at c.requires) c.number-at.result (rw (← c.self.view_is) at c.number-at.ensures.value)
    c.insert.new.self c.reopen.new.opened c.insert.ensures.room c.insert.ensures.others c.reopen.ensures

pub returns : goal.returns
returns c = rw (← c.self.view_is)
    (free_is c.self.inside.blocks c.self.inside.sectors.items c.self.inside.pointers.items c.self.inside.free c.self.inside.pinned c.self.inside.opened c.self.invariant
    c.args.place (rw (← c.self.view_is) at c.requires) c.number-at.result (rw (← c.self.view_is) at c.number-at.ensures.value)
    true c.insert.new.self c.reopen.new.opened c.insert.ensures.room c.insert.ensures.others c.reopen.ensures c.insert.ensures.there)
