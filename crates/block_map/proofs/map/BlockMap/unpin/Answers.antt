use Rattle.std.proofs.Common.{false}
use Rattle.block_map.proofs.PlacesChanged.{number_in_room, pinned_kept, pinned_is}
use Rattle.block_map.proofs.map.BlockMap.unpin.Goals as goal

pub reopen-requires-clause-room : goal.reopen-requires-clause-room
reopen-requires-clause-room c =
    number_in_room c.self.inside.blocks c.self.inside.sectors.items c.self.inside.pointers.items c.self.inside.free c.self.inside.pinned c.self.inside.opened c.self.invariant _
    (rw (← c.self.view_is) at c.number-at.ensures.inside)

pub invariant_of-self : goal.invariant_of-self
invariant_of-self c =
    pinned_kept c.self.inside.blocks c.self.inside.sectors.items c.self.inside.pointers.items c.self.inside.free c.self.inside.pinned c.self.inside.opened c.self.invariant
    c.args.place (rw (← c.self.view_is) at c.requires) c.number-at.result (rw (← c.self.view_is) at c.number-at.ensures.value)
    c.remove.new.self c.reopen.new.opened c.remove.ensures.room c.remove.ensures.others c.reopen.ensures

pub returns : goal.returns
returns c = rw (← c.self.view_is)
    (pinned_is c.self.inside.blocks c.self.inside.sectors.items c.self.inside.pointers.items c.self.inside.free c.self.inside.pinned c.self.inside.opened c.self.invariant
    c.args.place (rw (← c.self.view_is) at c.requires) c.number-at.result (rw (← c.self.view_is) at c.number-at.ensures.value)
    false c.remove.new.self c.reopen.new.opened c.remove.ensures.room c.remove.ensures.others c.reopen.ensures c.remove.ensures.gone)
