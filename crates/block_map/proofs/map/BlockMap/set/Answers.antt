use Rattle.std.proofs.Common.{arith}
use Rattle.block_map.proofs.PointersChanged.{set_kept, set_is}
use Rattle.block_map.proofs.map.BlockMap.set.Goals as goal

pub invariant_of-self : goal.invariant_of-self
invariant_of-self c =
    set_kept c.self.inside.blocks c.self.inside.sectors.items c.self.inside.pointers.items c.self.inside.free c.self.inside.pinned c.self.inside.opened c.self.invariant
    c.args.key (rw (← c.self.view_is) at c.requires.key) c.args.pointer (rw (← c.self.view_is) at c.requires.pointer) (record { birth = omega arith; top = omega arith; sector = omega arith; sum = search }) _ c.key_number-at.ensures.value

pub returns : goal.returns
returns c = rw (← c.self.view_is)
    (set_is c.self.inside.blocks c.self.inside.sectors.items c.self.inside.pointers.items c.self.inside.free c.self.inside.pinned c.self.inside.opened c.self.invariant
    c.args.key (rw (← c.self.view_is) at c.requires.key) c.args.pointer (rw (← c.self.view_is) at c.requires.pointer) (record { birth = omega arith; top = omega arith; sector = omega arith; sum = search }) _ c.key_number-at.ensures.value)
