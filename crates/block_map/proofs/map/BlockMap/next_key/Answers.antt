use Rattle.block_map.proofs.BornKeys.{none_behind, next_found}
use Rattle.block_map.proofs.map.BlockMap.next_key.Goals as goal

pub returns-in_err-at-clause-none : goal.returns-in_err-at-clause-none
returns-in_err-at-clause-none c = rw (c.from_residual.ensures, ← c.self.view_is)
    (none_behind (record { blocks = c.self.inside.blocks; sectors = c.self.inside.sectors.items; pointers = c.self.inside.pointers.items; free = c.self.inside.free; pinned = c.self.inside.pinned; count = c.self.inside.opened.count })
    c.self.inside.opened c.self.invariant c.args.after (rw (← c.self.view_is) at c.requires) c.args.hi.0 (rw (c.number_behind-from.ensures, c.deref.ensures.value) at c.in_err-at.ensures.none))

pub returns-clause-next : goal.returns-clause-next
returns-clause-next c = rw (← c.self.view_is)
    (next_found (record { blocks = c.self.inside.blocks; sectors = c.self.inside.sectors.items; pointers = c.self.inside.pointers.items; free = c.self.inside.free; pinned = c.self.inside.pinned; count = c.self.inside.opened.count })
    c.self.inside.opened c.self.invariant c.args.after (rw (← c.self.view_is) at c.requires) c.args.hi.0 c.in_ok-at.at (rw (c.number_behind-from.ensures, c.deref.ensures.value) at c.in_ok-at.ensures.next)
    c.key_at.result c.key_at.ensures.level c.key_at.ensures.number c.key_at.ensures.part)
