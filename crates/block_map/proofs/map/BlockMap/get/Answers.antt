use Rattle.std.proofs.Common.{sym, ap, ◌∙◌}
use Rattle.std.proofs.lemmas.Bool.{eqb-true}
use Rattle.block_map.proofs.PointersChanged.{got, read_is, no_birth, written_none, written_some}
use Rattle.block_map.proofs.map.BlockMap.get.Goals as goal

pub returns-then-is_hole-clause-pointer : goal.returns-then-is_hole-clause-pointer
returns-then-is_hole-clause-pointer c = rw (← c.self.view_is)
    (written_none c.index.result.now (sym c.is_hole.ensures ∙ c.if-is_hole.true)
    ∙ got (record { blocks = c.self.inside.blocks; sectors = c.self.inside.sectors.items; pointers = c.self.inside.pointers.items; free = c.self.inside.free; pinned = c.self.inside.pinned; count = c.self.inside.opened.count }) c.args.key c.key_number.result c.index.result.now (rw (← c.self.view_is) at c.requires) c.key_number.ensures.value (rw c.self.invariant.slots c.key_number.ensures.inside) c.index.ensures)

pub returns-else-is_hole-clause-pointer : goal.returns-else-is_hole-clause-pointer
returns-else-is_hole-clause-pointer c = rw (← c.self.view_is)
    (written_some c.index.result.now (sym c.is_hole.ensures ∙ c.if-is_hole.false)
    ∙ got (record { blocks = c.self.inside.blocks; sectors = c.self.inside.sectors.items; pointers = c.self.inside.pointers.items; free = c.self.inside.free; pinned = c.self.inside.pinned; count = c.self.inside.opened.count }) c.args.key c.key_number.result c.index.result.now (rw (← c.self.view_is) at c.requires) c.key_number.ensures.value (rw c.self.invariant.slots c.key_number.ensures.inside) c.index.ensures)

pub returns-then-is_hole-clause-hole : goal.returns-then-is_hole-clause-hole
returns-then-is_hole-clause-hole c = rw (← c.self.view_is)
    (no_birth (record { blocks = c.self.inside.blocks; sectors = c.self.inside.sectors.items; pointers = c.self.inside.pointers.items; free = c.self.inside.free; pinned = c.self.inside.pinned; count = c.self.inside.opened.count }) c.self.inside.opened c.self.invariant c.args.key (rw (← c.self.view_is) at c.requires)
    (sym (ap (λ p. p.birth.0) (read_is (record { blocks = c.self.inside.blocks; sectors = c.self.inside.sectors.items; pointers = c.self.inside.pointers.items; free = c.self.inside.free; pinned = c.self.inside.pinned; count = c.self.inside.opened.count }) c.args.key c.key_number.result c.index.result.now
    (rw (← c.self.view_is) at c.requires) c.key_number.ensures.value (rw c.self.invariant.slots c.key_number.ensures.inside) c.index.ensures))
    ∙ eqb-true _ _ (sym c.is_hole.ensures ∙ c.if-is_hole.true)))
