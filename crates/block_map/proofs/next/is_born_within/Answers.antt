use Rattle.std.proofs.Common.{◌∙◌, sym, ap, not}
use Rattle.block_map.proofs.BornKeys.{within_hole, within_other}
use Rattle.block_map.proofs.next.is_born_within.Goals as goal

pub returns-then-not-is_hole : goal.returns-then-not-is_hole
returns-then-not-is_hole c = within_other c.args.hi.0 c.args.pointer.now (sym c.is_hole.ensures ∙ c.if-not-is_hole.true)

pub returns-else-not-is_hole : goal.returns-else-not-is_hole
returns-else-not-is_hole c = ap not c.if-not-is_hole.false ∙ within_hole c.args.hi.0 c.args.pointer.now (sym c.is_hole.ensures ∙ c.if-not-is_hole.false)
