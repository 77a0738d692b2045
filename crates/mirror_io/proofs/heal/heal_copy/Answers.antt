use Rattle.std.proofs.Common.{false, refl, sym, ◌∙◌}
use Rattle.bank_core.proofs.Blocks.{block_whole, block_inside}
use Rattle.mirror_io.proofs.Healing.{healed}
use Rattle.mirror_io.proofs.Showing.{due_readable}
use Rattle.mirror_io.proofs.heal.heal_copy.Goals as goal

pub write-requires-clause-whole : goal.write-requires-clause-whole
write-requires-clause-whole g c = block_whole c.args.block.now c.requires.block

pub write-requires-clause-inside : goal.write-requires-clause-inside
write-requires-clause-inside g c = block_inside c.args.block.now c.args.at _ c.requires.block
    (c.requires.within (due_readable false c.args.copy (sym c.is_due.ensures ∙ c.if-not-is_due.false)))

pub returns-in-Ok : goal.returns-in-Ok
returns-in-Ok g c =
    healed (sym c.is_due.ensures ∙ c.if-not-is_due.false) (sym c.is_mismatch.ensures ∙ c.if-not-is_mismatch.false) refl c.in-Ok.ensures

pub returns-in-Err : goal.returns-in-Err
returns-in-Err g c =
    healed (sym c.is_due.ensures ∙ c.if-not-is_due.false) (sym c.is_mismatch.ensures ∙ c.if-not-is_mismatch.false) refl c.in-Err.ensures
