use Rattle.std.proofs.Common.{get_or, refl}
use Rattle.mp_base.specs.declared.range.GroupRange.{GroupRange}
use Rattle.pool_lines.specs.Text.{range_text}
use Rattle.pool_lines.proofs.Texts.{commas_more}
use Rattle.pool_lines.proofs.logs.write_ranges.Goals as goal

pub loop-at-preserved : goal.loop-at-preserved
loop-at-preserved c =
    let none : GroupRange = record { low = record { 0 = 0 }; high = record { 0 = 0 } } in
    rw (c.in_ok-extend_from_slice.ensures.items, c.deref.ensures.value, c.in_ok-shown.ensures)
    (commas_more range_text c.args.ranges.now c.loop-at.at none (get_or c.args.ranges.now c.loop-at.at none)
    c.loop-at.text.items c.push_comma.new.text.items c.loop-at-test.true refl c.loop-at.invariant c.in_ok-push_comma.ensures)
