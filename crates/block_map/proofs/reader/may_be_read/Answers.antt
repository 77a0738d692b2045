use Rattle.std.proofs.Common.{◌<◌, arith, length}
use Rattle.std.proofs.lemmas.List.{get_or_default}
use Rattle.block_map.specs.Pointers.{hole}
use Rattle.block_map.proofs.ReadPages.{one_looked}
use Rattle.block_map.proofs.reader.may_be_read.Goals as goal

pub loop-j-preserved : goal.loop-j-preserved
loop-j-preserved c =
    let lt : c.loop-j.j < length c.args.pointers.now = omega arith in
    one_looked c.args.map.now c.args.number.0 c.args.page c.args.pointers.now c.loop-j.j c.loop-j.some c.is_hole.result c.loop-j.invariant
    (c.may_stand.ensures.yes c.if-not-may_stand.false) (rw (get_or_default c.args.pointers.now c.loop-j.j _ hole lt) at c.is_hole.ensures)
