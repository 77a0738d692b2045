use Rattle.std.proofs.Common.{arith}
use Rattle.std.proofs.lemmas.List.{get_or_default}
use Rattle.block_map.specs.Pointers.{hole}
use Rattle.block_map.proofs.ReadPages.{one_read, page_fits}
use Rattle.block_map.proofs.reader.put_all.Goals as goal

pub child-requires-clause-page : goal.child-requires-clause-page
child-requires-clause-page c = page_fits c.args.map.now.blocks c.args.page c.requires.volume c.requires.page

pub put-requires-clause-pointer : goal.put-requires-clause-pointer
put-requires-clause-pointer c =
    rw (c.loop-j.invariant.volume.sectors, get_or_default c.args.pointers.now c.loop-j.j _ hole (omega arith)) (c.requires.each c.loop-j.j c.loop-j-test.true)

pub loop-j-preserved : goal.loop-j-preserved
loop-j-preserved c =
    one_read c.args.map.now c.loop-j.map c.put.new.map c.args.page c.args.pointers.now c.loop-j.j c.loop-j.invariant
    (rw (c.child.ensures, get_or_default c.args.pointers.now c.loop-j.j _ hole (omega arith)) at c.put.ensures)
