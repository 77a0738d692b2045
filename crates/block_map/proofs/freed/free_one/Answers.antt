use Rattle.std.proofs.Common.{arith, ◌∙◌}
use Rattle.block_map.specs.NumberSet.{room}
use Rattle.block_map.proofs.FreeNumbers.{is_no_number, is_a_number}
use Rattle.block_map.proofs.freed.free_one.Goals as goal

pub returns-then-at-tops-clause-now : goal.returns-then-at-tops-clause-now
returns-then-at-tops-clause-now c = c.requires.none ∙ is_no_number c.args.sectors.now c.args.at c.if-at-tops.true

pub returns-then-at-tops-clause-now_open : goal.returns-then-at-tops-clause-now_open
returns-then-at-tops-clause-now_open c = c.requires.shut ∙ is_no_number c.args.sectors.now c.args.at c.if-at-tops.true

pub insert-requires-2-clause-inside : goal.insert-requires-2-clause-inside
unfolding room
insert-requires-2-clause-inside c = c.requires.opened

pub returns-clause-now : goal.returns-clause-now
returns-clause-now c = c.insert.ensures.there ∙ is_a_number c.args.sectors.now c.args.at c.if-at-tops.false

pub returns-clause-now_open : goal.returns-clause-now_open
returns-clause-now_open c = c.insert-2.ensures.more.there ∙ is_a_number c.args.sectors.now c.args.at c.if-at-tops.false

pub returns-clause-opened_size : goal.returns-clause-opened_size
unfolding room
returns-clause-opened_size c = omega (arith, c.insert-2.ensures.more.room)
