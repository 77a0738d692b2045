use Rattle.std.proofs.Common.{arith, sym, ◌∙◌}
use Rattle.vdev_tree.specs.Edits.{allows}
use Rattle.vdev_tree.proofs.Shapes.{length_zip}
use Rattle.vdev_tree.proofs.Seats.{some_child, that_child, passed, none_at_all}
use Rattle.vdev_tree.proofs.seat.first_that_allows.Goals as goal

pub allows-requires : goal.allows-requires
allows-requires c = some_child c.args.children.now c.requires.0 c.loop-i.i c.index-children-i.result c.requires.1 (omega arith) c.index-children-i.is

pub returns-then-allows-clause-inside : goal.returns-then-allows-clause-inside
returns-then-allows-clause-inside c = λ cs are. omega (arith, length_zip c.args.children.now cs are)

pub returns-then-allows-clause-some : goal.returns-then-allows-clause-some
returns-then-allows-clause-some c = λ cs d are.
    sym (c.allows.ensures _ (that_child c.args.children.now cs c.loop-i.i c.index-children-i.result d are (omega arith) c.index-children-i.is)) ∙ c.if-allows.true

pub loop-i-preserved : goal.loop-i-preserved
loop-i-preserved c = λ cs are.
    passed (allows c.args.edit c.args.at) c.args.children.now cs c.loop-i.i c.index-children-i.result c.allows.result are (omega arith) c.index-children-i.is c.allows.ensures c.if-allows.false
    (c.loop-i.invariant cs are)

pub returns-clause-none : goal.returns-clause-none
returns-clause-none c = λ cs are. none_at_all (allows c.args.edit c.args.at) c.args.children.now cs c.loop-i.i are (omega arith) (c.loop-i.invariant cs are)
