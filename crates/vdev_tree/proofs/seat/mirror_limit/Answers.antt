use Rattle.std.proofs.Common.{arith}
use Rattle.vdev_tree.proofs.Shapes.{length_zip}
use Rattle.vdev_tree.proofs.Seats.{limit_full, limit_free}
use Rattle.vdev_tree.proofs.seat.mirror_limit.Goals as goal

pub returns-then-children-eq8 : goal.returns-then-children-eq8
returns-then-children-eq8 c = λ cs are. limit_full cs (omega (arith, length_zip c.args.children.now cs are, c.if-children-eq8.true))

pub returns-else-children-eq8 : goal.returns-else-children-eq8
returns-else-children-eq8 c = λ cs are. limit_free cs (λ full. c.if-children-eq8.false (omega (arith, length_zip c.args.children.now cs are, full)))
