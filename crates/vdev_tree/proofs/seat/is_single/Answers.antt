use Rattle.std.proofs.Common.{arith, ◌∙◌}
use Rattle.vdev_tree.proofs.Seats.{single_one, single_more}
use Rattle.vdev_tree.proofs.seat.is_single.Goals as goal

pub returns-in-len1 : goal.returns-in-len1
returns-in-len1 c = λ cs are. c.is_leaf.ensures ∙ single_one c.args.children.now c.child-item.result cs are (omega (arith, c.in-len1.len_below)) (omega (arith, c.in-len1.len_at_least)) c.child-item.is

pub returns-in_default-2 : goal.returns-in_default-2
returns-in_default-2 c = λ cs are. single_more c.args.children.now cs are (omega (arith, c.in_default.len_at_least))
