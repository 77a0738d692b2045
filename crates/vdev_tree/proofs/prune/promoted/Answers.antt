use Rattle.std.proofs.Common.{arith}
use Rattle.vdev_tree.proofs.Cut.{promoted_is}
use Rattle.vdev_tree.proofs.prune.promoted.Goals as goal

pub returns-else-len-le1 : goal.returns-else-len-le1
returns-else-len-le1 c = λ s t are. promoted_is c.args.spare s t c.requires.kind are (λ one. omega (arith, one, c.len.ensures, c.if-len-le1.false, c.args.spare.children.ok.0))
