use Rattle.pool_moves.proofs.TreeLeaves.{graft_leaves, detach_leaves, calm_leaves}
use Rattle.pool_moves.proofs.trees.trees_have_the_leaves.Goals as goal

pub returns : goal.returns
returns c = record { graft = graft_leaves; detach = detach_leaves; others = calm_leaves }
