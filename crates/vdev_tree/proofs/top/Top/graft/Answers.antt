use Rattle.vdev_tree.proofs.Edited.{grafted_edit, grafted_leaves}
use Rattle.vdev_tree.proofs.top.Top.graft.Goals as goal

pub graft_at-requires-clause-allowed : goal.graft_at-requires-clause-allowed
graft_at-requires-clause-allowed c = (c.args.at, c.in-Ok.ensures.allowed)

pub returns-in-Ok-clause-tree : goal.returns-in-Ok-clause-tree
returns-in-Ok-clause-tree c =
    grafted_edit c.graft_at.result c.args.edit c.args.at c.args.guid c.args.leaf _ _ c.in-Ok.place c.in-Ok.ensures.inside c.in-Ok.ensures.allowed c.graft_at.ensures.tree

pub returns-in-Ok-clause-leaves : goal.returns-in-Ok-clause-leaves
returns-in-Ok-clause-leaves c =
    grafted_leaves c.graft_at.result c.args.edit c.args.at c.args.guid c.args.leaf c.args.self.now.mirror c.graft_at.new.mirror c.requires c.args.self.now.valid c.graft_at.ensures.top
    (grafted_edit c.graft_at.result c.args.edit c.args.at c.args.guid c.args.leaf _ _ c.in-Ok.place c.in-Ok.ensures.inside c.in-Ok.ensures.allowed c.graft_at.ensures.tree)
