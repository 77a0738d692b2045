use Rattle.vdev_tree.proofs.Seats.{room_left}
use Rattle.vdev_tree.proofs.Edited.{attached_leaves}
use Rattle.vdev_tree.proofs.top.Top.graft_mirror.Goals as goal

pub graft_last-requires-clause-room : goal.graft_last-requires-clause-room
graft_last-requires-clause-room c = room_left c.args.at c.args.self.now.mirror c.args.self.now.valid c.in-Ok.ensures.none

pub returns-in-Ok-clause-leaves : goal.returns-in-Ok-clause-leaves
returns-in-Ok-clause-leaves c =
    attached_leaves c.graft_last.result c.args.self.now.mirror c.graft_last.new.mirror c.args.leaf c.args.self.now.valid c.graft_last.ensures.top c.graft_last.ensures.tree
