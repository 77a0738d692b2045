use Rattle.std.proofs.Common.{true, false}
use Rattle.vdev_tree.proofs.Cut.{holds_first}
use Rattle.vdev_tree.proofs.prune.cut_spare.Goals as goal

pub cut_first-requires-clause-some : goal.cut_first-requires-clause-some
cut_first-requires-clause-some c =
    let h = holds_first c.args.at c.args.spare.guid c.args.spare.children.items c.remove-first.new.self.items c.remove-first.result c.remove-first.ensures.value c.remove-first.ensures.items
    c.has.result true c.has.ensures c.if-has.true c.requires.some in
    (c.requires.some.1, c.requires.some.2, c.requires.some.3, h.0, h.1, h.2)

pub cut_behind-requires-clause-some : goal.cut_behind-requires-clause-some
cut_behind-requires-clause-some c =
    let h = holds_first c.args.at c.args.spare.guid c.args.spare.children.items c.remove-first.new.self.items c.remove-first.result c.remove-first.ensures.value c.remove-first.ensures.items
    c.has.result false c.has.ensures c.if-has.false c.requires.some in
    (c.requires.some.1, c.requires.some.2, c.requires.some.3, h.0, h.1, h.2, c.requires.some.6)
