use Rattle.std.proofs.Common.{sym, ◌∙◌}
use Rattle.vdev_tree.proofs.Cut.{no_spare, is_pair, cuts_pair, cuts_spared}
use Rattle.vdev_tree.proofs.Shapes.{is_kind_spare}
use Rattle.vdev_tree.proofs.prune.cut_out.Goals as goal

pub cut_replacing-requires : goal.cut_replacing-requires
cut_replacing-requires c =
    is_pair c.args.child c.in-Inner.inner c.in-Inner.is (no_spare c.in-Inner.inner c.is_spare.result c.is_spare.ensures c.if-is_spare.false) c.requires.0 c.requires.1

pub returns-then-is_spare : goal.returns-then-is_spare
returns-then-is_spare c =
    cuts_spared c.args.at c.args.child c.in-Inner.inner c.cut_spare.result.leaf c.cut_spare.result.rest c.in-Inner.is
    (is_kind_spare c.in-Inner.inner.kind (sym c.is_spare.ensures ∙ c.if-is_spare.true)) c.cut_spare.ensures

pub returns-else-is_spare : goal.returns-else-is_spare
returns-else-is_spare c =
    cuts_pair c.args.at c.args.child c.in-Inner.inner c.cut_replacing.result.leaf c.cut_replacing.result.rest c.in-Inner.is
    (no_spare c.in-Inner.inner c.is_spare.result c.is_spare.ensures c.if-is_spare.false) c.requires c.cut_replacing.ensures.leaf c.cut_replacing.ensures.rest
