use Rattle.std.proofs.Common.{◌&&◌, nat_le, arith, ap, ◌∙◌}
use Rattle.group_set.specs.Groups.{Groups, holds}
use Rattle.group_set.proofs.Sets.{from_cut}
use Rattle.group_set.proofs.set.GroupSet.cut_below.Goals as goal

pub returns-clause-groups : goal.returns-clause-groups
unfolding holds
returns-clause-groups c = λ h.
    c.keep_within.ensures.groups h ∙ from_cut c.self.inside.runs.items c.args.g.0 h _ c.self.invariant (omega arith)
    ∙ ap (λ (s : Groups). holds s h && nat_le c.args.g.0 h) c.self.view_is
