use Rattle.std.proofs.Common.{◌&&◌, nat_lt, ap, ◌∙◌}
use Rattle.group_set.specs.Groups.{Groups, holds}
use Rattle.group_set.specs.Runs.{in_runs, between}
use Rattle.group_set.proofs.Sets.{below_cut}
use Rattle.group_set.proofs.set.GroupSet.cut_from.Goals as goal

pub returns-clause-groups : goal.returns-clause-groups
unfolding holds
returns-clause-groups c = λ h.
    c.keep_within.ensures.groups h ∙ ap (λ top. in_runs c.self.inside.runs.items h && between 0 top h) c.saturating_sub.ensures
    ∙ below_cut c.self.inside.runs.items c.args.g.0 h c.self.invariant
    ∙ ap (λ (s : Groups). holds s h && nat_lt h c.args.g.0) c.self.view_is
