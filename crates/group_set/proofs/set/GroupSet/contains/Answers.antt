use Rattle.std.proofs.Common.{◌∙◌, ap, sym}
use Rattle.group_set.specs.Runs.{in_runs}
use Rattle.group_set.proofs.Maximal.{group_range}
use Rattle.group_set.proofs.set.GroupSet.contains.Goals as goal

pub returns-clause-in_range : goal.returns-clause-in_range
returns-clause-in_range c =
    λ is. group_range c.self.inside.runs.items c.args.g.0 c.self.invariant
    (ap (λ runs. in_runs runs c.args.g.0) (sym c.deref.ensures.value) ∙ sym c.is_in.ensures ∙ is)
