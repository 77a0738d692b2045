use Rattle.std.proofs.Common.{List, [], ◌∷◌, ◌++◌, subst, ap, ◌∙◌}
use Rattle.group_set.specs.declared.run.Run.{Run}
use Rattle.group_set.specs.Groups.{Groups}
use Rattle.group_set.specs.Choice.{HullOf}
use Rattle.group_set.proofs.Sets.{IsWidened-hull}
use Rattle.group_set.proofs.set.GroupSet.widen.Goals as goal

pub returns-in-Some-clause-groups : goal.returns-in-Some-clause-groups
returns-in-Some-clause-groups c =
    let found = subst (λ (runs : List Run). HullOf runs c.in-Some.all) (c.deref.ensures.value ∙ ap (λ (s : Groups). s.runs) c.self.view_is) c.in-Some.ensures in
    IsWidened-hull c.args.self.now _ c.in-Some.all found (c.append.ensures.items ∙ ap (λ (runs : List Run). runs ++ c.in-Some.all ∷ []) c.clear.ensures.items)
