use Rattle.std.proofs.Common.{◌-◌, ◌&&◌, ◌||◌, length, take, drop, arith, ap, ◌∙◌}
use Rattle.std.specs.List.{list_all}
use Rattle.group_set.specs.Groups.{Groups, holds}
use Rattle.group_set.proofs.Sets.{covered_step}
use Rattle.group_set.proofs.set.GroupSet.covered_by_all.Goals as goal

pub returns : goal.returns
returns c = λ g.
    let sets = c.args.sets.now in
    let n = length sets - 1 in
    let first = c.index-sets-0.result in
    let empty = holds c.new-all.result g in
    c.in_ok-meet_all.ensures g
    ∙ ap (λ b. b && list_all (λ set. holds set g) (take n (drop 1 sets)))
    (c.in_ok-union.ensures.ok g ∙ ap (λ (s : Groups). empty || holds s g) c.index-sets-0.is)
    ∙ covered_step sets first empty n g (c.new-all.ensures.groups g) c.requires (omega arith)
