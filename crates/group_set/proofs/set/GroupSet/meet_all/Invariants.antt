use Rattle.std.proofs.Common.{◌≡◌, ℕ, ◌&&◌, take}
use Rattle.std.specs.List.{list_all}
use Rattle.group_set.specs.Groups.{holds}
use Rattle.group_set.proofs.set.GroupSet.meet_all.Given as goal

abbrev pub invariant-loop-set : goal.invariant-loop-set
invariant-loop-set l = (g : ℕ) → holds l.self g ≡ (holds l.fn.self g && list_all (λ set. holds set g) (take l.set-index l.sets))
