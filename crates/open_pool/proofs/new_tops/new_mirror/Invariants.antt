use Rattle.std.proofs.Common.{take}
use Rattle.open_pool.specs.Creating.{members_in}
use Rattle.open_pool.proofs.NewTopsBuilt.{HasChildren}
use Rattle.open_pool.proofs.new_tops.new_mirror.Given as goal

abbrev pub invariant-loop-i : goal.invariant-loop-i
invariant-loop-i l = record {
  children : HasChildren l.next (members_in (take l.i l.leaves)) l.children.items;
}
