use Rattle.std.proofs.Common.{◌≡◌, drop, Some}
use Rattle.pool_moves.specs.StampRow.{least_with}
use Rattle.open_pool.specs.Creating.{least_room, members_in}
use Rattle.open_pool.proofs.new_tops.least_sectors.Given as goal

abbrev pub invariant-loop-i : goal.invariant-loop-i
invariant-loop-i g l = record {
  least : least_room (g.B.Bank.view l.bank).size (members_in l.leaves)
      ≡ Some (least_with l.least (least_room (g.B.Bank.view l.bank).size (drop l.i (members_in l.leaves))));
}
