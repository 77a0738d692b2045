use Rattle.std.proofs.Common.{◌≡◌, ◌≤◌, ◌+◌, ◌*◌, take}
use Rattle.pool_moves.specs.StampRow.{next_from}
use Rattle.open_pool.specs.Creating.{AreNewTops, members_of}
use Rattle.open_pool.proofs.new_tops.new_tops.Given as goal

abbrev pub invariant-loop-i : goal.invariant-loop-i
invariant-loop-i g l = record {
  tops : AreNewTops (g.B.Bank.view l.bank).size 1 (members_of (take l.i l.tops)) l.new.items;
  next : l.next ≡ next_from 1 (members_of (take l.i l.tops));
  low : l.next ≤ 1 + 9 * l.i;
}
