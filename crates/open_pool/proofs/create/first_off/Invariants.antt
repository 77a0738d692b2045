use Rattle.std.proofs.Common.{◌≡◌, ◌+◌, drop}
use Rattle.open_pool.specs.Creating.{first_off}
use Rattle.open_pool.proofs.create.first_off.Given as goal

abbrev pub invariant-loop-i : goal.invariant-loop-i
invariant-loop-i l = record {
  on : first_off l.seats ≡ l.i + first_off (drop l.i l.seats);
}
