use Rattle.std.proofs.Common.{◌≡◌, length, take}
use Rattle.open_pool.proofs.reopening.devices_of.Given as goal

abbrev pub invariant-loop-i : goal.invariant-loop-i
invariant-loop-i l = record {
  front : take l.i l.list ≡ take l.i l.devs;
  long : length l.list ≡ 32;
}
