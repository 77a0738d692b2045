use Rattle.std.proofs.Common.{◌≡◌, map, take, length}
use Rattle.txg_engine.specs.Boards.{dev_of}
use Rattle.txg_engine.proofs.members.devs_of.Given as goal

abbrev pub invariant-loop-i : goal.invariant-loop-i
invariant-loop-i l = record {
  front : take l.i l.devs ≡ map dev_of (take l.i l.members);
  long : length l.devs ≡ 32;
}
