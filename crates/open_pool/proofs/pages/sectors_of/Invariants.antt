use Rattle.std.proofs.Common.{◌≡◌, length, take}
use Rattle.dtl_rules.specs.Widening.{sectors_of}
use Rattle.open_pool.proofs.pages.sectors_of.Given as goal

abbrev pub invariant-loop-i : goal.invariant-loop-i
invariant-loop-i l = record {
  front : take l.i l.sectors ≡ sectors_of (take l.i l.tops);
  long : length l.sectors ≡ 8;
}
