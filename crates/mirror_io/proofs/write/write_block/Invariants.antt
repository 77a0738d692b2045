use Rattle.std.proofs.Common.{take}
use Rattle.mirror_io.specs.Mirror.{WritesBlock}
use Rattle.mirror_io.proofs.write.write_block.Given as goal

abbrev pub invariant-loop-i : goal.invariant-loop-i
invariant-loop-i g l = record {
  writes : WritesBlock (take l.i l.devs) l.at l.bytes (take l.i l.done) (g.B.Bank.view l.initial.bank) (g.B.Bank.view l.bank);
}
