use Rattle.std.proofs.Common.{◌≡◌, drop, take}
use Rattle.mirror_io.specs.Healing.{Heals}
use Rattle.mirror_io.proofs.heal.heal_all.Given as goal

abbrev pub invariant-loop-i : goal.invariant-loop-i
invariant-loop-i g l = record {
  left : drop l.i l.seen ≡ drop l.i l.initial.seen;
  heals : Heals l.copies (take l.i l.copies) l.at l.block l.initial.seen l.seen (g.B.Bank.view l.initial.bank) (g.B.Bank.view l.bank);
}
