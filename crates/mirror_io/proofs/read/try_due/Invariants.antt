use Rattle.std.proofs.Common.{◌≡◌, None, take}
use Rattle.std.specs.List.{filter}
use Rattle.mirror_io.specs.Copies.{is_due}
use Rattle.mirror_io.specs.Reading.{Tries}
use Rattle.mirror_io.proofs.read.try_due.Given as goal

abbrev pub invariant-loop-i : goal.invariant-loop-i
invariant-loop-i g l = record {
  unchanged : l.judge ≡ l.initial.judge;
  tries : Tries (g.J.Judge.Good l.initial.judge) l.copies l.at (filter (is_due l.owing) (take l.i l.copies)) None
      l.initial.seen l.seen (g.B.Bank.view l.initial.bank) (g.B.Bank.view l.bank);
}
