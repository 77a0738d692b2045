use Rattle.std.proofs.Common.{◌≤◌, length}
use Rattle.bank_files.specs.Told.{Stands, Touches}
use Rattle.bank_files.proofs.pieces.write_all.Given as goal

abbrev pub invariant-loop : goal.invariant-loop
invariant-loop g l = record {
  most : l.done ≤ length l.bytes;
  taken : Stands (g.F.HostFile.told l.file) l.at l.bytes l.done;
  others : Touches (g.F.HostFile.told l.initial.file) (g.F.HostFile.told l.file) l.at (length l.bytes);
}
