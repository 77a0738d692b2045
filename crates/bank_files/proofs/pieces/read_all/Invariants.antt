use Rattle.std.proofs.Common.{◌≡◌, ◌≤◌, length}
use Rattle.bank_files.specs.Told.{Stands}
use Rattle.bank_files.proofs.pieces.read_all.Given as goal

abbrev pub invariant-loop : goal.invariant-loop
invariant-loop g l = record {
  most : l.done ≤ length l.out;
  given : Stands (g.F.HostFile.told l.initial.file) l.at l.out l.done;
  same : g.F.HostFile.told l.file ≡ g.F.HostFile.told l.initial.file;
}
