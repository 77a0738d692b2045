use Rattle.std.proofs.Common.{rules, arith, ◌*◌, length}
use Rattle.std.proofs.lemmas.Result.{on_ok_weaker}
use Rattle.bank_core.specs.Disk.{sector_size}
use Rattle.bank_files.specs.Told.{Stands}
use Rattle.bank_files.proofs.Opened.{opened}
use Rattle.bank_files.proofs.files.DeviceFiles.write.Goals as goal

pub returns-in-Some : goal.returns-in-Some
returns-in-Some g c = record {
  taken = on_ok_weaker c.write.result
      (opened c.args.self.now.files.items c.args.dev c.write.new.self (λ file. Stands (g.F.HostFile.told file.file) (c.args.at * sector_size) c.args.bytes.now (length c.args.bytes.now)) (search (rules, arith)))
      c.write.ensures.taken;
}
