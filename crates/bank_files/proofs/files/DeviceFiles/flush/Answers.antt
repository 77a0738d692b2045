use Rattle.std.proofs.Common.{rules, arith}
use Rattle.std.proofs.lemmas.Result.{on_ok_weaker}
use Rattle.bank_files.specs.Told.{IsStable}
use Rattle.bank_files.proofs.Opened.{opened}
use Rattle.bank_files.proofs.files.DeviceFiles.flush.Goals as goal

pub returns-in-Some : goal.returns-in-Some
returns-in-Some g c = record {
  stable = on_ok_weaker c.flush.result
      (opened c.args.self.now.files.items c.args.dev c.flush.new.self (λ file. IsStable (g.F.HostFile.told file.file)) (search (rules, arith)))
      c.flush.ensures.stable;
}
