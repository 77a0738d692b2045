use Rattle.std.proofs.Common.{rules, arith, ◌*◌, length, subst, sym}
use Rattle.std.proofs.lemmas.Result.{on_ok_weaker}
use Rattle.bank_core.specs.Disk.{sector_size}
use Rattle.bank_files.specs.Told.{Told, Stands}
use Rattle.bank_files.proofs.Opened.{opened}
use Rattle.bank_files.proofs.files.DeviceFiles.read.Goals as goal

pub returns-in-Some : goal.returns-in-Some
returns-in-Some g c =
    let at = c.args.at * sector_size in
    let out = c.read.new.out in
    record {
      given = on_ok_weaker c.read.result
          (λ given. opened c.args.self.now.files.items c.args.dev c.read.new.self (λ file. Stands (g.F.HostFile.told file.file) at out (length out))
          (search (rules, arith)) (subst (λ (told : Told). Stands told at out (length out)) (sym c.read.ensures.same) given))
          c.read.ensures.given;
    }
