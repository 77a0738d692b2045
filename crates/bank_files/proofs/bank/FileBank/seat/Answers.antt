use Rattle.std.proofs.Common.{rules}
use Rattle.bank_files.proofs.Places.{placed}
use Rattle.bank_files.proofs.bank.FileBank.seat.Goals as goal

pub returns-clause-place : goal.returns-clause-place
returns-clause-place g c =
    placed c.args.self.now.asked.items c.push.new.self.items c.args.name.now c.in_ok-copy.field-0 c.len-place.result
    (search rules) (search rules) (search rules) (search rules)
