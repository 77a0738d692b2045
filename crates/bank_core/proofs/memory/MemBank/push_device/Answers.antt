use Rattle.std.proofs.Common.{refl, rules}
use Rattle.bank_core.proofs.Added.{is_added}
use Rattle.bank_core.proofs.memory.MemBank.push_device.Goals as goal

pub returns-clause-ok : goal.returns-clause-ok
returns-clause-ok c = is_added c.args.self.now _ c.args.device (search rules) refl refl refl c.requires.early
