use Rattle.std.proofs.Common.{refl}
use Rattle.bank_core.proofs.memory.MemBankBank.write.Goals as goal

pub returns-in-Err : goal.returns-in-Err
returns-in-Err c = c.lose.ensures.lost _ refl refl
