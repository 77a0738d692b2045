use Rattle.host_machine.proofs.Finding.{import_finds}
use Rattle.host_machine.proofs.laws.imports_find_the_pool.Goals as goal

pub returns : goal.returns
returns c = record { finds = λ p h entry made next fit tracks closed answers i twins sv premises. import_finds p h made next entry.reply fit tracks answers i twins sv premises }
