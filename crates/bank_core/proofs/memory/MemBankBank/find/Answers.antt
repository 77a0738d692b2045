use Rattle.std.proofs.Common.{rules}
use Rattle.bank_core.proofs.Names.{absent_is, found_has, one_name}
use Rattle.bank_core.proofs.memory.MemBankBank.find.Goals as goal

pub returns-clause-absent : goal.returns-clause-absent
returns-clause-absent c = absent_is c.args.self.now.devices.items c.args.name.now c.map.result (search rules)

pub returns-clause-size : goal.returns-clause-size
returns-clause-size c = found_has c.args.self.now.devices.items c.args.name.now c.map.result (search rules)

pub returns-clause-apart : goal.returns-clause-apart
returns-clause-apart c = one_name c.args.self.now.devices.items
