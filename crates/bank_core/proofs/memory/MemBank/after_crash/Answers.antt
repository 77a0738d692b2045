use Rattle.std.proofs.Common.{rules, ap, ◌∙◌, length, take}
use Rattle.bank_core.specs.Memory.{names_in}
use Rattle.bank_core.proofs.Crashing.{same_sizes, is_crashed, is_chosen, left_from}
use Rattle.bank_core.proofs.Names.{same_numbers}
use Rattle.bank_core.proofs.memory.MemBank.after_crash.Goals as goal

pub returns-clause-numbers : goal.returns-clause-numbers
returns-clause-numbers c = λ name.
    same_numbers c.of.result.devices.items c.args.self.now.devices.items name
    (ap names_in c.of.ensures.devices ∙ c.in_ok-devices.ensures.names ∙ ap names_in c.deref-2.ensures.value)

pub returns-clause-sizes : goal.returns-clause-sizes
returns-clause-sizes c =
    let bank = c.args.self.now in
    same_sizes c.args.choice bank.devices.items (take c.args.moment bank.calls.items) c.of.result.devices.items
    (ap length c.of.ensures.devices ∙ c.in_ok-devices.ensures.count ∙ ap length c.deref-2.ensures.value)
    (left_from c.args.choice bank.devices.items c.deref-2.result.now bank.calls.items c.deref.result.now c.in_ok-devices.devices.items c.of.result.devices.items c.args.moment
    c.deref-2.ensures.value c.deref.ensures.value c.of.ensures.devices c.in_ok-devices.ensures.left)

pub returns-clause-told : goal.returns-clause-told
returns-clause-told c = λ story told.
    let bank = c.args.self.now in
    is_crashed c.args.choice bank.devices.items bank.calls.items c.of.result.devices.items c.args.moment bank.tells story _ bank.inside
    (ap length c.of.ensures.devices ∙ c.in_ok-devices.ensures.count ∙ ap length c.deref-2.ensures.value)
    (left_from c.args.choice bank.devices.items c.deref-2.result.now bank.calls.items c.deref.result.now c.in_ok-devices.devices.items c.of.result.devices.items c.args.moment
    c.deref-2.ensures.value c.deref.ensures.value c.of.ensures.devices c.in_ok-devices.ensures.left)
    (search rules) told

pub returns-clause-chosen : goal.returns-clause-chosen
returns-clause-chosen c = λ story begun told told'.
    let bank = c.args.self.now in
    is_chosen c.args.choice bank.devices.items bank.calls.items c.of.result.devices.items c.args.moment bank.tells story begun _
    (left_from c.args.choice bank.devices.items c.deref-2.result.now bank.calls.items c.deref.result.now c.in_ok-devices.devices.items c.of.result.devices.items c.args.moment
    c.deref-2.ensures.value c.deref.ensures.value c.of.ensures.devices c.in_ok-devices.ensures.left)
    (search rules) told told'
