use Rattle.std.proofs.Common.{Some, None, rules, subst}
use Rattle.bank_core.specs.Calls.{Called}
use Rattle.bank_core.specs.MemBank.{bank_view}
use Rattle.bank_core.specs.Memory.{call_as}
use Rattle.bank_core.specs.Story.{fault_in}
use Rattle.bank_core.proofs.Telling.{kept_is_called, same_view, device_as, fault_as}
use Rattle.bank_core.proofs.memory.MemBank.note.Goals as goal

pub returns-then-is_err : goal.returns-then-is_err
returns-then-is_err c =
    let x = c.args.call in
    let call = call_as x.kind x.dev x.at x.bytes.items (fault_in c.lose.result) in
    subst (λ old. Called call old (bank_view c.lose.new.self))
    (same_view c.keep.new.self c.args.self.now c.keep.ensures.devices (search rules) c.keep.ensures.faults c.keep.ensures.tells)
    (c.lose.ensures.lost call (device_as x.kind x.dev x.at x.bytes.items _) (fault_as x.kind x.dev x.at x.bytes.items _))

pub returns-in-None : goal.returns-in-None
returns-in-None c =
    kept_is_called c.args.self.now c.keep.new.self c.args.call None c.keep.ensures.devices c.keep.ensures.tells (search rules) c.in-None.is c.requires.answers
    (λ d. search rules) tt (λ d. search rules) (λ d _. search rules)

pub returns-in-Some : goal.returns-in-Some
returns-in-Some c =
    kept_is_called c.args.self.now c.count.new.self c.args.call (Some c.in-Some.fault) (search rules) (search rules) (search rules) c.in-Some.is c.requires.answers
    (search rules) (search rules) tt (search rules)
