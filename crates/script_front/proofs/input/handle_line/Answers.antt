use Rattle.host_core.proofs.LinesAreRuns.{heard}
use Rattle.pool_runs.specs.Acts.{Hears}
use Rattle.pool_runs.specs.Hosts.{host_by}
use Rattle.script_front.proofs.Handling.{line_handled, line_broken, line_unwritten}
use Rattle.script_front.proofs.input.handle_line.Goals as goal

pub returns-in-Err-clause-breaks : goal.returns-in-Err-clause-breaks
returns-in-Err-clause-breaks g c = λ h was.
    line_unwritten h c.args.line.now c.now-second.result c.args.host.now c.answer.new.host (g.B.Bank.view c.args.bank.now) (g.B.Bank.view c.answer.new.bank) _ _ _ c.answer.result
    (c.answer.ensures.answers (host_by (Hears c.now-second.result) h) (heard c.args.host.now (g.B.Bank.view c.args.bank.now) h c.now-second.result was)) c.now-second.ensures

pub returns-in-Err-reply_line-clause-breaks : goal.returns-in-Err-reply_line-clause-breaks
returns-in-Err-reply_line-clause-breaks g c = λ h was.
    line_unwritten h c.args.line.now c.now-second.result c.args.host.now c.answer.new.host (g.B.Bank.view c.args.bank.now) (g.B.Bank.view c.answer.new.bank) _ _ _ c.answer.result
    (c.answer.ensures.answers (host_by (Hears c.now-second.result) h) (heard c.args.host.now (g.B.Bank.view c.args.bank.now) h c.now-second.result was)) c.now-second.ensures

pub returns-in-Ok-write_all-clause-handles : goal.returns-in-Ok-write_all-clause-handles
returns-in-Ok-write_all-clause-handles g c = λ h was.
    line_handled h c.args.line.now c.now-second.result c.args.host.now c.answer.new.host (g.B.Bank.view c.args.bank.now) (g.B.Bank.view c.answer.new.bank) _ _ _ _ c.answer.result
    (c.answer.ensures.answers (host_by (Hears c.now-second.result) h) (heard c.args.host.now (g.B.Bank.view c.args.bank.now) h c.now-second.result was)) c.now-second.ensures
    c.in-Ok.reply c.in-Ok-reply_line.text.items was c.in-Ok.is c.in-Ok-reply_line.ensures (rw c.deref.ensures.value at c.in-Ok-write_all.ensures.all)

pub returns-clause-breaks : goal.returns-clause-breaks
returns-clause-breaks g c = λ h was.
    line_broken h c.args.line.now c.now-second.result c.args.host.now c.answer.new.host (g.B.Bank.view c.args.bank.now) (g.B.Bank.view c.answer.new.bank) _ _ _ _ c.answer.result
    (c.answer.ensures.answers (host_by (Hears c.now-second.result) h) (heard c.args.host.now (g.B.Bank.view c.args.bank.now) h c.now-second.result was)) c.now-second.ensures
    c.in-Ok.reply c.in-Ok-reply_line.text.items c.in-Ok.is c.in-Ok-reply_line.ensures (rw c.deref.ensures.value at c.in-Err-write_all.ensures.front)
