use Rattle.std.proofs.Common.{Err, ap, ◌∙◌}
use Rattle.script_front.proofs.Answered.{bad_line, unread_line, line_asked, still_seated}
use Rattle.script_front.proofs.answer.answer.Goals as goal

pub returns-in-Ok-clause-answers : goal.returns-in-Ok-clause-answers
returns-in-Ok-clause-answers g c = λ h was. line_asked c.in-Ok.request c.in-Ok.ensures.found (c.reply_to.ensures h was)

pub returns-in-Ok-clause-seated : goal.returns-in-Ok-clause-seated
returns-in-Ok-clause-seated g c = still_seated {line = c.args.line.now} (λ h was. line_asked c.in-Ok.request c.in-Ok.ensures.found (c.reply_to.ensures h was)) c.requires.seated

pub returns-in-Err-Bad-clause-answers : goal.returns-in-Err-Bad-clause-answers
returns-in-Err-Bad-clause-answers g c = λ h was. bad_line c.args.host.now (g.B.Bank.view c.args.bank.now) h was c.args.line.now (c.read_line.ensures.bad (c.in-Err-Bad.is ∙ ap Err c.in-Err-Bad.field-0-is))

pub returns-in-Err-Memory-clause-answers : goal.returns-in-Err-Memory-clause-answers
returns-in-Err-Memory-clause-answers g c = λ h was. unread_line c.args.host.now (g.B.Bank.view c.args.bank.now) h was c.args.line.now
