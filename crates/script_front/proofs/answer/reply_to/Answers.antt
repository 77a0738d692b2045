use Rattle.script_front.proofs.Answered.{nothing_asked, not_built, of_none, of_request, unbuilt, replied, may_replied}
use Rattle.script_front.proofs.answer.reply_to.Goals as goal

pub returns-in-Nothing : goal.returns-in-Nothing
returns-in-Nothing g c = λ h was. of_request c.args.request.now _ c.in-Nothing.is (nothing_asked c.args.host.now (g.B.Bank.view c.args.bank.now) h was)

pub returns-in-Write : goal.returns-in-Write
returns-in-Write g c = λ h was. of_request c.args.request.now _ c.in-Write.is (replied c.write.result (c.write.ensures (g.B.Bank.view c.args.bank.now) h was))

pub returns-in-Freeze : goal.returns-in-Freeze
returns-in-Freeze g c = λ h was. of_request c.args.request.now _ c.in-Freeze.is (replied c.freeze.result (c.freeze.ensures (g.B.Bank.view c.args.bank.now) h was))

pub returns-in-Sync : goal.returns-in-Sync
returns-in-Sync g c = λ h was. of_request c.args.request.now _ c.in-Sync.is (replied c.sync.result (c.sync.ensures h was))

pub returns-in-Offline : goal.returns-in-Offline
returns-in-Offline g c = λ h was. of_request c.args.request.now _ c.in-Offline.is (replied c.offline.result (c.offline.ensures (g.B.Bank.view c.args.bank.now) h was))

pub returns-in-Logs : goal.returns-in-Logs
returns-in-Logs g c = λ h was. of_request c.args.request.now _ c.in-Logs.is (replied c.logs.result (c.logs.ensures (g.B.Bank.view c.args.bank.now) h was))

pub returns-in-Create : goal.returns-in-Create
returns-in-Create g c = λ h was. of_none c.args.request.now (unbuilt c.args.request.now c.in-Create.is) (not_built c.args.host.now (g.B.Bank.view c.args.bank.now) h was)

pub returns-in-Read : goal.returns-in-Read
returns-in-Read g c = λ h was. of_request c.args.request.now _ c.in-Read.is (may_replied c.read.result (c.read.ensures h was))

pub returns-in-Turn : goal.returns-in-Turn
returns-in-Turn g c = λ h was. of_request c.args.request.now _ c.in-Turn.is (replied c.turn.result (c.turn.ensures h was))
