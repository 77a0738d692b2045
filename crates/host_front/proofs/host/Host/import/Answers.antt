use Rattle.host_front.proofs.Opened.{answers_found, answers_no_record, answers_unlooked}
use Rattle.host_front.proofs.Seating.{seated_on, stands_on_still}
use Rattle.host_front.proofs.host.Host.import.Goals as goal

pub open_found-requires-clause-seated : goal.open_found-requires-clause-seated
open_found-requires-clause-seated g c = seated_on _ _ c.newest_config.ensures.size c.requires.seated

pub returns-in-Ok-Some-clause-answers : goal.returns-in-Ok-Some-clause-answers
returns-in-Ok-Some-clause-answers g c = λ h second stands.
    answers_found (g.B.Bank.view c.args.bank.now).size h c.args.name.now second c.in-Ok-Some.config stands.keeps
    (rw c.in-Ok-Some.field-0-is at c.in-Ok-Some.ensures.seeks)
    (λ bytes is. c.open_found.ensures.opens h bytes (stands_on_still _ _ c.newest_config.ensures.size stands) is)

pub returns-in-Ok-None-clause-answers : goal.returns-in-Ok-None-clause-answers
returns-in-Ok-None-clause-answers g c = λ h second stands.
    answers_no_record (g.B.Bank.view c.args.bank.now).size h c.args.name.now second stands.keeps c.newest_config.ensures.size
    (rw c.in-Ok-None.field-0-is at c.in-Ok-None.ensures.seeks)

pub returns-in-Err-clause-answers : goal.returns-in-Err-clause-answers
returns-in-Err-clause-answers g c = λ h second stands.
    answers_unlooked (g.B.Bank.view c.args.bank.now).size h c.args.name.now second stands.keeps c.newest_config.ensures.size c.in-Err.ensures.reads
