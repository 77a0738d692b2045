use Rattle.host_front.proofs.Handling.{line_handled, line_broken, line_unwritten}
use Rattle.host_front.proofs.input.handle_line.Goals as goal

pub returns-in-Err-clause-breaks : goal.returns-in-Err-clause-breaks
returns-in-Err-clause-breaks g c = λ h stands.
    line_unwritten c.now-time.result c.answer-reply.result (c.answer-reply.ensures.answers h stands) c.now-time.ensures

pub returns-in-Ok-write_all-clause-handles : goal.returns-in-Ok-write_all-clause-handles
returns-in-Ok-write_all-clause-handles g c = λ h stands.
    line_handled c.now-time.result c.answer-reply.result c.in-Ok.text.items c.hosts_stay_fit.ensures.stays c.in-Ok.ensures stands
    (c.answer-reply.ensures.answers h stands) c.now-time.ensures (rw c.deref.ensures.value at c.in-Ok-write_all.ensures.all)

pub returns-clause-breaks : goal.returns-clause-breaks
returns-clause-breaks g c = λ h stands.
    line_broken c.now-time.result c.answer-reply.result c.in-Ok.text.items c.in-Ok.ensures
    (c.answer-reply.ensures.answers h stands) c.now-time.ensures (rw c.deref.ensures.value at c.in-Err-write_all.ensures.front)
