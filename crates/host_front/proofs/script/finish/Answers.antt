use Rattle.std.proofs.Common.{refl, inl, inr, rules}
use Rattle.host_front.proofs.script.finish.Goals as goal

pub returns-in-Ok-clause-ends : goal.returns-in-Ok-clause-ends
returns-in-Ok-clause-ends g c = λ h stands.
    inr (inl (refl, record { some = search rules; size = (g.B.Bank.view c.handle_line.new.bank).size; host = c.handle_line.new.host; line = c.in-Ok.ensures.handles h stands }))
