use Rattle.std.proofs.Common.{refl, sym, ◌∙◌, inl, inr}
use Rattle.script_front.proofs.LineEnds.{some_bytes}
use Rattle.script_front.proofs.script.finish.Goals as goal

pub returns-in-Ok-clause-ends : goal.returns-in-Ok-clause-ends
returns-in-Ok-clause-ends g c = λ h stands. inr (inl (refl, record { some = some_bytes c.args.waiting.now (sym c.is_empty.ensures ∙ c.if-is_empty.false); line = c.in-Ok.ensures.handles h stands }))
