use Rattle.std.proofs.Common.{refl, sym, ◌∙◌, Ok, Err}
use Rattle.host_front.proofs.AwayLines.{back_without, back_memory, back_nowhere, back_by}
use Rattle.host_front.proofs.away.online_in.Goals as goal

pub returns-then-not-has_leaf-clause-onlines : goal.returns-then-not-has_leaf-clause-onlines
returns-then-not-has_leaf-clause-onlines g c = λ s r. back_without c.args.pool.now r (c.if-not-has_leaf.ensures s r)

pub returns-in-Err-clause-onlines : goal.returns-in-Err-clause-onlines
returns-in-Err-clause-onlines g c = λ s r. back_memory c.args.pool.now r

pub returns-in_default-clause-onlines : goal.returns-in_default-clause-onlines
returns-in_default-clause-onlines g c = λ s r.
    rw (c.in_default.is, c.in-Ok.ensures) (back_nowhere c.args.pool.now r (c.if-not-has_leaf.ensures s r))

pub returns-in-Ok-online-clause-onlines : goal.returns-in-Ok-online-clause-onlines
returns-in-Ok-online-clause-onlines g c = λ s r.
    rw c.in-Some.is
    (back_by {s = s} c.online.new.self (Ok c.in-Ok-online.state) (c.if-not-has_leaf.ensures s r) (λ leaf named. refl) (c.in-Ok-online.ensures.online s r))

pub returns-in-Err-online-clause-onlines : goal.returns-in-Err-online-clause-onlines
returns-in-Err-online-clause-onlines g c = λ s r.
    rw c.in-Some.is (back_by {s = s} c.online.new.self (Err c.in-Err-online.refusal) (c.if-not-has_leaf.ensures s r)
    (λ leaf named. c.online_refused.ensures leaf (named ∙ sym c.in-Ok.ensures)) (c.in-Err-online.ensures.online s r))
