use Rattle.std.proofs.Common.{sym, ap, ◌∙◌}
use Rattle.std.proofs.lemmas.Bool.{eqb-true}
use Rattle.mp_base.specs.declared.number.Guid.{Guid}
use Rattle.dtl_rules.proofs.Passing.{LeastOut-none, rest_without_top}
use Rattle.dtl_rules.proofs.rule.required.Goals as goal

pub returns-then-is_at-2-clause-required : goal.returns-then-is_at-2-clause-required
returns-then-is_at-2-clause-required c =
    LeastOut-none _ (rest_without_top c.args.top.now c.args.at
    (ap (λ (number : Guid). number.0) (sym c.guid.ensures) ∙ eqb-true c.guid.result.0 c.args.at.0 (sym c.is_at-2.ensures ∙ c.if-is_at-2.true)))
