use Rattle.std.proofs.Common.{sym, ◌∙◌}
use Rattle.config_codec.specs.Fields.{config_fields}
use Rattle.config_codec.proofs.Deciding.{kept_some, kept_none, kept_valid}
use Rattle.config_codec.proofs.decoding.kept.Goals as goal

pub returns-then-branch-clause-found : goal.returns-then-branch-clause-found
returns-then-branch-clause-found c =
    sym (kept_some c.args.bytes.now (config_fields c.args.config) c.requires.fields (sym c.in_ok-is_spelled.ensures ∙ c.if-branch.true))

pub returns-else-branch-clause-found : goal.returns-else-branch-clause-found
returns-else-branch-clause-found c =
    sym (kept_none c.args.bytes.now (config_fields c.args.config) c.requires.fields (sym c.in_ok-is_spelled.ensures ∙ c.if-branch.false))

pub returns-then-branch-clause-valid : goal.returns-then-branch-clause-valid
returns-then-branch-clause-valid c = kept_valid (config_fields c.args.config) _ (sym c.in_ok-is_spelled.ensures ∙ c.if-branch.true)
