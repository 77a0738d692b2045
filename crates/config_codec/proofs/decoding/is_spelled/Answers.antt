use Rattle.std.proofs.Common.{sym, ◌∙◌}
use Rattle.config_codec.specs.Fields.{parts_fields}
use Rattle.config_codec.proofs.Testing.{valid_from}
use Rattle.config_codec.proofs.decoding.is_spelled.Goals as goal

pub encode_into-stop-requires-clause-valid : goal.encode_into-stop-requires-clause-valid
encode_into-stop-requires-clause-valid c = valid_from (parts_fields c.parts-parts.result) (sym c.is_valid.ensures ∙ c.if-not-is_valid.false)
