use Rattle.config_codec.specs.Fields.{parts_fields}
use Rattle.pool_core.proofs.Recording.{is_cut, cut_sealed_is, cut_headed, cut_round}
use Rattle.pool_core.proofs.round.commit_parts.Goals as goal

pub commit_record-requires-clause-sealed : goal.commit_record-requires-clause-sealed
commit_record-requires-clause-sealed g c =
    let fields = parts_fields c.args.parts.now in
    cut_sealed_is fields _ _ c.requires.valid
    (is_cut fields c.encode_into-length.new.out _ _ c.requires.valid c.encode_into-length.ensures.bytes c.encode_into-length.ensures.stop c.div_ceil-sectors.ensures)

pub commit_record-requires-clause-headed : goal.commit_record-requires-clause-headed
commit_record-requires-clause-headed g c =
    let fields = parts_fields c.args.parts.now in
    cut_headed fields _ _ c.requires.valid
    (is_cut fields c.encode_into-length.new.out _ _ c.requires.valid c.encode_into-length.ensures.bytes c.encode_into-length.ensures.stop c.div_ceil-sectors.ensures)

pub returns-clause-round : goal.returns-clause-round
returns-clause-round g c =
    let fields = parts_fields c.args.parts.now in
    cut_round _ fields _ _
    (is_cut fields c.encode_into-length.new.out _ _ c.requires.valid c.encode_into-length.ensures.bytes c.encode_into-length.ensures.stop c.div_ceil-sectors.ensures)
    c.commit_record.ensures
