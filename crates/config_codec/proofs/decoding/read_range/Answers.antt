use Rattle.config_codec.proofs.Taking.{range_read}
use Rattle.config_codec.proofs.decoding.read_range.Goals as goal

pub returns-clause-range : goal.returns-clause-range
returns-clause-range c =
    range_read c.args.cursor.now c.number.new.self c.number.result c.number-2.result c.number.ensures.value c.number.ensures.rest c.number-2.ensures.value
