use Rattle.config_codec.proofs.Taking.{pointer_read}
use Rattle.config_codec.proofs.decoding.read_pointer.Goals as goal

pub returns-clause-pointer : goal.returns-clause-pointer
returns-clause-pointer c =
    pointer_read c.args.cursor.now c.number.new.self c.skip.new.self c.number-sector.new.self c.number.result c.number-sector.result c.bytes-sum.result c.then_some.result
    c.number.ensures.value c.number.ensures.rest c.skip.ensures c.number-sector.ensures.value c.number-sector.ensures.rest c.bytes-sum.ensures.value c.then_some.ensures
