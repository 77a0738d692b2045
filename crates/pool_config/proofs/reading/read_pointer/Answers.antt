use Rattle.pool_config.proofs.Taking.{pointer_read}
use Rattle.pool_config.proofs.reading.read_pointer.Goals as goal

pub returns-clause-pointer : goal.returns-clause-pointer
returns-clause-pointer c =
    pointer_read c.args.cursor.now c.number.new.self c.count-top.new.self c.number-sector.new.self c.number.result
    c.count-top.result c.number-sector.result c.bytes.result
    c.number.ensures.value c.number.ensures.rest c.count-top.ensures.value c.count-top.ensures.rest
    c.number-sector.ensures.value c.number-sector.ensures.rest c.bytes.ensures.value
