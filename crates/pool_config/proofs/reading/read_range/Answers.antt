use Rattle.pool_config.proofs.Taking.{range_read, range_behind}
use Rattle.pool_config.proofs.reading.read_range.Goals as goal

pub returns-clause-range : goal.returns-clause-range
returns-clause-range c =
    range_read c.args.cursor.now c.number.new.self c.number.result c.number-2.result c.number.ensures.value
    c.number.ensures.rest c.number-2.ensures.value

pub returns-clause-rest : goal.returns-clause-rest
returns-clause-rest c =
    range_behind c.args.cursor.now c.number.new.self c.number-2.new.self c.number.ensures.rest c.number-2.ensures.rest
