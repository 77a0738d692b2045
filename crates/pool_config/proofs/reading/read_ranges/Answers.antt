use Rattle.std.proofs.Common.{◌-◌, ◌+◌, arith}
use Rattle.pool_config.specs.Reading.{range_in}
use Rattle.pool_config.proofs.Taking.{none_read, one_read, all_read}
use Rattle.pool_config.proofs.reading.read_ranges.Goals as goal

pub loop-init : goal.loop-init
loop-init c =
    rw c.new-ranges.ensures (none_read range_in (c.args.count - 0) c.args.count c.args.cursor.now (omega arith))

pub loop-preserved : goal.loop-preserved
loop-preserved c =
    rw c.in_ok-push.ensures.ok
    (one_read range_in (c.args.count - c.loop.counter) (c.args.count - (c.loop.counter + 1)) c.args.count c.loop.ranges
    c.loop.cursor c.read_range.new.cursor c.args.cursor.now c.read_range.result
    (omega (arith, c.loop-test.true)) c.read_range.ensures.range c.read_range.ensures.rest c.loop.invariant)

pub returns-clause-ranges : goal.returns-clause-ranges
returns-clause-ranges c =
    (all_read range_in (c.args.count - c.loop.counter) c.args.count c.loop.ranges c.loop.cursor c.args.cursor.now
    (omega (arith, c.loop-test.false)) c.loop.invariant).0

pub returns-clause-rest : goal.returns-clause-rest
returns-clause-rest c =
    (all_read range_in (c.args.count - c.loop.counter) c.args.count c.loop.ranges c.loop.cursor c.args.cursor.now
    (omega (arith, c.loop-test.false)) c.loop.invariant).1
