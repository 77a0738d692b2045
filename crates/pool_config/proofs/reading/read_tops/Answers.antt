use Rattle.std.proofs.Common.{◌-◌, ◌+◌, ap, arith, Err}
use Rattle.pool_config.proofs.Taking.{handed_on}
use Rattle.pool_config.proofs.TakingTrees.{no_tops, one_top, tops_taken, tops_bad}
use Rattle.pool_config.proofs.reading.read_tops.Goals as goal

pub loop-init : goal.loop-init
loop-init c =
    rw c.new-tops.ensures.items (no_tops c.args.number (c.count-count.result - 0) c.count-count.result
    c.count-count.new.self c.args.members.now (omega arith))

pub returns-in_err-read_top-clause-none : goal.returns-in_err-read_top-clause-none
returns-in_err-read_top-clause-none c = λ none.
    let same = handed_on c.in_err-read_top.field-0.0 _ c.from_residual.result c.from_residual.ensures.1 none in
    tops_bad c.args.number (c.count-count.result - c.loop.counter) (c.count-count.result - (c.loop.counter + 1))
    c.count-count.result c.args.cursor.now c.count-count.new.self c.loop.cursor
    c.args.members.now c.loop.members c.loop.tops.items c.count-count.ensures.value c.count-count.ensures.rest
    (omega (arith, c.loop-test.true)) c.loop.invariant (c.in_err-read_top.ensures.none (ap Err same))

pub loop-preserved : goal.loop-preserved
loop-preserved c =
    rw c.in_ok-push.ensures.items
    (one_top c.args.number (c.count-count.result - c.loop.counter) (c.count-count.result - (c.loop.counter + 1))
    c.count-count.result c.count-count.new.self c.loop.cursor c.read_top.new.cursor
    c.args.members.now c.loop.members c.read_top.new.members c.loop.tops.items c.in_ok-read_top.field-0
    (omega (arith, c.loop-test.true)) c.loop.invariant c.in_ok-read_top.ensures.taken)

pub returns-clause-taken : goal.returns-clause-taken
returns-clause-taken c =
    tops_taken c.args.number (c.count-count.result - c.loop.counter) c.count-count.result c.args.cursor.now
    c.count-count.new.self c.loop.cursor c.args.members.now c.loop.members c.loop.tops.items
    c.count-count.ensures.value c.count-count.ensures.rest (omega (arith, c.loop-test.false)) c.loop.invariant
