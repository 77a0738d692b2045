use Rattle.std.proofs.Common.{false, true, length, ap, arith}
use Rattle.pool_core.proofs.Growing.{copy_more}
use Rattle.pool_core.proofs.pair.Pair.tries.Goals as goal

pub push_copy-requires-2 : goal.push_copy-requires-2
push_copy-requires-2 c =
    let more = copy_more c.first.result.now c.args.birth.0 false c.new-tries.result c.push_copy.new.board c.push_copy.ensures in
    omega (arith, more, ap length c.new-tries.ensures)

pub push_copy-requires-3 : goal.push_copy-requires-3
push_copy-requires-3 c =
    let more = copy_more c.first.result.now c.args.birth.0 false c.new-tries.result c.push_copy.new.board c.push_copy.ensures in
    let further = copy_more c.second.result.now c.args.birth.0 false c.push_copy.new.board c.push_copy-2.new.board c.push_copy-2.ensures in
    omega (arith, more, further, ap length c.new-tries.ensures)

pub push_copy-requires-4 : goal.push_copy-requires-4
push_copy-requires-4 c =
    let more = copy_more c.first.result.now c.args.birth.0 false c.new-tries.result c.push_copy.new.board c.push_copy.ensures in
    let further = copy_more c.second.result.now c.args.birth.0 false c.push_copy.new.board c.push_copy-2.new.board c.push_copy-2.ensures in
    let last = copy_more c.first-2.result.now c.args.birth.0 true c.push_copy-2.new.board c.push_copy-3.new.board c.push_copy-3.ensures in
    omega (arith, more, further, last, ap length c.new-tries.ensures)
