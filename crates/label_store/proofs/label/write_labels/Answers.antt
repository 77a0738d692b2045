use Rattle.std.proofs.Common.{◌+◌, ◌<◌, arith, length}
use Rattle.std.proofs.lemmas.Result.{err_from_is_err_and}
use Rattle.bank_core.proofs.Framing.{part_write}
use Rattle.label_store.proofs.Writing.{one_more, stops_there}
use Rattle.label_store.proofs.label.write_labels.Goals as goal

pub returns-in_err-write : goal.returns-in_err-write
returns-in_err-write g c =
    let p = err_from_is_err_and c.from_residual.result c.from_residual.ensures.1 in
    let lt : c.loop-at.at-index < length c.args.labels.now = omega arith in
    rw (p.1, p.2) (stops_there c.args.dev c.args.labels.now c.args.offset c.args.bytes.now (c.loop-at.at-index + 1)
    (one_more c.args.dev c.args.labels.now c.args.offset c.args.bytes.now c.loop-at.at-index lt c.loop-at.invariant (part_write c.in_err-write.ensures)))

pub loop-at-preserved : goal.loop-at-preserved
loop-at-preserved g c =
    let lt : c.loop-at.at-index < length c.args.labels.now = omega arith in
    one_more c.args.dev c.args.labels.now c.args.offset c.args.bytes.now c.loop-at.at-index lt c.loop-at.invariant (part_write c.in_ok-write.ensures)
