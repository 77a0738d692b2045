use Rattle.std.proofs.Common.{◌<◌, ◌∙◌, arith, ap, length}
use Rattle.label_store.specs.Layout.{labels_of}
use Rattle.label_store.proofs.Looking.{label_more, looked, pushed_two, pushed_count}
use Rattle.label_store.proofs.Reading.{looks_read, part_reads, reads_more, on_err}
use Rattle.label_store.proofs.look.look.Goals as goal

pub returns-in_err-read_part-clause-reads : goal.returns-in_err-read_part-clause-reads
returns-in_err-read_part-clause-reads g c =
    on_err c.from_residual.result (reads_more (looks_read c.args.dev _ c.loop-at.invariant.looks) c.in_err-read_part.ensures.reads)

pub returns-in_err-push-clause-reads : goal.returns-in_err-push-clause-reads
returns-in_err-push-clause-reads g c =
    on_err c.from_residual-in_err-push.result (reads_more (looks_read c.args.dev _ c.loop-at.invariant.looks) (part_reads c.in_ok-read_part.ensures.read))

pub returns-in_err-read_part-2-clause-reads : goal.returns-in_err-read_part-2-clause-reads
returns-in_err-read_part-2-clause-reads g c =
    on_err c.from_residual-in_err-read_part-2.result
    (reads_more (reads_more (looks_read c.args.dev _ c.loop-at.invariant.looks) (part_reads c.in_ok-read_part.ensures.read)) c.in_err-read_part-2.ensures.reads)

pub returns-in_err-push-2-clause-reads : goal.returns-in_err-push-2-clause-reads
returns-in_err-push-2-clause-reads g c =
    on_err c.from_residual-in_err-push-2.result
    (reads_more (reads_more (looks_read c.args.dev _ c.loop-at.invariant.looks) (part_reads c.in_ok-read_part.ensures.read)) (part_reads c.in_ok-read_part-2.ensures.read))

pub loop-at-preserved : goal.loop-at-preserved
loop-at-preserved g c =
    let lt : c.loop-at.at-index < length c.labels_of-labels.result = omega (arith, ap length c.labels_of-labels.ensures) in
    let pushed = pushed_two c.loop-at.parts.items c.push.new.self.items c.push-in-loop-at.new.self.items c.in_ok-read_part.field-0 c.in_ok-read_part-2.field-0
    c.in_ok-push.ensures.items c.in_ok-push-2.ensures.items in
    record {
      count = pushed_count c.loop-at.parts.items c.push-in-loop-at.new.self.items c.in_ok-read_part.field-0 c.in_ok-read_part-2.field-0 c.loop-at.at-index pushed c.loop-at.invariant.count;
      looks = label_more c.args.dev c.labels_of-labels.result c.loop-at.at-index c.in_ok-read_part.field-0 c.in_ok-read_part-2.field-0 c.push-in-loop-at.new.self.items lt pushed
          c.loop-at.invariant.looks c.in_ok-read_part.ensures.read c.in_ok-read_part-2.ensures.read;
    }

pub returns-clause-looks : goal.returns-clause-looks
returns-clause-looks g c =
    looked c.args.dev ((g.B.Bank.view c.args.bank.now).size c.args.dev) c.labels_of-labels.result c.loop-at.at-index (c.labels_of-labels.ensures ∙ ap labels_of c.sectors.ensures)
    (omega (arith, ap length c.labels_of-labels.ensures)) c.loop-at.invariant.looks
