use Rattle.std.proofs.Common.{◌+◌, ◌%◌, [], ◌∷◌, arith, ap, ◌∙◌}
use Rattle.std.proofs.lemmas.Result.{err_from_is_err_and}
use Rattle.bank_core.specs.Asks.{Flushes}
use Rattle.bank_core.proofs.Blocks.{block_whole, block_sectors}
use Rattle.bank_core.proofs.Framing.{part_flush, part_more, part_stop}
use Rattle.label_store.specs.Layout.{labels_of}
use Rattle.label_store.specs.Uberblock.{uberblock_bytes}
use Rattle.label_store.proofs.Writing.{labels_inside, writes_as}
use Rattle.label_store.proofs.label.write_rings.Goals as goal

pub write_labels-requires-clause-whole : goal.write_labels-requires-clause-whole
write_labels-requires-clause-whole g c = block_whole c.write_uberblock.new.out c.write_uberblock.auto.out

pub write_labels-requires-clause-inside : goal.write_labels-requires-clause-inside
write_labels-requires-clause-inside g c =
    labels_inside c.labels_of-labels.result c.sectors.result _ (32 + c.args.u.now.number.0 % 32) c.write_uberblock.new.out 1
    c.labels_of-labels.ensures c.sectors.ensures c.requires.device (block_sectors c.write_uberblock.new.out c.write_uberblock.auto.out) (omega arith)

pub returns-in_err-write_labels : goal.returns-in_err-write_labels
returns-in_err-write_labels g c =
    let p = err_from_is_err_and c.from_residual.result c.from_residual.ensures.1 in
    let size = (g.B.Bank.view c.args.bank.now).size c.args.dev in
    rw (p.1, p.2) (part_stop (Flushes c.args.dev ∷ [])
    (writes_as c.args.dev c.labels_of-labels.result (labels_of size) (32 + c.args.u.now.number.0 % 32) c.write_uberblock.new.out (uberblock_bytes c.args.u.now)
    (c.labels_of-labels.ensures ∙ ap labels_of c.sectors.ensures) c.write_uberblock.ensures c.in_err-write_labels.ensures))

pub returns : goal.returns
returns g c =
    let size = (g.B.Bank.view c.args.bank.now).size c.args.dev in
    part_more
    (writes_as c.args.dev c.labels_of-labels.result (labels_of size) (32 + c.args.u.now.number.0 % 32) c.write_uberblock.new.out (uberblock_bytes c.args.u.now)
    (c.labels_of-labels.ensures ∙ ap labels_of c.sectors.ensures) c.write_uberblock.ensures c.in_ok-write_labels.ensures)
    (part_flush c.flush.ensures)
