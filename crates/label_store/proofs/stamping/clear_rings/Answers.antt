use Rattle.std.proofs.Common.{arith, ap, ◌∙◌}
use Rattle.label_store.specs.Layout.{labels_of}
use Rattle.label_store.specs.Plans.{zero_ring}
use Rattle.label_store.proofs.Writing.{labels_inside, writes_as, ring_whole, ring_sectors}
use Rattle.label_store.proofs.stamping.clear_rings.Goals as goal

pub write_labels-requires-clause-whole : goal.write_labels-requires-clause-whole
write_labels-requires-clause-whole g c = ring_whole c.zero_ring-zeros.result c.zero_ring-zeros.ensures

pub write_labels-requires-clause-inside : goal.write_labels-requires-clause-inside
write_labels-requires-clause-inside g c =
    labels_inside c.labels_of-labels.result c.sectors.result _ 32 c.zero_ring-zeros.result 32
    c.labels_of-labels.ensures c.sectors.ensures c.requires.device (ring_sectors c.zero_ring-zeros.result c.zero_ring-zeros.ensures) (omega arith)

pub returns : goal.returns
returns g c =
    writes_as c.args.dev c.labels_of-labels.result (labels_of ((g.B.Bank.view c.args.bank.now).size c.args.dev)) 32 c.zero_ring-zeros.result zero_ring
    (c.labels_of-labels.ensures ∙ ap labels_of c.sectors.ensures) c.zero_ring-zeros.ensures c.write_labels.ensures
