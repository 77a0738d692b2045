use Rattle.std.proofs.Common.{None, take}
use Rattle.bank_core.specs.Parts.{Part}
use Rattle.label_store.specs.Plans.{label_writes}
use Rattle.label_store.proofs.label.write_labels.Given as goal

abbrev pub invariant-loop-at : goal.invariant-loop-at
invariant-loop-at g l =
    Part l.dev (label_writes l.dev (take l.at-index l.labels) l.offset l.bytes) (g.B.Bank.view l.initial.bank) (g.B.Bank.view l.bank) None
