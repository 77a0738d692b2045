use Rattle.std.proofs.Common.{take}
use Rattle.label_store.proofs.Looking.{LooksSoFar}
use Rattle.label_store.proofs.look.newest.Given as goal

abbrev pub invariant-loop-dev : goal.invariant-loop-dev
invariant-loop-dev g l =
    LooksSoFar g.R.BlobRule.head_of (g.B.Bank.view l.initial.bank).size (take l.dev-index l.devs) l.name l.dev-index
    (g.B.Bank.view l.initial.bank) (g.B.Bank.view l.bank) l.best
