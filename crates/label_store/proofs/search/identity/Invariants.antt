use Rattle.std.proofs.Common.{◌+◌, take, map}
use Rattle.label_store.specs.Identities.{Misses}
use Rattle.label_store.proofs.search.identity.Given as goal

abbrev pub invariant-loop-at : goal.invariant-loop-at
invariant-loop-at g l =
    Misses l.pool l.member l.dev (map (λ at. at + 32) (take l.at-index l.at-items)) (g.B.Bank.view l.initial.bank) (g.B.Bank.view l.bank) l.failed
