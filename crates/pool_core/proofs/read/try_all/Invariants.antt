use Rattle.std.proofs.Common.{◌≡◌, ℕ, List, take}
use Rattle.pool_core.specs.Tries.{Misses}
use Rattle.pool_core.proofs.read.try_all.Given as goal

abbrev pub invariant-loop-member : goal.invariant-loop-member
invariant-loop-member g l = record {
  size : (d : ℕ) → (g.B.Bank.view l.bank).size d ≡ (g.B.Bank.view l.initial.bank).size d;
  numbers : (name : List ℕ) → (g.B.Bank.view l.bank).number_of name ≡ (g.B.Bank.view l.initial.bank).number_of name;
  lookups : (g.B.Bank.view l.bank).lookup_faults ≡ (g.B.Bank.view l.initial.bank).lookup_faults;
  misses : Misses l.at l.sum (take l.member-index l.members) (g.B.Bank.view l.initial.bank).told (g.B.Bank.view l.bank).told
      (g.B.Bank.view l.initial.bank).faults (g.B.Bank.view l.bank).faults l.seen;
}
