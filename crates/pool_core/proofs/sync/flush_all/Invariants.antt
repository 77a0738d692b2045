use Rattle.std.proofs.Common.{◌≡◌, ℕ, List, None, map, take}
use Rattle.bank_core.specs.Asks.{Flushes}
use Rattle.bank_core.specs.Parts.{MakesPart}
use Rattle.pool_core.proofs.sync.flush_all.Given as goal

abbrev pub invariant-loop-member : goal.invariant-loop-member
invariant-loop-member g l = record {
  size : (d : ℕ) → (g.B.Bank.view l.bank).size d ≡ (g.B.Bank.view l.initial.bank).size d;
  numbers : (name : List ℕ) → (g.B.Bank.view l.bank).number_of name ≡ (g.B.Bank.view l.initial.bank).number_of name;
  lookups : (g.B.Bank.view l.bank).lookup_faults ≡ (g.B.Bank.view l.initial.bank).lookup_faults;
  part : MakesPart (map (λ m. Flushes m.dev) (take l.member-index l.members))
      (g.B.Bank.view l.initial.bank).told (g.B.Bank.view l.bank).told (g.B.Bank.view l.initial.bank).faults (g.B.Bank.view l.bank).faults None;
}
