use Rattle.std.proofs.Common.{◌≡◌, ℕ, List, None}
use Rattle.std.specs.List.{flat_map}
use Rattle.bank_core.specs.Parts.{MakesPart}
use Rattle.pool_core.specs.State.{PoolState}
use Rattle.pool_core.specs.Keeping.{Represents, IsSeated}
use Rattle.pool_core.specs.Recorded.{addresses}
use Rattle.pool_core.specs.Syncing.{writes_at}
use Rattle.pool_core.proofs.pool.Pool.write_blocks.Given as goal

abbrev pub invariant-loop-at : goal.invariant-loop-at
invariant-loop-at g l = record {
  size : (d : ℕ) → (g.B.Bank.view l.bank).size d ≡ (g.B.Bank.view l.initial.bank).size d;
  numbers : (name : List ℕ) → (g.B.Bank.view l.bank).number_of name ≡ (g.B.Bank.view l.initial.bank).number_of name;
  lookups : (g.B.Bank.view l.bank).lookup_faults ≡ (g.B.Bank.view l.initial.bank).lookup_faults;
  seated : IsSeated (g.B.Bank.view l.bank).size l.self;
  part : (s : PoolState) → Represents l.self s → MakesPart (flat_map (writes_at s) (addresses l.at))
      (g.B.Bank.view l.initial.bank).told (g.B.Bank.view l.bank).told (g.B.Bank.view l.initial.bank).faults (g.B.Bank.view l.bank).faults None;
}
