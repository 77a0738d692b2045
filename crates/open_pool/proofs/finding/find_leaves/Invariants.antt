use Rattle.std.proofs.Common.{◌≡◌, ℕ, List, Option, length, take}
use Rattle.dtl_rules.specs.Widening.{leaves_of}
use Rattle.open_pool.specs.Finding.{handed_to}
use Rattle.open_pool.proofs.LeavesSought.{SoFarUnder}
use Rattle.open_pool.proofs.finding.find_leaves.Given as goal

abbrev pub invariant-loop-i : goal.invariant-loop-i
invariant-loop-i g l = record {
  at : l.at ≡ length (leaves_of (take l.i l.tops));
  long : length l.devs ≡ length l.initial.devs;
  found : (handed : List ℕ → Option ℕ) → handed_to handed (leaves_of l.tops) ≡ l.initial.devs
      → SoFarUnder l.pool handed l.tops l.i l.devs (g.B.Bank.view l.initial.bank) (g.B.Bank.view l.bank);
}
