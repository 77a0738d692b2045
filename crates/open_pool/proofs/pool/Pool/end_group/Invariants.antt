use Rattle.std.proofs.Common.{◌≡◌, ℕ, true, is_some}
use Rattle.pool_moves.specs.States.{PoolState}
use Rattle.open_pool.specs.Here.{AreHere}
use Rattle.open_pool.specs.State.{Stands}
use Rattle.open_pool.specs.Turning.{turns_in}
use Rattle.open_pool.proofs.GroupsEnded.{HasGone}
use Rattle.open_pool.proofs.pool.Pool.end_group.Given as goal

abbrev pub invariant-loop-number : goal.invariant-loop-number
invariant-loop-number g l = record {
  frozen : is_some l.self.frozen ≡ true;
  here : (size : ℕ → ℕ) → AreHere size l.initial.self.tops → AreHere size l.self.tops;
  gone : (s : PoolState) → Stands l.initial.self s → HasGone s l.self (g.B.Bank.view l.initial.bank) (g.B.Bank.view l.bank);
}

abbrev pub decreases-loop-number : goal.decreases-loop-number
decreases-loop-number g l = turns_in l.self.frozen
