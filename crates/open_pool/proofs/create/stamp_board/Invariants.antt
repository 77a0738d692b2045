use Rattle.std.proofs.Common.{◌≡◌, ℕ, List, take, None}
use Rattle.pool_moves.specs.StampRow.{NewLeaf}
use Rattle.open_pool.specs.Creating.{AreSeatsOf, Stamps}
use Rattle.open_pool.proofs.create.stamp_board.Given as goal

abbrev pub invariant-loop-i : goal.invariant-loop-i
invariant-loop-i g l = record {
  sizes : (d : ℕ) → (g.B.Bank.view l.bank).size d ≡ (g.B.Bank.view l.initial.bank).size d;
  so_far : (leaves : List NewLeaf) → AreSeatsOf leaves l.seats
      → Stamps l.pool (take l.i leaves) None (g.B.Bank.view l.initial.bank) (g.B.Bank.view l.bank);
}
