use Rattle.std.proofs.Common.{◌≡◌, ◌≤◌, ℕ, List, ◌++◌, Option, length}
use Rattle.bank_core.specs.BankView.{BankView}
use Rattle.vdev_tree.specs.Tree.{leaves}
use Rattle.txg_history.specs.Pages.{LeafKept}
use Rattle.open_pool.specs.Finding.{FindsLeaves, handed_to}
use Rattle.open_pool.proofs.LeavesSought.{SoFar}
use Rattle.open_pool.proofs.finding.find_under.Given as goal

abbrev pub invariant-loop-place : goal.invariant-loop-place
invariant-loop-place g l = record {
  inside : l.place ≤ length (leaves l.top.mirror);
  long : length l.devs ≡ length l.initial.devs;
  found : (room : ℕ → ℕ) (handed : List ℕ → Option ℕ) (number : ℕ) (done : List LeafKept) (left : List (Option ℕ)) (start : BankView)
      → room number ≡ l.top.sectors → length done ≡ l.at
      → FindsLeaves l.pool room handed done (handed_to handed (leaves l.top.mirror) ++ left) l.initial.devs start (g.B.Bank.view l.initial.bank)
      → SoFar l.pool room handed number done (leaves l.top.mirror) left l.place l.devs start (g.B.Bank.view l.bank);
}
