-- How the leaves of a record are found.
use Rattle.std.specs.Prelude.{◌≡◌, ℕ, List, ◌++◌, map, Option}
use Rattle.mp_base.specs.declared.number.Guid.{Guid}
use Rattle.bank_core.specs.BankView.{BankView}
use Rattle.bank_core.specs.Calls.{Makes}
use Rattle.bank_core.specs.Disk.{Noted}
use Rattle.vdev_tree.specs.declared.vdev.LeafVdev.{LeafVdev}
use Rattle.txg_history.specs.Pages.{LeafKept}
use Rattle.pool_moves.specs.OpeningRow.{IsSought, AreSought}

-- The leaf of this number, under a top of so many sectors, was looked for on the device that is handed in under its name, by just
-- these calls.
pub record FindsDevice (pool member : Guid) (sectors : ℕ) (handed found : Option ℕ) (old new : BankView) : Type 0 where
  pub made : List Noted
  pub calls : Makes made old new
  pub sought : IsSought pool old.size sectors member handed made found

-- the devices that are handed in under the leaves' names
abbrev pub handed_to : (handed : List ℕ → Option ℕ) → List LeafVdev → List (Option ℕ)
handed_to handed leaves = map (λ leaf. handed leaf.name) leaves

-- These leaves were looked for, one after another, by just these calls, and their devices stand at the front of the list, before
-- what is left of it.
pub record FindsLeaves (pool : Guid) (room : ℕ → ℕ) (handed : List ℕ → Option ℕ) (leaves : List LeafKept) (left devs : List (Option ℕ))
    (old new : BankView) : Type 0 where
  pub made : List Noted
  pub calls : Makes made old new
  pub found : List (Option ℕ)
  pub sought : AreSought pool old.size room handed leaves made found
  pub devs_are : devs ≡ found ++ left
