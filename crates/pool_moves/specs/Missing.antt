-- A read that no copy served: each leaf of the block's top missed the block.
use Rattle.std.specs.Prelude.{◌≡◌, ◌⊎◌, ℕ, ◌+◌, true, Option, Some, None, List, [], ◌∷◌}
use Rattle.std.specs.List.{AllByRecursion}
use Rattle.bank_core.specs.declared.bank.Fault.{Fault}
use Rattle.bank_core.specs.Disk.{Call, Read, Noted, Sectors}
use Rattle.vdev_tree.specs.Leaf.{is_up}
use Rattle.txg_history.specs.Pages.{Sum}
use Rattle.txg_history.specs.Records.{data_start}
use Rattle.pool_moves.specs.Leaves.{LeafSeen}

-- a read of this sector failed
abbrev pub IsFailedRead : (d at : ℕ) → Call → Type 0
IsFailedRead d at call = (bytes : List ℕ) × (fault : Fault) × (call ≡ Read d at bytes (Some fault))

-- one of these calls is such a read
abbrev pub FailedAt : (d at : ℕ) → List Noted → Type 0
FailedAt d at [] = ⊥
FailedAt d at (noted ∷ made) = IsFailedRead d at noted.call ⊎ FailedAt d at made

-- On this device the block couldn't be had: a read of its sector failed, or the sector is damaged.
abbrev pub Lacked : (sectors : Sectors) → (at : ℕ) → List Noted → (d : ℕ) → Type 0
Lacked sectors at made d = FailedAt d at made ⊎ ((sectors d at).damaged ≡ true)

-- A leaf of the block's top that is readable missed the block in these calls, which left the devices so: its log has the
-- group that the block was born in, or it couldn't be had on the leaf's device.
abbrev pub Missed : Sum → List Noted → (sectors : Sectors) → LeafSeen → Type 0
Missed sum made sectors leaf = leaf.top ≡ sum.top → is_up leaf.own.mode ≡ true → (d : ℕ) → leaf.dev ≡ Some d
    → (leaf.owes sum.birth ≡ true) ⊎ Lacked sectors (data_start + sum.sector) made d

-- the record has the block, and each leaf of its top missed it
abbrev pub AllMissed : Option Sum → List Noted → (sectors : Sectors) → List LeafSeen → Type 0
AllMissed None made sectors leaves = ⊥
AllMissed (Some sum) made sectors leaves = AllByRecursion (Missed sum made sectors) leaves
