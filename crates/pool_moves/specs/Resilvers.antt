-- When a resilver starts by itself.
use Rattle.std.specs.Prelude.{◌≡◌, ◌⊎◌, ℕ, Bool, true, false, List, [], ◌∷◌, ◌++◌}
use Rattle.vdev_tree.specs.Leaf.{is_up}
use Rattle.pool_moves.specs.FreezeRow.{up_devs}
use Rattle.pool_moves.specs.Leaves.{LeafSeen}
use Rattle.pool_moves.specs.Moves.{Move, Scan_from, Rest}
use Rattle.pool_moves.specs.States.{PoolSeen}

-- a readable leaf owes a group
pub record IsOwing (leaf : LeafSeen) : Type 0 where
  pub up : is_up leaf.own.mode ≡ true
  pub group : ℕ
  pub owes : leaf.owes group ≡ true

abbrev pub HasOwing : List LeafSeen → Type 0
HasOwing [] = ⊥
HasOwing (leaf ∷ leaves) = IsOwing leaf ⊎ HasOwing leaves

-- a scan that runs ends
abbrev pub rest_if : (running : Bool) → List Move
rest_if true = Rest ∷ []
rest_if false = []

-- a new resilver over keys born up to the number of the record that the open pool reads, for the readable leaves
pub record StartsResilver (s : PoolSeen) (vs : List Move) : Type 0 where
  pub owing : HasOwing s.leaves
  pub opened : s.opened ≡ true
  pub moves : vs ≡ rest_if s.scan.running ++ (Scan_from s.read_number (up_devs s.leaves) ∷ [])

-- Where a readable leaf owes a group, a new resilver starts, and a scan that runs ends before; else nothing is done.
abbrev pub Resilvers : PoolSeen → List Move → Type 0
Resilvers s vs = StartsResilver s vs ⊎ ((HasOwing s.leaves → ⊥) × (vs ≡ []))
