-- The scan of an open pool.
use Rattle.std.specs.Prelude.{◌≡◌, ◌⊎◌, ℕ, ◌==◌, ◌&&◌, Bool, true, false, cond, List, [], ◌∷◌, map, Option, Some, None, option_map, if◌then◌else◌}
use Rattle.std.specs.List.{filter_map, list_any}
use Rattle.group_set.specs.Groups.{holds}
use Rattle.vdev_tree.specs.Leaf.{is_readable}
use Rattle.vdev_tree.specs.declared.vdev.LeafVdev.{LeafVdev}
use Rattle.pool_moves.specs.States.{ScanSeen, started_seen, no_scan_seen}
use Rattle.open_pool.specs.declared.scan.Scan.{Scan}
use Rattle.open_pool.specs.declared.scan.ScanLeaf.{ScanLeaf}

-- a readable leaf in a scan that starts, and those of these leaves
abbrev pub scan_leaf : LeafVdev → Option ScanLeaf
scan_leaf leaf = if is_readable leaf then option_map (λ dev. record { dev = dev; eligible = true }) leaf.dev else None

abbrev pub scan_leaves : List LeafVdev → List ScanLeaf
scan_leaves leaves = filter_map scan_leaf leaves

-- where it is on this device, it is no longer eligible
abbrev pub dropped : (dev : ℕ) → ScanLeaf → ScanLeaf
dropped dev leaf = cond (leaf.dev == dev) (record leaf { eligible = false }) leaf

-- the scan behind a leaf that went, which has a device or none
abbrev pub dropped_from : (dev : Option ℕ) → Option Scan → Option Scan
dropped_from None scan = scan
dropped_from (Some d) scan = option_map (λ (s : Scan). record s { leaves = map (dropped d) s.leaves }) scan

-- a device with an eligible leaf
abbrev pub is_eligible : List ScanLeaf → ℕ → Bool
is_eligible leaves d = list_any (λ leaf. leaf.eligible && (d == leaf.dev)) leaves

-- the scan as the rows have it: it has come past no key yet
abbrev pub scan_of : Option Scan → ScanSeen
scan_of None = no_scan_seen
scan_of (Some scan) = started_seen scan.hi.0 (is_eligible scan.leaves)

-- a readable leaf that owes a group
pub record IsOwing (leaf : LeafVdev) : Type 0 where
  pub up : is_readable leaf ≡ true
  pub group : ℕ
  pub owes : holds leaf.log group ≡ true

abbrev pub HasOwing : List LeafVdev → Type 0
HasOwing [] = ⊥
HasOwing (leaf ∷ leaves) = IsOwing leaf ⊎ HasOwing leaves
