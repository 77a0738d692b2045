-- The state of a pool behind an opening, and where the history has its leaves.
use Rattle.std.specs.Prelude.{◌≡◌, ◌⊎◌, ℕ, ◌<◌, ◌≤◌, ◌==◌, ◌&&◌, ◌||◌, Bool, true, false, Option, Some, None, List, [], ◌∷◌}
use Rattle.std.specs.List.{AllByRecursion}
use Rattle.mp_base.specs.declared.number.Guid.{Guid}
use Rattle.vdev_tree.specs.declared.vdev.Counts.{Counts}
use Rattle.vdev_tree.specs.declared.vdev.State.{State}
use Rattle.vdev_tree.specs.declared.vdev.State.TheVariants.{Unavail}
use Rattle.label_store.specs.declared.found.Found.{Found}
use Rattle.txg_history.specs.Events.{Opens}
use Rattle.txg_history.specs.Groups.{no_log}
use Rattle.txg_history.specs.Pages.{LeafKept, Codec}
use Rattle.txg_history.specs.Pools.{Pool, after}
use Rattle.txg_history.specs.Records.{Rec}
use Rattle.pool_moves.specs.FreezeRow.{is_dev}
use Rattle.pool_moves.specs.Leaves.{OwnLeaf, LeafSeen, Seat, At, Adrift}
use Rattle.pool_moves.specs.Rosters.{member_of}
use Rattle.pool_moves.specs.States.{Sums, no_group_seen, no_scan_seen, PoolState, Side}

-- a leaf of this number is among these
abbrev pub HasKept : Guid → List LeafKept → Type 0
HasKept m [] = ⊥
HasKept m (leaf ∷ leaves) = ((leaf.guid.0 == m.0) ≡ true) ⊎ HasKept m leaves

-- no two of them have one number
abbrev pub AreNumbersApart : List LeafKept → Type 0
AreNumbersApart [] = Unit {0}
AreNumbersApart (leaf ∷ leaves) = AllByRecursion (λ other. (leaf.guid.0 == other.guid.0) ≡ false) leaves × AreNumbersApart leaves

-- Leaves that a valid configuration may have: each under a top and with a number of its own, below the next one.
pub record AreValidLeaves (next : ℕ) (leaves : List LeafKept) : Type 0 where
  pub apart : AreNumbersApart leaves
  pub under : AllByRecursion (λ leaf. 1 ≤ leaf.top) leaves
  pub below : AllByRecursion (λ leaf. leaf.guid.0 < next) leaves

abbrev pub no_counts : Counts
no_counts = record { reads = 0; writes = 0; mismatches = 0 }

-- a leaf whose device wasn't found is UNAVAIL, else it has the state that was kept
abbrev pub found_mode : Option ℕ → State → State
found_mode None mode = Unavail
found_mode (Some d) mode = mode

abbrev pub opened_own : LeafKept → Option ℕ → OwnLeaf
opened_own leaf dev = record {
  name = leaf.name;
  mode = found_mode dev leaf.mode;
  temporary = false;
  marked = leaf.marked;
  counts = no_counts;
  joined = false;
  faults = 0;
}

-- A leaf of the configuration, on the device where it was found.
abbrev pub opened_leaf : LeafKept → Option ℕ → LeafSeen
opened_leaf leaf dev = record {
  guid = leaf.guid;
  dev = dev;
  own = opened_own leaf dev;
  top = leaf.top;
  owes = leaf.owes;
  settled = no_log 0;
  on = false;
}

abbrev pub opened_leaves : List LeafKept → (devs : List (Option ℕ)) → List LeafSeen
opened_leaves [] devs = []
opened_leaves (leaf ∷ leaves) [] = []
opened_leaves (leaf ∷ leaves) (dev ∷ devs) = opened_leaf leaf dev ∷ opened_leaves leaves devs

-- The state behind an opening of this record, with its leaves on these devices and the pointers that were read back.
abbrev pub opened_state : Codec → (name : List ℕ) → Found → (devs : List (Option ℕ)) → (got : Sums) → PoolState
opened_state c name found devs got = record {
  own = record {
    blocks = c.blocks found.blob.items;
    writes = λ a. None;
    top_number = c.top_number found.blob.items;
    children = c.children found.blob.items;
    spares = c.spares found.blob.items;
    next_member = c.next_member found.blob.items;
    scrubs = false;
  };
  core = record {
    name = name;
    pool = found.pool;
    number = found.number.0;
    read_number = found.number.0;
    opened = false;
    committed = got;
    room = c.room found.blob.items;
    leaves = opened_leaves (c.leaves found.blob.items) devs;
    group = no_group_seen;
    scan = no_scan_seen;
    pinned = [];
  };
}

-- Where the history has a leaf: at the device where it was found; else at the member of its number, or at none.
abbrev pub seat_unfound : Option ℕ → LeafKept → Seat
seat_unfound (Some d) leaf = At d false (opened_own leaf None)
seat_unfound None leaf = Adrift (opened_leaf leaf None)

abbrev pub opened_seat : Pool → (roster : List ℕ) → LeafKept → Option ℕ → Seat
opened_seat p roster leaf (Some d) = At d true (opened_own leaf (Some d))
opened_seat p roster leaf None = seat_unfound (member_of p roster leaf.guid) leaf

abbrev pub opened_seats : Pool → (roster : List ℕ) → List LeafKept → (devs : List (Option ℕ)) → List Seat
opened_seats p roster [] devs = []
opened_seats p roster (leaf ∷ leaves) [] = []
opened_seats p roster (leaf ∷ leaves) (dev ∷ devs) = opened_seat p roster leaf dev ∷ opened_seats p roster leaves devs

-- the pool reads the record from here on, and has its leaves at these seats
abbrev pub opened_side : Pool → Rec → (roster : List ℕ) → List LeafKept → (devs : List (Option ℕ)) → Side
opened_side p r roster leaves devs = record { pool = after (Opens r) p; seats = opened_seats p roster leaves devs }

-- the device is taken for the leaf of this number
abbrev pub claims_of : List LeafKept → (devs : List (Option ℕ)) → ℕ → Guid → Bool
claims_of [] devs d m = false
claims_of (leaf ∷ leaves) [] d m = false
claims_of (leaf ∷ leaves) (dev ∷ devs) d m = (is_dev d dev && (leaf.guid.0 == m.0)) || claims_of leaves devs d m
