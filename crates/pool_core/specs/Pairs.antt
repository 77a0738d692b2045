-- The tree of a pool at this stage: one top, a mirror of two leaves.
use Rattle.std.specs.Prelude.{◌≡◌, ℕ, ◌≤◌, Bool, true, false, not, ◌||◌, is_some, List, [], ◌∷◌, Option, Some, None}
use Rattle.mp_base.specs.declared.number.Group.{Group}
use Rattle.mp_base.specs.declared.number.Guid.{Guid}
use Rattle.config_codec.specs.declared.config.LeafConfig.{LeafConfig}
use Rattle.config_codec.specs.declared.config.Pointer.{Pointer}
use Rattle.config_codec.specs.Fields.{Fields}
use Rattle.group_set.specs.Ranges.{ranges_upto}
use Rattle.pool_core.specs.Recorded.{kept_of}
use Rattle.group_set.specs.Groups.{holds}
use Rattle.vdev_tree.specs.Leaf.{is_up}
use Rattle.vdev_tree.specs.Tree.{leaves, marks, guid_of, pair_marks}
use Rattle.vdev_tree.specs.declared.top.Top.{Top}
use Rattle.vdev_tree.specs.declared.vdev.LeafVdev.{LeafVdev}
use Rattle.vdev_tree.specs.declared.vdev.State.TheVariants as states

-- the mirror's number, the data sectors of each member, and the two leaves in tree order
pub record PairState : Type 0 where
  pub mirror : Guid
  pub sectors : ℕ
  pub first : LeafVdev
  pub second : LeafVdev

-- a leaf in the place of none
abbrev pub no_leaf : LeafVdev
no_leaf = record {
  guid = record { 0 = 0 };
  name = [];
  dev = None;
  state = states.Unavail;
  log = record { runs = []; spare = 0 };
  settled = record { runs = []; spare = 0 };
  marked = false;
  temporary = false;
  counts = record { reads = 0; writes = 0; mismatches = 0 };
}

abbrev pub first_in : List LeafVdev → LeafVdev
first_in [] = no_leaf
first_in (leaf ∷ some) = leaf

abbrev pub second_in : List LeafVdev → LeafVdev
second_in [] = no_leaf
second_in (leaf ∷ some) = first_in some

abbrev pub pair_in : Top → PairState
pair_in top = record {
  mirror = guid_of top.mirror;
  sectors = top.sectors;
  first = first_in (leaves top.mirror);
  second = second_in (leaves top.mirror);
}

-- the tree is a mirror of two leaves
pub record HasTwo (top : Top) : Type 0 where
  pub leaves_are : leaves top.mirror ≡ first_in (leaves top.mirror) ∷ second_in (leaves top.mirror) ∷ []
  pub built : marks top.mirror ≡ pair_marks (guid_of top.mirror)

abbrev pub both : PairState → List LeafVdev
both pair = pair.first ∷ pair.second ∷ []

-- the groups of its log are from 1 to this one
abbrev pub IsLoggedTo : (number : ℕ) → LeafVdev → Type 0
IsLoggedTo number leaf = (g : ℕ) → holds leaf.log g ≡ true → (1 ≤ g) × (g ≤ number)

-- a leaf that is readable has a device
abbrev pub has_device : LeafVdev → Bool
has_device leaf = not (is_up leaf.state) || is_some leaf.dev

-- the two leaves are on two devices
abbrev pub AreApart : PairState → Type 0
AreApart pair = (d : ℕ) → pair.first.dev ≡ Some d → pair.second.dev ≡ Some d → ⊥

-- what a record keeps of a leaf
abbrev pub leaf_fields : (number : ℕ) → LeafVdev → LeafConfig
leaf_fields number leaf = record {
  member = leaf.guid;
  name = leaf.name;
  kept = kept_of leaf.state leaf.temporary;
  marked = leaf.marked;
  log = ranges_upto (holds leaf.log) number;
}

-- the configuration of a pool of these parts
abbrev pub fields_from : (pool : Guid) → (name : List ℕ) → (blocks : ℕ) → (number : Group) → (next_member : ℕ) → List (Option Pointer) → PairState → Fields
fields_from pool name blocks number next_member pointers pair = record {
  pool = pool;
  name = name;
  blocks = blocks;
  number = number;
  next_member = next_member;
  pointers = pointers;
  sectors = pair.sectors;
  mirror = pair.mirror;
  first = leaf_fields number.0 pair.first;
  second = leaf_fields number.0 pair.second;
}
