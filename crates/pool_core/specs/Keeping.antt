-- What a pool keeps of its abstract state: what its record says, its tree, and the blocks that were written
-- since the last commit. Of a committed block it keeps where it stands and its sum.
use Rattle.std.specs.Prelude.{◌≡◌, ℕ, ◌+◌, ◌<◌, ◌≤◌, List, length, Option, Some, None, slice_get}
use Rattle.std.specs.Option.{option_map}
use Rattle.group_set.specs.Groups.{holds}
use Rattle.vdev_tree.specs.declared.vdev.LeafVdev.{LeafVdev}
use Rattle.pool_core.specs.declared.pool.Pool.{Pool}
use Rattle.pool_core.specs.Pairs.{PairState}
use Rattle.pool_core.specs.Recorded.{pointer_of}
use Rattle.pool_core.specs.State.{LeafState, Known, Version, PoolState}

-- The leaf stands for this abstract one.
pub record IsLeaf (v : LeafVdev) (leaf : LeafState) : Type 0 where
  pub member : leaf.member ≡ v.guid
  pub name : leaf.name ≡ v.name
  pub dev : leaf.dev ≡ v.dev
  pub state : leaf.state ≡ v.state
  pub temporary : leaf.temporary ≡ v.temporary
  pub marked : leaf.marked ≡ v.marked
  pub owes : (g : ℕ) → leaf.owes g ≡ holds v.log g

-- The pair stands for the leaves of this abstract state.
pub record Stands (pair : PairState) (s : PoolState) : Type 0 where
  pub mirror : s.mirror ≡ pair.mirror
  pub sectors : s.sectors ≡ pair.sectors
  pub first : IsLeaf pair.first s.first
  pub second : IsLeaf pair.second s.second

-- The pool stands for this abstract state.
pub record Represents (pool : Pool) (s : PoolState) : Type 0 where
  pub name : s.name ≡ pool.name
  pub pool_is : s.pool ≡ pool.pool
  pub blocks : s.blocks ≡ pool.blocks
  pub next_member : s.next_member ≡ pool.next_member
  pub pair : Stands pool.pair s
  pub number : s.number ≡ pool.number.0
  pub committed : (a : ℕ) → a < s.blocks → slice_get pool.pointers.items a ≡ Some (option_map pointer_of (s.committed a))
  pub writes : (a : ℕ) (block : Option (List ℕ)) → slice_get pool.writes.items a ≡ Some block → s.writes a ≡ block
  pub beyond : (a : ℕ) → s.blocks ≤ a → s.writes a ≡ None
  pub whole : (a : ℕ) (block : List ℕ) → s.writes a ≡ Some block → length block ≡ 4096
  pub known_whole : (a : ℕ) (version : Version) (block : List ℕ) → s.committed a ≡ Some version → version.content ≡ Known block → length block ≡ 4096

-- the leaf's device, where it has one, has room for so many data sectors behind the labels
abbrev pub HasRoom : (ℕ → ℕ) → (sectors : ℕ) → LeafVdev → Type 0
HasRoom size sectors leaf = (d : ℕ) → leaf.dev ≡ Some d → sectors + 256 ≤ size d

-- so it is for both leaves
abbrev pub IsSeated : (ℕ → ℕ) → Pool → Type 0
IsSeated size pool = HasRoom size pool.pair.sectors pool.pair.first × HasRoom size pool.pair.sectors pool.pair.second
