-- A freeze as a row: which keys it freezes and where, and over which leaves.
use Rattle.std.specs.Prelude.{◌≡◌, ◌⊎◌, ℕ, ◌+◌, ◌*◌, ◌<◌, ◌≤◌, ◌==◌, ◌&&◌, ◌||◌, Bool, true, false, List, [], ◌∷◌, length, Option, Some, None, suc}
use Rattle.std.specs.Option.{option_map}
use Rattle.std.specs.List.{AllByRecursion}
use Rattle.mp_base.specs.declared.place.Key.{Key}
use Rattle.vdev_tree.specs.Leaf.{is_up}
use Rattle.txg_history.specs.Pages.{Codec, Sum}
use Rattle.txg_history.specs.Records.{Cell, Cells, AreAtOne, key}
use Rattle.pool_moves.specs.Leaves.{LeafSeen}
use Rattle.pool_moves.specs.Moves.{Move, Freeze, sums_over}
use Rattle.pool_moves.specs.States.{Sums, PoolSeen, PoolState}
use Rattle.pool_moves.specs.Widening.{IsWidened}

-- the leaf has this device
abbrev pub is_dev : ℕ → Option ℕ → Bool
is_dev d None = false
is_dev d (Some e) = d == e

-- the devices of the readable leaves
abbrev pub up_devs : List LeafSeen → ℕ → Bool
up_devs [] d = false
up_devs (leaf ∷ leaves) d = (is_up leaf.own.mode && is_dev d leaf.dev) || up_devs leaves d

-- a key comes before another, by level and then by index
abbrev pub IsBefore : Key → Key → Type 0
IsBefore j k = (j.level < k.level) ⊎ ((j.level ≡ k.level) × (j.index < k.index))

-- a place comes before another, by sector and then by top
abbrev pub IsPlaceBefore : (top sector : ℕ) → Cell → Type 0
IsPlaceBefore top sector cell = (sector < cell.sector) ⊎ ((sector ≡ cell.sector) × (top < cell.top))

-- one of these keys is at the place
pub record IsAtPlace (sums : Sums) (top sector : ℕ) : Type 0 where
  pub k : Key
  pub sum : Sum
  pub sum_is : sums k ≡ Some sum
  pub top_is : sum.top ≡ top
  pub sector_is : sum.sector ≡ sector

abbrev pub IsAtPinned : List Sums → (top sector : ℕ) → Type 0
IsAtPinned [] top sector = ⊥
IsAtPinned (sums ∷ more) top sector = IsAtPlace sums top sector ⊎ IsAtPinned more top sector

-- the place is taken: by a key of the record that the pool reads, or until the next acknowledgement
abbrev pub IsTakenPlace : PoolSeen → (top sector : ℕ) → Type 0
IsTakenPlace s top sector = IsAtPlace s.committed top sector ⊎ IsAtPinned s.pinned top sector

-- a key before this one gets the place
pub record IsGivenBefore (cells : Cells) (k : Key) (top sector : ℕ) : Type 0 where
  pub j : Key
  pub cell : Cell
  pub cell_is : cells j ≡ Some cell
  pub before : IsBefore j k
  pub top_is : cell.top ≡ top
  pub sector_is : cell.sector ≡ sector

-- The keys of a freeze get places key by key: each the least one in the tops' rooms that isn't taken, and that no key before
-- it got.
pub record ArePlacesGiven (s : PoolSeen) (cells : Cells) : Type 0 where
  pub inside : (k : Key) (cell : Cell) → cells k ≡ Some cell → cell.sector < s.room cell.top
  pub free : (k : Key) (cell : Cell) → cells k ≡ Some cell → IsTakenPlace s cell.top cell.sector → ⊥
  pub apart : (j k : Key) (a b : Cell) → cells j ≡ Some a → cells k ≡ Some b → AreAtOne a b → j ≡ k
  pub least : (k : Key) (cell : Cell) (top sector : ℕ) → cells k ≡ Some cell → IsPlaceBefore top sector cell → sector < s.room top
      → IsTakenPlace s top sector ⊎ IsGivenBefore cells k top sector

-- a key at the level below is among these
pub record HasChild (cells : Cells) (level index : ℕ) : Type 0 where
  pub j : ℕ
  pub below : j < 64
  pub cell : Cell
  pub cell_is : cells (key level (64 * index + j)) ≡ Some cell

-- The keys of a freeze are the open writes, and just the pages above them, each with the pointers that then are below it. Pages
-- are in their form.
pub record AreDirtyKeys (c : Codec) (s : PoolState) (cells : Cells) : Type 0 where
  pub takes : (a : ℕ) → option_map (λ cell. cell.block) (cells (key 0 a)) ≡ s.own.writes a
  pub up : (level index j : ℕ) (cell : Cell) → level < 3 → j < 64 → cells (key level (64 * index + j)) ≡ Some cell
      → (page : Cell) × (cells (key (suc level) index) ≡ Some page)
  pub only : (level index : ℕ) (cell : Cell) → level < 3 → cells (key (suc level) index) ≡ Some cell → HasChild cells level index
  pub levels : (k : Key) (cell : Cell) → cells k ≡ Some cell → k.level ≤ 3
  pub formed : (level index : ℕ) (cell : Cell) → level < 3 → cells (key (suc level) index) ≡ Some cell → c.is_page cell.block ≡ true
  pub pages : (level index : ℕ) (cell : Cell) → level < 3 → cells (key (suc level) index) ≡ Some cell → (j : ℕ) → j < 64
      → c.pointer cell.block j ≡ sums_over cells s.core.committed (key level (64 * index + j))
  pub births : (k : Key) (cell : Cell) → cells k ≡ Some cell → cell.birth ≡ s.core.number + 1
  pub long : (k : Key) (cell : Cell) → cells k ≡ Some cell → length cell.block ≡ 4096

-- A freeze: the next number is drawn, each dirty key gets its place, the board is the readable leaves, and logs are widened.
pub record RowFreeze (c : Codec) (s : PoolState) (vs : List Move) : Type 0 where
  pub idle : s.core.group.frozen ≡ false
  pub opened : s.core.opened ≡ true
  pub tops : AllByRecursion (λ leaf. 1 ≤ leaf.top) s.core.leaves
  pub cells : Cells
  pub dirty : AreDirtyKeys c s cells
  pub places : ArePlacesGiven s.core cells
  pub moves : IsWidened s.core (Freeze cells (up_devs s.core.leaves)) vs

-- A freeze without keys, as at a create and behind an opening: nothing was written since.
pub record RowEmptyFreeze (s : PoolState) (vs : List Move) : Type 0 where
  pub idle : s.core.group.frozen ≡ false
  pub unwritten : (a : ℕ) → s.own.writes a ≡ None
  pub tops : AllByRecursion (λ leaf. 1 ≤ leaf.top) s.core.leaves
  pub moves : IsWidened s.core (Freeze (λ k. None) (up_devs s.core.leaves)) vs
