-- Records: what a commit leaves for the next opening.
use Rattle.std.specs.Prelude.{◌≡◌, ◌⊎◌, ℕ, nat_lt, Bool, true, not, cond, List, [], ◌∷◌, Option, Some, None}
use Rattle.mp_base.specs.Block.{zero_block}
use Rattle.mp_base.specs.declared.number.Guid.{Guid}
use Rattle.mp_base.specs.declared.place.Key.{Key}
use Rattle.label_store.specs.Rounds.{Commit}

-- What a record has of a key: the group in which it was written, the top and the data sector where it stands on each
-- leaf of that top, and its bytes. Tops count from 1 here, and 0 is no top.
pub record Cell : Type 0 where
  pub birth : ℕ
  pub top : ℕ
  pub sector : ℕ
  pub block : List ℕ

-- the keys of a record: None for one that was never written
abbrev pub Cells : Type 0
Cells = Key → Option Cell

-- A record: a configuration, and what it has of the keys. Of each member number it has the top under which that leaf
-- stands, 0 where it is no leaf, and its log: the groups whose keys the leaf need not have. One that is no leaf owes
-- every group.
pub record Rec : Type 0 where
  pub commit : Commit
  pub cells : Cells
  pub tops : Guid → ℕ
  pub owes : Guid → ℕ → Bool

abbrev pub number_of : Rec → ℕ
number_of r = r.commit.number.0

-- A leaf takes part in a record's round exactly where its log in the record lacks the record's own number.
abbrev pub takes_part : Rec → Guid → Bool
takes_part r m = not (r.owes m (number_of r))

-- a record that doesn't know this member number
pub record IsNoLeaf (r : Rec) (m : Guid) : Type 0 where
  pub no_top : r.tops m ≡ 0
  pub all : (g : ℕ) → r.owes m g ≡ true

-- data sector 0 of a leaf is this sector of its device: the labels stand before it
abbrev pub data_start : ℕ
data_start = 128

-- the key of this level and index
abbrev pub key : (level index : ℕ) → Key
key level index = record { level = level; index = index }

-- two cells at one place
abbrev pub AreAtOne : Cell → Cell → Type 0
AreAtOne a b = (a.top ≡ b.top) × (a.sector ≡ b.sector)

-- one key with one cell
abbrev pub AreOne : (j k : Key) → (a b : Cell) → Type 0
AreOne j k a b = (j ≡ k) × (a ≡ b)

-- a key's cell where it is among the first, else the second's
abbrev pub cell_over : Option Cell → Option Cell → Option Cell
cell_over (Some cell) old = Some cell
cell_over None old = old

abbrev pub laid_over : Cells → Cells → Cells
laid_over new old k = cell_over (new k) (old k)

-- the block of an address: zeros where none was ever committed
abbrev pub block_of : Option Cell → List ℕ
block_of None = zero_block
block_of (Some cell) = cell.block

abbrev pub block_in : Cells → ℕ → List ℕ
block_in cells a = block_of (cells (key 0 a))

abbrev pub block_at : Rec → ℕ → List ℕ
block_at r a = block_in r.cells a

-- what a pool reads before its first commit: number 0, nothing anywhere, and no leaf
abbrev pub nothing : Guid → Rec
nothing pool = record {
  commit = record { pool = pool; number = record { 0 = 0 }; blob = []; length = 0 };
  cells = λ k. None;
  tops = λ m. 0;
  owes = λ m g. true;
}

-- one of these
abbrev pub IsIn : Rec → List Rec → Type 0
IsIn r [] = ⊥
IsIn r (q ∷ rs) = (r ≡ q) ⊎ IsIn r rs

-- those above this number
abbrev pub above : ℕ → List Rec → List Rec
above n [] = []
above n (r ∷ rs) = cond (nat_lt n (number_of r)) (r ∷ above n rs) (above n rs)

abbrev pub rest_of : List Rec → List Rec
rest_of [] = []
rest_of (r ∷ rs) = rs
