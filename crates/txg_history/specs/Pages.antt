-- The tree of a record's pages: each page has the pointers of the keys below it, and the configuration has the root's.
use Rattle.std.specs.Prelude.{◌≡◌, ◌≢◌, ℕ, zero, suc, ◌+◌, ◌*◌, ◌<◌, ◌≤◌, ◌==◌, Bool, true, cond, List, [], ◌∷◌, Option, Some, None}
use Rattle.sha2.specs.Sha256.{sha256}
use Rattle.mp_base.specs.declared.number.Guid.{Guid}
use Rattle.mp_base.specs.declared.place.Key.{Key}
use Rattle.vdev_tree.specs.declared.vdev.State.{State}
use Rattle.txg_history.specs.Trees.{Child}
use Rattle.label_store.specs.declared.rule.Head.{Head}
use Rattle.label_store.specs.Rounds.{config_of}
use Rattle.txg_history.specs.Records.{Cell, Cells, Rec, key, laid_over}

-- What is kept of a key apart from its bytes: their sum stands for them.
pub record Sum : Type 0 where
  pub birth : ℕ
  pub top : ℕ
  pub sector : ℕ
  pub sum : List ℕ

abbrev pub sum_of : Option Cell → Option Sum
sum_of None = None
sum_of (Some cell) = Some (record { birth = cell.birth; top = cell.top; sector = cell.sector; sum = sha256 cell.block })

-- A leaf as a configuration has it: its member number, its name, its state, whether it is marked to come back, its top, from 1
-- on, and its log.
pub record LeafKept : Type 0 where
  pub guid : Guid
  pub name : List ℕ
  pub mode : State
  pub marked : Bool
  pub top : ℕ
  pub owes : ℕ → Bool

-- the top of the leaf of this number, 0 where there is none
abbrev pub kept_top : List LeafKept → Guid → ℕ
kept_top [] m = 0
kept_top (leaf ∷ leaves) m = cond (leaf.guid.0 == m.0) leaf.top (kept_top leaves m)

-- its log; where there is none it owes every group
abbrev pub kept_log : List LeafKept → Guid → ℕ → Bool
kept_log [] m g = true
kept_log (leaf ∷ leaves) m g = cond (leaf.guid.0 == m.0) (leaf.owes g) (kept_log leaves m g)

-- How bytes are read. Of a configuration its head, how many blocks the volume has, how many data sectors each top, the tops' own
-- numbers and the children of their mirrors, the names of the listed spares, the next member number, the root's pointer, and the leaves in tree order. Of a page whether bytes are one, and its 64
-- pointers. None is a hole.
pub record Codec : Type 0 where
  pub head_of : List ℕ → Option Head
  pub blocks : List ℕ → ℕ
  pub room : List ℕ → ℕ → ℕ
  pub top_number : List ℕ → ℕ → Guid
  pub next_member : List ℕ → ℕ
  pub children : List ℕ → ℕ → List Child
  pub spares : List ℕ → List (List ℕ)
  pub root : List ℕ → Option Sum
  pub leaves : List ℕ → List LeafKept
  pub is_page : List ℕ → Bool
  pub pointer : List ℕ → ℕ → Option Sum

-- how many of a volume's blocks a key stands over
abbrev pub span : ℕ → ℕ
span zero = 1
span (suc zero) = 64
span (suc (suc zero)) = 4096
span (suc (suc (suc level))) = 262144

-- A key of a volume of so many blocks: one of them, or a page over some.
pub record IsOfVolume (blocks : ℕ) (k : Key) : Type 0 where
  pub low : k.level ≤ 3
  pub inside : span k.level * k.index < blocks

-- the bytes of a page have the pointers of the 64 keys below it
abbrev pub IsPageOf : Codec → (block : List ℕ) → Cells → (level index : ℕ) → Type 0
IsPageOf c block cells level index = (j : ℕ) → j < 64 → c.pointer block j ≡ sum_of (cells (key level (64 * index + j)))

-- Each page is one, and has the pointers of the keys below it, and below a hole are holes.
pub record IsTree (c : Codec) (cells : Cells) : Type 0 where
  pub formed : (level index : ℕ) (cell : Cell) → level < 3 → cells (key (suc level) index) ≡ Some cell → c.is_page cell.block ≡ true
  pub pages : (level index : ℕ) (cell : Cell) → level < 3 → cells (key (suc level) index) ≡ Some cell → IsPageOf c cell.block cells level index
  pub holes : (level index j : ℕ) → level < 3 → j < 64 → cells (key (suc level) index) ≡ None → cells (key level (64 * index + j)) ≡ None

-- What the configuration of a record says of the rest of it, and of the tops' rooms: each key is one of its volume.
pub record IsConfigOf (c : Codec) (room : ℕ → ℕ) (r : Rec) : Type 0 where
  pub room_is : c.room (config_of r.commit) ≡ room
  pub inside : (k : Key) (cell : Cell) → r.cells k ≡ Some cell → IsOfVolume (c.blocks (config_of r.commit)) k
  pub root : c.root (config_of r.commit) ≡ sum_of (r.cells (key 3 0))
  pub tops : kept_top (c.leaves (config_of r.commit)) ≡ r.tops
  pub owes : kept_log (c.leaves (config_of r.commit)) ≡ r.owes

-- Keys that a freeze lays over others: the page above each of them is among them, and each page among them has the
-- pointers of what then is below it.
pub record AreDirty (c : Codec) (new old : Cells) : Type 0 where
  pub up : (level index j : ℕ) (cell : Cell) → level < 3 → j < 64 → new (key level (64 * index + j)) ≡ Some cell
      → (page : Cell) × (new (key (suc level) index) ≡ Some page)
  pub formed : (level index : ℕ) (cell : Cell) → level < 3 → new (key (suc level) index) ≡ Some cell → c.is_page cell.block ≡ true
  pub pages : (level index : ℕ) (cell : Cell) → level < 3 → new (key (suc level) index) ≡ Some cell
      → IsPageOf c cell.block (laid_over new old) level index

-- What an opening gets by reading the pages back from the root's pointer on, where it found these bytes of each page: they
-- have the sum that the pointer names, and give the pointers below.
pub record IsReadBack (c : Codec) (config : List ℕ) (found : Key → Option (List ℕ)) (got : Key → Option Sum) : Type 0 where
  pub root : got (key 3 0) ≡ c.root config
  pub holes : (level index j : ℕ) → level < 3 → j < 64 → got (key (suc level) index) ≡ None → got (key level (64 * index + j)) ≡ None
  pub pages : (level index : ℕ) (sum : Sum) → level < 3 → got (key (suc level) index) ≡ Some sum
      → (bytes : List ℕ) × (found (key (suc level) index) ≡ Some bytes) × (sha256 bytes ≡ sum.sum)
      × ((j : ℕ) → j < 64 → got (key level (64 * index + j)) ≡ c.pointer bytes j)

-- how many keys a level has
abbrev pub width : ℕ → ℕ
width zero = 262144
width (suc zero) = 4096
width (suc (suc zero)) = 64
width (suc (suc (suc level))) = 1

-- two byte strings with one sum
pub record IsClash (right wrong : List ℕ) : Type 0 where
  pub other : wrong ≢ right
  pub same_sum : sha256 wrong ≡ sha256 right

-- the bytes found of this page are others than the record's, with the same sum
pub record ClashesAt (cells : Cells) (found : Key → Option (List ℕ)) : Type 0 where
  pub page : Key
  pub cell : Cell
  pub cell_is : cells page ≡ Some cell
  pub bytes : List ℕ
  pub bytes_are : found page ≡ Some bytes
  pub clash : IsClash cell.block bytes
