-- How an opening reads the pages of a map back: one after another, each from the copies on the leaves of its top.
use Rattle.std.specs.Prelude.{◌≡◌, ◌⊎◌, ℕ, suc, ◌+◌, ◌*◌, ◌<◌, ◌≤◌, ◌==◌, ◌&&◌, ◌||◌, nat_lt, Bool, true, false, cond, Option, Some, None, not, List, [], ◌∷◌, ◌++◌, map}
use Rattle.std.specs.List.{AllByRecursion}
use Rattle.sha2.specs.Sha256.{sha256}
use Rattle.mp_base.specs.declared.place.Key.{Key}
use Rattle.bank_core.specs.Disk.{Call, Read, Noted}
use Rattle.mirror_io.specs.declared.copies.CopyOf.{CopyOf}
use Rattle.mirror_io.specs.Copies.{tries}
use Rattle.mirror_io.specs.Mirror.{IsHealed}
use Rattle.mirror_io.specs.Reads.{AreTried}
use Rattle.txg_history.specs.Pages.{Codec, Sum, IsOfVolume}
use Rattle.txg_history.specs.Records.{key, data_start}
use Rattle.pool_moves.specs.FreezeRow.{up_devs}
use Rattle.pool_moves.specs.Leaves.{LeafSeen}
use Rattle.pool_moves.specs.ReadRow.{copies_of}
pub use Rattle.pool_moves.specs.Showing.{LeafShown, Unreadable, ReadFailed, Mismatched, failed_on, shown_by, leaf_shown}
use Rattle.pool_moves.specs.States.{Sums}

-- What a map is read with, and what is got: how bytes are read, the configuration and its number, the leaves, the bytes of each page
-- that was found, and the pointers.
pub record Reading : Type 0 where
  pub codec : Codec
  pub config : List ℕ
  pub number : ℕ
  pub leaves : List LeafSeen
  pub found : Key → Option (List ℕ)
  pub got : Sums

-- Pages are read from level 3 down to level 1, and on each level by rising index.
abbrev pub is_read_before : Key → Key → Bool
is_read_before a b = nat_lt b.level a.level || ((a.level == b.level) && nat_lt a.index b.index)

-- the key is one below a page of this kind
pub record IsBelow (reached : Key → Bool) (k : Key) : Type 0 where
  pub level : ℕ
  pub index : ℕ
  pub j : ℕ
  pub low : level < 3
  pub few : j < 64
  pub is : k ≡ key level (64 * index + j)
  pub reaches : reached (key (suc level) index) ≡ true

-- where the pages of this kind are read, the pointers of these keys are known: the root's, and those of the pages
abbrev pub IsKnown : (reached : Key → Bool) → Key → Type 0
IsKnown reached k = (k ≡ key 3 0) ⊎ IsBelow reached k

abbrev pub AreOnePlace : Sum → Sum → Type 0
AreOnePlace a b = (a.top ≡ b.top) × (a.sector ≡ b.sector)

-- These bytes are the page of a key, the one above this level of this index: they have its sum and are a page, and each of their
-- pointers is one of a key of the volume, born in a group up to the record's number, at a place in its top's room that neither another of
-- them names nor a pointer that was known before.
pub record IsPageHere (x : Reading) (level index : ℕ) (sum : Sum) (bytes : List ℕ) : Type 0 where
  pub same_sum : sha256 bytes ≡ sum.sum
  pub formed : x.codec.is_page bytes ≡ true
  pub inside : (j : ℕ) (below : Sum) → j < 64 → x.codec.pointer bytes j ≡ Some below → IsOfVolume (x.codec.blocks x.config) (key level (64 * index + j))
  pub born : (j : ℕ) (below : Sum) → j < 64 → x.codec.pointer bytes j ≡ Some below → below.birth ≤ x.number
  pub on_top : (j : ℕ) (below : Sum) → j < 64 → x.codec.pointer bytes j ≡ Some below → below.sector < x.codec.room x.config below.top
  pub apart : (i j : ℕ) (a b : Sum) → i < j → j < 64 → x.codec.pointer bytes i ≡ Some a → x.codec.pointer bytes j ≡ Some b → AreOnePlace a b → ⊥
  pub fresh : (j : ℕ) (below other : Sum) (k : Key) → j < 64 → x.codec.pointer bytes j ≡ Some below
      → IsKnown (λ above. is_read_before above (key (suc level) index)) k → x.got k ≡ Some other
      → AreOnePlace below other → ⊥

-- A page that is read: its key is the one above this level of this index. Its copies are read, and wrong ones rewritten.
pub record PageTurn : Type 0 where
  pub level : ℕ
  pub index : ℕ
  pub reads : List Noted
  pub rewrites : List Noted
  pub wrong : List CopyOf

abbrev pub page_of : PageTurn → Key
page_of turn = key (suc turn.level) turn.index

abbrev pub calls_of_turns : List PageTurn → List Noted
calls_of_turns [] = []
calls_of_turns (turn ∷ turns) = (turn.reads ++ turn.rewrites) ++ calls_of_turns turns

-- The page has a pointer, and one of its copies gave the page. Wrong ones whose leaves don't owe it are rewritten with it.
pub record IsPageTurn (x : Reading) (turn : PageTurn) : Type 0 where
  pub low : turn.level < 3
  pub sum : Sum
  pub sum_is : x.got (page_of turn) ≡ Some sum
  pub bytes : List ℕ
  pub bytes_are : x.found (page_of turn) ≡ Some bytes
  pub tried : AreTried (data_start + sum.sector) (IsPageHere x turn.level turn.index sum) (tries (copies_of sum x.leaves)) turn.reads turn.wrong (Some bytes)
  pub healed : IsHealed (data_start + sum.sector) (Some bytes) turn.wrong turn.rewrites

-- one page after another
abbrev pub AreInOrder : List PageTurn → Type 0
AreInOrder [] = Unit {0}
AreInOrder (turn ∷ turns) = AllByRecursion (λ next. is_read_before (page_of turn) (page_of next) ≡ true) turns × AreInOrder turns

-- the page is among these
abbrev pub IsTurned : Key → List PageTurn → Type 0
IsTurned k [] = ⊥
IsTurned k (turn ∷ turns) = (k ≡ page_of turn) ⊎ IsTurned k turns

-- what was found of the pages, but for those that are read behind this one
abbrev pub up_to : (page : Key) → (found : Key → Option (List ℕ)) → Key → Option (List ℕ)
up_to page found k = cond (is_read_before page k) None (found k)

-- What is got of the pages of this kind: the root's pointer is the configuration's, below a hole are holes, and the pointers below a page
-- are those of its bytes, which have the sum that its own pointer names. Keys that the volume hasn't are holes.
pub record IsReadTo (x : Reading) (reached : Key → Bool) : Type 0 where
  pub root : x.got (key 3 0) ≡ x.codec.root x.config
  pub holes : (level index j : ℕ) → level < 3 → j < 64 → reached (key (suc level) index) ≡ true → x.got (key (suc level) index) ≡ None
      → x.got (key level (64 * index + j)) ≡ None
  pub pages : (level index : ℕ) (sum : Sum) → level < 3 → reached (key (suc level) index) ≡ true → x.got (key (suc level) index) ≡ Some sum
      → (bytes : List ℕ) × (x.found (key (suc level) index) ≡ Some bytes) × (sha256 bytes ≡ sum.sum)
      × ((j : ℕ) → j < 64 → x.got (key level (64 * index + j)) ≡ x.codec.pointer bytes j)
  pub beyond : (k : Key) → (IsOfVolume (x.codec.blocks x.config) k → ⊥) → x.got k ≡ None

-- The whole map is read: each page that has a pointer, and no other.
pub record ReadsMap (x : Reading) (turns : List PageTurn) : Type 0 where
  pub each : AllByRecursion (IsPageTurn x) turns
  pub order : AreInOrder turns
  pub all : (level index : ℕ) (sum : Sum) → level < 3 → x.got (key (suc level) index) ≡ Some sum → IsTurned (key (suc level) index) turns
  pub only : (k : Key) (bytes : List ℕ) → x.found k ≡ Some bytes → IsTurned k turns
  pub back : IsReadTo x (λ k. true)

-- a read of this sector of the device failed, and one of these calls is such a read
abbrev pub is_failed_read : (at d : ℕ) → Call → Bool
is_failed_read at d (Read dev from bytes (Some fault)) = (dev == d) && (from == at)
is_failed_read at d call = false

abbrev pub failed_at : (at : ℕ) → List Noted → ℕ → Bool
failed_at at [] d = false
failed_at at (noted ∷ made) d = is_failed_read at d noted.call || failed_at at made d

-- a leaf of these that is readable is on the device, and none of these calls failed to read this sector there
abbrev pub answers_in : List LeafSeen → List Noted → (at : ℕ) → ℕ → Bool
answers_in leaves made at d = up_devs leaves d && not (failed_at at made d)

-- The map is read up to a page of which no copy is good, by these reads.
pub record StopsAt (x : Reading) (level index : ℕ) (shown : List LeafShown) (turns : List PageTurn) (reads : List Noted) : Type 0 where
  pub low : level < 3
  pub each : AllByRecursion (IsPageTurn x) turns
  pub order : AreInOrder turns
  pub before : AllByRecursion (λ turn. is_read_before (page_of turn) (key (suc level) index) ≡ true) turns
  pub all : (l i : ℕ) (sum : Sum) → l < 3 → is_read_before (key (suc l) i) (key (suc level) index) ≡ true → x.got (key (suc l) i) ≡ Some sum
      → IsTurned (key (suc l) i) turns
  pub only : (k : Key) (bytes : List ℕ) → x.found k ≡ Some bytes → IsTurned k turns
  pub back : IsReadTo x (λ k. is_read_before k (key (suc level) index))
  pub sum : Sum
  pub sum_is : x.got (key (suc level) index) ≡ Some sum
  pub wrong : List CopyOf
  pub tried : AreTried (data_start + sum.sector) (IsPageHere x level index sum) (tries (copies_of sum x.leaves)) reads wrong None
  pub shown_is : shown ≡ map (leaf_shown reads) (copies_of sum x.leaves)
