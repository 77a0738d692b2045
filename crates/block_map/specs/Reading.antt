-- The reading of a whole map from its pages, in the order in which an opening reads them.
use Rattle.std.specs.Prelude.{◌≡◌, ◌≢◌, ℕ, ◌<◌, ◌≤◌, ◌⊎◌, true, false, List, length, slice_index_or, Option, Some, None, IfSome, ◌==◌, if◌then◌else◌}
use Rattle.mp_base.specs.declared.place.Key.{Key}
use Rattle.mp_base.specs.declared.place.Place.{Place}
use Rattle.mp_base.specs.declared.place.Pointer.{Pointer}
use Rattle.block_map.specs.Keys.{IsVolume, IsKey, IsPage, root, child}
use Rattle.block_map.specs.Places.{IsPlace}
use Rattle.block_map.specs.Pointers.{hole, IsPointer}
use Rattle.block_map.specs.Pages.{page_bytes, AreInForm}
use Rattle.block_map.specs.Map.{Map, pointer_at, is_free, is_pinned, children, SameVolume}

-- the map as far as it is read, the number of the record, and the page to read next
pub record Reading : Type 0 where
  pub map : Map
  pub number : ℕ
  pub next : Option Key

-- something was written there
abbrev pub IsWritten : Pointer → Type 0
IsWritten pointer = 1 ≤ pointer.birth.0

-- the order in which pages are read: from level 3 down to level 1, and on each level by rising index
abbrev pub IsReadBefore : Key → Key → Type 0
IsReadBefore a b = (b.level < a.level) ⊎ ((a.level ≡ b.level) × (a.index < b.index))

-- the page is still to be read
abbrev pub IsUnread : Option Key → Key → Type 0
IsUnread None page = ⊥
IsUnread (Some next) page = (page ≡ next) ⊎ IsReadBefore next page

-- this pointer of a page may stand there: it is one of the tops, born up to the record's number, of a key of the
-- volume, and names a place that neither a page read earlier nor an earlier pointer of the page names
pub record MayStand (map : Map) (number : ℕ) (page : Key) (pointers : List Pointer) (j : ℕ) : Type 0 where
  pub pointer : IsPointer map.sectors (slice_index_or pointers j hole)
  pub born : (slice_index_or pointers j hole).birth.0 ≤ number
  pub inside : IsWritten (slice_index_or pointers j hole) → IsKey map.blocks (child page j)
  pub fresh : IsWritten (slice_index_or pointers j hole) → is_free map (slice_index_or pointers j hole).place ≡ true
  pub apart : (i : ℕ) → i < j → IsWritten (slice_index_or pointers i hole) → IsWritten (slice_index_or pointers j hole)
      → (slice_index_or pointers i hole).place ≢ (slice_index_or pointers j hole).place

-- these are the pointers of a page that may be read now: not all are holes
pub record MayBeRead (map : Map) (number : ℕ) (page : Key) (pointers : List Pointer) : Type 0 where
  pub count : length pointers ≡ 64
  pub each : (j : ℕ) → j < 64 → MayStand map number page pointers j
  pub some : (j : ℕ) × (j < 64) × IsWritten (slice_index_or pointers j hole)

-- the first `n` pointers of a page are read into the map, their places are used, and nothing else changes
pub record AreRead (old new : Map) (page : Key) (pointers : List Pointer) (n : ℕ) : Type 0 where
  pub there : (j : ℕ) → j < n → pointer_at new (child page j) ≡ slice_index_or pointers j hole
  pub others : (key : Key) → ((j : ℕ) → j < n → child page j ≢ key) → pointer_at new key ≡ pointer_at old key
  pub used : (j : ℕ) → j < n → IsWritten (slice_index_or pointers j hole)
      → is_free new (slice_index_or pointers j hole).place ≡ false
  pub unused : (place : Place)
      → ((j : ℕ) → j < n → IsWritten (slice_index_or pointers j hole) → (slice_index_or pointers j hole).place ≢ place)
      → is_free new place ≡ is_free old place
  pub pinned : (place : Place) → is_pinned new place ≡ is_pinned old place
  pub volume : SameVolume old new

-- no earlier pointer of the page names the place of this one
abbrev pub IsNamedFirst : List Pointer → ℕ → Type 0
IsNamedFirst pointers j = (i : ℕ) → i < j → IsWritten (slice_index_or pointers i hole)
    → (slice_index_or pointers i hole).place ≢ (slice_index_or pointers j hole).place

-- the page that is read next behind another: the first that is no hole
pub record IsNextPage (map : Map) (after next : Key) : Type 0 where
  pub inside : IsPage map.blocks next
  pub stored : IsWritten (pointer_at map next)
  pub behind : IsReadBefore after next
  pub first : (page : Key) → IsPage map.blocks page → IsReadBefore after page → IsReadBefore page next
      → pointer_at map page ≡ hole

-- no page behind this one is to be read
abbrev pub IsLastPage : Map → Key → Type 0
IsLastPage map after = (page : Key) → IsPage map.blocks page → IsReadBefore after page → pointer_at map page ≡ hole

abbrev pub NextPage : Map → Key → Option Key → Type 0
NextPage map after None = IsLastPage map after
NextPage map after (Some next) = IsNextPage map after next

-- each place of the tops is free exactly where no key's pointer names it, no two name one, and none is pinned
pub record NamesPlaces (map : Map) : Type 0 where
  pub used : (key : Key) → IsWritten (pointer_at map key) → is_free map (pointer_at map key).place ≡ false
  pub apart : (one other : Key) → IsWritten (pointer_at map one) → IsWritten (pointer_at map other)
      → (pointer_at map one).place ≡ (pointer_at map other).place → one ≡ other
  pub only : (place : Place) → IsPlace map.sectors place → is_free map place ≡ false
      → (key : Key) × IsWritten (pointer_at map key) × ((pointer_at map key).place ≡ place)
  pub unpinned : (place : Place) → is_pinned map place ≡ false

-- below a page that is a hole are holes
abbrev pub HasHolesBelow : Map → Type 0
HasHolesBelow map = (page : Key) (j : ℕ) → 1 ≤ page.level → page.level ≤ 3 → j < 64 → pointer_at map page ≡ hole
    → pointer_at map (child page j) ≡ hole

-- a map that is being read: what lies below pages that weren't read yet are holes
pub record IsReading (map : Map) (number : ℕ) (next : Option Key) : Type 0 where
  pub volume : IsVolume map.blocks
  pub places : NamesPlaces map
  pub born : (key : Key) → (pointer_at map key).birth.0 ≤ number
  pub page : IfSome next (λ page. IsPage map.blocks page × IsWritten (pointer_at map page))
  pub unread : (page : Key) (j : ℕ) → 1 ≤ page.level → IsUnread next page → j < 64
      → pointer_at map (child page j) ≡ hole
  pub holes : HasHolesBelow map

-- a page was read: its bytes are those of its pointers
pub record IsRead (old new : Reading) (page : Key) (bytes : List ℕ) : Type 0 where
  pub pointers : List Pointer
  pub form : AreInForm pointers
  pub bytes_are : bytes ≡ page_bytes pointers
  pub may : MayBeRead old.map old.number page pointers
  pub read : AreRead old.map new.map page pointers 64
  pub number : new.number ≡ old.number
  pub next : NextPage new.map page new.next

-- the key, a hole before, has this pointer, and its place is used
pub record IsPut (old new : Map) (key : Key) (pointer : Pointer) : Type 0 where
  pub there : pointer_at new key ≡ pointer
  pub others : (k : Key) → k ≢ key → pointer_at new k ≡ pointer_at old k
  pub used : IsWritten pointer → is_free new pointer.place ≡ false
  pub unused : (place : Place) → (IsWritten pointer → pointer.place ≢ place) → is_free new place ≡ is_free old place
  pub pinned : (place : Place) → is_pinned new place ≡ is_pinned old place
  pub volume : SameVolume old new

-- the root alone is there, and it is to be read next where it is no hole
pub record BeginsReading (blocks : ℕ) (sectors : List ℕ) (number : ℕ) (pointer : Pointer) (reading : Reading)
    : Type 0 where
  pub volume : reading.map.blocks ≡ blocks
  pub tops : reading.map.sectors ≡ sectors
  pub record_number : reading.number ≡ number
  pub there : pointer_at reading.map root ≡ pointer
  pub others : (key : Key) → key ≢ root → pointer_at reading.map key ≡ hole
  pub next : reading.next ≡ (if pointer.birth.0 == 0 then None else Some root)

-- what a record tells of its map: the volume's blocks, the sectors of each top, the record's number, and the root's pointer
pub record RecordedMap : Type 0 where
  pub blocks : ℕ
  pub sectors : List ℕ
  pub number : ℕ
  pub pointer : Pointer

-- the page is stored, and no more to be read
abbrev pub WasRead : Reading → Key → Type 0
WasRead reading page = (1 ≤ page.level) × IsWritten (pointer_at reading.map page) × (¬ (IsUnread reading.next page))

-- the bytes found of the page are those of the pointers of its 64 keys
pub record IsFound (found : Key → Option (List ℕ)) (map : Map) (page : Key) : Type 0 where
  pub form : AreInForm (children (pointer_at map) page)
  pub bytes_are : found page ≡ Some (page_bytes (children (pointer_at map) page))

-- these bytes are found besides, of one page
pub record FindsPage (before after : Key → Option (List ℕ)) (page : Key) (bytes : List ℕ) : Type 0 where
  pub there : after page ≡ Some bytes
  pub others : (key : Key) → key ≢ page → after key ≡ before key

-- a record's map is being read, and of each page that was read these bytes were found
pub record IsReadFrom (recorded : RecordedMap) (found : Key → Option (List ℕ)) (reading : Reading) : Type 0 where
  pub blocks : reading.map.blocks ≡ recorded.blocks
  pub sectors : reading.map.sectors ≡ recorded.sectors
  pub number : reading.number ≡ recorded.number
  pub pointer : pointer_at reading.map root ≡ recorded.pointer
  pub pages : (page : Key) → WasRead reading page → IsFound found reading.map page

-- a record's map is read, and each stored page's 64 keys have the pointers of the bytes found of it
pub record IsReadBack (recorded : RecordedMap) (found : Key → Option (List ℕ)) (map : Map) : Type 0 where
  pub blocks : map.blocks ≡ recorded.blocks
  pub sectors : map.sectors ≡ recorded.sectors
  pub pointer : pointer_at map root ≡ recorded.pointer
  pub pages : (page : Key) → 1 ≤ page.level → IsWritten (pointer_at map page) → IsFound found map page

-- no page of the level is stored from an index on
abbrev pub NoneStored : Map → ℕ → ℕ → Type 0
NoneStored map level from =
    (page : Key) → IsPage map.blocks page → page.level ≡ level → from ≤ page.index → pointer_at map page ≡ hole

-- the first page of the level that is stored, from an index on
pub record IsFirstStored (map : Map) (level from : ℕ) (found : Key) : Type 0 where
  pub inside : IsPage map.blocks found
  pub stored : IsWritten (pointer_at map found)
  pub same : found.level ≡ level
  pub behind : from ≤ found.index
  pub first : (page : Key) → IsPage map.blocks page → page.level ≡ level → from ≤ page.index
      → page.index < found.index → pointer_at map page ≡ hole
