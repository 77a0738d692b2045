-- The map of a volume as its callers see it: which pointer each key has, which places are free, and which are
-- pinned. They never speak of how these are kept.
use Rattle.std.specs.Prelude.{◌≡◌, ◌≢◌, ℕ, ◌+◌, ◌*◌, ◌/◌, ◌%◌, ◌<◌, ◌≤◌, Bool, true, false, ◌&&◌, not, nat_lt, List, length, map, AllPairs, Contains, slice_index, slice_index_or, Option, if◌then◌else◌}
use Rattle.std.specs.List.{range_with_len, All}
use Rattle.mp_base.specs.declared.place.Key.{Key}
use Rattle.mp_base.specs.declared.place.Place.{Place}
use Rattle.mp_base.specs.declared.place.Pointer.{Pointer}
use Rattle.block_map.specs.Bits.{holds}
use Rattle.block_map.specs.NumberSet.{Numbers, has, one_if}
use Rattle.block_map.specs.Keys.{IsVolume, IsKey, is_key, IsBefore, IsBehind, child, keys_at}
use Rattle.block_map.specs.Places.{IsPlace, AreTops, is_place, IsPlaceBefore}
use Rattle.block_map.specs.Pointers.{hole, IsPointer, IsInForm, born_within}
use Rattle.block_map.specs.Numbers.{start, slots, key_number, place_number}

-- `blocks` and `sectors` are the volume's blocks and the sectors of each top, `count` how many places are open;
-- the lists are read by the functions below alone
pub record Map : Type 0 where
  pub blocks : ℕ
  pub sectors : List ℕ
  pub pointers : List Pointer
  pub free : List ℕ
  pub pinned : List ℕ
  pub count : ℕ

-- the pointer of a key: a hole where nothing was written, and outside of the volume
unfoldable pub pointer_at : Map → Key → Pointer
pointer_at map key =
    if is_key map.blocks key then slice_index_or map.pointers (key_number map.blocks key) hole else hole

-- no record and no group in work uses the place
unfoldable pub is_free : Map → Place → Bool
is_free map place = is_place map.sectors place && holds map.free (place_number (length map.sectors) place)

-- the place is kept from use, free or not
unfoldable pub is_pinned : Map → Place → Bool
is_pinned map place = is_place map.sectors place && holds map.pinned (place_number (length map.sectors) place)

-- the place may be given out
abbrev pub is_open : Map → Place → Bool
is_open map place = is_free map place && not (is_pinned map place)

-- so many places pass a test: these, which differ, and no others
pub record CountsPlaces (test : Place → Bool) (n : ℕ) : Type 0 where
  pub places : List Place
  pub count : length places ≡ n
  pub differ : AllPairs (λ a b. a ≢ b) places
  pub all : (place : Place) → test place ≡ true → Contains places place
  pub only : (place : Place) → Contains places place → test place ≡ true

-- the least place that is open
pub record IsLeastOpen (map : Map) (place : Place) : Type 0 where
  pub inside : IsPlace map.sectors place
  pub passes : is_open map place ≡ true
  pub least : (other : Place) → IsPlaceBefore other place → is_open map other ≡ false

-- two maps are of one volume over the same tops
pub record SameVolume (old new : Map) : Type 0 where
  pub blocks : new.blocks ≡ old.blocks
  pub sectors : new.sectors ≡ old.sectors

-- the place is now free or not, and nothing else changes
pub record FreeIs (free : Bool) (old new : Map) (place : Place) : Type 0 where
  pub now : is_free new place ≡ free
  pub others : (p : Place) → p ≢ place → is_free new p ≡ is_free old p
  pub pinned : (p : Place) → is_pinned new p ≡ is_pinned old p
  pub keys : (key : Key) → pointer_at new key ≡ pointer_at old key
  pub volume : SameVolume old new
  pub count : new.count + one_if (is_open old place) ≡ old.count + one_if (is_open new place)

-- the place is now pinned or not, and nothing else changes
pub record PinnedIs (pinned : Bool) (old new : Map) (place : Place) : Type 0 where
  pub now : is_pinned new place ≡ pinned
  pub others : (p : Place) → p ≢ place → is_pinned new p ≡ is_pinned old p
  pub free : (p : Place) → is_free new p ≡ is_free old p
  pub keys : (key : Key) → pointer_at new key ≡ pointer_at old key
  pub volume : SameVolume old new
  pub count : new.count + one_if (is_open old place) ≡ old.count + one_if (is_open new place)

-- the key has this pointer now, and nothing else changes
pub record PointerIs (old new : Map) (key : Key) (pointer : Pointer) : Type 0 where
  pub now : pointer_at new key ≡ pointer
  pub others : (k : Key) → k ≢ key → pointer_at new k ≡ pointer_at old k
  pub free : (p : Place) → is_free new p ≡ is_free old p
  pub pinned : (p : Place) → is_pinned new p ≡ is_pinned old p
  pub volume : SameVolume old new
  pub count : new.count ≡ old.count

-- a map without a key, of which every place of the tops is free and none is pinned
pub record IsEmpty (blocks : ℕ) (sectors : List ℕ) (map : Map) : Type 0 where
  pub volume : map.blocks ≡ blocks
  pub tops : map.sectors ≡ sectors
  pub keys : (key : Key) → pointer_at map key ≡ hole
  pub free : (place : Place) → is_free map place ≡ is_place sectors place
  pub pinned : (place : Place) → is_pinned map place ≡ false

-- the first key behind the cursor that was written in a group up to `hi`
pub record IsNextKey (map : Map) (after : Option Key) (hi : ℕ) (key : Key) : Type 0 where
  pub inside : IsKey map.blocks key
  pub behind : IsBehind after key
  pub born : born_within hi (pointer_at map key) ≡ true
  pub first : (k : Key) → IsBehind after k → IsBefore k key → born_within hi (pointer_at map k) ≡ false

-- the 64 pointers of a page, where each key has its pointer from `at`
abbrev pub children : (Key → Pointer) → Key → List Pointer
children at page = map (λ j. at (child page j)) (range_with_len 0 64)

-- the first number from there on whose pointer is born in a group up to `hi`
pub record IsNextBorn (pointers : List Pointer) (from hi at : ℕ) : Type 0 where
  pub inside : at < length pointers
  pub behind : from ≤ at
  pub born : born_within hi (slice_index_or pointers at hole) ≡ true
  pub first : (i : ℕ) → from ≤ i → i < at → born_within hi (slice_index_or pointers i hole) ≡ false

-- the number is that of a place of the tops
unfoldable pub is_number : List ℕ → ℕ → Bool
is_number sectors at = nat_lt (at / length sectors) (slice_index sectors (at % length sectors))

-- the same of the numbers below `n`
unfoldable pub is_freed : List ℕ → ℕ → ℕ → Bool
is_freed sectors n at = nat_lt at n && is_number sectors at

-- How a map is kept: `opened` are the free places that aren't pinned, and a number without a key has a hole.
pub record IsKept (blocks : ℕ) (sectors : List ℕ) (pointers : List Pointer) (free pinned : List ℕ) (opened : Numbers)
    : Type 0 where
  pub volume : IsVolume blocks
  pub tops : AreTops sectors
  pub slots : length pointers ≡ slots blocks
  pub well_formed : All (IsPointer sectors) pointers
  pub in_form : All IsInForm pointers
  pub fill : (l i : ℕ) → l < 3 → keys_at blocks l ≤ i → start blocks l + i < start blocks (l + 1)
      → slice_index_or pointers (start blocks l + i) hole ≡ hole
  pub room : All (λ s. s * length sectors ≤ 64 * length free) sectors
  pub pinned_room : length pinned ≡ length free
  pub open_room : length opened.members ≡ length free
  pub inside : (at : ℕ) → holds free at ≡ true → at / length sectors < slice_index sectors (at % length sectors)
  pub are_open : (at : ℕ) → has opened at ≡ (holds free at && not (holds pinned at))
