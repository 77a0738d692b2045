-- A freeze: which keys a group has, where they get their places, and what their bytes are.
use Rattle.std.specs.Prelude.{◌≡◌, ℕ, ◌+◌, ◌≤◌, true, false, List, [], ◌∷◌, ◌++◌, length, map, All, Contains}
use Rattle.sha2.specs.Sha256.{sha256}
use Rattle.mp_base.specs.declared.place.Key.{Key}
use Rattle.mp_base.specs.declared.place.Place.{Place}
use Rattle.mp_base.specs.declared.place.Pointer.{Pointer}
use Rattle.block_map.specs.Dirty.{pages_above}
use Rattle.block_map.specs.Keys.{IsKey}
use Rattle.block_map.specs.Map.{Map, pointer_at, is_free, is_pinned, is_open, IsLeastOpen, FreeIs, SameVolume, children}
use Rattle.block_map.specs.Pages.{page_bytes}
use Rattle.block_map.specs.Places.{IsPlace, IsPlaceBefore}
use Rattle.block_map.specs.Pointers.{IsPointer}
use Rattle.txg_history.specs.Records.{key}
use Rattle.txg_engine.specs.declared.item.Item.{Item}
use Rattle.txg_engine.specs.declared.write.Write.{Write}
use Rattle.txg_engine.specs.Items.{keys_of, places_of, laid, frozen_block}
use Rattle.txg_engine.specs.Writes.{block_at}

abbrev pub addr_of : Write → ℕ
addr_of write = write.addr

-- the pages above blocks at these addresses, which rise, in the order of keys
abbrev pub page_keys : List ℕ → List Key
page_keys addrs = pages_above 1 addrs ++ (pages_above 2 addrs ++ pages_above 3 addrs)

-- the keys of these blocks
abbrev pub block_keys : List Write → List Key
block_keys writes = map (λ write. key 0 write.addr) writes

-- the keys of these blocks, whose addresses rise, and of the pages above them
abbrev pub dirty_keys : List Write → List Key
dirty_keys writes = block_keys writes ++ page_keys (map addr_of writes)

-- The least place that is open in the map and was not given to an earlier key.
pub record IsNextPlace (old : Map) (given : List Place) (place : Place) : Type 0 where
  pub inside : IsPlace old.sectors place
  pub passes : is_open old place ≡ true
  pub fresh : Contains given place → ⊥
  pub least : (other : Place) → IsPlaceBefore other place → is_open old other ≡ true → Contains given other

-- so each of these, one after another
abbrev pub AreNextPlaces : Map → (given : List Place) → List Place → Type 0
AreNextPlaces old given [] = Unit {0}
AreNextPlaces old given (place ∷ places) = IsNextPlace old given place × AreNextPlaces old (given ++ place ∷ []) places

-- These places are taken, and the map is else as it was.
pub record Takes (old new : Map) (places : List Place) : Type 0 where
  pub taken : (p : Place) → Contains places p → is_free new p ≡ false
  pub others : (p : Place) → (Contains places p → ⊥) → is_free new p ≡ is_free old p
  pub pinned : (p : Place) → is_pinned new p ≡ is_pinned old p
  pub keys : (k : Key) → pointer_at new k ≡ pointer_at old k
  pub volume : SameVolume old new
  pub count : new.count + length places ≡ old.count

-- the key is born in this group, and its sum is that of its bytes
pub record IsSigned (number : ℕ) (item : Item) : Type 0 where
  pub birth : item.pointer.birth.0 ≡ number
  pub sum : item.pointer.sum ≡ sha256 item.block

-- a page has the pointers that these keys have
abbrev pub IsFilled : (Key → Pointer) → Item → Type 0
IsFilled at item = 1 ≤ item.key.level → item.block ≡ page_bytes (children at item.key)

-- each page has the pointers that the keys before it have, over those of a map
abbrev pub AreFilled : (Key → Pointer) → (before : List Item) → List Item → Type 0
AreFilled at before [] = Unit {0}
AreFilled at before (item ∷ items) = IsFilled (laid before at) item × AreFilled at (before ++ item ∷ []) items

-- What holds of the keys that have their places so far.
pub record AreSettled (number : ℕ) (old now : Map) (items : List Item) : Type 0 where
  pub places : AreNextPlaces old [] (places_of items)
  pub takes : Takes old now (places_of items)
  pub signed : All (IsSigned number) items
  pub filled : AreFilled (pointer_at old) [] items

-- One more key has its place, the least one that is open.
pub record SettlesNext (number : ℕ) (old new : Map) (before after : List Item) (k : Key) (block : List ℕ) : Type 0 where
  pub item : Item
  pub more : after ≡ before ++ item ∷ []
  pub key_is : item.key ≡ k
  pub block_is : item.block ≡ block
  pub signed : IsSigned number item
  pub least : IsLeastOpen old item.pointer.place
  pub taken : FreeIs false old new item.pointer.place

-- The keys of a freeze: the group's blocks and the pages above them, and no other, each of them of the volume. Each gets the
-- least place that is open, in the order of keys, and each page has the pointers that are below it once the group is
-- acknowledged. So the map may get each of these pointers.
pub record IsFreeze (number : ℕ) (old new : Map) (writes : List Write) (items : List Item) : Type 0 where
  pub keys : keys_of items ≡ dirty_keys writes
  pub blocks : (a : ℕ) → frozen_block items a ≡ block_at writes a
  pub places : AreNextPlaces old [] (places_of items)
  pub takes : Takes old new (places_of items)
  pub signed : All (IsSigned number) items
  pub filled : All (IsFilled (laid items (pointer_at old))) items
  pub inside : All (λ item. IsKey old.blocks item.key) items
  pub pointers : All (λ item. IsPointer old.sectors item.pointer) items
