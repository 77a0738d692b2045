-- The keys of a frozen group, and the pointers that a map has with them.
use Rattle.std.specs.Prelude.{◌≡◌, ℕ, ◌+◌, ◌-◌, ◌/◌, ◌==◌, ◌&&◌, ◌||◌, ◌<◌, nat_le, nat_lt, Bool, true, false, if◌then◌else◌}
use Rattle.std.specs.Prelude.{List, [], ◌∷◌, length, slice_get, slice_index_or, map, Option, Some, None}
use Rattle.mp_base.specs.declared.place.Key.{Key}
use Rattle.mp_base.specs.declared.place.Place.{Place}
use Rattle.mp_base.specs.declared.place.Pointer.{Pointer}
use Rattle.txg_history.specs.Groups.{same_key}
use Rattle.txg_history.specs.Records.{Cell, key}
use Rattle.txg_engine.specs.declared.item.Item.{Item}

-- the key's pointer stands in this page
abbrev pub is_child : (page : Key) → Key → Bool
is_child page k = (k.level == page.level - 1) && (k.index / 64 == page.index)

-- the key comes before those whose pointers stand in this page; it doesn't come behind them
abbrev pub is_before_page : (page : Key) → Key → Bool
is_before_page page k = nat_lt k.level (page.level - 1) || ((k.level == page.level - 1) && nat_lt (k.index / 64) page.index)

abbrev pub is_up_to_page : (page : Key) → Key → Bool
is_up_to_page page k = nat_lt k.level (page.level - 1) || ((k.level == page.level - 1) && nat_le (k.index / 64) page.index)

abbrev pub key_of : Item → Key
key_of item = item.key

abbrev pub place_of : Item → Place
place_of item = item.pointer.place

abbrev pub keys_of : List Item → List Key
keys_of items = map key_of items

abbrev pub places_of : List Item → List Place
places_of items = map place_of items

-- the pointers of a map, with this one at a key
abbrev pub put : Item → (Key → Pointer) → Key → Pointer
put item at k = if same_key item.key k then item.pointer else at k

-- the pointers of a map, with those of these keys over them
abbrev pub laid : List Item → (Key → Pointer) → Key → Pointer
laid [] at k = at k
laid (item ∷ items) at k = laid items (put item at) k

-- the item of this key, of which there is one at most, stands there
pub record IsItemAt (items : List Item) (k : Key) (at : ℕ) : Type 0 where
  pub inside : at < length items
  pub here : (d : Item) → (slice_index_or items at d).key ≡ k

-- the item at a place, where it doesn't come behind a page's keys
abbrev pub IsNextUpTo : List Item → (page : Key) (at : ℕ) → Option Item → Type 0
IsNextUpTo items page at (Some item) = (slice_get items at ≡ Some item) × (is_up_to_page page item.key ≡ true)
IsNextUpTo items page at None = (item : Item) → slice_get items at ≡ Some item → is_up_to_page page item.key ≡ false

-- the block of an address among these keys
abbrev pub frozen_block : List Item → ℕ → Option (List ℕ)
frozen_block [] a = None
frozen_block (item ∷ items) a = if same_key item.key (key 0 a) then Some item.block else frozen_block items a

-- a key as the history has it, where tops count from 1
abbrev pub cell_of : Item → Cell
cell_of item = record {
  birth = item.pointer.birth.0;
  top = item.pointer.place.top + 1;
  sector = item.pointer.place.sector;
  block = item.block;
}
