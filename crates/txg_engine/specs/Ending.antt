-- How a group ends: it becomes open again, or the map becomes that of its record.
use Rattle.std.specs.Prelude.{◌≡◌, ℕ, ◌+◌, ◌==◌, ◌&&◌, ◌||◌, not, Bool, true, false, List, [], ◌∷◌, ◌++◌, Contains}
use Rattle.std.specs.Prelude.{Option, Some, None, if◌then◌else◌}
use Rattle.mp_base.specs.declared.place.Key.{Key}
use Rattle.mp_base.specs.declared.place.Place.{Place}
use Rattle.mp_base.specs.declared.place.Pointer.{Pointer}
use Rattle.block_map.specs.Map.{Map, pointer_at, is_free, is_pinned, SameVolume}
use Rattle.block_map.specs.Pointers.{written}
use Rattle.txg_engine.specs.declared.item.Item.{Item}
use Rattle.txg_engine.specs.declared.write.Write.{Write}
use Rattle.txg_engine.specs.Items.{put, laid, frozen_block}
use Rattle.txg_engine.specs.Writes.{block_at, is_written}

abbrev pub or_else : {A : Type 0} → Option A → Option A → Option A
or_else (Some x) other = Some x
or_else None other = other

-- The open writes behind a burned group: its blocks, where newer ones win.
abbrev pub AreMerged : (items : List Item) → (newer all : List Write) → Type 0
AreMerged items newer all = (a : ℕ) → block_at all a ≡ or_else (block_at newer a) (frozen_block items a)

-- the key is a block at an address that these writes lack
abbrev pub is_fresh : List Write → Item → Bool
is_fresh newer item = (item.key.level == 0) && not (is_written newer item.key.index)

-- how many keys of a group are
abbrev pub fresh_count : List Write → List Item → ℕ
fresh_count newer [] = 0
fresh_count newer (item ∷ items) = (if is_fresh newer item then 1 else 0) + fresh_count newer items

abbrev pub pins_after : (begun : Bool) → List Place → List Place → List Place
pins_after true places pins = pins ++ places
pins_after false places pins = pins

-- These places are free again; they are pinned where a round had begun.
pub record GivesBack (begun : Bool) (places : List Place) (old new : Map) : Type 0 where
  pub given : (p : Place) → Contains places p → is_free new p ≡ true
  pub others : (p : Place) → (Contains places p → ⊥) → is_free new p ≡ is_free old p
  pub pinned : (p : Place) → Contains places p → is_pinned new p ≡ (begun || is_pinned old p)
  pub not_pinned : (p : Place) → (Contains places p → ⊥) → is_pinned new p ≡ is_pinned old p
  pub keys : (k : Key) → pointer_at new k ≡ pointer_at old k
  pub volume : SameVolume old new

-- the place of a key's pointer in a map
pub record IsPlaceOf (old : Map) (items : List Item) (place : Place) : Type 0 where
  pub item : Item
  pub among : Contains items item
  pub pointer : Pointer
  pub pointer_is : written (pointer_at old item.key) ≡ Some pointer
  pub is : pointer.place ≡ place

-- The map is that of the group's record: its keys have their new pointers, and places of their old ones are free. These places are
-- not pinned any more.
pub record IsAdopted (items : List Item) (pins : List Place) (old new : Map) : Type 0 where
  pub keys : (k : Key) → pointer_at new k ≡ laid items (pointer_at old) k
  pub freed : (p : Place) → IsPlaceOf old items p → is_free new p ≡ true
  pub others : (p : Place) → (IsPlaceOf old items p → ⊥) → is_free new p ≡ is_free old p
  pub unpinned : (p : Place) → Contains pins p → is_pinned new p ≡ false
  pub pinned : (p : Place) → (Contains pins p → ⊥) → is_pinned new p ≡ is_pinned old p
  pub volume : SameVolume old new

-- One key has its new pointer, and the place of its old one is free.
pub record LaysOne (item : Item) (old new : Map) : Type 0 where
  pub keys : (k : Key) → pointer_at new k ≡ put item (pointer_at old) k
  pub freed : (pointer : Pointer) → written (pointer_at old item.key) ≡ Some pointer → is_free new pointer.place ≡ true
  pub others : (p : Place) → ((pointer : Pointer) → written (pointer_at old item.key) ≡ Some pointer → pointer.place ≡ p → ⊥)
      → is_free new p ≡ is_free old p
  pub pinned : (p : Place) → is_pinned new p ≡ is_pinned old p
  pub volume : SameVolume old new

-- These places are not pinned any more.
pub record Unpins (places : List Place) (old new : Map) : Type 0 where
  pub unpinned : (p : Place) → Contains places p → is_pinned new p ≡ false
  pub pinned : (p : Place) → (Contains places p → ⊥) → is_pinned new p ≡ is_pinned old p
  pub free : (p : Place) → is_free new p ≡ is_free old p
  pub keys : (k : Key) → pointer_at new k ≡ pointer_at old k
  pub volume : SameVolume old new
