-- Keys of a freeze are keys of the volume, and their pointers may stand in its map.
use Rattle.std.proofs.Common.{◌≡◌, ℕ, ◌<◌, ◌≤◌, List, [], ◌∷◌, ◌++◌, All, length, map, sym, ap, ◌∙◌, subst, arith}
use Rattle.std.proofs.lemmas.List.Elements.{All-nil, All-cons, All-head, All-tail, All-append, All-weaker}
use Rattle.mp_base.specs.declared.place.Place.{Place}
use Rattle.block_map.specs.Keys.{IsKey, IsPage, keys_at}
use Rattle.block_map.specs.Map.{Map}
use Rattle.block_map.specs.Pointers.{IsPointer}
use Rattle.txg_engine.specs.declared.item.Item.{Item}
use Rattle.txg_engine.specs.declared.write.Write.{Write}
use Rattle.txg_engine.specs.Freezing.{addr_of, block_keys, page_keys, dirty_keys, AreNextPlaces, IsSigned}
use Rattle.txg_engine.specs.Items.{keys_of, places_of}
use Rattle.txg_engine.proofs.Rising.{pages_are_pages, of_items}

block_key_is : (blocks a : ℕ) → a < blocks → IsKey blocks (record { level = 0; index = a })
unfolding keys_at
block_key_is blocks a inside = record { level = omega arith; index = inside }

blocks_are_keys : (blocks : ℕ) (writes : List Write) → All (λ write. write.addr < blocks) writes → All (IsKey blocks) (block_keys writes)
blocks_are_keys blocks [] all = All-nil (IsKey blocks)
blocks_are_keys blocks (write ∷ writes) all =
    All-cons (IsKey blocks) (record { level = 0; index = write.addr }) (block_keys writes)
    (block_key_is blocks write.addr (All-head (λ (w : Write). w.addr < blocks) write writes all))
    (blocks_are_keys blocks writes (All-tail (λ (w : Write). w.addr < blocks) write writes all))

-- each key of a freeze is one of the volume
pub keys_inside : (blocks : ℕ) (writes : List Write) (items : List Item) → All (λ write. write.addr < blocks) writes
    → keys_of items ≡ dirty_keys writes → All (λ item. IsKey blocks item.key) items
keys_inside blocks writes items all is =
    let pages = page_keys (map addr_of writes) in
    of_items (IsKey blocks) items (subst (All (IsKey blocks)) (sym is)
    (All-append (IsKey blocks) (block_keys writes) pages (blocks_are_keys blocks writes all)
    (All-weaker (IsPage blocks) (IsKey blocks) (λ page is. is.key) pages (pages_are_pages blocks writes all))))

-- each pointer of a freeze has a place of the tops
pub pointers_inside : (number : ℕ) (old : Map) (given : List Place) (items : List Item) → 1 ≤ number
    → AreNextPlaces old given (places_of items) → All (IsSigned number) items
    → All (λ item. IsPointer old.sectors item.pointer) items
pointers_inside number old given [] some places signed = All-nil (λ (item : Item). IsPointer old.sectors item.pointer)
pointers_inside number old given (item ∷ items) some places signed =
    let birth = (All-head (IsSigned number) item items signed).birth in
    All-cons (λ (i : Item). IsPointer old.sectors i.pointer) item items
    (record { hole = λ none. absurd (omega arith); place = λ one. places.0.inside })
    (pointers_inside number old (given ++ item.pointer.place ∷ []) items some places.1 (All-tail (IsSigned number) item items signed))

-- one key more of a whole block
pub long_more : (items after : List Item) (item : Item) (block : List ℕ) → after ≡ items ++ item ∷ [] → item.block ≡ block
    → length block ≡ 4096 → All (λ i. length i.block ≡ 4096) items → All (λ i. length i.block ≡ 4096) after
long_more items after item block more is long all =
    subst (All (λ (i : Item). length i.block ≡ 4096)) (sym more)
    (All-append (λ (i : Item). length i.block ≡ 4096) items (item ∷ []) all
    (All-cons (λ (i : Item). length i.block ≡ 4096) item [] (ap length is ∙ long) (All-nil (λ (i : Item). length i.block ≡ 4096))))
