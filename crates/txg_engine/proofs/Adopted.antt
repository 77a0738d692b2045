-- Keys that have their new pointers in the map.
use Rattle.std.proofs.Common.{◌≡◌, ℕ, zero, suc, ◌<◌, true, false, cond, List, [], ◌∷◌, ◌++◌, length, get_or, take, Contains, Option, Some, None, refl, ap, sym, ◌∙◌, inl, inr, ⊎_elim, arith}
use Rattle.std.proofs.lemmas.Bool.{cases_Bool, cond-true, cond-false, and_left, and_right, ne_eqb}
use Rattle.std.proofs.lemmas.List.Elements.{Contains-append_left, Contains-push_cases, Contains-push}
use Rattle.mp_base.specs.declared.place.Key.{Key}
use Rattle.mp_base.specs.declared.place.Place.{Place}
use Rattle.mp_base.specs.declared.place.Pointer.{Pointer}
use Rattle.block_map.specs.Keys.{IsBefore}
use Rattle.block_map.specs.Map.{Map, is_free, is_pinned, pointer_at, SameVolume, FreeIs, PointerIs}
use Rattle.block_map.specs.Pointers.{written}
use Rattle.txg_history.specs.Groups.{same_key}
use Rattle.txg_history.proofs.Listing.{one_key}
use Rattle.txg_engine.specs.declared.item.Item.{Item}
use Rattle.txg_engine.specs.Frozen.{KeysRise}
use Rattle.txg_engine.specs.Items.{put, laid}
use Rattle.txg_engine.specs.Ending.{LaysOne, IsPlaceOf, Unpins, IsAdopted}
use Rattle.txg_engine.proofs.Merged.{keys_tail}
use Rattle.txg_engine.proofs.Places.{cases_place, same_volume, same_key_self}

-- the keys of a map with one pointer more
pub put_keys : (item : Item) (old new : Map) → PointerIs old new item.key item.pointer
    → (k : Key) → pointer_at new k ≡ put item (pointer_at old) k
put_keys item old new now k =
    ⊎_elim
    (λ same. ap (pointer_at new) (sym (one_key item.key k same)) ∙ now.now
    ∙ sym (cond-true (same_key item.key k) item.pointer (pointer_at old k) same))
    (λ differs. now.others k (λ same. absurd (let self = same_key_self item.key k (sym same) in cc))
    ∙ sym (cond-false (same_key item.key k) item.pointer (pointer_at old k) differs))
    (cases_Bool (same_key item.key k))

-- a key that had no pointer
pub lays_new : (item : Item) (old new : Map) → written (pointer_at old item.key) ≡ None
    → PointerIs old new item.key item.pointer → LaysOne item old new
lays_new item old new none now = record {
  keys = put_keys item old new now;
  freed = λ pointer is. absurd (let e : Some pointer ≡ None = sym is ∙ none in cc);
  others = λ p no. now.free p;
  pinned = now.pinned;
  volume = now.volume;
}

-- a key that had one, whose place is free
pub lays_over : (item : Item) (was : Pointer) (old mid new : Map) → written (pointer_at old item.key) ≡ Some was
    → FreeIs true old mid was.place → PointerIs mid new item.key item.pointer → LaysOne item old new
lays_over item was old mid new some free now = record {
  keys = λ k. put_keys item mid new now k ∙ ap (cond (same_key item.key k) item.pointer) (free.keys k);
  freed = λ pointer is.
      let e : Some was ≡ Some pointer = sym some ∙ is in
      let same : was ≡ pointer = cc in
      now.free pointer.place ∙ ap (λ (q : Pointer). is_free mid q.place) (sym same) ∙ free.now;
  others = λ p no. now.free p ∙ free.others p (λ same. no was some (sym same));
  pinned = λ p. now.pinned p ∙ free.pinned p;
  volume = same_volume old mid new free.volume now.volume;
}

-- The keys of these items have their new pointers, and places of their old ones are free.
pub record LaysAll (items : List Item) (old new : Map) : Type 0 where
  pub keys : (k : Key) → pointer_at new k ≡ laid items (pointer_at old) k
  pub freed : (p : Place) → IsPlaceOf old items p → is_free new p ≡ true
  pub others : (p : Place) → (IsPlaceOf old items p → ⊥) → is_free new p ≡ is_free old p
  pub pinned : (p : Place) → is_pinned new p ≡ is_pinned old p
  pub volume : SameVolume old new

laid_push : (items : List Item) (item : Item) (at : Key → Pointer) (k : Key)
    → laid (items ++ item ∷ []) at k ≡ put item (laid items at) k
laid_push [] item at k = refl
laid_push (x ∷ items) item at k = laid_push items item (put x at) k

-- a key behind another
before_trans : (a b c : Key) → IsBefore a b → IsBefore b c → IsBefore a c
before_trans a b c (inl x) (inl y) = inl (omega arith)
before_trans a b c (inl x) (inr y) = inl (omega (arith, y.0))
before_trans a b c (inr x) (inl y) = inl (omega (arith, x.0))
before_trans a b c (inr x) (inr y) = inr (x.0 ∙ y.0, omega (arith, x.1, y.1))

before_differs : (a b : Key) → IsBefore a b → same_key a b ≡ false
before_differs a b (inl x) = and_left _ _ (ne_eqb a.level b.level (λ e. omega arith))
before_differs a b (inr x) = and_right _ _ (ne_eqb a.index b.index (λ e. omega (arith, x.1)))

before_all : (item : Item) (items : List Item) (i : ℕ) (d : Item) → i < length items → KeysRise (item ∷ items)
    → IsBefore item.key (get_or items i d).key
before_all item [] i d inside rise = absurd (omega arith)
before_all item (next ∷ items) zero d inside rise = rise.0
before_all item (next ∷ items) (suc i) d inside rise =
    before_trans item.key next.key (get_or items i d).key rise.0 (before_all next items i d (omega arith) rise.1)

-- where keys rise, those before a key don't change its pointer
pub laid_before : (items : List Item) (i : ℕ) (d : Item) → i < length items → KeysRise items → (at : Key → Pointer)
    → laid (take i items) at (get_or items i d).key ≡ at (get_or items i d).key
laid_before [] i d inside rise at = absurd (omega arith)
laid_before (item ∷ items) zero d inside rise at = refl
laid_before (item ∷ items) (suc i) d inside rise at =
    laid_before items i d (omega arith) (keys_tail item items rise) (put item at)
    ∙ cond-false (same_key item.key (get_or items i d).key) item.pointer (at (get_or items i d).key)
    (before_differs item.key (get_or items i d).key (before_all item items i d (omega arith) rise))

module _ (item : Item) (mid new : Map) (lays : LaysOne item mid new) (p : Place) (free : is_free mid p ≡ true) where
  stays_free_at : (o : Option Pointer) → written (pointer_at mid item.key) ≡ o → is_free new p ≡ true
  stays_free_at None none =
      lays.others p (λ pointer is same. absurd (let e : Some pointer ≡ None = sym is ∙ none in cc)) ∙ free
  stays_free_at (Some was) some =
      ⊎_elim (λ same. ap (is_free new) (sym same) ∙ lays.freed was some)
      (λ differs. lays.others p (λ pointer is same.
      let e : Some pointer ≡ Some was = sym is ∙ some in
      let one : pointer ≡ was = cc in
      differs (ap (λ (q : Pointer). q.place) (sym one) ∙ same)) ∙ free) (cases_place was.place p)

  -- what is free stays so
  stays_free : is_free new p ≡ true
  stays_free = stays_free_at (written (pointer_at mid item.key)) refl

module _ (items : List Item) (item : Item) (old mid new : Map) (first : LaysAll items old mid)
    (lays : LaysOne item mid new) (fresh : laid items (pointer_at old) item.key ≡ pointer_at old item.key) where
  was_same : written (pointer_at mid item.key) ≡ written (pointer_at old item.key)
  was_same = ap written (first.keys item.key ∙ fresh)

  among_all : (p : Place) → IsPlaceOf old items p → IsPlaceOf old (items ++ item ∷ []) p
  among_all p place = record {
    item = place.item;
    among = Contains-append_left items (item ∷ []) place.item place.among;
    pointer = place.pointer;
    pointer_is = place.pointer_is;
    is = place.is;
  }

  freed_before : (p : Place) (place : IsPlaceOf old (items ++ item ∷ []) p) → Contains items place.item
      → is_free new p ≡ true
  freed_before p place has = stays_free item mid new lays p (first.freed p (record {
    item = place.item;
    among = has;
    pointer = place.pointer;
    pointer_is = place.pointer_is;
    is = place.is;
  }))

  last_place : (p : Place) (pointer : Pointer) → written (pointer_at mid item.key) ≡ Some pointer → pointer.place ≡ p
      → IsPlaceOf old (items ++ item ∷ []) p
  last_place p pointer is same = record {
    item = item;
    among = Contains-push items item;
    pointer = pointer;
    pointer_is = sym was_same ∙ is;
    is = same;
  }

  freed_more : (p : Place) → IsPlaceOf old (items ++ item ∷ []) p → is_free new p ≡ true
  freed_more p place =
      ⊎_elim (freed_before p place)
      (λ same. ap (is_free new) (sym place.is) ∙ lays.freed place.pointer
      (was_same ∙ ap (λ (x : Item). written (pointer_at old x.key)) same ∙ place.pointer_is))
      (Contains-push_cases items item place.item place.among)

  -- one key more has its new pointer
  pub lays_more : LaysAll (items ++ item ∷ []) old new
  lays_more = record {
    keys = λ k.
        lays.keys k ∙ ap (cond (same_key item.key k) item.pointer) (first.keys k)
        ∙ sym (laid_push items item (pointer_at old) k);
    freed = freed_more;
    others = λ p no.
        lays.others p (λ pointer is same. no (last_place p pointer is same))
        ∙ first.others p (λ place. no (among_all p place));
    pinned = λ p. lays.pinned p ∙ first.pinned p;
    volume = same_volume old mid new first.volume lays.volume;
  }

-- the map is that of the group's record
pub adopted_all : (items : List Item) (pins : List Place) (old mid new : Map) → LaysAll items old mid
    → Unpins pins mid new → IsAdopted items pins old new
adopted_all items pins old mid new lays now = record {
  keys = λ k. now.keys k ∙ lays.keys k;
  freed = λ p is. now.free p ∙ lays.freed p is;
  others = λ p no. now.free p ∙ lays.others p no;
  unpinned = now.unpinned;
  pinned = λ p no. now.pinned p no ∙ lays.pinned p;
  volume = same_volume old mid new lays.volume now.volume;
}
