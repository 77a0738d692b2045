-- What one pointer's change does to a map.
use Rattle.std.proofs.Common.{◌≡◌, ◌≢◌, ℕ, ◌+◌, ◌<◌, ◌≤◌, true, false, eqb, List, length, get_or, set, Some, None, refl, sym, ap, ◌∙◌, subst, ⊎_elim, arith, get_or-set_same, get_or-set_other, length-set}
use Rattle.std.proofs.lemmas.Bool.{cases_order}
use Rattle.std.proofs.lemmas.List.{get_or_read}
use Rattle.std.proofs.lemmas.List.Elements.{All-set}
use Rattle.mp_base.specs.declared.place.Key.{Key}
use Rattle.mp_base.specs.declared.place.Pointer.{Pointer}
use Rattle.block_map.specs.NumberSet.{Numbers}
use Rattle.block_map.specs.Keys.{IsKey, is_key, keys_at}
use Rattle.block_map.specs.Pointers.{hole, IsPointer, IsInForm, written}
use Rattle.block_map.specs.Numbers.{key_number, start}
use Rattle.block_map.specs.Map.{Map, is_free, is_pinned, pointer_at, PointerIs, IsKept}
use Rattle.block_map.proofs.KeyNumbers.{is_key_of, is_key_cases, same_number, number_inside, lower_first, start_le}

pub pointer_is : (map : Map) (key : Key) → IsKey map.blocks key → pointer_at map key ≡ get_or map.pointers (key_number map.blocks key) hole
unfolding pointer_at
pointer_is map key k = rw (is_key_of map.blocks key k) refl

pub no_pointer : (map : Map) (key : Key) → is_key map.blocks key ≡ false → pointer_at map key ≡ hole
unfolding pointer_at
no_pointer map key out = rw out refl

pub written_none : (pointer : Pointer) → eqb pointer.birth.0 0 ≡ true → None ≡ written pointer
unfolding written
written_none pointer none = rw none refl

pub written_some : (pointer : Pointer) → eqb pointer.birth.0 0 ≡ false → Some pointer ≡ written pointer
unfolding written
written_some pointer some = rw some refl

-- what was read at a key's number is its pointer
pub read_is : (map : Map) (key : Key) (n : ℕ) (pointer : Pointer) → IsKey map.blocks key → n ≡ key_number map.blocks key → n < length map.pointers
    → pointer ≡ get_or map.pointers n pointer → pointer ≡ pointer_at map key
read_is map key n pointer k is lt read =
    get_or_read map.pointers n pointer lt read hole ∙ ap (λ m. get_or map.pointers m hole) is ∙ sym (pointer_is map key k)

pub got : (map : Map) (key : Key) (n : ℕ) (pointer : Pointer) → IsKey map.blocks key → n ≡ key_number map.blocks key → n < length map.pointers
    → pointer ≡ get_or map.pointers n pointer → written pointer ≡ written (pointer_at map key)
got map key n pointer k is lt read = ap written (read_is map key n pointer k is lt read)

-- what has no birth is a hole
pub no_birth : (map : Map) (opened : Numbers) → IsKept map.blocks map.sectors map.pointers map.free map.pinned opened → (key : Key) → IsKey map.blocks key
    → (pointer_at map key).birth.0 ≡ 0 → pointer_at map key ≡ hole
no_birth map opened kept key k none =
    let inside : key_number map.blocks key < length map.pointers = rw kept.slots (number_inside map.blocks kept.volume.some kept.volume.most key k) in
    let is = pointer_is map key k in
    is ∙ (kept.well_formed (key_number map.blocks key) hole inside).hole (ap (λ p. p.birth.0) (sym is) ∙ none)

-- a number that fills up a level is no key's
pub filling : (blocks l i : ℕ) (key : Key) → IsKey blocks key → keys_at blocks l ≤ i → start blocks l + i < start blocks (l + 1)
    → start blocks l + i ≢ key_number blocks key
unfolding key_number
filling blocks l i key k past before same =
    ⊎_elim (λ level. let index : key.index < keys_at blocks l = subst (λ m. key.index < keys_at blocks m) level k.index in
    let is : start blocks key.level ≡ start blocks l = ap (start blocks) level in omega arith)
    (λ apart. ⊎_elim (λ lower. let lt = lower_first blocks key.level l key.index i lower k.index in omega arith)
    (λ upper. let le = start_le blocks (l + 1) key.level (omega arith) in omega arith) apart)
    (cases_order key.level l)

module _ (blocks : ℕ) (sectors : List ℕ) (pointers : List Pointer) (free pinned : List ℕ) (opened : Numbers) (kept : IsKept blocks sectors pointers free pinned opened)
    (key : Key) (k : IsKey blocks key) (pointer : Pointer) (fits : IsPointer sectors pointer) (form : IsInForm pointer) (at : ℕ) (is : at ≡ key_number blocks key) where
  at_inside : at < length pointers
  at_inside = rw (is, kept.slots) (number_inside blocks kept.volume.some kept.volume.most key k)

  pub set_kept : IsKept blocks sectors (set pointers at pointer) free pinned opened
  set_kept = record {
    volume = kept.volume;
    tops = kept.tops;
    slots = length-set pointers at pointer ∙ kept.slots;
    well_formed = All-set (IsPointer sectors) pointers at pointer fits kept.well_formed;
    in_form = All-set IsInForm pointers at pointer form kept.in_form;
    fill = λ l i level past before.
        get_or-set_other pointers at (start blocks l + i) pointer hole (λ same. filling blocks l i key k past before (same ∙ is)) ∙ kept.fill l i level past before;
    room = kept.room;
    pinned_room = kept.pinned_room;
    open_room = kept.open_room;
    inside = kept.inside;
    are_open = kept.are_open;
  }

  abbrev before : Map
  before = record { blocks = blocks; sectors = sectors; pointers = pointers; free = free; pinned = pinned; count = opened.count }

  abbrev behind : Map
  behind = record { blocks = blocks; sectors = sectors; pointers = set pointers at pointer; free = free; pinned = pinned; count = opened.count }

  pub set_is : PointerIs before behind key pointer
  unfolding is_free is_pinned
  set_is = record {
    now = pointer_is behind key k ∙ ap (λ n. get_or (set pointers at pointer) n hole) (sym is) ∙ get_or-set_same pointers at pointer hole at_inside;
    others = λ other differs.
        ⊎_elim (λ o. pointer_is behind other o
        ∙ get_or-set_other pointers at (key_number blocks other) pointer hole
        (λ same. differs (same_number blocks kept.volume.some kept.volume.most other key o k (same ∙ is)))
        ∙ sym (pointer_is before other o))
        (λ out. no_pointer behind other out ∙ sym (no_pointer before other out))
        (is_key_cases blocks other);
    free = λ p. refl;
    pinned = λ p. refl;
    volume = record { blocks = refl; sectors = refl };
    count = refl;
  }
