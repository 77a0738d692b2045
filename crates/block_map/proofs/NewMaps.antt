-- A new map has no key, and each place of the tops is free.
use Rattle.std.proofs.Common.{◌≡◌, ℕ, ◌+◌, ◌*◌, ◌/◌, ◌≤◌, Bool, false, not, ◌&&◌, List, length, get_or, replicate, refl, sym, ap, ◌∙◌, ⊎_elim, arith}
use Rattle.std.specs.List.{All}
use Rattle.std.proofs.lemmas.Bool.{cases_lt, cases_Bool, and_from, lt-ltb}
use Rattle.std.proofs.lemmas.List.{get_or_past, get_or-replicate, length-replicate}
use Rattle.std.proofs.lemmas.List.Elements.{All-replicate, All-weaker}
use Rattle.mp_base.specs.declared.place.Pointer.{Pointer}
use Rattle.block_map.specs.Bits.{holds}
use Rattle.block_map.specs.NumberSet.{Numbers, has}
use Rattle.block_map.specs.Keys.{IsVolume}
use Rattle.block_map.specs.Places.{AreTops}
use Rattle.block_map.specs.Pointers.{hole, IsPointer, IsInForm}
use Rattle.block_map.specs.Numbers.{slots}
use Rattle.block_map.specs.Map.{Map, is_number, is_freed, IsEmpty, IsKept}
use Rattle.block_map.proofs.FreeNumbers.{freed_number}
use Rattle.block_map.proofs.KeyNumbers.{is_key_cases}
use Rattle.block_map.proofs.PlaceNumbers.{is_place_of, is_place_cases, place_fits, inside_of_place}
use Rattle.block_map.proofs.PlacesChanged.{is_free_at, is_pinned_at, not_free, not_pinned}
use Rattle.block_map.proofs.PointersChanged.{pointer_is, no_pointer}
use Rattle.block_map.proofs.PointersFit.{hole_fits, hole_in_form}

same_open : (a b f : Bool) → a ≡ f → b ≡ false → f ≡ (a && not b)
same_open a b f is none = rw (is, none) (⊎_elim (λ t. rw t refl) (λ t. rw t refl) (cases_Bool f))

holes : (pointers : List Pointer) (n i : ℕ) → pointers ≡ replicate n hole → get_or pointers i hole ≡ hole
holes pointers n i are = rw are
    (⊎_elim (λ lt. get_or-replicate n i hole hole lt) (λ ge. get_or_past (replicate n hole) i hole (omega (arith, length-replicate n hole))) (cases_lt i n))

module _ (blocks : ℕ) (sectors : List ℕ) (pointers : List Pointer) (free pinned : List ℕ) (opened : Numbers) (volume : IsVolume blocks) (tops : AreTops sectors)
    (none : pointers ≡ replicate (slots blocks) hole) (room : ℕ) (rooms : All (λ s. s * length sectors ≤ room) sectors)
    (free_size : length free ≡ room / 64 + 1) (pinned_size : length pinned ≡ room / 64 + 1) (open_size : length opened.members ≡ room / 64 + 1)
    (freed : (i : ℕ) → holds free i ≡ is_freed sectors room i) (freed_open : (i : ℕ) → has opened i ≡ is_freed sectors room i) (unpinned : (i : ℕ) → holds pinned i ≡ false) where
  pub new_kept : IsKept blocks sectors pointers free pinned opened
  new_kept = record {
    volume = volume;
    tops = tops;
    slots = ap length none ∙ length-replicate (slots blocks) hole;
    well_formed = rw none (All-replicate (IsPointer sectors) (slots blocks) hole (hole_fits sectors));
    in_form = rw none (All-replicate IsInForm (slots blocks) hole hole_in_form);
    fill = λ l i _ _ _. holes pointers (slots blocks) _ none;
    room = All-weaker (λ s. s * length sectors ≤ room) (λ s. s * length sectors ≤ 64 * length free) (λ s le. omega arith) sectors rooms;
    pinned_room = pinned_size ∙ sym free_size;
    open_room = open_size ∙ sym free_size;
    inside = λ at there. freed_number sectors room at (sym (freed at) ∙ there);
    are_open = λ at. freed_open at ∙ same_open _ _ _ (freed at) (unpinned at);
  }

  abbrev made : Map
  made = record { blocks = blocks; sectors = sectors; pointers = pointers; free = free; pinned = pinned; count = opened.count }

  pub new_empty : IsEmpty blocks sectors made
  unfolding is_freed is_number
  new_empty = record {
    volume = refl;
    tops = refl;
    keys = λ key. ⊎_elim (λ k. pointer_is made key k ∙ holes pointers (slots blocks) _ none) (λ out. no_pointer made key out) (is_key_cases blocks key);
    free = λ place.
        ⊎_elim (λ p. is_free_at made place p ∙ freed _
        ∙ and_from _ _ (lt-ltb _ _ (place_fits sectors room place rooms p)) (lt-ltb _ _ (inside_of_place sectors place p)) ∙ sym (is_place_of sectors place p))
        (λ out. not_free made place out ∙ sym out)
        (is_place_cases sectors place);
    pinned = λ place.
        ⊎_elim (λ p. is_pinned_at made place p ∙ unpinned _) (λ out. not_pinned made place out) (is_place_cases sectors place);
  }
