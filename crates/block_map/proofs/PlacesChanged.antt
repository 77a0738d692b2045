-- What one place's change does to a map.
use Rattle.std.proofs.Common.{◌≡◌, ◌≢◌, ℕ, ◌+◌, ◌*◌, ◌/◌, ◌%◌, ◌<◌, Bool, true, false, not, ◌&&◌, List, length, get_or, refl, sym, ◌∙◌, ⊎_elim, arith}
use Rattle.std.proofs.lemmas.Bool.{cases_eq, and_left, and_parts}
use Rattle.mp_base.specs.declared.place.Place.{Place}
use Rattle.mp_base.specs.declared.place.Pointer.{Pointer}
use Rattle.block_map.specs.Bits.{holds}
use Rattle.block_map.specs.NumberSet.{Numbers, has, room, one_if, HasNow, HasLess, IsLeast}
use Rattle.block_map.specs.Places.{IsPlace, is_place}
use Rattle.block_map.specs.Numbers.{place_number, place_at}
use Rattle.block_map.specs.Map.{Map, is_free, is_pinned, is_open, pointer_at, FreeIs, PinnedIs, IsLeastOpen, IsKept}
use Rattle.block_map.proofs.PlaceNumbers.{is_place_of, is_place_cases, number_of_place_at, same_place, place_before, place_fits, place_inside, inside_of_place}

pub is_free_at : (map : Map) (place : Place) → IsPlace map.sectors place → is_free map place ≡ holds map.free (place_number (length map.sectors) place)
unfolding is_free
is_free_at map place p = rw (is_place_of map.sectors place p) refl

pub is_pinned_at : (map : Map) (place : Place) → IsPlace map.sectors place → is_pinned map place ≡ holds map.pinned (place_number (length map.sectors) place)
unfolding is_pinned
is_pinned_at map place p = rw (is_place_of map.sectors place p) refl

pub not_free : (map : Map) (place : Place) → is_place map.sectors place ≡ false → is_free map place ≡ false
unfolding is_free
not_free map place out = and_left _ _ out

pub not_pinned : (map : Map) (place : Place) → is_place map.sectors place ≡ false → is_pinned map place ≡ false
unfolding is_pinned
not_pinned map place out = and_left _ _ out

abbrev map_of : ℕ → List ℕ → List Pointer → List ℕ → List ℕ → ℕ → Map
map_of blocks sectors pointers free pinned count =
    record { blocks = blocks; sectors = sectors; pointers = pointers; free = free; pinned = pinned; count = count }

abbrev open_at : List ℕ → List ℕ → ℕ → Bool
open_at free pinned at = holds free at && not (holds pinned at)

pub is_open_at : (map : Map) (place : Place) → IsPlace map.sectors place → is_open map place ≡ open_at map.free map.pinned (place_number (length map.sectors) place)
is_open_at map place p = rw (is_free_at map place p, is_pinned_at map place p) refl

not_open : (map : Map) (place : Place) → is_place map.sectors place ≡ false → is_open map place ≡ false
not_open map place out = and_left _ _ (not_free map place out)

module _ (blocks : ℕ) (sectors : List ℕ) (pointers : List Pointer) (free pinned : List ℕ) (opened : Numbers) (kept : IsKept blocks sectors pointers free pinned opened) where
  pub number_fits : (place : Place) → IsPlace sectors place → place_number (length sectors) place < 64 * length free
  number_fits place p = place_fits sectors (64 * length free) place kept.room p

  pub number_in_room : (at : ℕ) → at < 64 * length free → at < room opened
  unfolding room
  number_in_room at lt = rw kept.open_room lt

  module _ (place : Place) (p : IsPlace sectors place) (free' pinned' : List ℕ) (opened' : Numbers)
      (size : length free' ≡ length free) (pinned_size : length pinned' ≡ length pinned)
      (others : (i : ℕ) → i ≢ place_number (length sectors) place → holds free' i ≡ holds free i)
      (pinned_others : (i : ℕ) → i ≢ place_number (length sectors) place → holds pinned' i ≡ holds pinned i)
      (now : HasNow (open_at free' pinned' (place_number (length sectors) place)) opened opened' (place_number (length sectors) place)) where
    now_open : (at : ℕ) → has opened' at ≡ open_at free' pinned' at
    now_open at =
        ⊎_elim (λ same. rw same now.now)
        (λ other. now.others at other ∙ kept.are_open at ∙ sym (rw (others at other, pinned_others at other) refl))
        (cases_eq at (place_number (length sectors) place))

    now_inside : (at : ℕ) → holds free' at ≡ true → at / length sectors < get_or sectors (at % length sectors) 0
    now_inside at there =
        ⊎_elim (λ same. rw same (inside_of_place sectors place p))
        (λ other. kept.inside at (sym (others at other) ∙ there))
        (cases_eq at (place_number (length sectors) place))

    pub kept_now : IsKept blocks sectors pointers free' pinned' opened'
    unfolding room
    kept_now = record {
      volume = kept.volume;
      tops = kept.tops;
      slots = kept.slots;
      well_formed = kept.well_formed;
      in_form = kept.in_form;
      fill = kept.fill;
      room = rw size kept.room;
      pinned_room = pinned_size ∙ kept.pinned_room ∙ sym size;
      open_room = rw size (omega (arith, now.room, kept.open_room));
      inside = now_inside;
      are_open = now_open;
    }

    pub count_now : opened'.count + one_if (is_open (map_of blocks sectors pointers free pinned opened.count) place)
        ≡ opened.count + one_if (is_open (map_of blocks sectors pointers free' pinned' opened'.count) place)
    count_now = rw (
      is_open_at (map_of blocks sectors pointers free pinned opened.count) place p,
      is_open_at (map_of blocks sectors pointers free' pinned' opened'.count) place p,
      ← kept.are_open (place_number (length sectors) place),
    ) now.count

    other_number : (q : Place) → IsPlace sectors q → q ≢ place → place_number (length sectors) q ≢ place_number (length sectors) place
    other_number q is differs same = differs (same_place (length sectors) q place is.top p.top same)

    pub free_others : (q : Place) → q ≢ place → is_free (map_of blocks sectors pointers free' pinned' opened'.count) q ≡ is_free (map_of blocks sectors pointers free pinned opened.count) q
    free_others q differs =
        ⊎_elim (λ is. is_free_at (map_of blocks sectors pointers free' pinned' opened'.count) q is ∙ others _ (other_number q is differs)
        ∙ sym (is_free_at (map_of blocks sectors pointers free pinned opened.count) q is))
        (λ out. not_free (map_of blocks sectors pointers free' pinned' opened'.count) q out ∙ sym (not_free (map_of blocks sectors pointers free pinned opened.count) q out))
        (is_place_cases sectors q)

    pub pinned_same : (q : Place) → q ≢ place → is_pinned (map_of blocks sectors pointers free' pinned' opened'.count) q ≡ is_pinned (map_of blocks sectors pointers free pinned opened.count) q
    pinned_same q differs =
        ⊎_elim (λ is. is_pinned_at (map_of blocks sectors pointers free' pinned' opened'.count) q is ∙ pinned_others _ (other_number q is differs)
        ∙ sym (is_pinned_at (map_of blocks sectors pointers free pinned opened.count) q is))
        (λ out. not_pinned (map_of blocks sectors pointers free' pinned' opened'.count) q out ∙ sym (not_pinned (map_of blocks sectors pointers free pinned opened.count) q out))
        (is_place_cases sectors q)

  -- the number of a place is `at`
  module _ (place : Place) (p : IsPlace sectors place) (at : ℕ) (is : at ≡ place_number (length sectors) place) where
    pub free_kept : (free' : List ℕ) (opened' : Numbers) → length free' ≡ length free → ((i : ℕ) → i ≢ at → holds free' i ≡ holds free i)
        → HasNow (open_at free' pinned at) opened opened' at → IsKept blocks sectors pointers free' pinned opened'
    free_kept free' opened' size others now = kept_now place p free' pinned opened' size refl (rw is at others) (λ _ _. refl) (rw is at now)

    pub pinned_kept : (pinned' : List ℕ) (opened' : Numbers) → length pinned' ≡ length pinned → ((i : ℕ) → i ≢ at → holds pinned' i ≡ holds pinned i)
        → HasNow (open_at free pinned' at) opened opened' at → IsKept blocks sectors pointers free pinned' opened'
    pinned_kept pinned' opened' size others now = kept_now place p free pinned' opened' refl size (λ _ _. refl) (rw is at others) (rw is at now)

    pub free_is : (b : Bool) (free' : List ℕ) (opened' : Numbers) → length free' ≡ length free → ((i : ℕ) → i ≢ at → holds free' i ≡ holds free i)
        → HasNow (open_at free' pinned at) opened opened' at → holds free' at ≡ b
        → FreeIs b (map_of blocks sectors pointers free pinned opened.count) (map_of blocks sectors pointers free' pinned opened'.count) place
    unfolding is_pinned pointer_at
    free_is b free' opened' size others now there = record {
      now = is_free_at (map_of blocks sectors pointers free' pinned opened'.count) place p ∙ (rw is at there);
      others = free_others place p free' pinned opened' size refl (rw is at others) (λ _ _. refl) (rw is at now);
      pinned = λ q. refl;
      keys = λ k. refl;
      volume = record { blocks = refl; sectors = refl };
      count = count_now place p free' pinned opened' size refl (rw is at others) (λ _ _. refl) (rw is at now);
    }

    pub pinned_is : (b : Bool) (pinned' : List ℕ) (opened' : Numbers) → length pinned' ≡ length pinned → ((i : ℕ) → i ≢ at → holds pinned' i ≡ holds pinned i)
        → HasNow (open_at free pinned' at) opened opened' at → holds pinned' at ≡ b
        → PinnedIs b (map_of blocks sectors pointers free pinned opened.count) (map_of blocks sectors pointers free pinned' opened'.count) place
    unfolding is_free pointer_at
    pinned_is b pinned' opened' size others now there = record {
      now = is_pinned_at (map_of blocks sectors pointers free pinned' opened'.count) place p ∙ (rw is at there);
      others = pinned_same place p free pinned' opened' refl size (λ _ _. refl) (rw is at others) (rw is at now);
      free = λ q. refl;
      keys = λ k. refl;
      volume = record { blocks = refl; sectors = refl };
      count = count_now place p free pinned' opened' refl size (λ _ _. refl) (rw is at others) (rw is at now);
    }

  module _ (at : ℕ) (least : IsLeast (has opened) at) where
    open_there : open_at free pinned at ≡ true
    open_there = sym (kept.are_open at) ∙ least.passes

    pub least_is_place : IsPlace sectors (place_at (length sectors) at)
    least_is_place =
        let (there, rest) = and_parts _ _ open_there in
        place_inside sectors at kept.tops.some (kept.inside at there)

    pub least_open : IsLeastOpen (map_of blocks sectors pointers free pinned opened.count) (place_at (length sectors) at)
    least_open = record {
      inside = least_is_place;
      passes = rw (is_open_at (map_of blocks sectors pointers free pinned opened.count) (place_at (length sectors) at) least_is_place, number_of_place_at (length sectors) at) open_there;
      least = λ other before.
          ⊎_elim (λ is.
          let number = rw number_of_place_at at (place_before (length sectors) other (place_at (length sectors) at) is.top before) in
          is_open_at (map_of blocks sectors pointers free pinned opened.count) other is ∙ sym (kept.are_open _) ∙ least.least _ number)
          (λ out. not_open (map_of blocks sectors pointers free pinned opened.count) other out)
          (is_place_cases sectors other);
    }

    -- the least place is taken
    pub taken_now : (free' : List ℕ) (opened' : Numbers) → holds free' at ≡ false → HasLess opened opened' at
        → HasNow (open_at free' pinned at) opened opened' at
    taken_now free' opened' gone less = record {
      now = less.gone ∙ sym (and_left _ _ gone);
      others = less.others;
      count = rw (least.passes, and_left _ _ gone) (omega (arith, less.count));
      room = less.room;
    }

  pub none_open : ((at : ℕ) → has opened at ≡ false) → (place : Place) → is_open (map_of blocks sectors pointers free pinned opened.count) place ≡ false
  none_open none place =
      ⊎_elim (λ is. is_open_at (map_of blocks sectors pointers free pinned opened.count) place is ∙ sym (kept.are_open _) ∙ none _)
      (λ out. not_open (map_of blocks sectors pointers free pinned opened.count) place out)
      (is_place_cases sectors place)
