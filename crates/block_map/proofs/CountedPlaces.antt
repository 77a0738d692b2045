-- The open places are as many as their numbers.
use Rattle.std.proofs.Common.{◌≡◌, ◌≢◌, ℕ, suc, zero, ◌*◌, ◌<◌, Bool, true, cond, ◌&&◌, not, List, [], ◌∷◌, length, map, refl, sym, ap, ◌∙◌, subst, ⊎_elim, arith}
use Rattle.std.specs.List.{All, AllPairs, Contains}
use Rattle.std.proofs.lemmas.Bool.{cases_Bool, cases_lt, and_parts, both_ways}
use Rattle.std.proofs.lemmas.List.{get_or-map, length-map}
use Rattle.std.proofs.lemmas.List.Elements.{All-nil, All-cons, All-weaker}
use Rattle.std.proofs.lemmas.List.Kept.{AllPairs-cons}
use Rattle.mp_base.specs.declared.place.Place.{Place}
use Rattle.block_map.specs.Bits.{holds}
use Rattle.block_map.specs.NumberSet.{Numbers, has, room, count_below}
use Rattle.block_map.specs.Places.{IsPlace}
use Rattle.block_map.specs.Numbers.{place_number, place_at}
use Rattle.block_map.specs.Map.{Map, is_free, is_open, CountsPlaces, IsKept}
use Rattle.block_map.proofs.PlaceNumbers.{place_of, number_of_place_at, place_at_number, place_inside}
use Rattle.block_map.proofs.PlacesChanged.{is_open_at, number_fits}

-- the numbers below `n` that pass, the greatest first
numbers : (ℕ → Bool) → ℕ → List ℕ
numbers f zero = []
numbers f (suc n) = cond (f n) (n ∷ numbers f n) (numbers f n)

how_many : (f : ℕ → Bool) (n : ℕ) → length (numbers f n) ≡ count_below f n
unfolding numbers
how_many f zero = refl
how_many f (suc n) =
    let rest = how_many f n in
    ⊎_elim (λ t. rw t (omega arith)) (λ t. rw t (omega arith)) (cases_Bool (f n))

they_pass : (f : ℕ → Bool) (n : ℕ) → All (λ i. (f i ≡ true) × (i < n)) (numbers f n)
unfolding numbers
they_pass f zero = All-nil (λ i. (f i ≡ true) × (i < 0))
they_pass f (suc n) =
    let rest = All-weaker (λ i. (f i ≡ true) × (i < n)) (λ i. (f i ≡ true) × (i < suc n)) (λ i is. (is.0, omega (arith, is.1))) (numbers f n) (they_pass f n) in
    ⊎_elim (λ t. rw t (All-cons (λ i. (f i ≡ true) × (i < suc n)) n (numbers f n) (t, omega arith) rest)) (λ t. rw t rest) (cases_Bool (f n))

they_differ : (f : ℕ → Bool) (n : ℕ) → AllPairs (λ a b. b < a) (numbers f n)
unfolding numbers
they_differ f zero = λ i j d _ lt. absurd (omega arith)
they_differ f (suc n) =
    ⊎_elim (λ t. rw t (AllPairs-cons (λ a b. b < a) n (numbers f n)
    (All-weaker (λ i. (f i ≡ true) × (i < n)) (λ i. i < n) (λ i is. is.1) (numbers f n) (they_pass f n)) (they_differ f n)))
    (λ t. rw t (they_differ f n))
    (cases_Bool (f n))

each_is_there : (f : ℕ → Bool) (n i : ℕ) → i < n → f i ≡ true → Contains (numbers f n) i
unfolding numbers
each_is_there f zero i lt is = absurd (omega arith)
each_is_there f (suc n) i lt is =
    ⊎_elim (λ t. rw t (⊎_elim (λ before. let (k, less, at) = each_is_there f n i before is in (suc k, omega arith, at))
    (λ last. let same : n ≡ i = omega arith in (0, omega arith, same)) (cases_lt i n)))
    (λ t. rw t (⊎_elim (λ before. each_is_there f n i before is)
    (λ last. let same : n ≡ i = omega arith in absurd (both_ways (f n) t (ap f same ∙ is))) (cases_lt i n)))
    (cases_Bool (f n))

module _ (m : Map) (opened : Numbers) (kept : IsKept m.blocks m.sectors m.pointers m.free m.pinned opened) where
  listed : List Place
  listed = map (place_at (length m.sectors)) (numbers (has opened) (room opened))

  open_place : (at : ℕ) → has opened at ≡ true → is_open m (place_at (length m.sectors) at) ≡ true
  open_place at there =
      let is : (holds m.free at && not (holds m.pinned at)) ≡ true = sym (kept.are_open at) ∙ there in
      let (free, rest) = and_parts _ _ is in
      let p = place_inside m.sectors at kept.tops.some (kept.inside at free) in
      rw (is_open_at m (place_at (length m.sectors) at) p, number_of_place_at (length m.sectors) at) is

  number_open : (place : Place) → is_open m place ≡ true → IsPlace m.sectors place
  unfolding is_free
  number_open place is = let (free, rest) = and_parts _ _ is in let (inside, rest') = and_parts _ _ free in place_of m.sectors place inside

  in_list : (place : Place) → is_open m place ≡ true → Contains listed place
  unfolding listed room
  in_list place is =
      let p = number_open place is in
      let n = place_number (length m.sectors) place in
      let there : has opened (place_number (length m.sectors) place) ≡ true = kept.are_open _ ∙ sym (is_open_at m place p) ∙ is in
      let fits : place_number (length m.sectors) place < 64 * length opened.members =
      rw kept.open_room (number_fits m.blocks m.sectors m.pointers m.free m.pinned opened kept place p) in
      let (k, less, at) = each_is_there (has opened) (64 * length opened.members) (place_number (length m.sectors) place) fits there in (
        k,
        rw length-map less,
        get_or-map (place_at (length m.sectors)) (numbers (has opened) (64 * length opened.members)) k (place_number (length m.sectors) place) place less
            ∙ ap (place_at (length m.sectors)) at ∙ place_at_number (length m.sectors) place p.top,
      )

  of_list : (place : Place) → Contains listed place → is_open m place ≡ true
  unfolding listed
  of_list place (k, less, at) =
      let lt : k < length (numbers (has opened) (room opened)) = rw (length-map {A = ℕ} {B = Place}) at less in
      let is = get_or-map (place_at (length m.sectors)) (numbers (has opened) (room opened)) k 0 place lt in
      let passes = they_pass (has opened) (room opened) k 0 lt in
      subst (λ q. is_open m q ≡ true) (sym is ∙ at) (open_place _ passes.0)

  apart : AllPairs (λ a b. a ≢ b) listed
  unfolding listed
  apart i j d lt less =
      let lj : j < length (numbers (has opened) (room opened)) = rw (length-map {A = ℕ} {B = Place}) at less in
      let first = get_or-map (place_at (length m.sectors)) (numbers (has opened) (room opened)) i 0 d (omega arith) in
      let second = get_or-map (place_at (length m.sectors)) (numbers (has opened) (room opened)) j 0 d lj in
      let below = they_differ (has opened) (room opened) i j 0 lt lj in
      λ same.
      let numbers_same = sym (number_of_place_at (length m.sectors) _) ∙ ap (place_number (length m.sectors)) (sym first ∙ same ∙ second) ∙ number_of_place_at (length m.sectors) _ in
      absurd (omega (arith, below, numbers_same))

  pub they_are_counted : opened.count ≡ count_below (has opened) (room opened) → CountsPlaces (is_open m) opened.count
  unfolding listed
  they_are_counted is = record {
    places = listed;
    count = length-map (numbers (has opened) (room opened)) (place_at (length m.sectors)) ∙ how_many (has opened) (room opened) ∙ sym is;
    differ = apart;
    all = in_list;
    only = of_list;
  }
