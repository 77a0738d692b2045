-- The order of places is the order of their numbers.
use Rattle.std.proofs.Common.{◌≡◌, ℕ, ◌+◌, ◌*◌, ◌/◌, ◌%◌, ◌<◌, ◌≤◌, ◌⊎◌, true, false, List, length, get_or, sym, ap, ◌∙◌, ⊎_elim, inl, inr, arith}
use Rattle.std.specs.List.{All}
use Rattle.std.proofs.lemmas.Bool.{lt-ltb, ltb-true, and_parts, and_from, cases_Bool}
use Rattle.std.proofs.lemmas.Nat.{div-mul-add, mod-mul-add, div-add-mod', mul-le, mod_below}
use Rattle.mp_base.specs.declared.place.Place.{Place}
use Rattle.block_map.specs.Places.{IsPlace, is_place, IsPlaceBefore}
use Rattle.block_map.specs.Numbers.{place_number, place_at}

pub is_place_of : (sectors : List ℕ) (place : Place) → IsPlace sectors place → is_place sectors place ≡ true
unfolding is_place
is_place_of sectors place p = and_from _ _ (lt-ltb _ _ p.top) (lt-ltb _ _ p.sector)

pub place_of : (sectors : List ℕ) (place : Place) → is_place sectors place ≡ true → IsPlace sectors place
unfolding is_place
place_of sectors place is = let (top, sector) = and_parts _ _ is in record { top = ltb-true _ _ top; sector = ltb-true _ _ sector }

pub is_place_cases : (sectors : List ℕ) (place : Place) → IsPlace sectors place ⊎ (is_place sectors place ≡ false)
is_place_cases sectors place = ⊎_elim (λ t. inl (place_of sectors place t)) (λ f. inr f) (cases_Bool (is_place sectors place))

pub number_of_place_at : (tops n : ℕ) → place_number tops (place_at tops n) ≡ n
unfolding place_number place_at
number_of_place_at tops n = div-add-mod' n tops

same_parts : (t u s r : ℕ) → t ≡ u → s ≡ r → ◌≡◌ {A = Place} (record { top = t; sector = s }) (record { top = u; sector = r })
same_parts t u s r e f = cc

pub place_at_number : (tops : ℕ) (place : Place) → place.top < tops → place_at tops (place_number tops place) ≡ place
unfolding place_number place_at
place_at_number tops place lt = same_parts _ _ _ _ (mod-mul-add place.sector tops place.top lt) (div-mul-add place.sector tops place.top lt)

pub same_place : (tops : ℕ) (a b : Place) → a.top < tops → b.top < tops → place_number tops a ≡ place_number tops b → a ≡ b
same_place tops a b la lb same = sym (place_at_number tops a la) ∙ ap (place_at tops) same ∙ place_at_number tops b lb

pub place_before : (tops : ℕ) (a b : Place) → a.top < tops → IsPlaceBefore a b → place_number tops a < place_number tops b
unfolding place_number
place_before tops a b lt before =
    ⊎_elim (λ lower.
    let up : (a.sector + 1) * tops ≤ b.sector * tops = mul-le (a.sector + 1) tops b.sector tops (omega arith) (omega arith) in
    let is : (a.sector + 1) * tops ≡ a.sector * tops + tops = omega arith in
    omega arith)
    (λ same. let (sector, top) = same in rw sector (omega arith))
    before

pub place_fits : (sectors : List ℕ) (size : ℕ) (place : Place) → All (λ s. s * length sectors ≤ size) sectors → IsPlace sectors place
    → place_number (length sectors) place < size
unfolding place_number
place_fits sectors size place room p =
    let most : get_or sectors place.top 0 * length sectors ≤ size = room place.top 0 p.top in
    let up : (place.sector + 1) * length sectors ≤ get_or sectors place.top 0 * length sectors =
    mul-le (place.sector + 1) (length sectors) (get_or sectors place.top 0) (length sectors) (omega (arith, p.sector)) (omega arith) in
    let is : (place.sector + 1) * length sectors ≡ place.sector * length sectors + length sectors = omega arith in
    omega (arith, p.top)

-- a number whose place is inside is that of a place
pub place_inside : (sectors : List ℕ) (n : ℕ) → 1 ≤ length sectors → n / length sectors < get_or sectors (n % length sectors) 0
    → IsPlace sectors (place_at (length sectors) n)
unfolding place_at
place_inside sectors n some inside = record { top = mod_below n (length sectors) (omega arith); sector = inside }

pub inside_of_place : (sectors : List ℕ) (place : Place) → IsPlace sectors place
    → place_number (length sectors) place / length sectors < get_or sectors (place_number (length sectors) place % length sectors) 0
unfolding place_number
inside_of_place sectors place p =
    let top = mod-mul-add place.sector (length sectors) place.top p.top in
    let sector = div-mul-add place.sector (length sectors) place.top p.top in
    rw (top, sector) p.sector
