-- Which numbers are freed, and that a map may be kept by them.
use Rattle.std.proofs.Common.{◌≡◌, ◌≢◌, ℕ, ◌+◌, ◌*◌, ◌/◌, ◌%◌, ◌<◌, ◌≤◌, Bool, true, false, List, length, get_or, refl, sym, ap, ◌∙◌, ⊎_elim, arith}
use Rattle.std.specs.List.{All}
use Rattle.std.proofs.lemmas.Bool.{cases_eq, cases_lt, and_left, and_parts, lt-ltb, le-ltb, ltb-true}
use Rattle.std.proofs.lemmas.Nat.{mul-le}
use Rattle.std.proofs.lemmas.List.{get_or_default}
use Rattle.block_map.specs.Map.{is_number, is_freed}

pub none_freed : (sectors : List ℕ) (i : ℕ) → is_freed sectors 0 i ≡ false
unfolding is_freed
none_freed sectors i = and_left _ _ (le-ltb i 0 (omega arith))

pub not_yet_freed : (sectors : List ℕ) (n : ℕ) → is_freed sectors n n ≡ false
unfolding is_freed
not_yet_freed sectors n = and_left _ _ (le-ltb n n (omega arith))

pub freed_there : (sectors : List ℕ) (n : ℕ) → is_freed sectors (n + 1) n ≡ is_number sectors n
unfolding is_freed
freed_there sectors n = rw (lt-ltb n (n + 1) (omega arith)) refl

pub freed_other : (sectors : List ℕ) (n i : ℕ) → i ≢ n → is_freed sectors (n + 1) i ≡ is_freed sectors n i
unfolding is_freed
freed_other sectors n i differs =
    ⊎_elim (λ lt. rw (lt-ltb i n lt, lt-ltb i (n + 1) (omega arith)) refl)
    (λ ge. and_left _ _ (le-ltb i (n + 1) (omega arith)) ∙ sym (and_left _ _ (le-ltb i n ge)))
    (cases_lt i n)

pub freed_more : (sectors : List ℕ) (n : ℕ) (f g : ℕ → Bool) → ((i : ℕ) → f i ≡ is_freed sectors n i) → g n ≡ is_number sectors n
    → ((i : ℕ) → i ≢ n → g i ≡ f i) → (i : ℕ) → g i ≡ is_freed sectors (n + 1) i
freed_more sectors n f g before now others i =
    ⊎_elim (λ same. ap g same ∙ now ∙ sym (freed_there sectors n) ∙ ap (is_freed sectors (n + 1)) (sym same))
    (λ other. others i other ∙ before i ∙ sym (freed_other sectors n i other))
    (cases_eq i n)

pub is_no_number : (sectors : List ℕ) (at : ℕ) → get_or sectors (at % length sectors) 0 ≤ at / length sectors → false ≡ is_number sectors at
unfolding is_number
is_no_number sectors at past = sym (le-ltb _ _ past)

pub is_a_number : (sectors : List ℕ) (at : ℕ) → at / length sectors < get_or sectors (at % length sectors) 0 → true ≡ is_number sectors at
unfolding is_number
is_a_number sectors at inside = sym (lt-ltb _ _ inside)

pub freed_number : (sectors : List ℕ) (n i : ℕ) → is_freed sectors n i ≡ true → i / length sectors < get_or sectors (i % length sectors) 0
unfolding is_freed is_number
freed_number sectors n i is = let (lt, inside) = and_parts _ _ is in ltb-true _ _ inside

-- each top has its places below the product
pub rooms_of : (sectors : List ℕ) (most : ℕ) → ((i : ℕ) → i < length sectors → get_or sectors i 0 ≤ most)
    → All (λ s. s * length sectors ≤ most * length sectors) sectors
rooms_of sectors most le i d lt =
    let small : get_or sectors i d ≤ most = rw (get_or_default sectors i d 0 lt) (le i lt) in
    mul-le (get_or sectors i d) (length sectors) most (length sectors) small (omega arith)
