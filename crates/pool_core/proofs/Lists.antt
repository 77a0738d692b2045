-- Lists by index.
use Rattle.std.proofs.Common.{◌≡◌, ◌≢◌, ℕ, zero, suc, ◌<◌, ◌≤◌, List, [], ◌∷◌, ◌++◌, Some, length, replicate, set, map, take, refl, arith, inl, inr, ◌⊎◌, sym, ◌∙◌, ap}
use Rattle.std.proofs.lemmas.List.{get_or-replicate, get_or-set_same, get_or-set_other}
use Rattle.std.proofs.lemmas.Option.{slice_get_within, get_or_from_slice_get, slice_get-get_or, slice_get_past}
use Rattle.std.proofs.lemmas.List.{length-set, length-replicate, map-append, take_all}
use Rattle.std.proofs.Math.Seq.{take-suc}
use Rattle.std.proofs.lemmas.Bool.{cases_lt}
use Rattle.std.specs.Prelude.{slice_get}
use Rattle.pool_core.specs.Recorded.{addresses}

pub same_some : {A : Type 0} (x y : A) → Some x ≡ Some y → x ≡ y
same_some x y e = cc

-- what stands in a list of equal elements
pub replicate_get : {A : Type 0} (n a : ℕ) (x y : A) → slice_get (replicate n x) a ≡ Some y → y ≡ x
replicate_get n a x y e =
    let within : a < length (replicate n x) = slice_get_within (replicate n x) a y e in
    let below : a < n = rw (length-replicate n x) at within in
    sym (get_or_from_slice_get (replicate n x) a y x e) ∙ get_or-replicate n a x x below

-- what stands where it was set
pub set_get_same : {A : Type 0} (xs : List A) (a : ℕ) (x y : A) → slice_get (set xs a x) a ≡ Some y → y ≡ x
set_get_same xs a x y e =
    let within : a < length (set xs a x) = slice_get_within (set xs a x) a y e in
    let below : a < length xs = rw (length-set xs a x) at within in
    sym (get_or_from_slice_get (set xs a x) a y x e) ∙ get_or-set_same xs a x x below

-- what stands elsewhere
pub set_get_other : {A : Type 0} (xs : List A) (a i : ℕ) (x y : A) → i ≢ a → slice_get (set xs a x) i ≡ Some y → slice_get xs i ≡ Some y
set_get_other xs a i x y other e =
    let within : i < length (set xs a x) = slice_get_within (set xs a x) i y e in
    let below : i < length xs = rw (length-set xs a x) at within in
    slice_get-get_or xs i y below ∙ ap Some (sym (get_or-set_other xs a i x y other) ∙ get_or_from_slice_get (set xs a x) i y y e)

pub replicate_at : {A : Type 0} (n a : ℕ) (x : A) → a < n → slice_get (replicate n x) a ≡ Some x
replicate_at n a x below =
    let within : a < length (replicate n x) = rw (length-replicate n x) below in
    slice_get-get_or (replicate n x) a x within ∙ ap Some (get_or-replicate n a x x below)

-- a list by its elements at the addresses below n
at_addresses : {A : Type 0} (xs : List A) (f : ℕ → A) (n : ℕ) → n ≤ length xs → ((a : ℕ) → a < n → slice_get xs a ≡ Some (f a))
    → map f (addresses n) ≡ take n xs
at_addresses xs f zero le is = refl
at_addresses xs f (suc n) le is =
    let inside : n < length xs = omega arith in
    let last : n < suc n = omega arith in
    map-append f (addresses n) (n ∷ [])
    ∙ ap (λ front. front ++ f n ∷ []) (at_addresses xs f n (omega arith) (λ a below. is a (omega arith)))
    ∙ ap (λ x. take n xs ++ x ∷ []) (sym (get_or_from_slice_get xs n (f n) (f n) (is n last)))
    ∙ sym (take-suc xs n (f n) inside)

pub all_addresses : {A : Type 0} (xs : List A) (f : ℕ → A) (n : ℕ) → length xs ≡ n → ((a : ℕ) → a < n → slice_get xs a ≡ Some (f a))
    → map f (addresses n) ≡ xs
all_addresses xs f n long is = at_addresses xs f n (omega arith) is ∙ take_all n xs (omega arith)

pub get_set_other : {A : Type 0} (xs : List A) (a i : ℕ) (x : A) → i ≢ a → slice_get (set xs a x) i ≡ slice_get xs i
get_set_other xs a i x other = go (cases_lt i (length xs))
  where
    go : (i < length xs) ⊎ (length xs ≤ i) → slice_get (set xs a x) i ≡ slice_get xs i
    go (inl within) =
        let within' : i < length (set xs a x) = rw (length-set xs a x) within in
        slice_get-get_or (set xs a x) i x within' ∙ ap Some (get_or-set_other xs a i x x other) ∙ sym (slice_get-get_or xs i x within)
    go (inr past) =
        let past' : length (set xs a x) ≤ i = rw (length-set xs a x) past in
        slice_get_past (set xs a x) i past' ∙ sym (slice_get_past xs i past)
