-- Lists of which each element is so, or one of which is, and cases of a Bool.
use Rattle.std.proofs.Common.{◌≡◌, ◌⊎◌, inl, inr, ℕ, suc, zero, ◌||◌, Bool, true, false, List, [], ◌∷◌, ◌++◌, map, Some, refl, ap, ◌∙◌, subst}
use Rattle.std.proofs.lemmas.Bool.{cond_both}
use Rattle.std.specs.List.{AllByRecursion, insert, remove, filter, list_any, slice_get}

pub either : (P : Bool → Type 0) → P true → P false → (t : Bool) → P t
either P a b true = a
either P a b false = b

-- Each by each.
pub each : {X : Type 0} {P Q : X → Type 0} → ((x : X) → P x → Q x) → (xs : List X) → AllByRecursion P xs
    → AllByRecursion Q xs
each more [] all = tt
each more (x ∷ xs) all = (more x all.0, each more xs all.1)

pub of_all : {X : Type 0} {P : X → Type 0} → ((x : X) → P x) → (xs : List X) → AllByRecursion P xs
of_all is [] = tt
of_all is (x ∷ xs) = (is x, of_all is xs)

pub of_both : {X : Type 0} {P Q R : X → Type 0} → ((x : X) → P x → Q x → R x) → (xs : List X) → AllByRecursion P xs
    → AllByRecursion Q xs → AllByRecursion R xs
of_both more [] a b = tt
of_both more (x ∷ xs) a b = (more x a.0 b.0, of_both more xs a.1 b.1)

pub swap : {X Y : Type 0} (R : X → Y → Type 0) (xs : List X) (ys : List Y)
    → AllByRecursion (λ x. AllByRecursion (R x) ys) xs → AllByRecursion (λ y. AllByRecursion (λ x. R x y) xs) ys
swap R xs [] all = tt
swap R xs (y ∷ ys) all = (each (λ x is. is.0) xs all, swap R xs ys (each (λ x is. is.1) xs all))

pub all_map : {X Y : Type 0} {P : X → Type 0} (Q : Y → Type 0) (f : X → Y) → ((x : X) → P x → Q (f x)) → (xs : List X)
    → AllByRecursion P xs → AllByRecursion Q (map f xs)
all_map Q f more [] all = tt
all_map Q f more (x ∷ xs) all = (more x all.0, all_map Q f more xs all.1)

pub map_forth : {X Y : Type 0} (P : Y → Type 0) (f : X → Y) (xs : List X) → AllByRecursion (λ x. P (f x)) xs
    → AllByRecursion P (map f xs)
map_forth P f [] all = tt
map_forth P f (x ∷ xs) all = (all.0, map_forth P f xs all.1)

pub map_back : {X Y : Type 0} (P : Y → Type 0) {Q : X → Type 0} (f : X → Y) → ((x : X) → P (f x) → Q x) → (xs : List X)
    → AllByRecursion P (map f xs) → AllByRecursion Q xs
map_back P f back [] all = tt
map_back P f back (x ∷ xs) all = (back x all.0, map_back P f back xs all.1)

pub all_append : {X : Type 0} (P : X → Type 0) (xs ys : List X) → AllByRecursion P xs → AllByRecursion P ys
    → AllByRecursion P (xs ++ ys)
all_append P [] ys a b = b
all_append P (x ∷ xs) ys a b = (a.0, all_append P xs ys a.1 b)

pub all_front : {X : Type 0} (P : X → Type 0) (xs ys : List X) → AllByRecursion P (xs ++ ys) → AllByRecursion P xs
all_front P [] ys all = tt
all_front P (x ∷ xs) ys all = (all.0, all_front P xs ys all.1)

pub all_rest : {X : Type 0} (P : X → Type 0) (xs ys : List X) → AllByRecursion P (xs ++ ys) → AllByRecursion P ys
all_rest P [] ys all = all
all_rest P (x ∷ xs) ys all = all_rest P xs ys all.1

pub all_insert : {X : Type 0} (P : X → Type 0) (xs : List X) (i : ℕ) (x : X) → P x → AllByRecursion P xs
    → AllByRecursion P (insert xs i x)
all_insert P xs zero x is all = (is, all)
all_insert P [] (suc i) x is all = (is, tt)
all_insert P (y ∷ xs) (suc i) x is all = (all.0, all_insert P xs i x is all.1)

pub all_remove : {X : Type 0} (P : X → Type 0) (xs : List X) (i : ℕ) → AllByRecursion P xs
    → AllByRecursion P (remove xs i)
all_remove P [] zero all = tt
all_remove P [] (suc i) all = tt
all_remove P (y ∷ xs) zero all = all.1
all_remove P (y ∷ xs) (suc i) all = (all.0, all_remove P xs i all.1)

-- what is so of each is so of the one at a place
pub all_at : {X : Type 0} (P : X → Type 0) (xs : List X) (i : ℕ) (x : X) → AllByRecursion P xs → slice_get xs i ≡ Some x
    → P x
all_at P [] i x all e = absurd (cc)
all_at P (y ∷ xs) zero x all e = subst P (let same : y ≡ x = cc in same) all.0
all_at P (y ∷ xs) (suc i) x all e = all_at P xs i x all.1 e

pub all_filter : {X : Type 0} {P Q : X → Type 0} (test : X → Bool) → ((x : X) → P x → test x ≡ true → Q x)
    → (xs : List X) → AllByRecursion P xs → AllByRecursion Q (filter test xs)
all_filter test one [] all = tt
all_filter {Q = Q} test one (x ∷ xs) all = let rest = all_filter {Q = Q} test one xs all.1 in
    cond_both (test x) (x ∷ filter test xs) (filter test xs) (AllByRecursion Q) (λ is. (one x all.0 is, rest))
    (λ off. rest)

pub any_map : {X : Type 0} (test : X → Bool) (f : X → X) → ((x : X) → test (f x) ≡ test x) → (xs : List X)
    → list_any test (map f xs) ≡ list_any test xs
any_map test f same [] = refl
any_map test f same (x ∷ xs) = ap (λ t. t || list_any test (map f xs)) (same x)
    ∙ ap (λ rest. test x || rest) (any_map test f same xs)

-- One of these is so.
abbrev pub AnyOf : {X : Type 0} → (P : X → Type 0) → List X → Type 0
AnyOf P [] = ⊥
AnyOf P (x ∷ xs) = P x ⊎ AnyOf P xs

pub one_map : {X Y : Type 0} {P : X → Type 0} (Q : Y → Type 0) (f : X → Y) → ((x : X) → P x → Q (f x)) → (xs : List X)
    → AnyOf P xs → AnyOf Q (map f xs)
one_map Q f more [] has = has
one_map Q f more (x ∷ xs) (inl is) = inl (more x is)
one_map Q f more (x ∷ xs) (inr has) = inr (one_map Q f more xs has)

-- one of these that is so, where each is so too
pub one_each : {X : Type 0} {P Q R : X → Type 0} → ((x : X) → P x → Q x → R x) → (xs : List X) → AllByRecursion P xs
    → AnyOf Q xs → AnyOf R xs
one_each more [] all has = has
one_each more (x ∷ xs) all (inl is) = inl (more x all.0 is)
one_each more (x ∷ xs) all (inr has) = inr (one_each more xs all.1 has)

pub none_of : {X A : Type 0} {P Q : X → Type 0} → ((x : X) → P x → Q x → A) → (xs : List X) → AllByRecursion P xs
    → AnyOf Q xs → A
none_of never [] all has = absurd has
none_of never (x ∷ xs) all (inl is) = never x all.0 is
none_of never (x ∷ xs) all (inr has) = none_of never xs all.1 has

pub one_insert : {X : Type 0} (P : X → Type 0) (xs : List X) (i : ℕ) (x : X) → AnyOf P xs → AnyOf P (insert xs i x)
one_insert P xs zero x has = inr has
one_insert P [] (suc i) x has = absurd has
one_insert P (y ∷ xs) (suc i) x (inl is) = inl is
one_insert P (y ∷ xs) (suc i) x (inr has) = inr (one_insert P xs i x has)

pub one_new : {X : Type 0} (P : X → Type 0) (xs : List X) (i : ℕ) (x : X) → P x → AnyOf P (insert xs i x)
one_new P xs zero x is = inl is
one_new P [] (suc i) x is = inl is
one_new P (y ∷ xs) (suc i) x is = inr (one_new P xs i x is)
