-- Lists that are mapped and joined, item by item.
use Rattle.std.proofs.Common.{◌≡◌, ℕ, ◌+◌, ◌<◌, ◌≤◌, Bool, true, ◌&&◌, List, [], ◌∷◌, ◌++◌, map, length, get_or, take}
use Rattle.std.proofs.Common.{drop, take_all, refl, ap, sym, ◌∙◌, append_assoc}
use Rattle.std.specs.List.{flat_map, list_all}
use Rattle.std.proofs.lemmas.List.{take_more, drop_more, take-append-drop, append-nil}
use Rattle.std.proofs.lemmas.List.Concat.{flat_map-append}
use Rattle.std.proofs.lemmas.List.Folds.{list_all-append}
use Rattle.std.proofs.lemmas.Bool.{and_parts}
use Rattle.vdev_tree.specs.Tree.{joined}

-- of one item more
pub flat_more : {A B : Type 0} (f : A → List B) (xs : List A) (i : ℕ) (x : A) → i < length xs → x ≡ get_or xs i x
    → flat_map f (take (i + 1) xs) ≡ flat_map f (take i xs) ++ f x
flat_more f xs i x inside is =
    ap (flat_map f) (take_more xs i x inside) ∙ flat_map-append f (take i xs) (get_or xs i x ∷ [])
    ∙ ap (λ s. flat_map f (take i xs) ++ s) (append-nil (f (get_or xs i x)) ∙ sym (ap f is))

-- of the items before one, of it, and of those behind it
pub flat_split : {A B : Type 0} (f : A → List B) (xs : List A) (i : ℕ) (x : A) → i < length xs → x ≡ get_or xs i x
    → flat_map f xs ≡ flat_map f (take i xs) ++ (f x ++ flat_map f (drop (i + 1) xs))
flat_split f xs i x inside is =
    ap (flat_map f) (sym (take-append-drop i xs)) ∙ flat_map-append f (take i xs) (drop i xs)
    ∙ ap (λ rest. flat_map f (take i xs) ++ flat_map f rest) (drop_more xs i x inside)
    ∙ ap (λ y. flat_map f (take i xs) ++ (f y ++ flat_map f (drop (i + 1) xs))) (sym is)

pub flat_all : {A B : Type 0} (f : A → List B) (xs : List A) (i : ℕ) → length xs ≤ i
    → flat_map f (take i xs) ≡ flat_map f xs
flat_all f xs i all = ap (flat_map f) (take_all i xs all)

pub flat_mapped : {A B C : Type 0} (g : B → List C) (f : A → B) (xs : List A)
    → flat_map g (map f xs) ≡ flat_map (λ x. g (f x)) xs
flat_mapped g f [] = refl
flat_mapped g f (x ∷ xs) = ap (λ s. g (f x) ++ s) (flat_mapped g f xs)

pub joined_map : {A B : Type 0} (f : A → List B) (xs : List A) → joined (map f xs) ≡ flat_map f xs
joined_map f [] = refl
joined_map f (x ∷ xs) = ap (λ s. f x ++ s) (joined_map f xs)

pub joined-append : {A : Type 0} (xss yss : List (List A)) → joined (xss ++ yss) ≡ joined xss ++ joined yss
joined-append [] yss = refl
joined-append (xs ∷ xss) yss =
    ap (λ s. xs ++ s) (joined-append xss yss) ∙ sym (append_assoc xs (joined xss) (joined yss))

-- what is so of all is so of one part
pub all_of_part : {B : Type 0} (p : B → Bool) (before here rest : List B) → list_all p (before ++ (here ++ rest)) ≡ true
    → list_all p here ≡ true
all_of_part p before here rest all =
    let later = and_parts (list_all p before) _ (sym (list_all-append p before (here ++ rest)) ∙ all) in
    (and_parts (list_all p here) _ (sym (list_all-append p here rest) ∙ later.1)).0

pub all_at_item : {A B : Type 0} (p : B → Bool) (f : A → List B) (xs : List A) (i : ℕ) (x : A) → i < length xs
    → x ≡ get_or xs i x
    → list_all p (flat_map f xs) ≡ true → list_all p (f x) ≡ true
all_at_item p f xs i x inside is all =
    all_of_part p (flat_map f (take i xs)) (f x) (flat_map f (drop (i + 1) xs))
    (sym (ap (list_all p) (flat_split f xs i x inside is)) ∙ all)

pub all_mapped : {A B : Type 0} (p : B → Bool) (f : A → B) (xs : List A)
    → list_all p (map f xs) ≡ list_all (λ x. p (f x)) xs
all_mapped p f [] = refl
all_mapped p f (x ∷ xs) = ap (λ b. p (f x) && b) (all_mapped p f xs)
