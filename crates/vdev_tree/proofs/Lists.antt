-- A list in which one element after the other is replaced, seen by what each gives.
use Rattle.std.proofs.Math.ListN.{length-set}
use Rattle.std.proofs.Common.{◌≡◌, ◌≢◌, ℕ, ◌+◌, ◌<◌, ◌≤◌, List, [], ◌∷◌, ◌++◌, length, map, get_or, set, take, drop, refl, ap, sym, ◌∙◌, arith, add-zero, append_assoc, get_or-set_other}
use Rattle.std.specs.List.{flat_map, AllZip}
use Rattle.std.proofs.lemmas.List.{take_more, take_more_set, drop_more, drop-set-lt, drop-drop, take-append-drop, append-nil, get_or-drop}
use Rattle.std.proofs.lemmas.List.Concat.{flat_map-append}

module _ (V X : Type 0) (f : V → List X) where
  pub flat_more : (xs : List V) (i : ℕ) (d : V) → i < length xs → flat_map f (take (i + 1) xs) ≡ flat_map f (take i xs) ++ f (get_or xs i d)
  flat_more xs i d inside =
      ap (flat_map f) (take_more xs i d inside) ∙ flat_map-append f (take i xs) (get_or xs i d ∷ [])
      ∙ ap (λ ys. flat_map f (take i xs) ++ ys) (append-nil (f (get_or xs i d)))

  pub flat_split : (xs : List V) (i : ℕ) (d : V) → i < length xs
      → flat_map f xs ≡ flat_map f (take i xs) ++ (f (get_or xs i d) ++ flat_map f (drop (i + 1) xs))
  flat_split xs i d inside =
      ap (flat_map f) (sym (take-append-drop i xs)) ∙ flat_map-append f (take i xs) (drop i xs)
      ∙ ap (λ rest. flat_map f (take i xs) ++ flat_map f rest) (drop_more xs i d inside)

  -- after a write at the place, the part before it and it
  pub flat_more_set : (xs : List V) (i : ℕ) (v : V) → i < length xs → flat_map f (take (i + 1) (set xs i v)) ≡ flat_map f (take i xs) ++ f v
  flat_more_set xs i v inside =
      ap (flat_map f) (take_more_set xs i v inside) ∙ flat_map-append f (take i xs) (v ∷ []) ∙ ap (λ ys. flat_map f (take i xs) ++ ys) (append-nil (f v))

  -- the whole after a write at the place
  pub flat_set : (xs : List V) (i : ℕ) (v : V) → i < length xs
      → flat_map f (set xs i v) ≡ flat_map f (take i xs) ++ (f v ++ flat_map f (drop (i + 1) xs))
  flat_set xs i v inside =
      ap (flat_map f) (sym (take-append-drop (i + 1) (set xs i v))) ∙ flat_map-append f (take (i + 1) (set xs i v)) (drop (i + 1) (set xs i v))
      ∙ ap (λ ys. ys ++ flat_map f (drop (i + 1) (set xs i v))) (flat_more_set xs i v inside)
      ∙ ap (λ rest. (flat_map f (take i xs) ++ f v) ++ flat_map f rest) (drop-set-lt (i + 1) xs i v (omega arith))
      ∙ append_assoc (flat_map f (take i xs)) (f v) (flat_map f (drop (i + 1) xs))

  -- what is written gives the same as what stood there in another list
  pub same_more : (xs ys : List V) (i : ℕ) (v d : V) → i < length xs → i < length ys → flat_map f (take i xs) ≡ flat_map f (take i ys) → f v ≡ f (get_or ys i d)
      → flat_map f (take (i + 1) (set xs i v)) ≡ flat_map f (take (i + 1) ys)
  same_more xs ys i v d inside inside' same here =
      flat_more_set xs i v inside ∙ ap (λ zs. zs ++ f v) same ∙ ap (λ zs. flat_map f (take i ys) ++ zs) here ∙ sym (flat_more ys i d inside')

  pub same_at : (xs ys : List V) (i : ℕ) (v d : V) → i < length xs → i < length ys → flat_map f (take i xs) ≡ flat_map f (take i ys) → drop (i + 1) xs ≡ drop (i + 1) ys
      → f v ≡ f (get_or ys i d) → flat_map f (set xs i v) ≡ flat_map f ys
  same_at xs ys i v d inside inside' same rest here =
      flat_set xs i v inside ∙ ap (λ zs. zs ++ (f v ++ flat_map f (drop (i + 1) xs))) same
      ∙ ap (λ zs. flat_map f (take i ys) ++ (zs ++ flat_map f (drop (i + 1) xs))) here
      ∙ ap (λ zs. flat_map f (take i ys) ++ (f (get_or ys i d) ++ flat_map f zs)) rest ∙ sym (flat_split ys i d inside')

module _ (V : Type 0) where
  pub drop_one : (xs ys : List V) (i : ℕ) → drop i xs ≡ drop i ys → drop (i + 1) xs ≡ drop (i + 1) ys
  drop_one xs ys i same = sym (drop-drop 1 i xs) ∙ ap (drop 1) same ∙ drop-drop 1 i ys

  pub drop_set : (xs ys : List V) (i : ℕ) (v : V) → drop i xs ≡ drop i ys → drop (i + 1) (set xs i v) ≡ drop (i + 1) ys
  drop_set xs ys i v same = drop-set-lt (i + 1) xs i v (omega arith) ∙ drop_one xs ys i same

  pub get_same : (xs ys : List V) (i : ℕ) (d : V) → drop i xs ≡ drop i ys → get_or xs i d ≡ get_or ys i d
  get_same xs ys i d same = ap (λ n. get_or xs n d) (sym (add-zero i)) ∙ sym (get_or-drop i xs 0 d) ∙ ap (λ zs. get_or zs 0 d) same ∙ get_or-drop i ys 0 d ∙ ap (λ n. get_or ys n d) (add-zero i)

  -- an element that wasn't visited is the one that stood there at the beginning
  pub here_still : (xs ys : List V) (i : ℕ) (d : V) → drop i xs ≡ drop i ys → d ≡ get_or xs i d → d ≡ get_or ys i d
  here_still xs ys i d same is = is ∙ get_same xs ys i d same

  -- after a write at the place those behind it are still unvisited
  pub unvisited_set : (xs ys : List V) (i : ℕ) (v : V) → (length xs ≡ length ys) × ((k : ℕ) (d : V) → i ≤ k → get_or xs k d ≡ get_or ys k d)
      → (length (set xs i v) ≡ length ys) × ((k : ℕ) (d : V) → i + 1 ≤ k → get_or (set xs i v) k d ≡ get_or ys k d)
  unvisited_set xs ys i v same = (rw length-set same.0, λ k d h. let other : k ≢ i = omega arith in rw get_or-set_other (same.1 k d (omega arith)))

module _ (X : Type 0) (R : X → X → Type 0) where
  pub AllZip-append : (ls bs xs ys : List X) → AllZip R ls bs → AllZip R xs ys → AllZip R (ls ++ xs) (bs ++ ys)
  AllZip-append [] [] xs ys first rest = rest
  AllZip-append [] (b ∷ bs) xs ys first rest = absurd first
  AllZip-append (a ∷ ls) [] xs ys first rest = absurd first
  AllZip-append (a ∷ ls) (b ∷ bs) xs ys first rest = (first.0, AllZip-append ls bs xs ys first.1 rest)

  pub AllZip-refl : ((x : X) → R x x) → (xs : List X) → AllZip R xs xs
  AllZip-refl same [] = tt
  AllZip-refl same (x ∷ xs) = (same x, AllZip-refl same xs)

-- each element is what a function makes of the one at its place
pub AllZip-mapped : (X : Type 0) (f : X → X) (xs ys : List X) → AllZip (λ x y. y ≡ f x) xs ys → ys ≡ map f xs
AllZip-mapped X f [] [] are = refl
AllZip-mapped X f [] (y ∷ ys) are = absurd are
AllZip-mapped X f (x ∷ xs) [] are = absurd are
AllZip-mapped X f (x ∷ xs) (y ∷ ys) are = ap (λ z. z ∷ ys) are.0 ∙ ap (λ zs. f x ∷ zs) (AllZip-mapped X f xs ys are.1)
