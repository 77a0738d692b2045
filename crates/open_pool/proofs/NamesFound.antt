-- The first leaf of a name.
use Rattle.std.proofs.Common.{◌≡◌, ℕ, zero, suc, ◌+◌, ◌≤◌, cond, Bool, true, false, List, [], ◌∷◌, length, map, take, Some, None, Option, refl, ap, ◌∙◌, subst, arith}
use Rattle.std.specs.Prelude.{slice_get, is_some}
use Rattle.std.specs.List.{Contains, find}
use Rattle.std.specs.Option.{option_map, option_or}
use Rattle.std.specs.Str.{bytes_eq}
use Rattle.std.proofs.lemmas.List.Elements.{Contains-append_left, Contains-append_right, Contains-push}
use Rattle.std.proofs.lemmas.List.Folds.{find-append}
use Rattle.vdev_tree.specs.Tree.{is_named, leaves}
use Rattle.vdev_tree.specs.declared.top.Top.{Top}
use Rattle.vdev_tree.specs.declared.vdev.LeafVdev.{LeafVdev}
use Rattle.txg_engine.specs.declared.seat.Seat.{Seat}
use Rattle.pool_moves.specs.AwayRows.{leaf_named}
use Rattle.pool_moves.specs.Leaves.{LeafSeen}
use Rattle.open_pool.specs.Parts.{all_parts}
use Rattle.open_pool.specs.State.{leaf_of, leaves_from, leaves_under}

either_none : {A : Type 0} (b : Bool) (x : A) (o : Option A) → cond b (Some x) o ≡ None → (b ≡ false) × (o ≡ None)
either_none true x o is = absurd (let no : Some x ≡ None = is in cc)
either_none false x o is = (refl, is)

module _ {A : Type 0} (test : A → Bool) where
  -- none before it passes, and it does
  pub first_at : (n : ℕ) (xs : List A) (x : A) → find test (take n xs) ≡ None → slice_get xs n ≡ Some x → test x ≡ true → find test xs ≡ Some x
  first_at n [] x none at is = absurd (let no : None ≡ Some x = at in cc)
  first_at zero (y ∷ xs) x none at is =
      let same : y ≡ x = cc in
      ap (λ b. cond b (Some y) (find test xs)) (ap test same ∙ is) ∙ ap (λ z. Some z) same
  first_at (suc n) (y ∷ xs) x none at is =
      let parts = either_none (test y) y (find test (take n xs)) none in
      ap (λ b. cond b (Some y) (find test xs)) parts.0 ∙ first_at n xs x parts.1 at is

  -- none before it passes, nor does it
  pub none_more : (n : ℕ) (xs : List A) (x : A) → find test (take n xs) ≡ None → slice_get xs n ≡ Some x → test x ≡ false
      → find test (take (n + 1) xs) ≡ None
  none_more n [] x none at is = absurd (let no : None ≡ Some x = at in cc)
  none_more zero (y ∷ xs) x none at is =
      let same : y ≡ x = cc in
      ap (λ b. cond b (Some y) None) (ap test same ∙ is)
  none_more (suc n) (y ∷ xs) x none at is =
      let parts = either_none (test y) y (find test (take n xs)) none in
      let more : suc n + 1 ≡ suc (n + 1) = omega arith in
      ap (λ k. find test (take k (y ∷ xs))) more
      ∙ ap (λ b. cond b (Some y) (find test (take (n + 1) xs))) parts.0 ∙ none_more n xs x parts.1 at is

  pub none_at_all : (n : ℕ) (xs : List A) → find test (take n xs) ≡ None → slice_get xs n ≡ None → find test xs ≡ None
  none_at_all n [] none at = refl
  none_at_all zero (y ∷ xs) none at = absurd (let no : Some y ≡ None = at in cc)
  none_at_all (suc n) (y ∷ xs) none at =
      let parts = either_none (test y) y (find test (take n xs)) none in
      ap (λ b. cond b (Some y) (find test xs)) parts.0 ∙ none_at_all n xs parts.1 at

  pub none_in_few : (n : ℕ) (xs : List A) → find test (take n xs) ≡ None → length xs ≤ n → find test xs ≡ None
  none_in_few n [] none few = refl
  none_in_few zero (y ∷ xs) none few = absurd (omega arith)
  none_in_few (suc n) (y ∷ xs) none few =
      let parts = either_none (test y) y (find test (take n xs)) none in
      ap (λ b. cond b (Some y) (find test xs)) parts.0 ∙ none_in_few n xs parts.1 (omega arith)

-- the first leaf of a name among the leaves of a pool's tops, whatever the board is

abbrev pub has_named : List ℕ → Top → Bool
has_named name top = is_some (find (is_named name) (leaves top.mirror))

abbrev names : List ℕ → LeafSeen → Bool
names name leaf = bytes_eq leaf.own.name name

named_mapped : (name : List ℕ) (seats : List Seat) (top : ℕ) (ls : List LeafVdev)
    → find (names name) (map (leaf_of seats top) ls) ≡ option_map (leaf_of seats top) (find (is_named name) ls)
named_mapped name seats top [] = refl
named_mapped name seats top (leaf ∷ ls) =
    ap (cond (bytes_eq leaf.name name) (Some (leaf_of seats top leaf))) (named_mapped name seats top ls) ∙ one (bytes_eq leaf.name name)
  where
    one : (b : Bool) → cond b (Some (leaf_of seats top leaf)) (option_map (leaf_of seats top) (find (is_named name) ls))
        ≡ option_map (leaf_of seats top) (cond b (Some leaf) (find (is_named name) ls))
    one true = refl
    one false = refl

named_over : (name : List ℕ) (seats : List Seat) (first : ℕ) (top : Top) (tops : List Top)
    → leaf_named name (leaves_from seats first (leaves_under (all_parts (top ∷ tops))))
    ≡ option_or (option_map (leaf_of seats first) (find (is_named name) (leaves top.mirror))) (leaf_named name (leaves_from seats (suc first) (leaves_under (all_parts tops))))
named_over name seats first top tops =
    find-append (names name) (map (leaf_of seats first) (leaves top.mirror)) (leaves_from seats (suc first) (leaves_under (all_parts tops)))
    ∙ ap (λ o. option_or o (leaf_named name (leaves_from seats (suc first) (leaves_under (all_parts tops)))))
    (named_mapped name seats first (leaves top.mirror))

absent : {A : Type 0} (o : Option A) → is_some o ≡ false → o ≡ None
absent None is = refl
absent (Some x) is = absurd (let no : true ≡ false = is in cc)

pub none_named : (name : List ℕ) (seats : List Seat) (first : ℕ) (tops : List Top) → find (has_named name) tops ≡ None
    → leaf_named name (leaves_from seats first (leaves_under (all_parts tops))) ≡ None
none_named name seats first [] none = refl
none_named name seats first (top ∷ tops) none =
    let parts = either_none (has_named name top) top (find (has_named name) tops) none in
    named_over name seats first top tops
    ∙ ap (λ o. option_or (option_map (leaf_of seats first) o) (leaf_named name (leaves_from seats (suc first) (leaves_under (all_parts tops)))))
    (absent (find (is_named name) (leaves top.mirror)) parts.0)
    ∙ none_named name seats (suc first) tops parts.1

pub named_at : (name : List ℕ) (seats : List Seat) (first n : ℕ) (tops : List Top) (top : Top) (leaf : LeafVdev)
    → find (has_named name) (take n tops) ≡ None → slice_get tops n ≡ Some top → find (is_named name) (leaves top.mirror) ≡ Some leaf
    → leaf_named name (leaves_from seats first (leaves_under (all_parts tops))) ≡ Some (leaf_of seats (first + n) leaf)
named_at name seats first n [] top leaf none at is = absurd (let no : None ≡ Some top = at in cc)
named_at name seats first zero (t ∷ tops) top leaf none at is =
    let same : t ≡ top = cc in
    let here : first ≡ first + 0 = omega arith in
    named_over name seats first t tops
    ∙ ap (λ o. option_or (option_map (leaf_of seats first) o) (leaf_named name (leaves_from seats (suc first) (leaves_under (all_parts tops)))))
    (ap (λ (x : Top). find (is_named name) (leaves x.mirror)) same ∙ is)
    ∙ ap (λ i. Some (leaf_of seats i leaf)) here
named_at name seats first (suc n) (t ∷ tops) top leaf none at is =
    let parts = either_none (has_named name t) t (find (has_named name) (take n tops)) none in
    let here : suc first + n ≡ first + suc n = omega arith in
    named_over name seats first t tops
    ∙ ap (λ o. option_or (option_map (leaf_of seats first) o) (leaf_named name (leaves_from seats (suc first) (leaves_under (all_parts tops)))))
    (absent (find (is_named name) (leaves t.mirror)) parts.0)
    ∙ named_at name seats (suc first) n tops top leaf parts.1 at is
    ∙ ap (λ i. Some (leaf_of seats i leaf)) here

pub found_among : {A : Type 0} (test : A → Bool) (xs : List A) (x : A) → find test xs ≡ Some x → Contains xs x
found_among test [] x is = absurd (let no : None ≡ Some x = is in cc)
found_among test (y ∷ xs) x is = one (test y) is (found_among test xs x)
  where
    one : (b : Bool) → cond b (Some y) (find test xs) ≡ Some x → (find test xs ≡ Some x → Contains xs x) → Contains (y ∷ xs) x
    one true is rest = let same : y ≡ x = cc in subst (Contains (y ∷ xs)) same (Contains-append_left (y ∷ []) xs y (Contains-push [] y))
    one false is rest = Contains-append_right (y ∷ []) xs x (rest is)
