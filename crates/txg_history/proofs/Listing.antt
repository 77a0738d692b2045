-- Lists of records, and keys.
use Rattle.std.proofs.Common.{
  ◌≡◌,
  ◌⊎◌,
  ℕ,
  ◌≤◌,
  ◌==◌,
  nat_lt,
  Bool,
  true,
  false,
  cond,
  List,
  [],
  ◌∷◌,
  ◌++◌,
  Option,
  Some,
  None,
  refl,
  sym,
  ap,
  ◌∙◌,
  subst,
  inl,
  inr,
  arith,
  ⊎_elim,
}
use Rattle.std.proofs.lemmas.Bool.{and_parts}
use Rattle.std.proofs.lemmas.Bool.Decides.{nat_tests}
use Rattle.mp_base.specs.declared.place.Key.{Key}
use Rattle.txg_history.specs.Groups.{same_key}
use Rattle.txg_history.specs.Records.{Rec, Cell, Cells, IsIn, key, cell_over, laid_over, number_of, above}

pub same_head : (q r : Rec) (qs rs : List Rec) → q ∷ qs ≡ r ∷ rs → q ≡ r
same_head q r qs rs e = cc

pub same_rest : (q r : Rec) (qs rs : List Rec) → q ∷ qs ≡ r ∷ rs → qs ≡ rs
same_rest q r qs rs e = cc

pub in_append : (r : Rec) (first second : List Rec) → IsIn r (first ++ second) → IsIn r first ⊎ IsIn r second
in_append r [] second i = inr i
in_append r (q ∷ first) second (inl e) = inl (inl e)
in_append r (q ∷ first) second (inr i) = ⊎_elim (λ a. inl (inr a)) (λ b. inr b) (in_append r first second i)

pub in_first : (r : Rec) (first second : List Rec) → IsIn r first → IsIn r (first ++ second)
in_first r [] second i = absurd i
in_first r (q ∷ first) second (inl e) = inl e
in_first r (q ∷ first) second (inr i) = inr (in_first r first second i)

pub in_second : (r : Rec) (first second : List Rec) → IsIn r second → IsIn r (first ++ second)
in_second r [] second i = i
in_second r (q ∷ first) second i = inr (in_second r first second i)

-- the one record of a list
pub only_one : (P : Rec → Type 0) (q r : Rec) → P q → IsIn r (q ∷ []) → P r
only_one P q r is (inl e) = subst P (sym e) is
only_one P q r is (inr i) = absurd i

-- a new record, or one of the others
pub new_or : (P : Rec → Type 0) (q r : Rec) (rs : List Rec) → P q → (IsIn r rs → P r) → IsIn r (q ∷ rs) → P r
new_or P q r rs is old (inl e) = subst P (sym e) is
new_or P q r rs is old (inr i) = old i

-- those that are not above a number are below or at it
pub above_or : (n : ℕ) (r : Rec) (rs : List Rec) → IsIn r rs → (number_of r ≤ n) ⊎ IsIn r (above n rs)
above_or n r [] i = absurd i
above_or n r (q ∷ rs) i = by_test (nat_lt n (number_of q)) refl (λ j. above_or n r rs j) i
  where
    by_test : (t : Bool) → nat_lt n (number_of q) ≡ t → (IsIn r rs → (number_of r ≤ n) ⊎ IsIn r (above n rs)) → (r ≡ q) ⊎ IsIn r rs
        → (number_of r ≤ n) ⊎ IsIn r (cond t (q ∷ above n rs) (above n rs))
    by_test true is more (inl e) = inr (inl e)
    by_test true is more (inr i) = ⊎_elim (λ le. inl le) (λ a. inr (inr a)) (more i)
    by_test false is more (inl e) = inl (subst (λ q. number_of q ≤ n) (sym e) (let le : number_of q ≤ n = grind (arith, nat_tests) in le))
    by_test false is more (inr i) = more i

-- keys are one where the test says so
pub one_key : (j k : Key) → same_key j k ≡ true → j ≡ k
one_key j k is =
    let parts = and_parts (j.level == k.level) (j.index == k.index) is in
    let a : j.level ≡ k.level = level_is parts.0 in
    let b : j.index ≡ k.index = index_is parts.1 in ap (λ l. key l j.index) a ∙ ap (λ i. key k.level i) b
  where
    level_is : (j.level == k.level) ≡ true → j.level ≡ k.level
    level_is e = grind (arith, nat_tests)

    index_is : (j.index == k.index) ≡ true → j.index ≡ k.index
    index_is e = grind (arith, nat_tests)

pub same_cell : (a b : Cell) → Some a ≡ Some b → a ≡ b
same_cell a b e = cc

-- a cell of keys that are laid over others is one of these, or of the others
pub laid_of : (new old : Cells) (k : Key) (cell : Cell) → laid_over new old k ≡ Some cell → (new k ≡ Some cell) ⊎ ((new k ≡ None) × (old k ≡ Some cell))
laid_of new old k cell is = of (new k) refl is
  where
    of : (c : Option Cell) → new k ≡ c → cell_over c (old k) ≡ Some cell → (new k ≡ Some cell) ⊎ ((new k ≡ None) × (old k ≡ Some cell))
    of (Some found) e is = inl (e ∙ is)
    of None e is = inr (e, is)
