-- The copy that was good.
use Rattle.std.proofs.Common.{◌≡◌, ℕ, zero, suc, ◌==◌, Bool, true, false, cond, List, [], ◌∷◌, ◌++◌, map, Contains, Some, refl, sym, ap, ◌∙◌, subst, inl, inr, ◌⊎◌, arith}
use Rattle.std.specs.List.{filter}
use Rattle.std.proofs.lemmas.Option.{none-some}
use Rattle.bank_core.specs.Calls.{device_of}
use Rattle.bank_core.specs.Disk.{Noted}
use Rattle.mirror_io.specs.declared.copies.CopyOf.{CopyOf}
use Rattle.mirror_io.specs.declared.copies.CopySeen.{CopySeen}
use Rattle.mirror_io.specs.declared.copies.CopySeen.TheVariants as seen
use Rattle.mirror_io.specs.Copies.{is_due, tries}
use Rattle.mirror_io.specs.Reading.{Tells, AllTold}
use Rattle.mirror_io.specs.Reads.{AreTried}
use Rattle.mirror_io.specs.Seen.{sees, seen_after}
use Rattle.mirror_io.proofs.Reading.{Next, next_on, is_test}
use Rattle.mirror_io.proofs.Showing.{same_device, due_readable}

-- Some one of a list.
abbrev pub SomeOf : (CopyOf → Type 0) → List CopyOf → Type 0
SomeOf P [] = ⊥
SomeOf P (x ∷ xs) = P x ⊎ SomeOf P xs

pub some_by : (P Q : CopyOf → Type 0) (xs : List CopyOf) → ((x : CopyOf) → P x → Q x) → SomeOf P xs → SomeOf Q xs
some_by P Q [] f a = a
some_by P Q (x ∷ xs) f (inl here) = inl (f x here)
some_by P Q (x ∷ xs) f (inr later) = inr (some_by P Q xs f later)

some_split : (P : CopyOf → Type 0) (xs ys : List CopyOf) → SomeOf P (xs ++ ys) → SomeOf P xs ⊎ SomeOf P ys
some_split P [] ys a = inr a
some_split P (x ∷ xs) ys (inl here) = inl (inl here)
some_split P (x ∷ xs) ys (inr later) = elim (some_split P xs ys later) as (λ _. SomeOf P (x ∷ xs) ⊎ SomeOf P ys) [ inl a ↦ inl (inr a) | inr b ↦ inr b ]

some_filtered : (P : CopyOf → Type 0) (owing : Bool) (xs : List CopyOf) → SomeOf P (filter (is_due owing) xs) → SomeOf (λ x. (x.readable ≡ true) × P x) xs
some_filtered P owing [] a = a
some_filtered P owing (x ∷ xs) a = go (is_due owing x) refl a (some_filtered P owing xs)
  where
    go : (t : Bool) → is_due owing x ≡ t → SomeOf P (filter (is_due owing) (x ∷ xs)) → (SomeOf P (filter (is_due owing) xs) → SomeOf (λ x. (x.readable ≡ true) × P x) xs)
        → SomeOf (λ x. (x.readable ≡ true) × P x) (x ∷ xs)
    go true is a more = let b : P x ⊎ SomeOf P (filter (is_due owing) xs) = rw is at a in
        elim b as (λ _. SomeOf (λ x. (x.readable ≡ true) × P x) (x ∷ xs)) [ inl here ↦ inl (due_readable owing x is, here) | inr later ↦ inr (more later) ]
    go false is a more = let b : SomeOf P (filter (is_due owing) xs) = rw is at a in inr (more b)

pub some_readable : (P : CopyOf → Type 0) (copies : List CopyOf) → SomeOf P (tries copies) → SomeOf (λ x. (x.readable ≡ true) × P x) copies
some_readable P copies a = elim (some_split P (filter (is_due false) copies) (filter (is_due true) copies) a) as (λ _. SomeOf (λ x. (x.readable ≡ true) × P x) copies) [
  | inl b ↦ some_filtered P false copies b
  | inr b ↦ some_filtered P true copies b
]

pub some_contained : (f : CopyOf → CopySeen) (s : CopySeen) (copies : List CopyOf) → SomeOf (λ x. f x ≡ s) copies → Contains (map f copies) s
some_contained f s [] a = absurd a
some_contained f s (x ∷ xs) (inl here) = (zero, omega arith, here)
some_contained f s (x ∷ xs) (inr later) = let more = some_contained f s xs later in (suc more.0, let lt = more.1 in omega arith, more.2)

-- The last read shows a good copy.
pub some_good : (test : List ℕ → Bool) (at : ℕ) (Good : List ℕ → Type 0) (copies : List CopyOf) (made : List Noted) (wrong : List CopyOf) (block : List ℕ)
    → AllTold test Good made → AreTried at Good copies made wrong (Some block)
    → SomeOf (λ copy. (s : CopySeen) → seen_after test copy.dev s made ≡ seen.Good) copies
some_good test at Good [] made wrong block told r = absurd (none-some block (sym r.2))
some_good test at Good (copy ∷ copies) [] wrong block told r = absurd r
some_good test at Good (copy ∷ copies) (noted ∷ made) wrong block told r =
    go r (λ wrong' rest. some_good test at Good copies made wrong' block told.1 rest)
  where
    behind : SomeOf (λ copy. (s : CopySeen) → seen_after test copy.dev s made ≡ seen.Good) copies
        → SomeOf (λ copy. (s : CopySeen) → seen_after test copy.dev s (noted ∷ made) ≡ seen.Good) (copy ∷ copies)
    behind a = inr (some_by (λ x. (s : CopySeen) → seen_after test x.dev s made ≡ seen.Good) (λ x. (s : CopySeen) → seen_after test x.dev s (noted ∷ made) ≡ seen.Good)
        copies (λ x p s. p (cond (device_of noted.call == x.dev) (sees test s noted.call) s)) a)

    on : device_of noted.call ≡ copy.dev
    on = next_on at Good copy noted copies made wrong (Some block) r

    go : Next at Good copy noted copies made wrong (Some block)
        → ((wrong' : List CopyOf) → AreTried at Good copies made wrong' (Some block) → SomeOf (λ copy. (s : CopySeen) → seen_after test copy.dev s made ≡ seen.Good) copies)
        → SomeOf (λ copy. (s : CopySeen) → seen_after test copy.dev s (noted ∷ made) ≡ seen.Good) (copy ∷ copies)
    go (inl (failed, rest)) more = behind (more wrong rest)
    go (inr (inl (others, bytes, differs, is, rest))) more = behind (more others rest)
    go (inr (inr (bytes, serves, none, right, is))) more =
        inl (λ s. ap (λ m. seen_after test copy.dev s (noted ∷ m)) none ∙ here s)
      where
        here : (s : CopySeen) → seen_after test copy.dev s (noted ∷ []) ≡ seen.Good
        here s = rw (on, same_device copy.dev, serves.gives.is, is_test test Good bytes (subst (Tells test Good) serves.gives.is told.0) serves.is) refl
