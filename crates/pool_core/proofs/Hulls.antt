-- Groups up to a number, and all from the least to the greatest of them.
use Rattle.std.proofs.Common.{◌≡◌, ℕ, zero, suc, ◌≤◌, Bool, true, false, ◌&&◌, nat_le, inl, inr, refl, ap, sym, ◌∙◌, arith}
use Rattle.std.proofs.lemmas.Bool.{cases_lt, false≢true}
use Rattle.std.proofs.lemmas.Bool.Decides.{nat_tests, same_from_decides}
use Rattle.group_set.specs.Groups.{Groups, holds, IsWidened}
use Rattle.group_set.proofs.Among.{or_cases, or_true, or_true_right}
use Rattle.pool_core.specs.Logs.{any_upto, hull_upto}

any_from : (has : ℕ → Bool) (n g : ℕ) → 1 ≤ g → g ≤ n → has g ≡ true → any_upto has n ≡ true
any_from has zero g low high is = absurd (omega arith)
any_from has (suc n) g low high is = elim (cases_lt n g) [
  | inl last ↦ or_true (has (suc n)) (any_upto has n) (ap has (let e : suc n ≡ g = omega arith in e) ∙ is)
  | inr before ↦ or_true_right (has (suc n)) (any_upto has n) (any_from has n g low before is)
]

some_from : (has : ℕ → Bool) (n : ℕ) → any_upto has n ≡ true → (g : ℕ) × (has g ≡ true)
some_from has zero any = absurd (false≢true any)
some_from has (suc n) any = elim (or_cases (has (suc n)) (any_upto has n) any) [
  | inl last ↦ (suc n, last)
  | inr before ↦ some_from has n before
]

both_true : (a b : Bool) → a ≡ true → b ≡ true → (a && b) ≡ true
both_true true b one other = other
both_true false b one other = one

both_left : (a b : Bool) → (a && b) ≡ true → a ≡ true
both_left true b both = refl
both_left false b both = both

both_right : (a b : Bool) → (a && b) ≡ true → b ≡ true
both_right true b both = both
both_right false b both = absurd (false≢true both)

le_true : (a b : ℕ) → a ≤ b → nat_le a b ≡ true
le_true a b h = grind (arith, nat_tests)

true_le : (a b : ℕ) → nat_le a b ≡ true → a ≤ b
true_le a b h = grind (arith, nat_tests)

module _ (has : ℕ → Bool) (n : ℕ) where
  -- what lies between two of the groups lies in the hull, and nothing else
  hull_of : (a g b : ℕ) → (1 ≤ a) × (a ≤ n) → (1 ≤ b) × (b ≤ n) → has a ≡ true → has b ≡ true → a ≤ g → g ≤ b → hull_upto has n g ≡ true
  hull_of a g b low high first last begun ends =
      both_true (any_upto (λ h. has h && nat_le h g) n) (any_upto (λ h. has h && nat_le g h) n)
      (any_from (λ h. has h && nat_le h g) n a low.0 low.1 (both_true (has a) (nat_le a g) first (le_true a g begun)))
      (any_from (λ h. has h && nat_le g h) n b high.0 high.1 (both_true (has b) (nat_le g b) last (le_true g b ends)))

  hull_from : (g : ℕ) → hull_upto has n g ≡ true → (a : ℕ) × (b : ℕ) × (has a ≡ true) × (has b ≡ true) × (a ≤ g) × (g ≤ b)
  hull_from g hull =
      let first = some_from (λ h. has h && nat_le h g) n (both_left (any_upto (λ h. has h && nat_le h g) n) (any_upto (λ h. has h && nat_le g h) n) hull) in
      let last = some_from (λ h. has h && nat_le g h) n (both_right (any_upto (λ h. has h && nat_le h g) n) (any_upto (λ h. has h && nat_le g h) n) hull) in (
        first.0,
        last.0,
        both_left (has first.0) (nat_le first.0 g) first.1,
        both_left (has last.0) (nat_le g last.0) last.1,
        true_le first.0 g (both_right (has first.0) (nat_le first.0 g) first.1),
        true_le g last.0 (both_right (has last.0) (nat_le g last.0) last.1),
      )

-- a set that was widened is the hull of what it was
pub hull_is : (has : ℕ → Bool) (n : ℕ) (old new : Groups) → ((g : ℕ) → has g ≡ holds old g) → ((g : ℕ) → holds old g ≡ true → (1 ≤ g) × (g ≤ n)) → IsWidened old new
    → (g : ℕ) → hull_upto has n g ≡ holds new g
hull_is has n old new same within wide g =
    same_from_decides (hull_upto has n g) (holds new g) (
      λ hull. (let f = hull_from has n g hull in wide.between f.0 g f.1 (sym (same f.0) ∙ f.2) (sym (same f.1) ∙ f.3) f.4 f.5),
      λ new_has. (let f = wide.only g new_has in hull_of has n f.0 g f.1 (within f.0 f.2) (within f.1 f.3) (same f.0 ∙ f.2) (same f.1 ∙ f.3) f.4 f.5),
    )
    (λ h. h, λ h. h)

-- and whole
pub widened_whole : (old new : Groups) → IsWidened old new → (a h b : ℕ) → holds new a ≡ true → holds new b ≡ true → a ≤ h → h ≤ b → holds new h ≡ true
widened_whole old new wide a h b first last begun ends =
    let low = wide.only a first in
    let high = wide.only b last in
    wide.between low.0 h high.1 low.2 high.3 (let x = low.4 in omega arith) (let x = high.5 in omega arith)

pub widened_within : (n : ℕ) (old new : Groups) → IsWidened old new → ((g : ℕ) → holds old g ≡ true → (1 ≤ g) × (g ≤ n)) → (g : ℕ) → holds new g ≡ true → (1 ≤ g) × (g ≤ n)
widened_within n old new wide within g has =
    let f = wide.only g has in
    let low = within f.0 f.2 in
    let high = within f.1 f.3 in
    (let a = low.0 in let b = f.4 in omega arith, let a = high.1 in let b = f.5 in omega arith)

pub widened_has : (old new : Groups) (g : ℕ) → IsWidened old new → holds old g ≡ true → holds new g ≡ true
widened_has old new g wide has = wide.between g g g has has (omega arith) (omega arith)
