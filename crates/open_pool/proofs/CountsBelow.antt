-- How many numbers below a limit pass a test, and what one number more does to that.
use Rattle.std.proofs.Common.{◌≡◌, ◌⊎◌, inl, inr, ℕ, zero, suc, ◌+◌, ◌<◌, ◌≤◌, ◌==◌, ◌||◌, Bool, true, false, refl, sym, ap, ◌∙◌, subst, ⊎_elim, arith}
use Rattle.std.proofs.lemmas.Bool.{cases_Bool, cases_lt, eqb-true, eq-eqb, ne_eqb}
use Rattle.pool_moves.specs.Refusing.{count_below}

pub count_same : (n : ℕ) (f g : ℕ → Bool) → ((x : ℕ) → x < n → f x ≡ g x) → count_below n f ≡ count_below n g
count_same zero f g same = refl
count_same (suc n) f g same =
    let rest : count_below n f ≡ count_below n g = count_same n f g (λ x lt. same x (omega arith)) in
    let here : f n ≡ g n = same n (omega arith) in
    rw (rest, here) refl

pub count_more : (n : ℕ) (f g : ℕ → Bool) → ((x : ℕ) → x < n → f x ≡ true → g x ≡ true)
    → count_below n f ≤ count_below n g
count_more zero f g more = omega arith
count_more (suc n) f g more =
    let rest = count_more n f g (λ x lt is. more x (omega arith) is) in
    ⊎_elim (λ is. let here : g n ≡ true = more n (omega arith) is in rw (is, here) (omega (arith, rest)))
    (λ is. rw is (omega (arith, rest)))
    (cases_Bool (f n))

pub none_pass : (n : ℕ) → count_below n (λ x. false) ≡ 0
none_pass zero = refl
none_pass (suc n) = omega (arith, none_pass n)

-- the same test, which one number more passes
abbrev pub also : ℕ → (ℕ → Bool) → ℕ → Bool
also a test x = (a == x) || test x

pub count_also : (n a : ℕ) (test : ℕ → Bool) → a < n → test a ≡ false → count_below n (also a test) ≡ count_below n test + 1
count_also zero a test lt off = absurd (omega arith)
count_also (suc n) a test lt off =
    ⊎_elim (λ below.
    let rest = count_also n a test below off in
    let other : (a == n) ≡ false = ne_eqb a n (λ e. omega arith) in
    rw (rest, other) (omega arith))
    (λ (last : n ≤ a).
    let same : a ≡ n = omega arith in
    let rest : count_below n (also a test) ≡ count_below n test =
    count_same n (also a test) test (λ x below. ap (λ b. b || test x) (ne_eqb a x (λ e. omega arith))) in
    let here : (a == n) ≡ true = eq-eqb a n same in
    let none : test n ≡ false = subst (λ x. test x ≡ false) same off in
    rw (rest, here, none) (omega arith))
    (cases_lt a n)

also_again : (a : ℕ) (test : ℕ → Bool) (x : ℕ) → test a ≡ true → also a test x ≡ test x
also_again a test x on = one (cases_Bool (a == x))
  where
    one : ((a == x) ≡ true) ⊎ ((a == x) ≡ false) → ((a == x) || test x) ≡ test x
    one (inl is) = ap (λ b. b || test x) is ∙ sym (subst (λ y. test y ≡ true) (eqb-true a x is) on)
    one (inr is) = ap (λ b. b || test x) is

-- of a number that passes already nothing changes
pub count_again : (n a : ℕ) (test : ℕ → Bool) → test a ≡ true → count_below n (also a test) ≡ count_below n test
count_again n a test on = count_same n (also a test) test (λ x lt. also_again a test x on)

pub count_also_most : (n a : ℕ) (test : ℕ → Bool) → count_below n (also a test) ≤ count_below n test + 1
count_also_most zero a test = omega arith
count_also_most (suc n) a test =
    let rest = count_also_most n a test in
    ⊎_elim (λ here.
    let same : a ≡ n = eqb-true a n here in
    let below : count_below n (also a test) ≡ count_below n test =
    count_same n (also a test) test (λ x lt. ap (λ b. b || test x) (ne_eqb a x (λ e. omega arith))) in
    rw (below, here) (omega arith))
    (λ other. rw other (omega (arith, rest)))
    (cases_Bool (a == n))
