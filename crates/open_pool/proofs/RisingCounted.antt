-- As many numbers below a limit pass a test as a rising list of just these has.
use Rattle.std.proofs.Common.{◌≡◌, ℕ, zero, suc, ◌+◌, ◌<◌, ◌==◌, ◌||◌, Bool, true, false, List, [], ◌∷◌, ◌++◌, length, get_or, refl, sym, ap, ◌∙◌, subst, ⊎_elim, arith}
use Rattle.std.specs.List.{All, Contains, list_any}
use Rattle.std.proofs.lemmas.Bool.{cases_Bool, cases_lt, false≢true, false_from_ne_true, eqb-true, eq-eqb, ne_eqb, or_from, or_cases, or_left, or_right}
use Rattle.std.proofs.lemmas.List.Elements.{All-nil, All-head, All-tail, All-weaker, All-push, Contains-get_or}
use Rattle.std.proofs.lemmas.List.Quantifiers.{all_pairs_push}
use Rattle.block_map.specs.Dirty.{Rises}
use Rattle.pool_moves.specs.Refusing.{count_below}
use Rattle.open_pool.proofs.CountsBelow.{none_pass, count_same, count_also}

abbrev pub is_among : List ℕ → ℕ → Bool
is_among xs x = list_any (λ a. a == x) xs

none_among : (xs : List ℕ) (x : ℕ) → All (λ y. x < y) xs → is_among xs x ≡ false
none_among [] x above = refl
none_among (y ∷ ys) x above =
    or_from (y == x) (is_among ys x) (ne_eqb y x (λ e. let less = All-head (λ z. x < z) y ys above in omega arith))
    (none_among ys x (All-tail (λ z. x < z) y ys above))

pub rises_all : (x : ℕ) (xs : List ℕ) → Rises (x ∷ xs) → All (λ y. x < y) xs
rises_all x xs rise k d lt = rise 0 (suc k) d (omega arith) (omega arith)

pub rises_tail : (x : ℕ) (xs : List ℕ) → Rises (x ∷ xs) → Rises xs
rises_tail x xs rise i j d less lt = rise (suc i) (suc j) d (omega arith) (omega arith)

count_among : (n : ℕ) (xs : List ℕ) → Rises xs → All (λ x. x < n) xs → count_below n (is_among xs) ≡ length xs
count_among n [] rise low = none_pass n
count_among n (x ∷ xs) rise low =
    let rest = count_among n xs (rises_tail x xs rise) (All-tail (λ y. y < n) x xs low) in
    let one : count_below n (is_among (x ∷ xs)) ≡ count_below n (is_among xs) + 1 =
    count_also n x (is_among xs) (All-head (λ y. y < n) x xs low) (none_among xs x (rises_all x xs rise)) in
    omega (arith, one, rest)

-- These are the numbers below a limit that pass a test, as they rise.
pub record AreListed (n : ℕ) (test : ℕ → Bool) (xs : List ℕ) : Type 0 where
  pub rise : Rises xs
  pub low : All (λ x. x < n) xs
  pub are : (x : ℕ) → x < n → test x ≡ is_among xs x

pub count_listed : (n : ℕ) (test : ℕ → Bool) (xs : List ℕ) → AreListed n test xs → count_below n test ≡ length xs
count_listed n test xs listed = count_same n test (is_among xs) listed.are ∙ count_among n xs listed.rise listed.low

-- two tests that are true together are one
pub same_tests : (a b : Bool) → (a ≡ true → b ≡ true) → (b ≡ true → a ≡ true) → a ≡ b
same_tests true b there back = sym (there refl)
same_tests false b there back = sym (false_from_ne_true b (λ is. false≢true (back is)))

-- a number is among those that a list contains
pub among_contained : (xs : List ℕ) (x : ℕ) → Contains xs x → is_among xs x ≡ true
among_contained [] x (k, lt, is) = absurd (omega arith)
among_contained (y ∷ ys) x (zero, lt, is) = or_left (y == x) (is_among ys x) (eq-eqb y x is)
among_contained (y ∷ ys) x (suc k, lt, is) = or_right (y == x) (is_among ys x) (among_contained ys x (k, omega arith, is))

pub contains_among : (xs : List ℕ) (x : ℕ) → is_among xs x ≡ true → Contains xs x
contains_among [] x is = absurd (false≢true is)
contains_among (y ∷ ys) x is =
    ⊎_elim (λ here. (0, omega arith, eqb-true y x here))
    (λ later. let (k, lt, at) = contains_among ys x later in (suc k, omega arith, at))
    (or_cases (y == x) (is_among ys x) is)

or_none : (a : Bool) → (a || false) ≡ a
or_none true = refl
or_none false = refl

or_moved : (a b c : Bool) → (a || (b || c)) ≡ ((a || b) || c)
or_moved true b c = refl
or_moved false b c = refl

among_push : (xs : List ℕ) (y x : ℕ) → is_among (xs ++ y ∷ []) x ≡ (is_among xs x || (y == x))
among_push [] y x = or_none (y == x)
among_push (z ∷ xs) y x = ap (λ b. (z == x) || b) (among_push xs y x) ∙ or_moved (z == x) (is_among xs x) (y == x)

none_at : (n : ℕ) (xs : List ℕ) → All (λ x. x < n) xs → is_among xs n ≡ false
none_at n [] low = refl
none_at n (x ∷ xs) low =
    or_from (x == n) (is_among xs n) (ne_eqb x n (λ e. let less = All-head (λ y. y < n) x xs low in omega arith))
    (none_at n xs (All-tail (λ y. y < n) x xs low))

module _ (n : ℕ) (test : ℕ → Bool) (xs : List ℕ) (is : AreListed n test xs) where
  lower : All (λ x. x < suc n) xs
  lower = All-weaker (λ x. x < n) (λ x. x < suc n) (λ x lt. omega arith) xs is.low

  with_last : test n ≡ true → AreListed (suc n) test (xs ++ n ∷ [])
  with_last on = record {
    rise = all_pairs_push (λ a b. a < b) xs n is.rise is.low;
    low = All-push (λ x. x < suc n) xs n lower (omega arith);
    are = λ x lt. ⊎_elim
        (λ below. is.are x below ∙ sym (among_push xs n x
        ∙ ap (λ b. is_among xs x || b) (ne_eqb n x (λ e. omega arith)) ∙ or_none (is_among xs x)))
        (λ last. let same : n ≡ x = omega arith in
        subst (λ y. test y ≡ true) same on ∙ sym (among_push xs n x
        ∙ or_right (is_among xs x) (n == x) (eq-eqb n x same)))
        (cases_lt x n);
  }

  without_last : test n ≡ false → AreListed (suc n) test xs
  without_last off = record {
    rise = is.rise;
    low = lower;
    are = λ x lt. ⊎_elim
        (λ below. is.are x below)
        (λ last. let same : n ≡ x = omega arith in
        subst (λ y. test y ≡ is_among xs y) same (off ∙ sym (none_at n xs is.low)))
        (cases_lt x n);
  }

-- there is such a list
abbrev pub Listing : ℕ → (ℕ → Bool) → Type 0
Listing n test = (xs : List ℕ) × AreListed n test xs

pub listing : (n : ℕ) (test : ℕ → Bool) → Listing n test
listing zero test = (
  [],
  record {
    rise = λ i j d less lt. absurd (omega arith);
    low = All-nil (λ x. x < 0);
    are = λ x lt. absurd (omega arith);
  },
)
listing (suc n) test =
    let (xs, is) = listing n test in
    ⊎_elim (λ on. (xs ++ n ∷ [], with_last n test xs is on)) (λ off. (xs, without_last n test xs is off))
    (cases_Bool (test n))

-- a rising list has them where it has just what passes, and that is below the limit
pub listed_by : (n : ℕ) (test : ℕ → Bool) (xs : List ℕ) → Rises xs → ((x : ℕ) → is_among xs x ≡ test x)
    → ((x : ℕ) → test x ≡ true → x < n) → AreListed n test xs
listed_by n test xs rise are low = record {
  rise = rise;
  low = λ k d lt.
      let among = among_contained xs (get_or xs k d) (Contains-get_or xs k d lt) in
      low (get_or xs k d) (sym (are (get_or xs k d)) ∙ among);
  are = λ x lt. sym (are x);
}
