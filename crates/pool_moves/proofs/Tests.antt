-- What tests of numbers tell, and options.
use Rattle.std.proofs.Common.{◌≡◌, ℕ, ◌<◌, ◌≤◌, ◌==◌, nat_le, nat_lt, true, false, Option, Some, None, ap, sym, ◌∙◌, ◌≢◌, arith}
use Rattle.std.proofs.lemmas.Bool.Decides.{nat_tests}
use Rattle.txg_history.proofs.Logging.{same_device}
use Rattle.mp_base.specs.declared.number.Guid.{Guid}

pub here : (d : ℕ) → (d == d) ≡ true
here d = grind (arith, nat_tests)

pub same_test : (a b : ℕ) → a ≡ b → (a == b) ≡ true
same_test a b is = grind (arith, nat_tests)

pub other_test : (a b : ℕ) → a ≢ b → (a == b) ≡ false
other_test a b off = grind (arith, nat_tests)

pub not_same : (a b : ℕ) → (a == b) ≡ false → a ≢ b
not_same a b off = grind (arith, nat_tests)

pub same_back : (a b : ℕ) → (a == b) ≡ true → (b == a) ≡ true
same_back a b is = grind (arith, nat_tests)

pub other_back : (a b : ℕ) → (a == b) ≡ false → (b == a) ≡ false
other_back a b off = grind (arith, nat_tests)

pub below_other : (a b : ℕ) → a < b → (a == b) ≡ false
below_other a b less = grind (arith, nat_tests)

pub same_guid : (a b : Guid) → (a.0 == b.0) ≡ true → a ≡ b
same_guid a b is = let at : ℕ → Guid = λ n. record { 0 = n } in ap at (same_device a.0 b.0 is)

pub le_of : (a b : ℕ) → nat_le a b ≡ true → a ≤ b
le_of a b is = grind (arith, nat_tests)

pub lt_of : (a b : ℕ) → nat_lt a b ≡ true → a < b
lt_of a b is = grind (arith, nat_tests)

pub not_lt : (a b : ℕ) → nat_lt a b ≡ false → b ≤ a
not_lt a b off = grind (arith, nat_tests)

pub some_same : {X : Type 0} (a b : X) → Some a ≡ Some b → a ≡ b
some_same a b e = cc

pub no_dev : {A X : Type 0} (dev : Option X) (d : X) → dev ≡ None → dev ≡ Some d → A
no_dev dev d none some = absurd (let no : None ≡ Some d = sym none ∙ some in cc)
