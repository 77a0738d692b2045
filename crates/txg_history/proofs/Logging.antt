-- Logs that grow, and groups that leave them.
use Rattle.std.proofs.Common.{◌≡◌, ◌⊎◌, ℕ, ◌≤◌, ◌==◌, ◌&&◌, nat_le, Bool, true, false, cond, refl, ap, inl, inr, arith}
use Rattle.std.proofs.lemmas.Bool.{and_parts}
use Rattle.std.proofs.lemmas.Bool.Decides.{nat_tests}
use Rattle.txg_history.specs.Groups.{Logs, at_device, between, grown, cleared}

-- a test that is true, or false
pub by_bool : {A : Type 0} (t : Bool) → (t ≡ true → A) → (t ≡ false → A) → A
by_bool {A} t on out = of t refl
  where
    of : (u : Bool) → t ≡ u → A
    of true e = on e
    of false e = out e

pub true_not_false : {A : Type 0} (t : Bool) → t ≡ true → t ≡ false → A
true_not_false t a b = absurd (cc)

-- what isn't true is false
pub not_true : (t : Bool) → (t ≡ true → ⊥) → t ≡ false
not_true true never = absurd (never refl)
not_true false never = refl

pub at_here : {A : Type 0} (d e : ℕ) (x : A) (f : ℕ → A) → (d == e) ≡ true → at_device d x f e ≡ x
at_here d e x f is = ap (λ t. cond t x (f e)) is

pub at_away : {A : Type 0} (d e : ℕ) (x : A) (f : ℕ → A) → (d == e) ≡ false → at_device d x f e ≡ f e
at_away d e x f off = ap (λ t. cond t x (f e)) off

pub same_device : (d e : ℕ) → (d == e) ≡ true → d ≡ e
same_device d e is = grind (arith, nat_tests)

pub is_between : (first last g : ℕ) → first ≤ g → g ≤ last → between first last g ≡ true
is_between first last g low high =
    let a : nat_le first g ≡ true = grind (arith, nat_tests) in
    let b : nat_le g last ≡ true = grind (arith, nat_tests) in rw (a, b) refl

pub of_between : (first last g : ℕ) → between first last g ≡ true → (first ≤ g) × (g ≤ last)
of_between first last g is =
    let parts = and_parts (nat_le first g) (nat_le g last) is in
    let a : nat_le first g ≡ true = parts.0 in
    let b : nat_le g last ≡ true = parts.1 in
    (let low : first ≤ g = grind (arith, nat_tests) in low, let high : g ≤ last = grind (arith, nat_tests) in high)

cond_more : (t u : Bool) → u ≡ true → cond t true u ≡ true
cond_more true u e = refl
cond_more false u e = e

pub grown_more : (which : ℕ → Bool) (first last : ℕ) (logs : Logs) (d g : ℕ) → logs d g ≡ true → grown which first last logs d g ≡ true
grown_more which first last logs d g e = cond_more (which d && between first last g) (logs d g) e

cond_false : (t u : Bool) → cond t true u ≡ false → u ≡ false
cond_false true u e = absurd (cc)
cond_false false u e = e

pub grown_false : (which : ℕ → Bool) (first last : ℕ) (logs : Logs) (d g : ℕ) → grown which first last logs d g ≡ false → logs d g ≡ false
grown_false which first last logs d g e = cond_false (which d && between first last g) (logs d g) e

pub grown_in : (which : ℕ → Bool) (first last : ℕ) (logs : Logs) (d g : ℕ) → which d ≡ true → first ≤ g → g ≤ last → grown which first last logs d g ≡ true
grown_in which first last logs d g is low high = rw (is, is_between first last g low high) refl

pub grown_out : (which : ℕ → Bool) (first last : ℕ) (logs : Logs) (d g : ℕ) → which d ≡ false → grown which first last logs d g ≡ logs d g
grown_out which first last logs d g off = rw off refl

pub grown_of : (which : ℕ → Bool) (first last : ℕ) (logs : Logs) (d g : ℕ) → grown which first last logs d g ≡ true
    → ((which d ≡ true) × (first ≤ g) × (g ≤ last)) ⊎ (logs d g ≡ true)
grown_of which first last logs d g is = of (which d && between first last g) refl is
  where
    of : (t : Bool) → (which d && between first last g) ≡ t → cond t true (logs d g) ≡ true → ((which d ≡ true) × (first ≤ g) × (g ≤ last)) ⊎ (logs d g ≡ true)
    of true e is = let parts = and_parts (which d) (between first last g) e in let bounds = of_between first last g parts.1 in inl (parts.0, bounds.0, bounds.1)
    of false e is = inr is

cond_of : (t u : Bool) → cond t false u ≡ true → u ≡ true
cond_of true u e = absurd (cc)
cond_of false u e = e

pub cleared_of : (first last : ℕ) (logs : Logs) (d g : ℕ) → cleared first last logs d g ≡ true → logs d g ≡ true
cleared_of first last logs d g e = cond_of (between first last g) (logs d g) e

cond_both : (t u v : Bool) → (u ≡ true → v ≡ true) → cond t false u ≡ true → cond t false v ≡ true
cond_both true u v h e = absurd (cc)
cond_both false u v h e = h e

-- what is left in one log is left in another that had it
pub cleared_both : (first last : ℕ) (a b : Logs) (d g : ℕ) → (a d g ≡ true → b d g ≡ true) → cleared first last a d g ≡ true → cleared first last b d g ≡ true
cleared_both first last a b d g h e = cond_both (between first last g) (a d g) (b d g) h e

pub cleared_false : (first last : ℕ) (logs : Logs) (d g : ℕ) → cleared first last logs d g ≡ false → ((first ≤ g) × (g ≤ last)) ⊎ (logs d g ≡ false)
cleared_false first last logs d g is = of (between first last g) refl is
  where
    of : (t : Bool) → between first last g ≡ t → cond t false (logs d g) ≡ false → ((first ≤ g) × (g ≤ last)) ⊎ (logs d g ≡ false)
    of true e is = inl (of_between first last g e)
    of false e is = inr is
