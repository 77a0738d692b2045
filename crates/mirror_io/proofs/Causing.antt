-- The causes of what is said of each copy.
use Rattle.std.proofs.Common.{true≢false, ◌≡◌, ◌≢◌, ℕ, ◌≤◌, ◌==◌, Bool, true, false, List, [], ◌∷◌, ◌++◌, map, Some, None, refl, sym, ◌∙◌, subst, cond, inl, inr, ◌⊎◌, arith}
use Rattle.std.specs.List.{AllByRecursion, AllZip, filter}
use Rattle.mp_base.specs.Outside.{Rose}
use Rattle.bank_core.specs.declared.bank.Fault.{Fault}
use Rattle.bank_core.specs.Calls.{AllCaused, IsCaused, device_of, fault_of}
use Rattle.bank_core.specs.Disk.{Call, Read, Write, Flush, Admit, Eject, Noted}
use Rattle.mirror_io.specs.declared.copies.CopyOf.{CopyOf}
use Rattle.mirror_io.specs.declared.copies.CopySeen.{CopySeen}
use Rattle.mirror_io.specs.declared.copies.CopySeen.TheVariants as seen
use Rattle.mirror_io.specs.Copies.{is_due, tries}
use Rattle.mirror_io.specs.Seen.{sees, seen_after}

-- Each of a list.
pub all_by : (P Q : CopyOf → Type 0) (xs : List CopyOf) → ((x : CopyOf) → P x → Q x) → AllByRecursion P xs → AllByRecursion Q xs
all_by P Q [] f a = tt
all_by P Q (x ∷ xs) f a = (f x a.0, all_by P Q xs f a.1)

all_split : (P : CopyOf → Type 0) (xs ys : List CopyOf) → AllByRecursion P (xs ++ ys) → AllByRecursion P xs × AllByRecursion P ys
all_split P [] ys a = (tt, a)
all_split P (x ∷ xs) ys a = let b = all_split P xs ys a.1 in ((a.0, b.0), b.1)

pub all_filtered : (P : CopyOf → Type 0) (p : CopyOf → Bool) (xs : List CopyOf) → AllByRecursion P (filter p xs) → AllByRecursion (λ x. p x ≡ true → P x) xs
all_filtered P p [] a = tt
all_filtered P p (x ∷ xs) a = go (p x) refl a (all_filtered P p xs)
  where
    go : (t : Bool) → p x ≡ t → AllByRecursion P (filter p (x ∷ xs)) → (AllByRecursion P (filter p xs) → AllByRecursion (λ x. p x ≡ true → P x) xs)
        → AllByRecursion (λ x. p x ≡ true → P x) (x ∷ xs)
    go true is a more = let b : AllByRecursion P (x ∷ filter p xs) = rw is at a in ((λ _. b.0), more b.1)
    go false is a more = let b : AllByRecursion P (filter p xs) = rw is at a in ((λ is'. absurd (true≢false (sym is' ∙ is))), more b)

pub all_both : (P Q : CopyOf → Type 0) (xs : List CopyOf) → AllByRecursion P xs → AllByRecursion Q xs → AllByRecursion (λ x. P x × Q x) xs
all_both P Q [] a b = tt
all_both P Q (x ∷ xs) a b = ((a.0, b.0), all_both P Q xs a.1 b.1)

pub all_zipped : (R : CopyOf → CopySeen → Type 0) (f : CopyOf → CopySeen) (xs : List CopyOf) → AllByRecursion (λ x. R x (f x)) xs → AllZip R xs (map f xs)
all_zipped R f [] a = tt
all_zipped R f (x ∷ xs) a = (a.0, all_zipped R f xs a.1)

readable_due : (copy : CopyOf) → copy.readable ≡ true → (is_due false copy ≡ true) ⊎ (is_due true copy ≡ true)
readable_due copy is = go copy.lacks refl
  where
    go : (t : Bool) → copy.lacks ≡ t → (is_due false copy ≡ true) ⊎ (is_due true copy ≡ true)
    go false is' = inl (rw (is, is') refl)
    go true is' = inr (rw (is, is') refl)

-- what holds of each copy that is tried holds of each that is readable
pub all_readable : (P : CopyOf → Type 0) (copies : List CopyOf) → AllByRecursion P (tries copies) → AllByRecursion (λ copy. copy.readable ≡ true → P copy) copies
all_readable P copies a =
    let b = all_split P (filter (is_due false) copies) (filter (is_due true) copies) a in
    let first : CopyOf → Type 0 = λ copy. is_due false copy ≡ true → P copy in
    let second : CopyOf → Type 0 = λ copy. is_due true copy ≡ true → P copy in
    all_by (λ copy. first copy × second copy) (λ copy. copy.readable ≡ true → P copy) copies
    (λ copy both is. elim (readable_due copy is) as (λ _. P copy) [ inl e ↦ both.0 e | inr e ↦ both.1 e ])
    (all_both first second copies (all_filtered P (is_due false) copies b.0) (all_filtered P (is_due true) copies b.1))

-- One call.
cond_seen : (t : Bool) (s : CopySeen) → seen.Good ≢ s → seen.Mismatch ≢ s → cond t seen.Good seen.Mismatch ≢ s
cond_seen true s good other = good
cond_seen false s good other = other

-- only a call that failed shows a failure
shows_failed : (test : List ℕ → Bool) (s : CopySeen) (call : Call) → sees test s call ≡ seen.Failed → (s ≡ seen.Failed) ⊎ ((fault : Fault) × (fault_of call ≡ Some fault))
shows_failed test s (Read dev at bytes None) e = absurd (cond_seen (test bytes) seen.Failed (λ e. cc) (λ e. cc) e)
shows_failed test s (Read dev at bytes (Some fault)) e = inr (fault, refl)
shows_failed test s (Write dev at bytes None) e = absurd (cc)
shows_failed test s (Write dev at bytes (Some fault)) e = inl e
shows_failed test s (Flush dev fault) e = inl e
shows_failed test s (Admit dev holds) e = inl e
shows_failed test s (Eject dev) e = inl e

-- none shows that a copy isn't readable
shows_readable : (test : List ℕ → Bool) (s : CopySeen) (call : Call) → s ≢ seen.NotReadable → sees test s call ≢ seen.NotReadable
shows_readable test s (Read dev at bytes None) ne = cond_seen (test bytes) seen.NotReadable (λ e. cc) (λ e. cc)
shows_readable test s (Read dev at bytes (Some fault)) ne = λ e. cc
shows_readable test s (Write dev at bytes None) ne = λ e. cc
shows_readable test s (Write dev at bytes (Some fault)) ne = ne
shows_readable test s (Flush dev fault) ne = ne
shows_readable test s (Admit dev holds) ne = ne
shows_readable test s (Eject dev) ne = ne

pub seen_readable : (test : List ℕ → Bool) (dev : ℕ) (made : List Noted) (s : CopySeen) → s ≢ seen.NotReadable → seen_after test dev s made ≢ seen.NotReadable
seen_readable test dev [] s ne = ne
seen_readable test dev (noted ∷ made) s ne = seen_readable test dev made _ (go (device_of noted.call == dev))
  where
    go : (t : Bool) → cond t (sees test s noted.call) s ≢ seen.NotReadable
    go true = shows_readable test s noted.call ne
    go false = ne

same_number : (a b : ℕ) → (a == b) ≡ true → a ≡ b
same_number a b e = grind arith

-- a failure that is told has its cause
pub rose_from : (a b c d : ℕ) → a ≤ b → Rose b c → c ≤ d → Rose a d
rose_from a b c d le rose le' = omega arith

pub failed_rose : (test : List ℕ → Bool) (dev base : ℕ) (made : List Noted) (s : CopySeen) (f g : ℕ → ℕ) → base ≤ f dev → AllCaused made f g
    → (s ≡ seen.Failed → Rose base (f dev)) → seen_after test dev s made ≡ seen.Failed → Rose base (g dev)
failed_rose test dev base [] s f g le caused was e = rose_from base base (f dev) (g dev) (omega arith) (was e) (let same = caused dev in omega arith)
failed_rose test dev base (noted ∷ made) s f g le caused was e =
    let between = caused.0 in
    failed_rose test dev base made _ between g (let up = caused.1.counts dev in omega arith) caused.2 (go (device_of noted.call == dev) refl) e
  where
    one : IsCaused noted.call f caused.0
    one = caused.1

    go : (t : Bool) → (device_of noted.call == dev) ≡ t → cond t (sees test s noted.call) s ≡ seen.Failed → Rose base (caused.0 dev)
    go false is shows = rose_from base base (f dev) (caused.0 dev) (omega arith) (was shows) (one.counts dev)
    go true is shows = elim (shows_failed test s noted.call shows) as (λ _. Rose base (caused.0 dev)) [
      | inl same ↦ rose_from base base (f dev) (caused.0 dev) (omega arith) (was same) (one.counts dev)
      | inr (fault, failed) ↦ rose_from base (f dev) (caused.0 dev) (caused.0 dev) le
          (subst (λ d. Rose (f d) (caused.0 d)) (same_number (device_of noted.call) dev is) (one.cause fault failed)) (omega arith)
    ]
