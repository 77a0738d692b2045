-- A device added behind the others.
use mathlib.Core.Path.{fun_ext}
use Rattle.std.proofs.Common.{◌≡◌, ℕ, zero, suc, ◌<◌, ◌≤◌, ◌==◌, true, false, cond, List, [], ◌∷◌, ◌++◌, length, Some, None, refl, sym, ap, ◌∙◌, arith, subst, ⊎_elim}
use Rattle.std.specs.Prelude.{slice_get}
use Rattle.std.proofs.lemmas.Bool.{cases_lt}
use Rattle.std.proofs.lemmas.Bool.Decides.{nat_tests}
use Rattle.std.proofs.lemmas.List.{length_push}
use Rattle.std.proofs.lemmas.Option.{slice_get_past}
use Rattle.bank_core.specs.declared.device.MemDevice.{MemDevice}
use Rattle.bank_core.specs.Memory.{first_sector, first_sectors, image_sector, with_device}

pub get_front : {X : Type 0} (xs : List X) (y : X) (i : ℕ) → i < length xs → slice_get (xs ++ y ∷ []) i ≡ slice_get xs i
get_front [] y i lt = absurd (omega arith)
get_front (x ∷ xs) y zero lt = refl
get_front (x ∷ xs) y (suc i) lt = get_front xs y i (omega arith)

pub get_last : {X : Type 0} (xs : List X) (y : X) → slice_get (xs ++ y ∷ []) (length xs) ≡ Some y
get_last [] y = refl
get_last (x ∷ xs) y = get_last xs y

get_past : {X : Type 0} (xs : List X) (y : X) (i : ℕ) → length xs < i → slice_get (xs ++ y ∷ []) i ≡ None
get_past xs y i lt = slice_get_past (xs ++ y ∷ []) i (omega (arith, length_push xs y))

lower_differs : (m n : ℕ) → m < n → (m == n) ≡ false
lower_differs m n lt = grind (arith, nat_tests)

higher_differs : (m n : ℕ) → n < m → (m == n) ≡ false
higher_differs m n lt = grind (arith, nat_tests)

alike : (n : ℕ) → (n == n) ≡ true
alike n = grind (arith, nat_tests)

AddedAt : List MemDevice → MemDevice → ℕ → ℕ → Type 0
AddedAt devices x d s = first_sector (slice_get (devices ++ x ∷ []) d) d s
    ≡ cond (d == length devices) (image_sector x.sectors x.first.items x.damage.items (length devices) s) (first_sector (slice_get devices d) d s)

added_below : (devices : List MemDevice) (x : MemDevice) (d s : ℕ) → d < length devices → AddedAt devices x d s
unfolding AddedAt
added_below devices x d s lt = rw (lower_differs d (length devices) lt) (ap (λ o. first_sector o d s) (get_front devices x d lt))

added_above : (devices : List MemDevice) (x : MemDevice) (d s : ℕ) → length devices < d → AddedAt devices x d s
unfolding AddedAt
added_above devices x d s lt =
    let none : slice_get devices d ≡ None = slice_get_past devices d (omega arith) in
    rw (higher_differs d (length devices) lt) (ap (λ o. first_sector o d s) (get_past devices x d lt ∙ sym none))

added_there : (devices : List MemDevice) (x : MemDevice) (s : ℕ) → AddedAt devices x (length devices) s
unfolding AddedAt
added_there devices x s = rw (alike (length devices)) (ap (λ o. first_sector o (length devices) s) (get_last devices x))

added_from : (devices : List MemDevice) (x : MemDevice) (d s : ℕ) → length devices ≤ d → AddedAt devices x d s
added_from devices x d s le =
    ⊎_elim {A = length devices < d} {B = d ≤ length devices}
    (added_above devices x d s)
    (λ low. let same : length devices ≡ d = omega arith in subst (λ n. AddedAt devices x n s) same (added_there devices x s))
    (cases_lt (length devices) d)

added_at : (devices : List MemDevice) (x : MemDevice) (d s : ℕ) → AddedAt devices x d s
added_at devices x d s =
    ⊎_elim {A = d < length devices} {B = length devices ≤ d} (added_below devices x d s) (added_from devices x d s) (cases_lt d (length devices))

-- the first sectors, with those of the new device
pub added_sectors : (devices : List MemDevice) (x : MemDevice)
    → first_sectors (devices ++ x ∷ [])
    ≡ with_device (first_sectors devices) (length devices) (λ s. image_sector x.sectors x.first.items x.damage.items (length devices) s)
unfolding AddedAt
added_sectors devices x = fun_ext (λ d. fun_ext (λ s. added_at devices x d s))
