-- Devices by their names.
use Rattle.std.proofs.Common.{◌+◌, [], ◌∷◌, not, ◌≡◌, ℕ, ◌<◌, ◌≤◌, Bool, true, false, cond, ltb, List, length, get_or, Option, Some, None, refl, sym, ap, ◌∙◌, arith, subst, ⊎_elim}
use Rattle.std.specs.Prelude.{slice_get, position, Contains, IfSome, IfNone}
use Rattle.std.specs.List.{position_or_len}
use Rattle.std.specs.Option.{option_map}
use Rattle.std.specs.Str.{bytes_eq}
use Rattle.std.proofs.lemmas.List.{length-map}
use Rattle.std.proofs.lemmas.List.Quantifiers.{position-Some}
use Rattle.std.proofs.lemmas.List.Sums.{fails_before_first}
use Rattle.std.proofs.lemmas.Option.{slice_get_cases, slice_get_past, slice_get-map, get_or_from_slice_get, same_Some, none-some, cond_some}
use Rattle.std.proofs.lemmas.Slice.Eq.{bytes_eq-Decides}
use Rattle.std.proofs.lemmas.Bool.{cases_lt, false≢true}
use Rattle.std.proofs.lemmas.Bool.Decides.{nat_tests}
use Rattle.bank_core.specs.Absent.{IsAbsent}
use Rattle.bank_core.specs.declared.device.MemDevice.{MemDevice}
use Rattle.bank_core.specs.Memory.{number_in, names_in, size_in, sectors_of}

-- there is a device at this place, or the list ends before it
at_place : (devices : List MemDevice) (i : ℕ) → i < length devices → (device : MemDevice) × (slice_get devices i ≡ Some device) × (get_or devices i device ≡ device)
at_place devices i lt = ⊎_elim {A = (x : MemDevice) × (i < length devices) × (slice_get devices i ≡ Some x) × (get_or devices i x ≡ x)}
    {B = (length devices ≤ i) × (slice_get devices i ≡ None)}
    (λ here. (here.0, here.2, here.3)) (λ past. absurd (omega (arith, past.0))) (slice_get_cases devices i).1

lower_by_test : (m n i : ℕ) → ltb m n ≡ true → m ≡ i → i < n
lower_by_test m n i test e = grind (arith, nat_tests)

not_lower : (m n : ℕ) → ltb m n ≡ false → n ≤ m
not_lower m n test = grind (arith, nat_tests)

position_low : {X : Type 0} (p : X → Bool) (xs : List X) (i : ℕ) → position p xs ≡ Some i → i < length xs
position_low p xs i e =
    let both = cond_some (ltb (position_or_len p xs) (length xs)) (position_or_len p xs) i e in
    lower_by_test (position_or_len p xs) (length xs) i both.0 both.1

-- the number of a name is the place of a device that has it
pub number_at : (devices : List MemDevice) (name : List ℕ) (d : ℕ) → number_in devices name ≡ Some d
    → (device : MemDevice) × (slice_get devices d ≡ Some device) × (device.name ≡ name)
number_at devices name d e =
    let here : (device : MemDevice) × (slice_get devices d ≡ Some device) × (get_or devices d device ≡ device) = at_place devices d (position_low _ devices d e) in
    let tells = (position-Some (λ device. bytes_eq device.name name) devices d here.0 e).1 in
    (here.0, here.1, (bytes_eq-Decides here.0.name name).0 (subst (λ device. bytes_eq device.name name ≡ true) here.2 tells))

same_device : (o : Option MemDevice) (one other : MemDevice) → o ≡ Some one → o ≡ Some other → one ≡ other
same_device o one other a b = cc

pub one_name : (devices : List MemDevice) (one other : List ℕ) (d : ℕ) → number_in devices one ≡ Some d → number_in devices other ≡ Some d → one ≡ other
one_name devices one other d a b =
    let first = number_at devices one d a in
    let second = number_at devices other d b in
    sym first.2 ∙ ap (λ device. device.name) (same_device (slice_get devices d) first.0 second.0 first.1 second.1) ∙ second.2

-- each device has a sector
number_has : (devices : List MemDevice) (name : List ℕ) (d : ℕ) → number_in devices name ≡ Some d → 0 < size_in devices d
number_has devices name d e =
    let found = number_at devices name d e in
    subst (λ o. 0 < sectors_of o) (sym found.1) found.0.some

pub found_has : (devices : List MemDevice) (name : List ℕ) (found : Option ℕ) → found ≡ number_in devices name → IfSome found (λ dev. 0 < size_in devices dev)
found_has devices name None e = tt
found_has devices name (Some d) e = number_has devices name d (sym e)

no_place : (test : Bool) (n : ℕ) → None ≡ cond test (Some n) None → test ≡ false
no_place true n e = absurd (none-some n e)
no_place false n e = refl

name_there : (devices : List MemDevice) (k : ℕ) (device : MemDevice) (name : List ℕ) → slice_get devices k ≡ Some device → get_or (names_in devices) k name ≡ device.name
name_there devices k device name is =
    get_or_from_slice_get (names_in devices) k device.name name (slice_get-map (λ x. x.name) devices k ∙ ap (option_map (λ x. x.name)) is)

-- what isn't found is no name
not_named : (devices : List MemDevice) (name : List ℕ) → None ≡ number_in devices name → ¬ (Contains (names_in devices) name)
not_named devices name e has =
    let test : MemDevice → Bool = λ device. bytes_eq device.name name in
    let past : length devices ≤ position_or_len test devices = not_lower (position_or_len test devices) (length devices) (no_place _ (position_or_len test devices) e) in
    let lt : has.0 < length devices = subst (λ n. has.0 < n) (length-map devices (λ device. device.name)) has.1 in
    let here = at_place devices has.0 lt in
    let same : here.0.name ≡ name = sym (name_there devices has.0 here.0 name here.1) ∙ has.2 in
    let fails : bytes_eq here.0.name name ≡ false =
    subst (λ device. bytes_eq device.name name ≡ false) here.2 (fails_before_first test devices has.0 here.0 (omega arith)) in
    false≢true (sym fails ∙ (bytes_eq-Decides here.0.name name).1 same)

pub absent_is : (devices : List MemDevice) (name : List ℕ) (found : Option ℕ) → found ≡ number_in devices name
    → IfNone found (IsAbsent (Some (names_in devices)) name)
absent_is devices name None e = record { by = λ all is. subst (λ names. ¬ (Contains names name)) (same_Some (names_in devices) all is) (not_named devices name e) }
absent_is devices name (Some d) e = tt

size_past : (devices : List MemDevice) (d : ℕ) → length devices ≤ d → size_in devices d ≡ 0
size_past devices d past = ap sectors_of (slice_get_past devices d past)

pub has_place : (devices : List MemDevice) (d : ℕ) → 0 < size_in devices d → d < length devices
has_place devices d has = ⊎_elim {A = d < length devices} {B = length devices ≤ d} (λ lt. lt) (λ past. absurd (omega (arith, size_past devices d past))) (cases_lt d (length devices))

-- Numbers are places in the list of names.
place_by_name : (name : List ℕ) (devices : List MemDevice)
    → position_or_len (λ device. bytes_eq device.name name) devices ≡ position_or_len (λ other. bytes_eq other name) (names_in devices)
place_by_name name [] = refl
place_by_name name (device ∷ devices) = ap (λ n. cond (not (bytes_eq device.name name)) (1 + n) 0) (place_by_name name devices)

number_by_names : (devices : List MemDevice) (name : List ℕ) → number_in devices name ≡ position (λ other. bytes_eq other name) (names_in devices)
number_by_names devices name =
    ap (λ n. cond (ltb n (length devices)) (Some n) None) (place_by_name name devices)
    ∙ ap (λ m. cond (ltb (position_or_len (λ other. bytes_eq other name) (names_in devices)) m) (Some (position_or_len (λ other. bytes_eq other name) (names_in devices))) None)
    (sym (length-map devices (λ device. device.name)))

pub same_numbers : (one other : List MemDevice) (name : List ℕ) → names_in one ≡ names_in other → number_in one name ≡ number_in other name
same_numbers one other name e = number_by_names one name ∙ ap (position (λ x. bytes_eq x name)) e ∙ sym (number_by_names other name)
