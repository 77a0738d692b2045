-- The places of names, and the numbers of devices.
use Rattle.std.proofs.Common.{◌+◌, ◌++◌, [], ◌∷◌, not, ◌≡◌, ◌≢◌, ℕ, ◌<◌, ◌≤◌, Bool, true, false, cond, eqb, List, length, Option, Some, None, refl, sym, ap, ◌∙◌, arith, subst}
use Rattle.std.specs.Prelude.{nat_lt, slice_index}
use Rattle.std.specs.List.{position_or_len}
use Rattle.std.specs.Str.{bytes_eq}
use Rattle.std.proofs.lemmas.List.Folds.{position_or_len_push}
use Rattle.std.proofs.lemmas.List.Sums.{prefix_len-le-length}
use Rattle.std.proofs.lemmas.Grind.{common_steps}
use Rattle.std.proofs.lemmas.List.Quantifiers.{position-Some}
use Rattle.std.proofs.lemmas.Option.{cond_some, none-some}
use Rattle.std.proofs.lemmas.Slice.Eq.{bytes_eq-Decides}
use Rattle.std.proofs.lemmas.Bool.Decides.{nat_tests}
use Rattle.bank_files.specs.Asked.{place_in, if_sized, number_in}

-- one place has one name
one_name : (asked : List (List ℕ)) (one other : List ℕ) (d : ℕ) → place_in asked one ≡ Some d → place_in asked other ≡ Some d → one ≡ other
one_name asked one other d a b =
    let first = (position-Some (λ x. bytes_eq x one) asked d [] a).1 in
    let second = (position-Some (λ x. bytes_eq x other) asked d [] b).1 in
    sym ((bytes_eq-Decides _ one).0 first) ∙ (bytes_eq-Decides _ other).0 second

some_there : (n : ℕ) → nat_lt 0 n ≡ true → 0 < n
some_there n test = grind (arith, nat_tests)

test_there : (n : ℕ) → 0 < n → nat_lt 0 n ≡ true
test_there n some = grind (arith, nat_tests)

-- a number is the place of a device that has a sector
sized_place : (sizes : List ℕ) (place : Option ℕ) (d : ℕ) → if_sized sizes place ≡ Some d → (place ≡ Some d) × (0 < slice_index sizes d)
sized_place sizes None d e = absurd (none-some d e)
sized_place sizes (Some place) d e =
    let both = cond_some (nat_lt 0 (slice_index sizes place)) place d e in
    (ap Some both.1, subst (λ i. 0 < slice_index sizes i) both.1 (some_there _ both.0))

place_sized : (sizes : List ℕ) (place : Option ℕ) (d : ℕ) → place ≡ Some d → 0 < slice_index sizes d → if_sized sizes place ≡ Some d
place_sized sizes place d e some = ap (if_sized sizes) e ∙ ap (λ test. cond test (Some d) None) (test_there _ some)

pub one_number : (asked : List (List ℕ)) (sizes : List ℕ) (one other : List ℕ) (d : ℕ)
    → number_in asked sizes one ≡ Some d → number_in asked sizes other ≡ Some d → one ≡ other
one_number asked sizes one other d a b =
    one_name asked one other d (sized_place sizes (place_in asked one) d a).0 (sized_place sizes (place_in asked other) d b).0

-- numbers stay where places and sizes do
pub number_stays : (asked asked' : List (List ℕ)) (sizes sizes' : List ℕ)
    → ((other : List ℕ) (place : ℕ) → place_in asked other ≡ Some place → place_in asked' other ≡ Some place)
    → ((d : ℕ) → 0 < slice_index sizes d → slice_index sizes' d ≡ slice_index sizes d)
    → (other : List ℕ) (d : ℕ) → number_in asked sizes other ≡ Some d → number_in asked' sizes' other ≡ Some d
number_stays asked asked' sizes sizes' stays same other d e =
    let is = sized_place sizes (place_in asked other) d e in
    place_sized sizes' (place_in asked' other) d (stays other d is.0) (subst (λ n. 0 < n) (sym (same d is.1)) is.1)

no_place : (test : Bool) (n : ℕ) → None ≡ cond test (Some n) None → test ≡ false
no_place true n e = absurd (none-some n e)
no_place false n e = refl

placed_last : (m n k : ℕ) (test : Bool) → m ≤ n → nat_lt m n ≡ false → test ≡ true → k ≡ n + 1
    → Some n ≡ cond (nat_lt (cond (eqb m n) (n + cond test 0 1) m) k) (Some (cond (eqb m n) (n + cond test 0 1) m)) None
placed_last m n k test most past is len = grind (arith, nat_tests)

-- a name that has no place gets the last one
pub placed : (asked asked' : List (List ℕ)) (name copied : List ℕ) (n : ℕ) → None ≡ place_in asked name → copied ≡ name
    → asked' ≡ asked ++ copied ∷ [] → n ≡ length asked → Some n ≡ place_in asked' name
placed asked asked' name copied n none same is count =
    let test : List ℕ → Bool = λ other. bytes_eq other name in
    ap Some count
    ∙ placed_last (position_or_len test asked) (length asked) (length (asked ++ copied ∷ [])) (test copied)
    (prefix_len-le-length (λ x. not (test x)) asked) (no_place _ (position_or_len test asked) none)
    ((bytes_eq-Decides copied name).1 same) (grind (arith, common_steps))
    ∙ ap (λ m. cond (nat_lt m (length (asked ++ copied ∷ []))) (Some m) None) (sym (position_or_len_push test asked copied))
    ∙ ap (λ names. place_in names name) (sym is)

-- where there is a sector is another place than where there is none
pub other_place : (sizes sizes' : List ℕ) (d place : ℕ) → sizes' ≡ sizes → 0 < slice_index sizes d → slice_index sizes' place ≤ 0 → d ≢ place
other_place sizes sizes' d place same some none = λ is.
    omega (arith, subst (λ i. 0 < slice_index sizes i) is some, subst (λ list. slice_index list place ≤ 0) same none)
