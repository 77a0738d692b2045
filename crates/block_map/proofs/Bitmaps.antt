-- What one word's change does to a bitmap.
use Rattle.std.proofs.Common.{◌≡◌, ◌≢◌, ℕ, ◌+◌, ◌*◌, ◌/◌, ◌%◌, ◌^◌, ◌<◌, ◌≤◌, true, false, not, eqb, ltb, List, length, get_or, set, replicate, refl, sym, ap, ◌∙◌, ⊎_elim, arith, get_or-set_same, get_or-set_other}
use Rattle.std.proofs.lemmas.List.{get_or_read, get_or_past, get_or-replicate, length-replicate}
use Rattle.std.proofs.lemmas.Bool.{cases_eq, cases_lt, eq-eqb, lt-ltb, ltb-true, ne_eqb}
use Rattle.std.proofs.lemmas.Nat.Bits.{shr_and_one, bit_at_set_same, bit_at_set_other, bit_at_clear_same, bit_at_clear_other, bit_at-trailing_zeros, bit_at-zero}
use Rattle.std.specs.Int.{bit_at, bit_not, trailing_zeros, w64}
use Rattle.std.specs.Int.Bits.{bit_or}
use lib.Bits.{bit_and}
use Rattle.block_map.specs.Bits.{holds, holds_some, IsLeastIn, IsLeastWord}

-- the test that a word's bit is 1
pub bit_is : (words : List ℕ) (at x : ℕ) → x ≡ get_or words (at / 64) x → at < 64 * length words
    → eqb (bit_and (x / 2 ^ (at % 64)) 1) 1 ≡ holds words at
unfolding holds
bit_is words at x is inside =
    ap (λ n. eqb n 1) (shr_and_one x (at % 64) ∙ ap (λ n. bit_at n (at % 64)) (get_or_read words (at / 64) x (omega arith) is 0))

pub word_is : (words : List ℕ) (w x : ℕ) → x ≡ get_or words w x → w < length words → get_or words w 0 ≡ x
word_is words w x is inside = sym (get_or_read words w x inside is 0)

pub holds_set : (words : List ℕ) (at x : ℕ) → at < 64 * length words
    → holds (set words (at / 64) (bit_or x (1 * 2 ^ (at % 64) % 2 ^ 64))) at ≡ true
unfolding holds
holds_set words at x inside =
    let lt : at / 64 < length words = omega arith in
    rw (get_or-set_same words (at / 64) _ 0 lt) (eq-eqb _ 1 (bit_at_set_same w64 x (at % 64) (omega arith)))

pub holds_set_other : (words : List ℕ) (at x : ℕ) → x ≡ get_or words (at / 64) x → at < 64 * length words → (i : ℕ) → i ≢ at
    → holds (set words (at / 64) (bit_or x (1 * 2 ^ (at % 64) % 2 ^ 64))) i ≡ holds words i
unfolding holds
holds_set_other words at x is inside i differs =
    let lt : at / 64 < length words = omega arith in
    let y : ℕ = bit_or x (1 * 2 ^ (at % 64) % 2 ^ 64) in
    ⊎_elim (λ same.
    let apart : i % 64 ≢ at % 64 = omega arith in
    let now : get_or (set words (at / 64) y) (i / 64) 0 ≡ y = ap (λ w. get_or (set words (at / 64) y) w 0) same ∙ get_or-set_same words (at / 64) y 0 lt in
    let before : x ≡ get_or words (i / 64) 0 = get_or_read words (at / 64) x lt is 0 ∙ ap (λ w. get_or words w 0) (sym same) in
    ap (λ n. eqb (bit_at n (i % 64)) 1) now ∙ ap (λ n. eqb n 1) (bit_at_set_other w64 x (at % 64) (omega arith) (i % 64) apart) ∙ ap (λ n. eqb (bit_at n (i % 64)) 1) before)
    (λ other. ap (λ n. eqb (bit_at n (i % 64)) 1) (get_or-set_other words (at / 64) (i / 64) y 0 other))
    (cases_eq (i / 64) (at / 64))

pub holds_cleared : (words : List ℕ) (at x : ℕ) → at < 64 * length words
    → holds (set words (at / 64) (bit_and x (bit_not w64 (1 * 2 ^ (at % 64) % 2 ^ 64)))) at ≡ false
unfolding holds
holds_cleared words at x inside =
    let lt : at / 64 < length words = omega arith in
    rw (get_or-set_same words (at / 64) _ 0 lt) (ap (λ n. eqb n 1) (bit_at_clear_same w64 x (at % 64) (omega arith)))

pub holds_cleared_other : (words : List ℕ) (at x : ℕ) → x ≡ get_or words (at / 64) x → at < 64 * length words → (i : ℕ) → i ≢ at
    → holds (set words (at / 64) (bit_and x (bit_not w64 (1 * 2 ^ (at % 64) % 2 ^ 64)))) i ≡ holds words i
unfolding holds
holds_cleared_other words at x is inside i differs =
    let lt : at / 64 < length words = omega arith in
    let y : ℕ = bit_and x (bit_not w64 (1 * 2 ^ (at % 64) % 2 ^ 64)) in
    ⊎_elim (λ same.
    let apart : i % 64 ≢ at % 64 = omega arith in
    let now : get_or (set words (at / 64) y) (i / 64) 0 ≡ y = ap (λ w. get_or (set words (at / 64) y) w 0) same ∙ get_or-set_same words (at / 64) y 0 lt in
    let before : x ≡ get_or words (i / 64) 0 = get_or_read words (at / 64) x lt is 0 ∙ ap (λ w. get_or words w 0) (sym same) in
    ap (λ n. eqb (bit_at n (i % 64)) 1) now ∙ ap (λ n. eqb n 1) (bit_at_clear_other w64 x (at % 64) (omega arith) (i % 64) (omega arith) apart) ∙ ap (λ n. eqb (bit_at n (i % 64)) 1) before)
    (λ other. ap (λ n. eqb (bit_at n (i % 64)) 1) (get_or-set_other words (at / 64) (i / 64) y 0 other))
    (cases_eq (i / 64) (at / 64))

-- no word, no number
pub holds_none : (words : List ℕ) (at : ℕ) → get_or words (at / 64) 0 ≡ 0 → holds words at ≡ false
unfolding holds
holds_none words at none = ap (λ n. eqb (bit_at n (at % 64)) 1) none ∙ ap (λ n. eqb n 1) (bit_at-zero (at % 64))

-- a number's word has some
pub some_of : (words : List ℕ) (at : ℕ) → holds words at ≡ true → holds_some words (at / 64) ≡ true
unfolding holds_some
some_of words at there =
    ⊎_elim (λ none. absurd (let no = holds_none words at none in cc))
    (λ some. lt-ltb 0 _ (let some' : get_or words (at / 64) 0 ≢ 0 = some in omega arith))
    (cases_eq (get_or words (at / 64) 0) 0)

pub least_in_word : (words : List ℕ) (w x : ℕ) → x ≡ get_or words w x → w < length words → x < 2 ^ 64 → holds_some words w ≡ true
    → IsLeastIn words w (64 * w + trailing_zeros w64 x)
unfolding holds holds_some
least_in_word words w x is inside fits some =
    let word : get_or words w 0 ≡ x = word_is words w x is inside in
    let above : 0 < x = rw word at (ltb-true 0 _ some) in
    let (below, one, zeros) = bit_at-trailing_zeros w64 x above fits in
    let t = trailing_zeros w64 x in
    let lt : t < 64 = below in
    let at_word : (64 * w + t) / 64 ≡ w = omega arith in
    let at_bit : (64 * w + t) % 64 ≡ t = omega arith in
    record {
      word = at_word;
      there = rw (at_word, at_bit, word) (eq-eqb _ 1 one);
      least = λ i from before.
          let i_word : i / 64 ≡ w = omega arith in
          let i_bit : i % 64 < t = omega arith in
          rw (i_word, word) (ap (λ n. eqb n 1) (zeros (i % 64) i_bit));
    }

-- the test that a word isn't 0
pub some_is : (words : List ℕ) (w x : ℕ) → x ≡ get_or words w x → w < length words → not (eqb x 0) ≡ holds_some words w
unfolding holds_some
some_is words w x is inside =
    rw (word_is words w x is inside)
    (⊎_elim (λ none. rw none refl)
    (λ some. let some' : x ≢ 0 = some in ap not (ne_eqb x 0 some) ∙ sym (lt-ltb 0 x (omega arith)))
    (cases_eq x 0))

pub least_word_from : (words : List ℕ) (from w : ℕ) → w < length words → from ≤ w → holds_some words w ≡ true
    → ((v : ℕ) → from ≤ v → v < w → holds_some words v ≡ false) → IsLeastWord words from w
least_word_from words from w a b c d = record { inside = a; behind = b; some = c; first = d }

pub no_word_past : (words : List ℕ) (w : ℕ) → length words ≤ w → holds_some words w ≡ false
unfolding holds_some
no_word_past words w past = ap (λ n. ltb 0 n) (get_or_past words w 0 past)

pub no_word_upto : (words : List ℕ) (from n : ℕ) → length words ≤ n → ((w : ℕ) → from ≤ w → w < n → holds_some words w ≡ false)
    → (w : ℕ) → from ≤ w → holds_some words w ≡ false
no_word_upto words from n past below w behind =
    ⊎_elim (λ lt. below w behind lt) (λ ge. no_word_past words w (omega arith)) (cases_lt w n)

pub zero_of_zeros : (words : List ℕ) (n w : ℕ) → words ≡ replicate n 0 → get_or words w 0 ≡ 0
zero_of_zeros words n w is =
    ⊎_elim (λ lt. ap (λ l. get_or l w 0) is ∙ get_or-replicate n w 0 0 lt)
    (λ ge. get_or_past words w 0 (omega (arith, ap length is, length-replicate {A = ℕ} n 0)))
    (cases_lt w n)
