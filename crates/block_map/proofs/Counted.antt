-- How many numbers pass a test, and what a change of one number does to it and to a set.
use Rattle.std.proofs.Common.{◌≡◌, ◌≢◌, ℕ, suc, zero, ◌+◌, ◌-◌, ◌*◌, ◌/◌, ◌^◌, ◌<◌, ◌≤◌, Bool, true, false, ltb, List, length, get_or, min, refl, sym, ap, ◌∙◌, ⊎_elim, arith}
use Rattle.std.proofs.lemmas.Bool.{cases_eq, cases_lt, cases_Bool, both_ways}
use Rattle.block_map.specs.Bits.{holds, holds_some, IsLeastIn, IsLeastWord}
use Rattle.block_map.specs.NumberSet.{count_below, AreCounted, IsLeast}
use Rattle.block_map.proofs.Bitmaps.{some_of, no_word_past}

pub count_same : (f g : ℕ → Bool) (n : ℕ) → ((i : ℕ) → i < n → g i ≡ f i) → count_below g n ≡ count_below f n
count_same f g zero same = refl
count_same f g (suc n) same =
    let rest : count_below g n ≡ count_below f n = count_same f g n (λ i lt. same i (omega arith)) in
    let here : g n ≡ f n = same n (omega arith) in
    rw (rest, here) refl

pub count_none : (f : ℕ → Bool) (n : ℕ) → ((i : ℕ) → i < n → f i ≡ false) → count_below f n ≡ 0
count_none f zero none = refl
count_none f (suc n) none =
    let rest : count_below f n ≡ 0 = count_none f n (λ i lt. none i (omega arith)) in
    let here : f n ≡ false = none n (omega arith) in
    rw (rest, here) refl

pub count_le : (f : ℕ → Bool) (n : ℕ) → count_below f n ≤ n
count_le f zero = omega arith
count_le f (suc n) =
    let rest = count_le f n in
    ⊎_elim (λ t. rw t (omega arith)) (λ t. rw t (omega arith)) (cases_Bool (f n))

pub count_more : (f g : ℕ → Bool) (n p : ℕ) → p < n → f p ≡ false → g p ≡ true → ((i : ℕ) → i ≢ p → g i ≡ f i)
    → count_below g n ≡ count_below f n + 1
count_more f g zero p lt absent there others = absurd (omega arith)
count_more f g (suc n) p lt absent there others =
    ⊎_elim (λ same.
    let rest : count_below g n ≡ count_below f n = count_same f g n (λ i less. others i (omega arith)) in
    let g_here : g n ≡ true = ap g same ∙ there in
    let f_here : f n ≡ false = ap f same ∙ absent in
    rw (rest, g_here, f_here) (omega arith))
    (λ other.
    let rest : count_below g n ≡ count_below f n + 1 = count_more f g n p (let other' : n ≢ p = other in omega arith) absent there others in
    let here : g n ≡ f n = others n other in
    rw (rest, here) (omega arith))
    (cases_eq n p)

pub count_some : (f : ℕ → Bool) (n p : ℕ) → p < n → f p ≡ true → 1 ≤ count_below f n
count_some f zero p lt there = absurd (omega arith)
count_some f (suc n) p lt there =
    ⊎_elim (λ same. let here : f n ≡ true = ap f same ∙ there in rw here (omega arith))
    (λ other.
    let rest = count_some f n p (let other' : n ≢ p = other in omega arith) there in
    ⊎_elim (λ t. rw t (omega arith)) (λ t. rw t (omega arith)) (cases_Bool (f n)))
    (cases_eq n p)

-- no word, no number
pub none_of : (words : List ℕ) (at : ℕ) → holds_some words (at / 64) ≡ false → holds words at ≡ false
none_of words at none =
    ⊎_elim (λ t. absurd (both_ways _ none (some_of words at t))) (λ t. t) (cases_Bool (holds words at))

module _ (members members' words words' : List ℕ) (low count at : ℕ) (kept : AreCounted members words low count)
    (others : (i : ℕ) → i ≢ at → holds members' i ≡ holds members i) (same_words : (w : ℕ) → w ≢ at / 64 → get_or members' w 0 ≡ get_or members w 0)
    (size : length members' ≡ length members) (word_others : (w : ℕ) → w ≢ at / 64 → holds words' w ≡ holds words w) (word_size : length words' ≡ length words)
    (inside : at < 64 * length members) where
  same_some : (w : ℕ) → w ≢ at / 64 → holds_some members' w ≡ holds_some members w
  unfolding holds_some
  same_some w other = ap (λ n. ltb 0 n) (same_words w other)

  some_there : holds words' (at / 64) ≡ holds_some members' (at / 64) → (w : ℕ) → holds words' w ≡ holds_some members' w
  some_there here w =
      ⊎_elim (λ same. rw same here) (λ other. word_others w other ∙ kept.some w ∙ sym (same_some w other)) (cases_eq w (at / 64))

  pub counted_more : holds members at ≡ false → holds members' at ≡ true → holds words' (at / 64) ≡ true
      → AreCounted members' words' (min low (at / 4096)) (count + 1)
  counted_more absent there word = record {
    some = some_there (word ∙ sym (some_of members' at there));
    none_below = λ w below. word_others w (omega arith) ∙ kept.none_below w (omega arith);
    counted = rw (size, kept.counted) (sym (count_more (holds members) (holds members') (64 * length members) at inside absent there others));
    room = rw (size, word_size) kept.room;
    small = rw size kept.small;
    small_words = rw word_size kept.small_words;
  }

  pub counted_less : holds members at ≡ true → holds members' at ≡ false → holds words' (at / 64) ≡ holds_some members' (at / 64)
      → AreCounted members' words' low (count - 1)
  counted_less there gone word =
      let one : count_below (holds members) (64 * length members) ≡ count_below (holds members') (64 * length members) + 1 =
      count_more (holds members') (holds members) (64 * length members) at inside gone there (λ i other. sym (others i other)) in
      let had : holds words (at / 64) ≡ true = kept.some (at / 64) ∙ some_of members at there in
      record {
        some = some_there word;
        none_below = λ w below.
            word_others w (λ same. both_ways _ (kept.none_below w below) (rw same had)) ∙ kept.none_below w below;
        counted = rw size (omega (arith, one, kept.counted));
        room = rw (size, word_size) kept.room;
        small = rw size kept.small;
        small_words = rw word_size kept.small_words;
      }

module _ (members words : List ℕ) (low count : ℕ) (kept : AreCounted members words low count) where
  pub count_fits : count ≤ 2 ^ 46
  count_fits = let most = count_le (holds members) (64 * length members) in omega (arith, most, kept.counted, kept.small)

  pub count_there : (at : ℕ) → at < 64 * length members → holds members at ≡ true → 1 ≤ count
  count_there at inside there = rw kept.counted (count_some (holds members) (64 * length members) at inside there)

  pub word_there : (w : ℕ) → holds words w ≡ true → holds_some members w ≡ true
  word_there w there = sym (kept.some w) ∙ there

  pub inside_there : (w : ℕ) → holds words w ≡ true → w < length members
  inside_there w there =
      ⊎_elim (λ lt. lt) (λ ge. absurd (both_ways _ (no_word_past members w ge) (word_there w there))) (cases_lt w (length members))

  -- what holds once the first word of words is found
  none_upto : (found : ℕ) → IsLeastWord words low found → (w : ℕ) → w < 64 * found → holds words w ≡ false
  none_upto found first w below =
      ⊎_elim (λ lt. kept.none_below w lt) (λ ge. none_of words w (first.first (w / 64) (omega arith) (omega arith))) (cases_lt w (64 * low))

  pub counted_from : (found : ℕ) → IsLeastWord words low found → AreCounted members words found count
  counted_from found first = record {
    some = kept.some;
    none_below = none_upto found first;
    counted = kept.counted;
    room = kept.room;
    small = kept.small;
    small_words = kept.small_words;
  }

  pub least_found : (found word at : ℕ) → IsLeastWord words low found → IsLeastIn words found word → IsLeastIn members word at → IsLeast (holds members) at
  least_found found word at first in_words in_word = record {
    passes = in_word.there;
    least = λ i before.
        ⊎_elim (λ lt. none_of members i (sym (kept.some (i / 64)) ∙
        ⊎_elim (λ below. none_upto found first (i / 64) below) (λ from. in_words.least (i / 64) from lt) (cases_lt (i / 64) (64 * found))))
        (λ ge. in_word.least i (omega (arith, in_word.word)) before)
        (cases_lt (i / 64) word);
  }

  pub none_there : ((w : ℕ) → low ≤ w → holds_some words w ≡ false) → (at : ℕ) → holds members at ≡ false
  none_there none at =
      none_of members at (sym (kept.some (at / 64)) ∙
      ⊎_elim (λ below. kept.none_below (at / 64) below) (λ from. none_of words (at / 64) (none (at / 64 / 64) (omega arith))) (cases_lt (at / 64) (64 * low)))

  pub zero_there : ((w : ℕ) → low ≤ w → holds_some words w ≡ false) → count ≡ 0
  zero_there none = kept.counted ∙ count_none (holds members) (64 * length members) (λ i lt. none_there none i)
