-- A page's bytes say its pointers.
use Rattle.std.proofs.Common.{◌≡◌, ℕ, suc, zero, ◌+◌, ◌-◌, ◌*◌, ◌%◌, ◌^◌, ◌<◌, ◌≤◌}
use Rattle.std.proofs.Common.{List, [], ◌∷◌, replicate, ◌++◌, length, get_or, take, drop, refl, sym, ap, ◌∙◌, subst, arith, append_assoc, length-append}
use Rattle.std.specs.List.{flat_map, All}
use Rattle.std.specs.Int.{from_be_bytes, w32, w64}
use Rattle.std.proofs.lemmas.List.{take_more, take_at, take_all, length-take-le, length-drop, length-replicate, drop_at, drop-drop, append-nil}
use Rattle.std.proofs.lemmas.List.Concat.{flat_map-append}
use Rattle.std.proofs.lemmas.List.Elements.{All-head, All-tail}
use Rattle.std.proofs.lemmas.List.FromFn.{fill_by_all, length-map-range_with_len, get_or-map-range_with_len}
use Rattle.std.proofs.lemmas.Nat.{from_be_bytes-to_be_bytes_4, from_be_bytes-to_be_bytes_8}
use Rattle.std.proofs.lemmas.Slice.{take-put_mid}
use borrow.Rule.Slice.PartMut.{put_mid}
use Rattle.mp_base.specs.Block.{zeros}
use Rattle.mp_base.specs.declared.place.Pointer.{Pointer}
use Rattle.block_map.specs.Pointers.{hole}
use Rattle.block_map.specs.Pointers.{IsInForm}
use Rattle.block_map.specs.Pages.{be4, be8, pointer_bytes, page_bytes, AreInForm, short_in, long_in, pointer_in, pointers_in}

pub zeros_put : (xs ys : List ℕ) (a n m : ℕ) → ys ≡ replicate m 0 → m ≡ n → a + n ≤ length xs → take (a + n) (put_mid a (a + n - a) xs ys) ≡ take a xs ++ zeros n
unfolding zeros
zeros_put xs ys a n m is e inside =
    let long : length ys ≡ n = ap length is ∙ length-replicate m 0 ∙ e in
    let low : a ≤ length xs = omega arith in
    take-put_mid a (a + n - a) xs ys (a + n) (omega arith) low ∙ ap (λ z. take a xs ++ z) (rw (is, e) refl)

-- one more piece
pub put_next : (front piece out out' : List ℕ) (at n at' : ℕ) → take at out ≡ front → take (at + n) out' ≡ take at out ++ piece → at' ≡ at + n
    → take at' out' ≡ front ++ piece
put_next front piece out out' at n at' e more end = rw end (more ∙ ap (λ s. s ++ piece) e)

pub pointer_put : (front : List ℕ) (p : Pointer) → (((front ++ be8 p.birth.0) ++ be4 p.place.top) ++ be8 p.place.sector) ++ p.sum ≡ front ++ pointer_bytes p
unfolding pointer_bytes
pointer_put front p = simp append_assoc

-- the page is whole
pub page_put : (pointers : List Pointer) (out : List ℕ) (at : ℕ) → at ≡ 4096 → length out ≡ 4096 → take at out ≡ flat_map pointer_bytes pointers ++ zeros 768
    → out ≡ page_bytes pointers
unfolding page_bytes
page_put pointers out at end size is = sym (take_all at out (omega arith)) ∙ is

-- one pointer more is written
pub one_more : (pointers : List Pointer) (i : ℕ) (d : Pointer) (front : List ℕ) → i < length pointers
    → front ≡ flat_map pointer_bytes (take i pointers) → front ++ pointer_bytes (get_or pointers i d) ≡ flat_map pointer_bytes (take (i + 1) pointers)
one_more pointers i d front lt is =
    rw (take_more pointers i d lt, flat_map-append pointer_bytes (take i pointers) (get_or pointers i d ∷ []), ← is)
    (ap (λ l. front ++ l) (sym (append-nil (pointer_bytes (get_or pointers i d)))))

pub length-be4 : (n : ℕ) → length (be4 n) ≡ 4
unfolding be4
length-be4 n = refl

pub length-be8 : (n : ℕ) → length (be8 n) ≡ 8
unfolding be8
length-be8 n = refl

pub length-pointer : (p : Pointer) → length p.sum ≡ 32 → length (pointer_bytes p) ≡ 52
unfolding pointer_bytes
length-pointer p sum =
    omega (
      arith,
      length-append (be8 p.birth.0) (be4 p.place.top ++ (be8 p.place.sector ++ p.sum)),
      length-append (be4 p.place.top) (be8 p.place.sector ++ p.sum),
      length-append (be8 p.place.sector) p.sum,
      length-be8 p.birth.0,
      length-be4 p.place.top,
      length-be8 p.place.sector,
    )

abbrev pub HasSum : Pointer → Type 0
HasSum p = length p.sum ≡ 32

-- the pointers' bytes one behind the other, and what stands behind them
pub rest_of : (pointers : List Pointer) (k : ℕ) (tail : List ℕ) → All HasSum pointers → k < length pointers
    → (rest : List ℕ) × (drop (52 * k) (flat_map pointer_bytes pointers ++ tail) ≡ pointer_bytes (get_or pointers k hole) ++ rest)
rest_of [] k tail each lt = absurd (omega arith)
rest_of (p ∷ ps) zero tail each lt = (flat_map pointer_bytes ps ++ tail, append_assoc (pointer_bytes p) (flat_map pointer_bytes ps) tail)
rest_of (p ∷ ps) (suc k) tail each lt =
    let (rest, is) = rest_of ps k tail (All-tail HasSum p ps each) (omega arith) in
    let size : length (pointer_bytes p) ≡ 52 = length-pointer p (All-head HasSum p ps each) in
    let n : 52 * suc k ≡ 52 + 52 * k = omega arith in
    (rest, rw (n, append_assoc (pointer_bytes p) (flat_map pointer_bytes ps) tail, ← drop-drop (52 * k) 52 (pointer_bytes p ++ (flat_map pointer_bytes ps ++ tail)), drop_at (pointer_bytes p) (flat_map pointer_bytes ps ++ tail) 52 size) is)

piece_at : (front piece back : List ℕ) (n k : ℕ) → length front ≡ n → length piece ≡ k → take k (drop n (front ++ (piece ++ back))) ≡ piece
piece_at front piece back n k e f = ap (take k) (drop_at front (piece ++ back) n e) ∙ take_at piece back k f

same_pointer : (b b' t t' s s' : ℕ) (m m' : List ℕ) → b ≡ b' → t ≡ t' → s ≡ s' → m ≡ m'
    → ◌≡◌ {A = Pointer} (record { birth = record { 0 = b }; place = record { top = t; sector = s }; sum = m })
    (record { birth = record { 0 = b' }; place = record { top = t'; sector = s' }; sum = m' })
same_pointer b b' t t' s s' m m' e f g h = cc

-- the bytes of a pointer's fields
module _ (at : ℕ) (bytes rest : List ℕ) (p : Pointer) (is : drop at bytes ≡ pointer_bytes p ++ rest) where
  parts : drop at bytes ≡ be8 p.birth.0 ++ (be4 p.place.top ++ (be8 p.place.sector ++ (p.sum ++ rest)))
  unfolding pointer_bytes
  parts = is ∙ simp append_assoc

  behind : (n : ℕ) → drop (at + n) bytes ≡ drop n (be8 p.birth.0 ++ (be4 p.place.top ++ (be8 p.place.sector ++ (p.sum ++ rest))))
  behind n = sym (drop-drop n at bytes) ∙ ap (drop n) parts

  birth_there : long_in at bytes ≡ from_be_bytes w64 (be8 p.birth.0)
  unfolding long_in
  birth_there = ap (λ l. from_be_bytes w64 (take 8 l)) parts
      ∙ ap (from_be_bytes w64) (take_at (be8 p.birth.0) (be4 p.place.top ++ (be8 p.place.sector ++ (p.sum ++ rest))) 8 (length-be8 p.birth.0))

  top_there : short_in (at + 8) bytes ≡ from_be_bytes w32 (be4 p.place.top)
  unfolding short_in
  top_there = ap (λ l. from_be_bytes w32 (take 4 l)) (behind 8)
      ∙ ap (from_be_bytes w32) (piece_at (be8 p.birth.0) (be4 p.place.top) (be8 p.place.sector ++ (p.sum ++ rest)) 8 4
      (length-be8 p.birth.0) (length-be4 p.place.top))

  sector_there : long_in (at + 12) bytes ≡ from_be_bytes w64 (be8 p.place.sector)
  unfolding long_in
  sector_there = ap (λ l. from_be_bytes w64 (take 8 l)) (behind 12)
      ∙ ap (λ l. from_be_bytes w64 (take 8 (drop 12 l))) (sym (append_assoc (be8 p.birth.0) (be4 p.place.top) (be8 p.place.sector ++ (p.sum ++ rest))))
      ∙ ap (from_be_bytes w64) (piece_at (be8 p.birth.0 ++ be4 p.place.top) (be8 p.place.sector) (p.sum ++ rest) 12 8
      (omega (arith, length-append (be8 p.birth.0) (be4 p.place.top), length-be8 p.birth.0, length-be4 p.place.top)) (length-be8 p.place.sector))

  front : List ℕ
  front = be8 p.birth.0 ++ be4 p.place.top ++ be8 p.place.sector

  sum_there : length p.sum ≡ 32 → take 32 (drop (at + 20) bytes) ≡ p.sum
  unfolding front
  sum_there sum = ap (take 32) (behind 20)
      ∙ ap (λ l. take 32 (drop 20 l)) (let is : be8 p.birth.0 ++ (be4 p.place.top ++ (be8 p.place.sector ++ (p.sum ++ rest)))
      ≡ front ++ (p.sum ++ rest) = simp append_assoc in is)
      ∙ piece_at front p.sum rest 20 32
      (omega (
        arith,
        length-append (be8 p.birth.0 ++ be4 p.place.top) (be8 p.place.sector),
        length-append (be8 p.birth.0) (be4 p.place.top),
        length-be8 p.birth.0,
        length-be4 p.place.top,
        length-be8 p.place.sector,
      )) sum

-- a pointer's fields are those that were written
module _ (at : ℕ) (bytes rest : List ℕ) (p : Pointer) (form : IsInForm p) (is : drop at bytes ≡ pointer_bytes p ++ rest) where
  birth_is : long_in at bytes ≡ p.birth.0
  unfolding be8
  birth_is = birth_there at bytes rest p is ∙ from_be_bytes-to_be_bytes_8 p.birth.0 form.birth

  top_is : short_in (at + 8) bytes ≡ p.place.top
  unfolding be4
  top_is = top_there at bytes rest p is ∙ from_be_bytes-to_be_bytes_4 p.place.top form.top

  sector_is : long_in (at + 12) bytes ≡ p.place.sector
  unfolding be8
  sector_is = sector_there at bytes rest p is ∙ from_be_bytes-to_be_bytes_8 p.place.sector form.sector

  pub pointer_is : pointer_in at bytes ≡ p
  pointer_is = same_pointer _ _ _ _ _ _ _ _ birth_is top_is sector_is (sum_there at bytes rest p is form.sum)

-- what is read of a page are its pointers
pub read_back : (pointers : List Pointer) → AreInForm pointers → pointers_in (page_bytes pointers) ≡ pointers
unfolding page_bytes
read_back pointers form =
    sym (fill_by_all (λ j. pointer_in (52 * j) (page_bytes pointers)) pointers 64 hole form.count
    (λ j less.
    let (rest, is) = rest_of pointers j (zeros 768) (λ k d inside. (form.each k d inside).sum) (omega (arith, form.count)) in
    sym (pointer_is (52 * j) (page_bytes pointers) rest (get_or pointers j hole) (form.each j hole (omega (arith, form.count))) is)))

-- ---- how long a page is

length-pointers : (pointers : List Pointer) → All HasSum pointers → length (flat_map pointer_bytes pointers) ≡ 52 * length pointers
length-pointers [] each = omega arith
length-pointers (p ∷ ps) each =
    omega (
      arith,
      length-append (pointer_bytes p) (flat_map pointer_bytes ps),
      length-pointer p (All-head HasSum p ps each),
      length-pointers ps (All-tail HasSum p ps each),
    )

pub length-page : (pointers : List Pointer) → AreInForm pointers → length (page_bytes pointers) ≡ 4096
unfolding page_bytes zeros
length-page pointers form =
    omega (
      arith,
      length-append (flat_map pointer_bytes pointers) (zeros 768),
      length-pointers pointers (λ k d inside. (form.each k d inside).sum),
      length-replicate {A = ℕ} 768 0,
      form.count,
    )

-- ---- pointers that spell the bytes which they were read of are in their form

low_byte : (n : ℕ) → n % 256 < 256
low_byte n = omega arith

four_low : (a b c d : ℕ) → a < 256 → b < 256 → c < 256 → d < 256 → a * 16777216 + b * 65536 + c * 256 + d < 2 ^ 32
four_low a b c d a' b' c' d' = omega arith

eight_low : (a b c d e f g h : ℕ) → a < 256 → b < 256 → c < 256 → d < 256 → e < 256 → f < 256 → g < 256 → h < 256
    → a * 72057594037927936 + b * 281474976710656 + c * 1099511627776 + d * 4294967296 + e * 16777216 + f * 65536 + g * 256 + h < 2 ^ 64
eight_low a b c d e f g h a' b' c' d' e' f' g' h' = omega arith

short_low : (n : ℕ) → from_be_bytes w32 (be4 n) < 2 ^ 32
unfolding be4
short_low n = four_low _ _ _ _ (low_byte _) (low_byte _) (low_byte _) (low_byte n)

long_low : (n : ℕ) → from_be_bytes w64 (be8 n) < 2 ^ 64
unfolding be8
long_low n = eight_low _ _ _ _ _ _ _ _ (low_byte _) (low_byte _) (low_byte _) (low_byte _) (low_byte _) (low_byte _) (low_byte _) (low_byte n)

one_in_form : (at : ℕ) (bytes rest : List ℕ) → drop at bytes ≡ pointer_bytes (pointer_in at bytes) ++ rest → HasSum (pointer_in at bytes)
    → IsInForm (pointer_in at bytes)
one_in_form at bytes rest is sum = record {
  birth = subst (λ n. n < 2 ^ 64) (sym (birth_there at bytes rest (pointer_in at bytes) is)) (long_low (long_in at bytes));
  top = subst (λ n. n < 2 ^ 32) (sym (top_there at bytes rest (pointer_in at bytes) is)) (short_low (short_in (at + 8) bytes));
  sector = subst (λ n. n < 2 ^ 64) (sym (sector_there at bytes rest (pointer_in at bytes) is)) (long_low (long_in (at + 12) bytes));
  sum = sum;
}

module _ (bytes : List ℕ) (long : length bytes ≡ 4096) where
  count : length (pointers_in bytes) ≡ 64
  count = length-map-range_with_len (λ j. pointer_in (52 * j) bytes) 0 64

  stands : (k : ℕ) (d : Pointer) → k < length (pointers_in bytes) → get_or (pointers_in bytes) k d ≡ pointer_in (52 * k) bytes
  stands k d inside = get_or-map-range_with_len (λ j. pointer_in (52 * j) bytes) 0 64 k k d (omega (arith, count)) (omega arith)

  has_sum : (k : ℕ) → k < 64 → HasSum (pointer_in (52 * k) bytes)
  has_sum k inside = length-take-le 32 (drop (52 * k + 20) bytes) (omega (arith, length-drop (52 * k + 20) bytes))

  have_sums : All HasSum (pointers_in bytes)
  have_sums k d inside = subst HasSum (sym (stands k d inside)) (has_sum k (omega (arith, count)))

  pub read_in_form : page_bytes (pointers_in bytes) ≡ bytes → AreInForm (pointers_in bytes)
  unfolding page_bytes
  read_in_form spelled = record {
    count = count;
    each = λ k d inside.
        let (rest, is) = rest_of (pointers_in bytes) k (zeros 768) have_sums inside in
        let there : drop (52 * k) bytes ≡ pointer_bytes (pointer_in (52 * k) bytes) ++ rest =
        ap (drop (52 * k)) (sym spelled) ∙ is ∙ ap (λ p. pointer_bytes p ++ rest) (stands k hole inside) in
        subst IsInForm (sym (stands k d inside)) (one_in_form (52 * k) bytes rest there (has_sum k (omega (arith, count))));
  }
