-- Sectors as pieces of bytes, and in buffers.
use Rattle.std.proofs.Common.{◌≡◌, ◌≢◌, ℕ, ◌+◌, ◌-◌, ◌*◌, ◌/◌, ◌<◌, ◌≤◌, List, length, take, drop, arith, refl, sym, ap, ◌∙◌, replicate, ⊎_elim}
use Rattle.std.proofs.lemmas.Slice.{between_is, between-put_mid, take-put_mid_below, drop-put_mid}
use Rattle.std.proofs.lemmas.Bool.{cases_lt}
use borrow.Rule.Slice.PartMut.{put_mid}
use Rattle.bank_core.specs.Disk.{sector_size, sector_of, sectors_in}
use Rattle.bank_core.specs.Memory.{zero_sector}
use Rattle.bank_core.specs.View.{Shows}
use Rattle.bank_core.specs.declared.view.Shown.{Shown}

-- a slice of one sector's length is that sector
pub piece_is : (bytes piece : List ℕ) (i from : ℕ) → from ≡ i * 4096 → piece ≡ take (from + 4096 - from) (drop from bytes) → piece ≡ sector_of i bytes
unfolding sector_size
piece_is bytes piece i from e is = let n : from + 4096 - from ≡ 4096 = omega arith in rw (is, n, e) refl

pub zeros_are : (bytes : List ℕ) (n : ℕ) → bytes ≡ replicate n 0 → n ≡ 4096 → bytes ≡ zero_sector
unfolding zero_sector sector_size
zeros_are bytes n is e = rw (is, e) refl

-- a write of n bytes at a, and what is read there, below it and above it
read_there : (xs ys zs : List ℕ) (a n : ℕ) → a + n ≤ length xs → length ys ≡ n → zs ≡ put_mid a (a + n - a) xs ys → take n (drop a zs) ≡ ys
read_there xs ys zs a n inside long is =
    let k : a + n - a ≡ n = omega arith in
    let low : a ≤ length xs = omega arith in
    let whole : length ys ≡ a + n - a = omega arith in
    ap (λ m. take m (drop a zs)) (sym k) ∙ ap (λ s. take (a + n - a) (drop a s)) is ∙ between-put_mid a (a + n - a) xs ys (a + n) low whole

read_front : (s : List ℕ) (m n : ℕ) → take n (drop m s) ≡ drop m (take (m + n) s)
read_front s m n = let k : m + n - m ≡ n = omega arith in ap (λ count. take count (drop m s)) (sym k) ∙ between_is s m (m + n)

read_below : (xs ys zs : List ℕ) (a k m n : ℕ) → m + n ≤ a → a ≤ length xs → zs ≡ put_mid a k xs ys → take n (drop m zs) ≡ take n (drop m xs)
read_below xs ys zs a k m n below low is =
    read_front zs m n ∙ ap (λ s. drop m (take (m + n) s)) is ∙ ap (drop m) (take-put_mid_below a k xs ys (m + n) below low) ∙ sym (read_front xs m n)

read_above : (xs ys zs : List ℕ) (a k m n : ℕ) → a + k ≤ m → a ≤ length xs → length ys ≡ k → zs ≡ put_mid a k xs ys → take n (drop m zs) ≡ take n (drop m xs)
read_above xs ys zs a k m n above low long is =
    ap (λ s. take n (drop m s)) is ∙ ap (take n) (drop-put_mid a k xs ys m above low long)

in_bytes : (i n : ℕ) → i < n / sector_size → i * sector_size + sector_size ≤ n
unfolding sector_size
in_bytes i n lt = omega arith

apart : (i j : ℕ) → i < j → i * sector_size + sector_size ≤ j * sector_size
unfolding sector_size
apart i j lt = omega arith

-- a write of one sector into a buffer: that sector
pub written_here : (xs ys zs : List ℕ) (i : ℕ) → i < sectors_in xs → length ys ≡ sector_size
    → zs ≡ put_mid (i * sector_size) (i * sector_size + sector_size - i * sector_size) xs ys → sector_of i zs ≡ ys
written_here xs ys zs i inside long is = read_there xs ys zs (i * sector_size) sector_size (in_bytes i (length xs) inside) long is

not_lower : (i j : ℕ) → j ≢ i → i ≤ j → i < j
not_lower i j other le = omega arith

-- and each other one
pub written_apart : (xs ys zs : List ℕ) (i : ℕ) → i < sectors_in xs → length ys ≡ sector_size
    → zs ≡ put_mid (i * sector_size) (i * sector_size + sector_size - i * sector_size) xs ys
    → (j : ℕ) → j ≢ i → sector_of j zs ≡ sector_of j xs
written_apart xs ys zs i inside long is j other =
    let low : i * sector_size ≤ length xs = omega (arith, in_bytes i (length xs) inside) in
    let k : i * sector_size + sector_size - i * sector_size ≡ sector_size = omega arith in
    ⊎_elim {A = j < i} {B = i ≤ j}
    (λ below. read_below xs ys zs (i * sector_size) _ (j * sector_size) sector_size (apart j i below) low is)
    (λ above. read_above xs ys zs (i * sector_size) (i * sector_size + sector_size - i * sector_size) (j * sector_size) sector_size
    (omega (arith, apart i j (not_lower i j other above))) low (omega arith) is)
    (cases_lt j i)

-- what is shown may be said of equal bytes
pub shows_at : (shown : Shown) (bytes other : List ℕ) → other ≡ bytes → Shows shown bytes → Shows shown other
shows_at shown bytes other e shows = rw e shows
