-- The number of a pool has eight bytes.
use Rattle.std.proofs.Common.{◌≡◌, ℕ, ◌^◌, ◌<◌, ◌==◌, zero, suc, Bool, true, false, cond, List, [], ◌∷◌, ◌++◌, length, take, arith}
use Rattle.std.specs.Prelude.{slice_index}
use Rattle.std.specs.Int.{to_be_bytes, from_be_bytes, w32, w64}
use Rattle.std.proofs.lemmas.List.{length-take-le}
use Rattle.sha2.specs.Sha256.{sha256, digest_bytes}
use Rattle.sha2.proofs.Facts256.{length-sha256}
use Rattle.pool_runs.specs.Creating.{pool_sum, pool_number}

-- each of these is a byte
abbrev AreBytes : List ℕ → Type 0
AreBytes [] = Unit {0}
AreBytes (b ∷ bs) = (b < 256) × AreBytes bs

bytes_more : (xs ys : List ℕ) → AreBytes xs → AreBytes ys → AreBytes (xs ++ ys)
bytes_more [] ys a b = b
bytes_more (x ∷ xs) ys a b = (a.0, bytes_more xs ys a.1 b)

bytes_front : (n : ℕ) (xs : List ℕ) → AreBytes xs → AreBytes (take n xs)
bytes_front zero xs a = tt
bytes_front (suc n) [] a = tt
bytes_front (suc n) (x ∷ xs) a = (a.0, bytes_front n xs a.1)

word_bytes : (n : ℕ) → AreBytes (to_be_bytes w32 n)
word_bytes n = (omega arith, (omega arith, (omega arith, (omega arith, tt))))

digest_all : (h : List ℕ) (n : ℕ) → AreBytes (digest_bytes h n)
unfolding digest_bytes
digest_all h zero = tt
digest_all h (suc n) = bytes_more (digest_bytes h n) (to_be_bytes w32 (slice_index h n)) (digest_all h n) (word_bytes (slice_index h n))

sum_bytes : (m : List ℕ) → AreBytes (sha256 m)
unfolding sha256
sum_bytes m = digest_all _ 8

number_below : (bs : List ℕ) → length bs ≡ 8 → AreBytes bs → from_be_bytes w64 bs < 2 ^ 64
number_below [] l a = absurd (omega arith)
number_below (a ∷ []) l s = absurd (omega arith)
number_below (a ∷ b ∷ []) l s = absurd (omega arith)
number_below (a ∷ b ∷ c ∷ []) l s = absurd (omega arith)
number_below (a ∷ b ∷ c ∷ d ∷ []) l s = absurd (omega arith)
number_below (a ∷ b ∷ c ∷ d ∷ e ∷ []) l s = absurd (omega arith)
number_below (a ∷ b ∷ c ∷ d ∷ e ∷ f ∷ []) l s = absurd (omega arith)
number_below (a ∷ b ∷ c ∷ d ∷ e ∷ f ∷ g ∷ []) l s = absurd (omega arith)
number_below (a ∷ b ∷ c ∷ d ∷ e ∷ f ∷ g ∷ h ∷ []) l s =
    omega (arith, s.0, s.1.0, s.1.1.0, s.1.1.1.0, s.1.1.1.1.0, s.1.1.1.1.1.0, s.1.1.1.1.1.1.0, s.1.1.1.1.1.1.1.0)
number_below (a ∷ b ∷ c ∷ d ∷ e ∷ f ∷ g ∷ h ∷ x ∷ bs) l s = absurd (omega arith)

pool_below : (name : List ℕ) (second : ℕ) → pool_sum name second < 2 ^ 64
unfolding pool_sum
pool_below name second =
    number_below (take 8 (sha256 (name ++ to_be_bytes w64 second))) (length-take-le 8 _ (let long = length-sha256 (name ++ to_be_bytes w64 second) in omega arith))
    (bytes_front 8 _ (sum_bytes (name ++ to_be_bytes w64 second)))

some_number : (n : ℕ) → n < 2 ^ 64 → cond (n == 0) 1 n < 2 ^ 64
some_number n below = by (n == 0)
  where
    by : (t : Bool) → cond t 1 n < 2 ^ 64
    by true = omega arith
    by false = below

pub number_fits : (name : List ℕ) (second : ℕ) → (pool_number name second).0 < 2 ^ 64
number_fits name second = some_number (pool_sum name second) (pool_below name second)
