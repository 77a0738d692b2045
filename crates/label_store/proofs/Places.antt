-- Which sectors the plans of a round spare, and which bytes they bring.
use Rattle.std.proofs.Common.{◌≡◌, ◌≢◌, ◌⊎◌, ℕ, zero, suc, ◌+◌, ◌-◌, ◌*◌, ◌%◌, nat_le, nat_lt, ◌==◌, ◌<◌, ◌≤◌, ◌&&◌, Bool, true, false, List, [], ◌∷◌, ◌++◌, length, refl, ap, ◌∙◌, subst, arith, inl, inr, get_or, None, length-append, take, drop}
use Rattle.std.proofs.lemmas.List.{take_all, length-replicate}
use Rattle.label_store.proofs.Fields.{length-be}
use Rattle.std.proofs.lemmas.Bool.Decides.{nat_tests}
use Rattle.std.proofs.lemmas.Grind.{common_steps}
use Rattle.bank_core.specs.Asks.{Writes, IsPart}
use Rattle.bank_core.proofs.Blocks.{block_sectors}
use Rattle.mp_base.specs.Block.{zeros}
use Rattle.sha2.proofs.Facts256.{length-sha256}
use Rattle.label_store.specs.declared.uberblock.Uberblock.{Uberblock}
use Rattle.label_store.specs.Uberblock.{uberblock_bytes, uberblock_head}
use Rattle.bank_core.specs.Disk.{Sector, covers, sectors_in, sector_of, sector_size, Noted, replay}
use Rattle.bank_core.specs.Standing.{Stands, Spares}
use Rattle.bank_core.proofs.Standing.{part_lands}
use Rattle.label_store.specs.Layout.{labels_of, even_labels, odd_labels}
use Rattle.label_store.specs.Plans.{config_plan, ring_plan}

and_false : (x : Bool) → (x && false) ≡ false
and_false true = refl
and_false false = refl

uncovered_by : (at n s : ℕ) (t : Bool) → nat_le at s ≡ t → (t' : Bool) → nat_lt s (at + n) ≡ t' → (at ≤ s → s < at + n → ⊥) → covers at n s ≡ false
uncovered_by at n s true e true f m = absurd (m (grind (arith, nat_tests)) (grind (arith, nat_tests)))
uncovered_by at n s true e false f m = rw (e, f) refl
uncovered_by at n s false e t' f m = rw e refl

uncovered : (at n s : ℕ) → (at ≤ s → s < at + n → ⊥) → covers at n s ≡ false
uncovered at n s m = uncovered_by at n s (nat_le at s) refl (nat_lt s (at + n)) refl m

covered : (at n s : ℕ) → at ≤ s → s < at + n → covers at n s ≡ true
covered at n s le lt = grind (arith, common_steps, nat_tests)

pub spared : (dev at n d s : ℕ) → (at ≤ s → s < at + n → ⊥) → ((dev == d) && covers at n s) ≡ false
spared dev at n d s m = ap (λ b. (dev == d) && b) (uncovered at n s m) ∙ and_false (dev == d)

other_device : (dev d : ℕ) → dev ≢ d → (dev == d) ≡ false
other_device dev d ne = grind (arith, nat_tests)

pub elsewhere_one : (dev d : ℕ) (x : Bool) → dev ≢ d → ((dev == d) && x) ≡ false
elsewhere_one dev d x ne = rw (other_device dev d ne) refl

-- a part of another device
pub config_elsewhere_even : (dev size : ℕ) (blob : List ℕ) (d s : ℕ) → dev ≢ d → Spares (config_plan dev (even_labels size) blob) d s
config_elsewhere_even dev size blob d s ne = (elsewhere_one dev d _ ne, (elsewhere_one dev d _ ne, (refl, tt)))

pub config_elsewhere_odd : (dev size : ℕ) (blob : List ℕ) (d s : ℕ) → dev ≢ d → Spares (config_plan dev (odd_labels size) blob) d s
config_elsewhere_odd dev size blob d s ne = (elsewhere_one dev d _ ne, (elsewhere_one dev d _ ne, (refl, tt)))

pub ring_elsewhere : (dev size : ℕ) (u : Uberblock) (d s : ℕ) → dev ≢ d → Spares (ring_plan dev size u) d s
ring_elsewhere dev size u d s ne =
    (elsewhere_one dev d _ ne, (elsewhere_one dev d _ ne, (elsewhere_one dev d _ ne, (elsewhere_one dev d _ ne, (refl, tt)))))

-- the four labels
pub IsOneOf : ℕ → ℕ → Type 0
IsOneOf size a = (a ≡ 0) ⊎ ((a ≡ 64) ⊎ ((a ≡ size - 128) ⊎ (a ≡ size - 64)))

pub label_is : (size k : ℕ) → k < 4 → IsOneOf size (get_or (labels_of size) k 0)
unfolding IsOneOf
label_is size zero lt = inl refl
label_is size (suc zero) lt = inr (inl refl)
label_is size (suc (suc zero)) lt = inr (inr (inl refl))
label_is size (suc (suc (suc zero))) lt = inr (inr (inr refl))
label_is size (suc (suc (suc (suc k)))) lt = absurd (omega arith)

-- Two labels that lie near each other are one.
pub labels_apart : (size a b : ℕ) → 320 ≤ size → IsOneOf size a → IsOneOf size b → a < b + 64 → b < a + 64 → a ≡ b
unfolding IsOneOf
labels_apart size a b big (inl p) (inl q) above below = omega arith
labels_apart size a b big (inl p) (inr (inl q)) above below = omega arith
labels_apart size a b big (inl p) (inr (inr (inl q))) above below = omega arith
labels_apart size a b big (inl p) (inr (inr (inr q))) above below = omega arith
labels_apart size a b big (inr (inl p)) (inl q) above below = omega arith
labels_apart size a b big (inr (inl p)) (inr (inl q)) above below = omega arith
labels_apart size a b big (inr (inl p)) (inr (inr (inl q))) above below = omega arith
labels_apart size a b big (inr (inl p)) (inr (inr (inr q))) above below = omega arith
labels_apart size a b big (inr (inr (inl p))) (inl q) above below = omega arith
labels_apart size a b big (inr (inr (inl p))) (inr (inl q)) above below = omega arith
labels_apart size a b big (inr (inr (inl p))) (inr (inr (inl q))) above below = omega arith
labels_apart size a b big (inr (inr (inl p))) (inr (inr (inr q))) above below = omega arith
labels_apart size a b big (inr (inr (inr p))) (inl q) above below = omega arith
labels_apart size a b big (inr (inr (inr p))) (inr (inl q)) above below = omega arith
labels_apart size a b big (inr (inr (inr p))) (inr (inr (inl q))) above below = omega arith
labels_apart size a b big (inr (inr (inr p))) (inr (inr (inr q))) above below = omega arith

-- a place in the ring of a label lies outside the configuration part of each
ring_off_config : (size a b t k : ℕ) → 320 ≤ size → IsOneOf size a → IsOneOf size b → t < 32 → k ≤ 28
    → b + 4 ≤ a + (32 + t) → a + (32 + t) < b + 4 + k → ⊥
ring_off_config size a b t k big p q lt few above below =
    let c = labels_apart size a b big p q in omega (arith, c)

-- two slots lie apart, in whatever labels
ring_off_ring : (size a b t u : ℕ) → 320 ≤ size → IsOneOf size a → IsOneOf size b → t < 32 → u < 32 → t ≢ u
    → b + (32 + u) ≤ a + (32 + t) → a + (32 + t) < b + (32 + u) + 1 → ⊥
ring_off_ring size a b t u big p q lt lt' ne above below =
    let c = labels_apart size a b big p q in omega (arith, c)

-- a sector of a configuration part lies outside the rings
config_off_ring : (size a b i u : ℕ) → 320 ≤ size → IsOneOf size a → IsOneOf size b → i < 28 → u < 32
    → b + (32 + u) ≤ a + 4 + i → a + 4 + i < b + (32 + u) + 1 → ⊥
config_off_ring size a b i u big p q lt lt' above below =
    let c = labels_apart size a b big p q in omega (arith, c)

-- and outside the configuration part of each other label
config_off_config : (size a b i k : ℕ) → 320 ≤ size → IsOneOf size a → IsOneOf size b → a ≢ b → i < 28 → k ≤ 28
    → b + 4 ≤ a + 4 + i → a + 4 + i < b + 4 + k → ⊥
config_off_config size a b i k big p q ne lt few above below =
    let c = labels_apart size a b big p q in omega (arith, c)

zeroth : (size : ℕ) → IsOneOf size 0
unfolding IsOneOf
zeroth size = inl refl

first' : (size : ℕ) → IsOneOf size 64
unfolding IsOneOf
first' size = inr (inl refl)

second' : (size : ℕ) → IsOneOf size (size - 128)
unfolding IsOneOf
second' size = inr (inr (inl refl))

third' : (size : ℕ) → IsOneOf size (size - 64)
unfolding IsOneOf
third' size = inr (inr (inr refl))

-- the even labels' configuration spares every place of a ring
pub even_spares_ring : (dev size : ℕ) (blob : List ℕ) (d a t : ℕ) → 320 ≤ size → sectors_in blob ≤ 28 → IsOneOf size a → t < 32
    → Spares (config_plan dev (even_labels size) blob) d (a + (32 + t))
even_spares_ring dev size blob d a t big few is lt = (
  spared dev _ _ d _ (ring_off_config size a 0 t _ big is (zeroth size) lt few),
  (spared dev _ _ d _ (ring_off_config size a (size - 128) t _ big is (second' size) lt few), (refl, tt)),
)

pub odd_spares_ring : (dev size : ℕ) (blob : List ℕ) (d a t : ℕ) → 320 ≤ size → sectors_in blob ≤ 28 → IsOneOf size a → t < 32
    → Spares (config_plan dev (odd_labels size) blob) d (a + (32 + t))
odd_spares_ring dev size blob d a t big few is lt = (
  spared dev _ _ d _ (ring_off_config size a 64 t _ big is (first' size) lt few),
  (spared dev _ _ d _ (ring_off_config size a (size - 64) t _ big is (third' size) lt few), (refl, tt)),
)

-- and every configuration part that it doesn't write
pub even_spares_config : (dev size : ℕ) (blob : List ℕ) (d a i : ℕ) → 320 ≤ size → sectors_in blob ≤ 28 → IsOneOf size a → a ≢ 0 → a ≢ size - 128 → i < 28
    → Spares (config_plan dev (even_labels size) blob) d (a + 4 + i)
even_spares_config dev size blob d a i big few is ne ne' lt = (
  spared dev _ _ d _ (config_off_config size a 0 i _ big is (zeroth size) ne lt few),
  (spared dev _ _ d _ (config_off_config size a (size - 128) i _ big is (second' size) ne' lt few), (refl, tt)),
)

pub odd_spares_config : (dev size : ℕ) (blob : List ℕ) (d a i : ℕ) → 320 ≤ size → sectors_in blob ≤ 28 → IsOneOf size a → a ≢ 64 → a ≢ size - 64 → i < 28
    → Spares (config_plan dev (odd_labels size) blob) d (a + 4 + i)
odd_spares_config dev size blob d a i big few is ne ne' lt = (
  spared dev _ _ d _ (config_off_config size a 64 i _ big is (first' size) ne lt few),
  (spared dev _ _ d _ (config_off_config size a (size - 64) i _ big is (third' size) ne' lt few), (refl, tt)),
)

ring_one : (dev size : ℕ) (u : Uberblock) (d s b : ℕ) → (b + (32 + u.number.0 % 32) ≤ s → s < b + (32 + u.number.0 % 32) + 1 → ⊥)
    → sectors_in (uberblock_bytes u) ≡ 1 → ((dev == d) && covers (b + (32 + u.number.0 % 32)) (sectors_in (uberblock_bytes u)) s) ≡ false
ring_one dev size u d s b m one = rw one (spared dev (b + (32 + u.number.0 % 32)) 1 d s m)

-- an uberblock's part spares every other slot, and every configuration part
pub ring_spares_ring : (dev size : ℕ) (u : Uberblock) (d a t : ℕ) → 320 ≤ size → sectors_in (uberblock_bytes u) ≡ 1 → IsOneOf size a → t < 32 → t ≢ u.number.0 % 32
    → Spares (ring_plan dev size u) d (a + (32 + t))
ring_spares_ring dev size u d a t big one is lt ne =
    let slot : u.number.0 % 32 < 32 = omega arith in (
      ring_one dev size u d _ 0 (ring_off_ring size a 0 t _ big is (zeroth size) lt slot ne) one,
      (
        ring_one dev size u d _ 64 (ring_off_ring size a 64 t _ big is (first' size) lt slot ne) one,
        (
          ring_one dev size u d _ (size - 128) (ring_off_ring size a (size - 128) t _ big is (second' size) lt slot ne) one,
          (ring_one dev size u d _ (size - 64) (ring_off_ring size a (size - 64) t _ big is (third' size) lt slot ne) one, (refl, tt)),
        ),
      ),
    )

pub ring_spares_config : (dev size : ℕ) (u : Uberblock) (d a i : ℕ) → 320 ≤ size → sectors_in (uberblock_bytes u) ≡ 1 → IsOneOf size a → i < 28
    → Spares (ring_plan dev size u) d (a + 4 + i)
ring_spares_config dev size u d a i big one is lt =
    let slot : u.number.0 % 32 < 32 = omega arith in (
      ring_one dev size u d _ 0 (config_off_ring size a 0 i _ big is (zeroth size) lt slot) one,
      (
        ring_one dev size u d _ 64 (config_off_ring size a 64 i _ big is (first' size) lt slot) one,
        (
          ring_one dev size u d _ (size - 128) (config_off_ring size a (size - 128) i _ big is (second' size) lt slot) one,
          (ring_one dev size u d _ (size - 64) (config_off_ring size a (size - 64) i _ big is (third' size) lt slot) one, (refl, tt)),
        ),
      ),
    )

length_nine : (a b c d e f g z t : List ℕ) → length a ≡ 8 → length b ≡ 8 → length c ≡ 8 → length d ≡ 8 → length e ≡ 8 → length f ≡ 8 → length g ≡ 32
    → length z ≡ 3984 → length t ≡ 32 → length (a ++ b ++ c ++ d ++ e ++ f ++ g ++ z ++ t) ≡ 4096
length_nine a b c d e f g z t la lb lc ld le lf lg lz lt =
    omega (
      arith,
      length-append a b,
      length-append (a ++ b) c,
      length-append (a ++ b ++ c) d,
      length-append (a ++ b ++ c ++ d) e,
      length-append (a ++ b ++ c ++ d ++ e) f,
      length-append (a ++ b ++ c ++ d ++ e ++ f) g,
      length-append (a ++ b ++ c ++ d ++ e ++ f ++ g) z,
      length-append (a ++ b ++ c ++ d ++ e ++ f ++ g ++ z) t,
    )

length-zeros : (n : ℕ) → length (zeros n) ≡ n
unfolding zeros
length-zeros n = length-replicate n 0

pub length-uberblock : (u : Uberblock) → length u.sum ≡ 32 → length (uberblock_bytes u) ≡ 4096
length-uberblock u long =
    length_nine _ _ _ _ _ _ _ _ _ (length-be 0xbab10c) (length-be 1) (length-be u.pool.0) (length-be u.member.0) (length-be u.number.0) (length-be u.length)
    long (length-zeros 3984) (length-sha256 (uberblock_head u))

pub uberblock_sectors : (u : Uberblock) → length u.sum ≡ 32 → sectors_in (uberblock_bytes u) ≡ 1
uberblock_sectors u long = block_sectors (uberblock_bytes u) (length-uberblock u long)

-- A whole first phase brings the configuration into label 0.
pub even_lands : (dev size : ℕ) (blob : List ℕ) (i : ℕ) (mine : List Noted) (x : Sector) → 320 ≤ size → sectors_in blob ≤ 28 → i < sectors_in blob
    → IsPart (config_plan dev (even_labels size) blob) mine None → Stands (replay mine dev (4 + i) x) (sector_of i blob)
even_lands dev size blob i mine x big few lt part =
    subst (λ j. Stands (replay mine dev (4 + i) x) (sector_of j blob)) (omega arith)
    (part_lands dev 4 blob (Writes dev (size - 128 + 4) blob ∷ []) mine (4 + i) x (covered 4 (sectors_in blob) (4 + i) (omega arith) (omega arith))
    (spared dev (size - 128 + 4) (sectors_in blob) dev (4 + i) (config_off_config size 0 (size - 128) i _ big (zeroth size) (second' size) (omega arith) (omega arith) few), tt) part)

first_sector : (s : ℕ) (bytes : List ℕ) → length bytes ≡ 4096 → sector_of (s - s) bytes ≡ bytes
unfolding sector_size
first_sector s bytes long =
    let none : s - s ≡ 0 = omega arith in
    ap (λ i. take 4096 (drop (i * 4096) bytes)) none ∙ take_all 4096 bytes (omega arith)

-- A whole second phase brings the uberblock into the ring of label 0.
pub ring_lands : (dev size : ℕ) (u : Uberblock) (mine : List Noted) (x : Sector) → 320 ≤ size → length u.sum ≡ 32
    → IsPart (ring_plan dev size u) mine None → Stands (replay mine dev (0 + (32 + u.number.0 % 32)) x) (uberblock_bytes u)
ring_lands dev size u mine x big long part =
    let slot : u.number.0 % 32 < 32 = omega arith in
    let one = uberblock_sectors u long in
    let s = 0 + (32 + u.number.0 % 32) in
    let lands = part_lands dev s (uberblock_bytes u)
    (Writes dev (64 + (32 + u.number.0 % 32)) (uberblock_bytes u) ∷ Writes dev (size - 128 + (32 + u.number.0 % 32)) (uberblock_bytes u) ∷ Writes dev (size - 64 + (32 + u.number.0 % 32)) (uberblock_bytes u) ∷ []) mine s x
    (rw one (covered s 1 s (omega arith) (omega arith))) (
      ring_one dev size u dev s 64 (λ above below. omega arith) one,
      (
        ring_one dev size u dev s (size - 128) (λ above below. omega arith) one,
        (ring_one dev size u dev s (size - 64) (λ above below. omega arith) one, tt),
      ),
    ) part in
    subst (λ b. Stands (replay mine dev s x) b) (first_sector s (uberblock_bytes u) (length-uberblock u long)) lands

-- A whole third phase brings the configuration into label 1.
pub odd_lands : (dev size : ℕ) (blob : List ℕ) (i : ℕ) (mine : List Noted) (x : Sector) → 320 ≤ size → sectors_in blob ≤ 28 → i < sectors_in blob
    → IsPart (config_plan dev (odd_labels size) blob) mine None → Stands (replay mine dev (68 + i) x) (sector_of i blob)
odd_lands dev size blob i mine x big few lt part =
    subst (λ j. Stands (replay mine dev (68 + i) x) (sector_of j blob)) (omega arith)
    (part_lands dev 68 blob (Writes dev (size - 64 + 4) blob ∷ []) mine (68 + i) x (covered 68 (sectors_in blob) (68 + i) (omega arith) (omega arith))
    (spared dev (size - 64 + 4) (sectors_in blob) dev (68 + i) (λ above below. omega arith), tt) part)
