-- Which sectors of a device are needed in each phase of a round, and that the phase's part spares them.
use Rattle.std.proofs.Common.{◌≡◌, ◌≢◌, ◌⊎◌, ℕ, ◌+◌, ◌-◌, ◌%◌, ◌<◌, ◌≤◌, ◌==◌, ◌&&◌, nat_le, nat_lt, false, List, refl, sym, ap, ◌∙◌, subst, arith, inl, inr}
use Rattle.std.proofs.lemmas.Bool.{and_left, and_right, lt-leb, le-ltb}
use Rattle.bank_core.specs.Asks.{Ask}
use Rattle.bank_core.specs.Disk.{covers, sectors_in}
use Rattle.bank_core.specs.Standing.{Spares}
use Rattle.label_store.specs.declared.uberblock.Uberblock.{Uberblock}
use Rattle.label_store.specs.Layout.{even_labels, odd_labels}
use Rattle.label_store.specs.Plans.{config_plan, ring_plan}
use Rattle.label_store.specs.Uberblock.{uberblock_bytes}
use Rattle.label_store.proofs.Places.{label_is, even_spares_ring, odd_spares_ring, even_spares_config, odd_spares_config, ring_spares_ring, ring_spares_config}

-- Sectors that the first two phases of a number with this slot spare, on a device of so many sectors.
pub data InFront (size slot s : ℕ) : Type 0 where
  -- another slot of the ring of label 0
  FrontRing : (t : ℕ) → t < 32 → t ≢ slot → s ≡ 32 + t → InFront size slot s
  -- the configuration part of label 1
  FrontPart : (i : ℕ) → i < 28 → s ≡ 68 + i → InFront size slot s
  -- between the labels
  FrontData : 128 ≤ s → s + 128 < size → InFront size slot s

-- Sectors that the third phase spares.
pub data InBack (size s : ℕ) : Type 0 where
  BackRing : (t : ℕ) → t < 32 → s ≡ 32 + t → InBack size s
  -- the configuration part of label 0
  BackPart : (i : ℕ) → i < 28 → s ≡ 4 + i → InBack size s
  BackData : 128 ≤ s → s + 128 < size → InBack size s

-- what lies outside of a write
outside : (dev at n d s : ℕ) → (s < at) ⊎ (at + n ≤ s) → ((dev == d) && covers at n s) ≡ false
outside dev at n d s (inl lt) = and_right (dev == d) (covers at n s) (and_left (nat_le at s) (nat_lt s (at + n)) (lt-leb at s lt))
outside dev at n d s (inr le) = and_right (dev == d) (covers at n s) (and_right (nat_le at s) (nat_lt s (at + n)) (le-ltb s (at + n) le))

pub outside_one : (dev at d s : ℕ) (bytes : List ℕ) → sectors_in bytes ≡ 1 → (s < at) ⊎ (at + 1 ≤ s) → ((dev == d) && covers at (sectors_in bytes) s) ≡ false
outside_one dev at d s bytes one off = ap (λ n. (dev == d) && covers at n s) one ∙ outside dev at 1 d s off

even_spares_data : (dev size : ℕ) (blob : List ℕ) (d s : ℕ) → 320 ≤ size → sectors_in blob ≤ 28 → 128 ≤ s → s + 128 < size
    → Spares (config_plan dev (even_labels size) blob) d s
even_spares_data dev size blob d s big few low high = (
  outside dev (0 + 4) _ d s (inr (omega arith)),
  (outside dev (size - 128 + 4) _ d s (inl (omega arith)), (refl, tt)),
)

odd_spares_data : (dev size : ℕ) (blob : List ℕ) (d s : ℕ) → 320 ≤ size → sectors_in blob ≤ 28 → 128 ≤ s → s + 128 < size
    → Spares (config_plan dev (odd_labels size) blob) d s
odd_spares_data dev size blob d s big few low high = (
  outside dev (64 + 4) _ d s (inr (omega arith)),
  (outside dev (size - 64 + 4) _ d s (inl (omega arith)), (refl, tt)),
)

ring_spares_data : (dev size : ℕ) (u : Uberblock) (d s : ℕ) → 320 ≤ size → sectors_in (uberblock_bytes u) ≡ 1 → 128 ≤ s → s + 128 < size
    → Spares (ring_plan dev size u) d s
ring_spares_data dev size u d s big one low high =
    let slot : u.number.0 % 32 < 32 = omega arith in (
      outside_one dev (0 + (32 + u.number.0 % 32)) d s _ one (inr (omega arith)),
      (
        outside_one dev (64 + (32 + u.number.0 % 32)) d s _ one (inr (omega arith)),
        (
          outside_one dev (size - 128 + (32 + u.number.0 % 32)) d s _ one (inl (omega arith)),
          (outside_one dev (size - 64 + (32 + u.number.0 % 32)) d s _ one (inl (omega arith)), (refl, tt)),
        ),
      ),
    )

moved : (asks : List Ask) (d s s' : ℕ) → s ≡ s' → Spares asks d s' → Spares asks d s
moved asks d s s' e sp = subst (Spares asks d) (sym e) sp

pub first_spares : (dev size slot : ℕ) (blob : List ℕ) (d s : ℕ) → 320 ≤ size → sectors_in blob ≤ 28 → InFront size slot s
    → Spares (config_plan dev (even_labels size) blob) d s
first_spares dev size slot blob d s big few (FrontRing t lt ne e) =
    moved (config_plan dev (even_labels size) blob) d s (0 + (32 + t)) (omega arith)
    (even_spares_ring dev size blob d 0 t big few (label_is size 0 (omega arith)) lt)
first_spares dev size slot blob d s big few (FrontPart i lt e) =
    moved (config_plan dev (even_labels size) blob) d s (64 + 4 + i) (omega arith)
    (even_spares_config dev size blob d 64 i big few (label_is size 1 (omega arith)) (omega arith) (omega arith) lt)
first_spares dev size slot blob d s big few (FrontData low high) = even_spares_data dev size blob d s big few low high

pub second_spares : (dev size : ℕ) (u : Uberblock) (d s : ℕ) → 320 ≤ size → sectors_in (uberblock_bytes u) ≡ 1 → InFront size (u.number.0 % 32) s
    → Spares (ring_plan dev size u) d s
second_spares dev size u d s big one (FrontRing t lt ne e) =
    moved (ring_plan dev size u) d s (0 + (32 + t)) (omega arith) (ring_spares_ring dev size u d 0 t big one (label_is size 0 (omega arith)) lt ne)
second_spares dev size u d s big one (FrontPart i lt e) =
    moved (ring_plan dev size u) d s (64 + 4 + i) (omega arith) (ring_spares_config dev size u d 64 i big one (label_is size 1 (omega arith)) lt)
second_spares dev size u d s big one (FrontData low high) = ring_spares_data dev size u d s big one low high

pub third_spares : (dev size : ℕ) (blob : List ℕ) (d s : ℕ) → 320 ≤ size → sectors_in blob ≤ 28 → InBack size s
    → Spares (config_plan dev (odd_labels size) blob) d s
third_spares dev size blob d s big few (BackRing t lt e) =
    moved (config_plan dev (odd_labels size) blob) d s (0 + (32 + t)) (omega arith)
    (odd_spares_ring dev size blob d 0 t big few (label_is size 0 (omega arith)) lt)
third_spares dev size blob d s big few (BackPart i lt e) =
    moved (config_plan dev (odd_labels size) blob) d s (0 + 4 + i) (omega arith)
    (odd_spares_config dev size blob d 0 i big few (label_is size 0 (omega arith)) (omega arith) (omega arith) lt)
third_spares dev size blob d s big few (BackData low high) = odd_spares_data dev size blob d s big few low high
