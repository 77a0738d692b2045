-- Which asks spare what is needed: a flush, a block that is written where no live record needs one, and many such asks.
use Rattle.std.proofs.Common.{◌≡◌, ◌≢◌, ◌⊎◌, ℕ, ◌+◌, ◌%◌, ◌/◌, ◌<◌, ◌≤◌, ◌==◌, ◌&&◌, zero, suc, true, false, List, [], ◌∷◌, ◌++◌, length, map, Option, Some, refl, arith, inl, inr, ◌∙◌, ⊎_elim}
use Rattle.std.specs.Prelude.{slice_get, slice_index}
use Rattle.std.specs.List.{flat_map}
use Rattle.std.proofs.lemmas.Bool.{and_left, ne_eqb, cases_lt}
use Rattle.bank_core.specs.Asks.{Ask, Reads, Writes, Flushes, Admits, Ejects}
use Rattle.bank_core.specs.Disk.{covers, sectors_in}
use Rattle.bank_core.specs.Standing.{Spares}
use Rattle.bank_core.proofs.Blocks.{block_sectors}
use Rattle.bank_core.proofs.Standing.{spares_more}
use Rattle.label_store.specs.declared.rule.Head.{Head}
use Rattle.label_store.specs.Layout.{labels_of}
use Rattle.label_store.specs.Records.{place_at}
use Rattle.pool_history.specs.Labels.{Status, Odd, Even, Lost}
use Rattle.pool_history.specs.Moves.{ArePlain, AreKnown, AreSparing}
use Rattle.pool_history.specs.Needs.{Needs, NeedsLabel}
use Rattle.pool_history.specs.Pools.{Pool, seat}
use Rattle.pool_history.specs.Records.{Rec, Cell, IsIn, data_start}
use Rattle.pool_history.specs.Survival.{IsOf, Survives}
use Rattle.pool_history.proofs.RoundParts.{by_device, few_of, slot_below, ring_of}
use Rattle.pool_history.proofs.RoundPlaces.{outside_one}
use Rattle.pool_history.proofs.Sparing.{spared_known}

pub no_asks_spare : (p : Pool) → AreSparing p []
no_asks_spare p = record { plain = tt; off = λ d s bytes needs. tt; known = λ d place is inside. tt }

pub flush_sparing : (p : Pool) (dev : ℕ) → AreSparing p (Flushes dev ∷ [])
flush_sparing p dev = record {
  plain = tt;
  off = λ d s bytes needs. (refl, tt);
  known = λ d place is inside. spared_known p (Flushes dev ∷ []) d (place_at (p.size d) place) (refl, tt);
}

-- what the labels need lies in them
label_below : (head_of : List ℕ → Option Head) (p : Pool) (d : ℕ) (status : Status) (s : ℕ) (bytes : List ℕ) → p.member d ≡ true → IsOf head_of p d status
    → NeedsLabel (seat p d) status s bytes → s < 128
label_below head_of p d (Odd r) s bytes is of (inl (e, b)) = omega arith
label_below head_of p d (Odd r) s bytes is of (inr (i, lt, e, b)) = let few = few_of head_of p r d of.1 is in omega arith
label_below head_of p d (Even r) s bytes is of (inl (e, b)) = omega arith
label_below head_of p d (Even r) s bytes is of (inr (i, lt, e, b)) = let few = few_of head_of p r d of.1 is in omega arith
label_below head_of p d Lost s bytes is of needs = absurd needs

-- the rings lie outside of what is between the labels
ring_off_data : (size at label t : ℕ) → label < 4 → t < 32 → 128 ≤ at → at + 128 < size
    → (slice_index (labels_of size) label + (32 + t) < at) ⊎ (at + 1 ≤ slice_index (labels_of size) label + (32 + t))
ring_off_data size at zero t few lt low high = inl (omega arith)
ring_off_data size at (suc zero) t few lt low high = inl (omega arith)
ring_off_data size at (suc (suc zero)) t few lt low high = inr (omega arith)
ring_off_data size at (suc (suc (suc zero))) t few lt low high = inr (omega arith)
ring_off_data size at (suc (suc (suc (suc label)))) t few lt low high = absurd (omega arith)

off_one : (at s : ℕ) → at ≢ s → (s < at) ⊎ (at + 1 ≤ s)
off_one at s ne = ⊎_elim (λ lt. inl lt) (λ le. inr (omega (arith, le, ne))) (cases_lt s at)

-- A block goes between the labels of a device, to a sector where no live record has one that the member there
-- has to have.
pub record IsFreeAt (p : Pool) (dev at : ℕ) : Type 0 where
  pub low : p.member dev ≡ true → 128 ≤ at
  pub high : p.member dev ≡ true → at + 128 < p.size dev
  pub unused : (r : Rec) (a : ℕ) (cell : Cell) → p.member dev ≡ true → IsIn r p.live → r.cells a ≡ Some cell → r.owes (p.guid dev) cell.birth ≡ false → at ≢ data_start + cell.sector

pub write_sparing : (head_of : List ℕ → Option Head) (p : Pool) (dev at : ℕ) (block : List ℕ) → Survives head_of p → length block ≡ 4096 → IsFreeAt p dev at
    → AreSparing p (Writes dev at block ∷ [])
write_sparing head_of p dev at block sv long free = record {
  plain = tt;
  off = by_all;
  known = λ d place is inside. spared_known p (Writes dev at block ∷ []) d (place_at (p.size d) place)
      (by_device (λ e. p.member e ≡ true → Spares (Writes dev at block ∷ []) e (place_at (p.size e) place)) dev d
      (λ here. (
        outside_one dev at dev _ block one (ring_off_data (p.size dev) at (place / 32) (place % 32)
            (ring_of (p.size dev) place inside) (slot_below place) (free.low here) (free.high here)),
        tt,
      ))
      (λ ne other. (away d _ ne, tt)) is);
}
  where
    one : sectors_in block ≡ 1
    one = block_sectors block long

    away : (d s : ℕ) → dev ≢ d → ((dev == d) && covers at (sectors_in block) s) ≡ false
    away d s ne = and_left (dev == d) (covers at (sectors_in block) s) (ne_eqb dev d ne)

    here_spares : (s : ℕ) (bytes : List ℕ) → Needs p dev s bytes → Spares (Writes dev at block ∷ []) dev s
    here_spares s bytes (is, inl label) = (
      outside_one dev at dev s block one
          (inl (let low = free.low is in let below = label_below head_of p dev (p.status dev) s bytes is (sv.status_live dev is) label in omega arith)),
      tt,
    )
    here_spares s bytes (is, inr cell) =
        (outside_one dev at dev s block one (off_one at s (λ e. free.unused cell.r cell.a cell.cell is cell.is_live cell.cell_is cell.has (e ∙ cell.sector_is))), tt)

    by_all : (d s : ℕ) (bytes : List ℕ) → Needs p d s bytes → Spares (Writes dev at block ∷ []) d s
    by_all d = by_device (λ e. (s : ℕ) (bytes : List ℕ) → Needs p e s bytes → Spares (Writes dev at block ∷ []) e s) dev d here_spares
        (λ ne s bytes needs. (away d s ne, tt))

plain_more : (first second : List Ask) → ArePlain first → ArePlain second → ArePlain (first ++ second)
plain_more [] second a b = b
plain_more (Reads dev at sectors ∷ first) second a b = plain_more first second a b
plain_more (Writes dev at bytes ∷ first) second a b = plain_more first second a b
plain_more (Flushes dev ∷ first) second a b = plain_more first second a b
plain_more (Admits dev ∷ first) second a b = absurd a
plain_more (Ejects dev ∷ first) second a b = absurd a

known_more : (p : Pool) (d s : ℕ) (first second : List Ask) → AreKnown p d s first → AreKnown p d s second → AreKnown p d s (first ++ second)
known_more p d s [] second a b = b
known_more p d s (ask ∷ first) second a b = (a.0, known_more p d s first second a.1 b)

pub sparing_more : (p : Pool) (first second : List Ask) → AreSparing p first → AreSparing p second → AreSparing p (first ++ second)
sparing_more p first second a b = record {
  plain = plain_more first second a.plain b.plain;
  off = λ d s bytes needs. spares_more first second d s (a.off d s bytes needs) (b.off d s bytes needs);
  known = λ d place is inside. known_more p d (place_at (p.size d) place) first second (a.known d place is inside) (b.known d place is inside);
}

-- asks by items, each of which spare
pub all_sparing : {A : Type 0} (p : Pool) (f : A → List Ask) (items : List A) → ((j : ℕ) (item : A) → slice_get items j ≡ Some item → AreSparing p (f item))
    → AreSparing p (flat_map f items)
all_sparing p f [] h = no_asks_spare p
all_sparing p f (item ∷ items) h = sparing_more p (f item) (flat_map f items) (h zero item refl) (all_sparing p f items (λ j other e. h (suc j) other e))

pub each_sparing : {A : Type 0} (p : Pool) (f : A → Ask) (items : List A) → ((j : ℕ) (item : A) → slice_get items j ≡ Some item → AreSparing p (f item ∷ []))
    → AreSparing p (map f items)
each_sparing p f [] h = no_asks_spare p
each_sparing p f (item ∷ items) h = sparing_more p (f item ∷ []) (map f items) (h zero item refl) (each_sparing p f items (λ j other e. h (suc j) other e))
