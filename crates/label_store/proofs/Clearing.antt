-- What a whole stamp or wipe brings onto each place of a device's rings.
use Rattle.std.proofs.Common.{◌≡◌, ◌⊎◌, ℕ, zero, suc, ◌+◌, ◌-◌, ◌*◌, ◌<◌, ◌≤◌, ◌==◌, ◌&&◌, Bool, true, false, List, [], ◌∷◌, ◌++◌, length, take, drop, replicate, None, refl, ap, ◌∙◌, inl, inr, arith}
use Rattle.std.proofs.lemmas.Bool.Decides.{nat_tests}
use Rattle.std.proofs.lemmas.Grind.{common_steps}
use Rattle.std.proofs.lemmas.List.{take-replicate, drop-replicate, take_all}
use Rattle.std.specs.Prelude.{slice_index}
use Rattle.std.proofs.lemmas.Option.{none-some}
use Rattle.mp_base.specs.Block.{zeros}
use Rattle.mp_base.specs.declared.number.Guid.{Guid}
use Rattle.bank_core.specs.Asks.{Ask, Writes, Flushes, IsPart}
use Rattle.bank_core.specs.Disk.{Sector, Sectors, Noted, covers, sectors_in, sector_of, sector_size, replay, run}
use Rattle.bank_core.specs.Memory.{zero_sector}
use Rattle.bank_core.specs.Standing.{Stands, Spares}
use Rattle.bank_core.proofs.Standing.{part_lands, spares_more}
use Rattle.label_store.specs.Clearing.{RingsHold, stamp_sector}
use Rattle.label_store.specs.Layout.{labels_of}
use Rattle.label_store.specs.Plans.{label_writes, blank_uberblock, zero_ring, stamp_plan, wipe_plan}
use Rattle.label_store.specs.Uberblock.{uberblock_bytes}
use Rattle.label_store.proofs.Bare.{length-zeros}
use Rattle.label_store.proofs.Places.{uberblock_sectors, length-uberblock}
use Rattle.label_store.proofs.Writing.{ring_sectors}

-- What the end of a whole plan brings, whatever was asked before it.
pub behind : (before asks : List Ask) (made : List Noted) (d s : ℕ) (x : Sector) (P : Sector → Type 0)
    → ((made' : List Noted) (y : Sector) → IsPart asks made' None → P (replay made' d s y)) → IsPart (before ++ asks) made None → P (replay made d s x)
behind [] asks made d s x P brings part = brings made x part
behind (ask ∷ before) asks [] d s x P brings part = absurd part
behind (ask ∷ before) asks (noted ∷ made) d s x P brings (is, inl (ok, more)) = behind before asks made d s _ P brings more
behind (ask ∷ before) asks (noted ∷ made) d s x P brings (is, inr (fault, failed, none, end)) = absurd (none-some fault end)

and_false : (x : Bool) → (x && false) ≡ false
and_false true = refl
and_false false = refl

-- the sector lies before or behind n from `at` on
abbrev Misses : (at n s : ℕ) → Type 0
Misses at n s = (s < at) ⊎ (at + n ≤ s)

uncovered : (at n s : ℕ) → Misses at n s → covers at n s ≡ false
uncovered at n s (inl before) = grind (arith, common_steps, nat_tests)
uncovered at n s (inr after) = grind (arith, common_steps, nat_tests)

covered : (at n s : ℕ) → at ≤ s → s < at + n → covers at n s ≡ true
covered at n s le lt = grind (arith, common_steps, nat_tests)

-- it lies outside of n sectors from the start of the ring on, in each of these labels
abbrev MissesAll : (labels : List ℕ) → (n s : ℕ) → Type 0
MissesAll [] n s = Unit {0}
MissesAll (at ∷ labels) n s = Misses (at + 32) n s × MissesAll labels n s

writes_spare : (dev : ℕ) (labels : List ℕ) (bytes : List ℕ) (n s : ℕ) → sectors_in bytes ≡ n → MissesAll labels n s → Spares (label_writes dev labels 32 bytes) dev s
writes_spare dev [] bytes n s fill m = tt
writes_spare dev (at ∷ labels) bytes n s fill m = (
  ap (λ k. (dev == dev) && covers (at + 32) k s) fill ∙ ap (λ b. (dev == dev) && b) (uncovered (at + 32) n s m.0) ∙ and_false (dev == dev),
  writes_spare dev labels bytes n s fill m.1,
)

-- What one of a whole plan's writes brings stands behind it, if no later one goes there.
pub lands : (dev : ℕ) (before : List Ask) (at : ℕ) (bytes : List ℕ) (rest : List Ask) (made : List Noted) (n s : ℕ) (x : Sector) → sectors_in bytes ≡ n → at ≤ s → s < at + n
    → Spares rest dev s → IsPart (before ++ Writes dev at bytes ∷ (rest ++ Flushes dev ∷ [])) made None → Stands (replay made dev s x) (sector_of (s - at) bytes)
lands dev before at bytes rest made n s x fill le lt sp part =
    behind before _ made dev s x (λ y. Stands y (sector_of (s - at) bytes))
    (λ made' y part. part_lands dev at bytes rest made' s y (ap (λ k. covers at k s) fill ∙ covered at n s le lt) sp part) part

part_zeros : (n k t : ℕ) → t * k + k ≤ n → take {A = ℕ} k (drop {A = ℕ} (t * k) (replicate {A = ℕ} n 0)) ≡ replicate k 0
part_zeros n k t inside = ap (take {A = ℕ} k) (drop-replicate {X = ℕ} (t * k) n 0) ∙ take-replicate {X = ℕ} k (n - t * k) 0 (omega arith)

ring_room : (t : ℕ) → t < 32 → t * sector_size + sector_size ≤ 131072
unfolding sector_size
ring_room t lt = omega arith

pub ring_sector : (t : ℕ) → t < 32 → sector_of t zero_ring ≡ zero_sector
unfolding zero_ring zeros zero_sector
ring_sector t lt = part_zeros 131072 sector_size t (ring_room t lt)

-- the bytes of both writes into a ring, each sector of them by its place
zeros_at : (at t : ℕ) → t < 32 → sector_of (at + (32 + t) - (at + 32)) zero_ring ≡ zero_sector
zeros_at at t lt = ap (λ i. sector_of i zero_ring) (let e : at + (32 + t) - (at + 32) ≡ t = omega arith in e) ∙ ring_sector t lt

pub whole_sector : (bytes : List ℕ) → length bytes ≡ 4096 → sector_of 0 bytes ≡ bytes
unfolding sector_size
whole_sector bytes long = take_all 4096 bytes (omega arith)

blank_at : (at : ℕ) (bytes : List ℕ) → length bytes ≡ 4096 → sector_of (at + 32 - (at + 32)) bytes ≡ bytes
unfolding sector_size
blank_at at bytes long =
    ap (λ i. take 4096 (drop (i * 4096) bytes)) (let e : at + 32 - (at + 32) ≡ 0 = omega arith in e) ∙ take_all 4096 bytes (omega arith)

blank_long : (pool member : Guid) → length (uberblock_bytes (blank_uberblock pool member)) ≡ 4096
blank_long pool member = length-uberblock (blank_uberblock pool member) (length-zeros 32)

blank_one : (pool member : Guid) → sectors_in (uberblock_bytes (blank_uberblock pool member)) ≡ 1
blank_one pool member = uberblock_sectors (blank_uberblock pool member) (length-zeros 32)

-- The plan of a stamp, cut at the write of zeros into one label, and at that of its uberblock.
abbrev AtZeros : (dev : ℕ) → (u : List ℕ) → (before : List ℕ) → (at : ℕ) → (rest : List ℕ) → List Ask
AtZeros dev u before at rest = label_writes dev before 32 zero_ring
    ++ Writes dev (at + 32) zero_ring ∷ ((label_writes dev rest 32 zero_ring ++ label_writes dev (before ++ at ∷ rest) 32 u) ++ Flushes dev ∷ [])

abbrev AtBlank : (dev : ℕ) → (u : List ℕ) → (before : List ℕ) → (at : ℕ) → (rest : List ℕ) → List Ask
AtBlank dev u before at rest = (label_writes dev (before ++ at ∷ rest) 32 zero_ring ++ label_writes dev before 32 u)
    ++ Writes dev (at + 32) u ∷ (label_writes dev rest 32 u ++ Flushes dev ∷ [])

zeros_land : (dev : ℕ) (pool member : Guid) (before : List ℕ) (at : ℕ) (rest : List ℕ) (t : ℕ) (made : List Noted) (x : Sector) → 1 ≤ t → t < 32
    → MissesAll rest 32 (at + (32 + t)) → MissesAll (before ++ at ∷ rest) 1 (at + (32 + t))
    → IsPart (AtZeros dev (uberblock_bytes (blank_uberblock pool member)) before at rest) made None → Stands (replay made dev (at + (32 + t)) x) zero_sector
zeros_land dev pool member before at rest t made x some lt m m' part =
    let s = at + (32 + t) in
    let u = uberblock_bytes (blank_uberblock pool member) in
    let st = lands dev (label_writes dev before 32 zero_ring) (at + 32) zero_ring (label_writes dev rest 32 zero_ring ++ label_writes dev (before ++ at ∷ rest) 32 u)
    made 32 s x (ring_sectors zero_ring refl) (omega arith) (omega arith)
    (spares_more (label_writes dev rest 32 zero_ring) (label_writes dev (before ++ at ∷ rest) 32 u) dev s
    (writes_spare dev rest zero_ring 32 s (ring_sectors zero_ring refl) m) (writes_spare dev (before ++ at ∷ rest) u 1 s (blank_one pool member) m')) part in
    record { still = st.still; stable = st.stable ∙ zeros_at at t (omega arith) }

blank_lands : (dev : ℕ) (pool member : Guid) (before : List ℕ) (at : ℕ) (rest : List ℕ) (made : List Noted) (x : Sector) → MissesAll rest 1 (at + 32)
    → IsPart (AtBlank dev (uberblock_bytes (blank_uberblock pool member)) before at rest) made None → Stands (replay made dev (at + 32) x) (uberblock_bytes (blank_uberblock pool member))
blank_lands dev pool member before at rest made x m part =
    let u = uberblock_bytes (blank_uberblock pool member) in
    let st = lands dev (label_writes dev (before ++ at ∷ rest) 32 zero_ring ++ label_writes dev before 32 u) (at + 32) u (label_writes dev rest 32 u)
    made 1 (at + 32) x (blank_one pool member) (omega arith) (omega arith) (writes_spare dev rest u 1 (at + 32) (blank_one pool member) m) part in
    record { still = st.still; stable = st.stable ∙ blank_at at u (blank_long pool member) }

-- So each place holds what the stamp brings to its slot.
pub stamp_holds : (dev size : ℕ) (pool member : Guid) (k t : ℕ) (made : List Noted) (sectors : ℕ → Sector) → 320 ≤ size → k < 4 → t < 32
    → IsPart (stamp_plan dev size pool member) made None → Stands (replay made dev (slice_index (labels_of size) k + (32 + t)) (sectors (slice_index (labels_of size) k + (32 + t)))) (stamp_sector pool member t)
stamp_holds dev size pool member zero zero made sectors big few lt part =
    blank_lands dev pool member [] 0 (64 ∷ (size - 128) ∷ (size - 64) ∷ []) made _ (inl (omega arith), (inl (omega arith), (inl (omega arith), tt))) part
stamp_holds dev size pool member (suc zero) zero made sectors big few lt part =
    blank_lands dev pool member (0 ∷ []) 64 ((size - 128) ∷ (size - 64) ∷ []) made _ (inl (omega arith), (inl (omega arith), tt)) part
stamp_holds dev size pool member (suc (suc zero)) zero made sectors big few lt part =
    blank_lands dev pool member (0 ∷ 64 ∷ []) (size - 128) ((size - 64) ∷ []) made _ (inl (omega arith), tt) part
stamp_holds dev size pool member (suc (suc (suc zero))) zero made sectors big few lt part =
    blank_lands dev pool member (0 ∷ 64 ∷ (size - 128) ∷ []) (size - 64) [] made _ tt part
stamp_holds dev size pool member zero (suc t) made sectors big few lt part =
    zeros_land dev pool member [] 0 (64 ∷ (size - 128) ∷ (size - 64) ∷ []) (suc t) made _ (omega arith) lt (inl (omega arith), (inl (omega arith), (inl (omega arith), tt))) (inr (omega arith), (inl (omega arith), (inl (omega arith), (inl (omega arith), tt)))) part
stamp_holds dev size pool member (suc zero) (suc t) made sectors big few lt part =
    zeros_land dev pool member (0 ∷ []) 64 ((size - 128) ∷ (size - 64) ∷ []) (suc t) made _ (omega arith) lt (inl (omega arith), (inl (omega arith), tt)) (inr (omega arith), (inr (omega arith), (inl (omega arith), (inl (omega arith), tt)))) part
stamp_holds dev size pool member (suc (suc zero)) (suc t) made sectors big few lt part =
    zeros_land dev pool member (0 ∷ 64 ∷ []) (size - 128) ((size - 64) ∷ []) (suc t) made _ (omega arith) lt (inl (omega arith), tt) (inr (omega arith), (inr (omega arith), (inr (omega arith), (inl (omega arith), tt)))) part
stamp_holds dev size pool member (suc (suc (suc zero))) (suc t) made sectors big few lt part =
    zeros_land dev pool member (0 ∷ 64 ∷ (size - 128) ∷ []) (size - 64) [] (suc t) made _ (omega arith) lt tt (inr (omega arith), (inr (omega arith), (inr (omega arith), (inr (omega arith), tt)))) part
stamp_holds dev size pool member (suc (suc (suc (suc k)))) t made sectors big few lt part = absurd (omega arith)

-- A whole stamp leaves on each place what it brings there.
pub stamped_rings : (dev size : ℕ) (pool member : Guid) (made : List Noted) (sectors : Sectors) → 320 ≤ size → IsPart (stamp_plan dev size pool member) made None
    → RingsHold size (run made sectors dev) (stamp_sector pool member)
stamped_rings dev size pool member made sectors big part label slot few inside = stamp_holds dev size pool member label slot made (sectors dev) big few inside part

-- The plan of a wipe, cut at the write into one label.
abbrev AtWipe : (dev : ℕ) → (before : List ℕ) → (at : ℕ) → (rest : List ℕ) → List Ask
AtWipe dev before at rest = label_writes dev before 32 zero_ring ++ Writes dev (at + 32) zero_ring ∷ (label_writes dev rest 32 zero_ring ++ Flushes dev ∷ [])

wipe_lands : (dev : ℕ) (before : List ℕ) (at : ℕ) (rest : List ℕ) (t : ℕ) (made : List Noted) (x : Sector) → t < 32 → MissesAll rest 32 (at + (32 + t))
    → IsPart (AtWipe dev before at rest) made None → Stands (replay made dev (at + (32 + t)) x) zero_sector
wipe_lands dev before at rest t made x lt m part =
    let s = at + (32 + t) in
    let st = lands dev (label_writes dev before 32 zero_ring) (at + 32) zero_ring (label_writes dev rest 32 zero_ring)
    made 32 s x (ring_sectors zero_ring refl) (omega arith) (omega arith) (writes_spare dev rest zero_ring 32 s (ring_sectors zero_ring refl) m) part in
    record { still = st.still; stable = st.stable ∙ zeros_at at t lt }

-- A whole wipe leaves zeros on each place.
pub wiped_rings : (dev size : ℕ) (made : List Noted) (sectors : Sectors) → 320 ≤ size → IsPart (wipe_plan dev size) made None
    → RingsHold size (run made sectors dev) (λ slot. zero_sector)
wiped_rings dev size made sectors big part zero slot few inside =
    wipe_lands dev [] 0 (64 ∷ (size - 128) ∷ (size - 64) ∷ []) slot made _ inside (inl (omega arith), (inl (omega arith), (inl (omega arith), tt))) part
wiped_rings dev size made sectors big part (suc zero) slot few inside =
    wipe_lands dev (0 ∷ []) 64 ((size - 128) ∷ (size - 64) ∷ []) slot made _ inside (inl (omega arith), (inl (omega arith), tt)) part
wiped_rings dev size made sectors big part (suc (suc zero)) slot few inside =
    wipe_lands dev (0 ∷ 64 ∷ []) (size - 128) ((size - 64) ∷ []) slot made _ inside (inl (omega arith), tt) part
wiped_rings dev size made sectors big part (suc (suc (suc zero))) slot few inside =
    wipe_lands dev (0 ∷ 64 ∷ (size - 128) ∷ []) (size - 64) [] slot made _ inside tt part
wiped_rings dev size made sectors big part (suc (suc (suc (suc label)))) slot few inside = absurd (omega arith)
