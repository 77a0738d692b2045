-- Which blocks a pool may write at a place: fresh ones of the frozen group, and those of its keys again.
use Rattle.std.proofs.Common.{
  ◌≡◌,
  ◌≢◌,
  ◌⊎◌,
  ℕ,
  zero,
  suc,
  ◌+◌,
  ◌-◌,
  ◌/◌,
  ◌%◌,
  ◌<◌,
  ◌≤◌,
  ◌==◌,
  ◌&&◌,
  nat_le,
  nat_lt,
  Bool,
  true,
  false,
  List,
  [],
  ◌∷◌,
  length,
  Option,
  Some,
  refl,
  sym,
  ap,
  ◌∙◌,
  subst,
  inl,
  inr,
  arith,
  ⊎_elim,
}
use Rattle.std.specs.Prelude.{slice_index}
use Rattle.std.proofs.lemmas.Bool.{and_left, and_parts, cases_eq, leb-true, ltb-true, ne_eqb}
use Rattle.std.proofs.lemmas.Bool.Decides.{nat_tests}
use Rattle.mp_base.specs.declared.place.Key.{Key}
use Rattle.bank_core.specs.declared.bank.Fault.{Fault}
use Rattle.bank_core.specs.Asks.{Writes}
use Rattle.bank_core.specs.Disk.{Call, Write, covers, sectors_in, sector_of}
use Rattle.bank_core.specs.Standing.{touches, Spares}
use Rattle.bank_core.proofs.Blocks.{block_sectors}
use Rattle.label_store.specs.Layout.{labels_of}
use Rattle.label_store.specs.Records.{place_at}
use Rattle.txg_history.specs.Labels.{Status, Odd, Even, Lost}
use Rattle.txg_history.specs.Moves.{IsSparing}
use Rattle.txg_history.specs.Needs.{NeedsLabel, NeedsCell, NeedsRead, NeedsPut, NeedsScan, NeedsFirm, NeedsSoft}
use Rattle.txg_history.specs.Pages.{Codec}
use Rattle.txg_history.specs.Pools.{Pool, drawn, seat}
use Rattle.txg_history.specs.Records.{Rec, Cell, IsIn, AreAtOne, AreOne, data_start}
use Rattle.txg_history.specs.Sparing.{AreSparing}
use Rattle.txg_history.specs.Survival.{Survives, IsOf, IsMapped, IsKnownUber}
use Rattle.txg_history.proofs.Logging.{true_not_false}
use Rattle.txg_history.proofs.Placing.{place_between, top_some}
use Rattle.txg_history.proofs.RoundParts.{by_device, few_of, taken_fits, ring_of, slot_below, one_there}
use Rattle.txg_history.proofs.RoundPlaces.{outside_one}
use Rattle.txg_history.proofs.Sparing.{spared_lay}

-- what the labels need lies in them
label_below : (c : Codec) (p : Pool) (d : ℕ) (status : Status) (s : ℕ) (bytes : List ℕ) → Survives c p → IsOf p.live
    (p.guid d) status → NeedsLabel (seat p d) status s bytes → s < 128
label_below c p d (Odd r) s bytes sv of (inl (e, b)) = omega arith
label_below c p d (Odd r) s bytes sv of (inr (i, lt, e, b)) =
    let few = few_of c p.name p.pool p.room r (taken_fits c p.name p.pool p.room r (p.guid d) (sv.fit r of.0) of.1) in omega arith
label_below c p d (Even r) s bytes sv of (inl (e, b)) = omega arith
label_below c p d (Even r) s bytes sv of (inr (i, lt, e, b)) =
    let few = few_of c p.name p.pool p.room r (taken_fits c p.name p.pool p.room r (p.guid d) (sv.fit r of.0) of.1) in omega arith
label_below c p d Lost s bytes sv of needs = absurd needs

-- the rings lie outside of what is between the labels
ring_off_data : (size at label t : ℕ) → label < 4 → t < 32 → 128 ≤ at → at + 128 < size
    → (slice_index (labels_of size) label + (32 + t) < at) ⊎ (at + 1 ≤ slice_index (labels_of size) label + (32 + t))
ring_off_data size at zero t few lt low high = inl (omega arith)
ring_off_data size at (suc zero) t few lt low high = inl (omega arith)
ring_off_data size at (suc (suc zero)) t few lt low high = inr (omega arith)
ring_off_data size at (suc (suc (suc zero))) t few lt low high = inr (omega arith)
ring_off_data size at (suc (suc (suc (suc label)))) t few lt low high = absurd (omega arith)

off_one : (at s : ℕ) → at ≢ s → (s < at) ⊎ (at + 1 ≤ s)
off_one at s ne = of (nat_lt s at) refl
  where
    of : (t : Bool) → nat_lt s at ≡ t → (s < at) ⊎ (at + 1 ≤ s)
    of true e = inl (let lt : s < at = grind (arith, nat_tests) in lt)
    of false e = inr (let le : at ≤ s = grind (arith, nat_tests) in omega (arith, le, ne))

-- What is so of a write of one block to sector `at` of a member's device: it lies between the labels, nothing that is
-- needed firmly stands there, and each live record's key there has just this block.
pub record IsBlockAt (p : Pool) (dev at : ℕ) (block : List ℕ) : Type 0 where
  pub low : 128 ≤ at
  pub high : at + 128 < p.size dev
  pub no_put : (bytes : List ℕ) → NeedsPut p dev at bytes → ⊥
  pub true_to : (r : Rec) (k : Key) (cell : Cell) → IsIn r p.live → r.cells k ≡ Some cell → p.in_top dev ≡ cell.top
      → data_start + cell.sector ≡ at → block ≡ cell.block

away_from : (dev at d s : ℕ) (block : List ℕ) → dev ≢ d → ((dev == d) && covers at (sectors_in block) s) ≡ false
away_from dev at d s block ne = and_left (dev == d) (covers at (sectors_in block) s) (ne_eqb dev d ne)

-- it aims at the one sector
there_is : (dev at d s : ℕ) (block : List ℕ) → sectors_in block ≡ 1 → ((dev == d) && covers at (sectors_in block) s) ≡ true → (dev ≡ d) × (at ≡ s)
there_is dev at d s block one is =
    let parts = and_parts (dev == d) (covers at (sectors_in block) s) is in
    let c = and_parts (nat_le at s) (nat_lt s (at + sectors_in block)) parts.1 in
    let low = leb-true at s c.0 in
    let high = ltb-true s (at + sectors_in block) c.1 in
    (same parts.0, omega (arith, low, high, one))
  where
    same : (dev == d) ≡ true → dev ≡ d
    same e = grind (arith, nat_tests)

off_label : (c : Codec) (p : Pool) (dev at s : ℕ) (block bytes : List ℕ) → Survives c p → sectors_in block ≡ 1 → p.member dev ≡ true → IsBlockAt p dev at block
    → NeedsLabel (seat p dev) (p.status dev) s bytes → ((dev == dev) && covers at (sectors_in block) s) ≡ false
off_label c p dev at s block bytes sv one is b n =
    outside_one dev at dev s block one (inl
    (let low = b.low in let below = label_below c p dev (p.status dev) s bytes sv (sv.status_live dev is) n in
    omega (arith, low, below)))

off_put : (p : Pool) (dev at s : ℕ) (block bytes : List ℕ) → sectors_in block ≡ 1 → IsBlockAt p dev at block → NeedsPut p dev s bytes
    → ((dev == dev) && covers at (sectors_in block) s) ≡ false
off_put p dev at s block bytes one b n = outside_one dev at dev s block one (off_one at s (λ e. b.no_put bytes (subst (λ s. NeedsPut p dev s bytes) (sym e) n)))

off_ring : (p : Pool) (dev at place : ℕ) (block : List ℕ) → sectors_in block ≡ 1 → place < 128 → IsBlockAt p dev at block
    → ((dev == dev) && covers at (sectors_in block) (place_at (p.size dev) place)) ≡ false
off_ring p dev at place block one inside b =
    outside_one dev at dev (place_at (p.size dev) place) block one
    (ring_off_data (p.size dev) at (place / 32) (place % 32) (ring_of (p.size dev) place inside)
    (slot_below place) b.low b.high)

-- A write that spares all that is needed.
pub write_spares : (c : Codec) (p : Pool) (dev at : ℕ) (block : List ℕ) → Survives c p → length block ≡ 4096 → (p.member dev ≡ true → IsBlockAt p dev at block)
    → (p.member dev ≡ true → (bytes : List ℕ) → NeedsSoft p dev at bytes → ⊥) → AreSparing p (Writes dev at block ∷ [])
write_spares c p dev at block sv long b no_soft = record {
  plain = tt;
  firm = λ d. by_device (λ e. (s : ℕ) (bytes : List ℕ) → p.member e ≡ true → NeedsFirm p e s bytes → Spares (Writes dev at block ∷ []) e s) dev d
      (λ s bytes is n. (⊎_elim (λ n. off_label c p dev at s block bytes sv one is (b is) n) (λ n. off_put p dev at s block bytes one (b is) n) n, tt))
      (λ ne s bytes is n. (away_from dev at d s block ne, tt));
  soft = λ d. by_device (λ e. (s : ℕ) (bytes : List ℕ) → p.member e ≡ true → NeedsSoft p e s bytes → Spares (Writes dev at block ∷ []) e s) dev d
      (λ s bytes is n. (outside_one dev at dev s block one (off_one at s (λ e. no_soft is bytes (subst (λ s. NeedsSoft p dev s bytes) (sym e) n))), tt))
      (λ ne s bytes is n. (away_from dev at d s block ne, tt));
  true_to = λ r d k cell i is at_cell top. (
    λ aimed. one_there dev at d (data_start + cell.sector) block long one aimed
        ∙ true_of r d k cell i is at_cell top (there_is dev at d (data_start + cell.sector) block one aimed),
    tt,
  );
  known = λ d place is inside. spared_lay (IsKnownUber (drawn p) p.pool (seat p d)) (Writes dev at block ∷ []) d (place_at (p.size d) place)
      (by_device (λ e. p.member e ≡ true → Spares (Writes dev at block ∷ []) e (place_at (p.size e) place)) dev d
      (λ is. (off_ring p dev at place block one inside (b is), tt)) (λ ne is. (away_from dev at d (place_at (p.size d) place) block ne, tt)) is);
}
  where
    one : sectors_in block ≡ 1
    one = block_sectors block long

    true_of : (r : Rec) (d : ℕ) (k : Key) (cell : Cell) → IsIn r p.live → p.member d ≡ true → r.cells k ≡ Some cell → p.in_top d ≡ cell.top
        → (dev ≡ d) × (at ≡ data_start + cell.sector) → block ≡ cell.block
    true_of r d k cell i is at_cell top there =
        (b (ap p.member there.0 ∙ is)).true_to r k cell i at_cell (ap p.in_top there.0 ∙ top) (sym there.1)

-- A call that writes there again what is needed, where the sector is damaged or nothing is needed.
pub again_sparing : (c : Codec) (p : Pool) (dev at : ℕ) (block : List ℕ) (fault : Option Fault) → Survives c p
    → length block ≡ 4096 → (p.member dev ≡ true → IsBlockAt p dev at block)
    → (p.member dev ≡ true → (bytes : List ℕ) → NeedsSoft p dev at bytes → ((p.sectors dev at).damaged ≡ true)
    × (block ≡ bytes)) → IsSparing p (Write dev at block fault)
again_sparing c p dev at block fault sv long b again = record {
  plain = tt;
  firm = λ d. by_device (λ e. (s : ℕ) (bytes : List ℕ) → p.member e ≡ true → NeedsFirm p e s bytes → touches call e s ≡ false) dev d
      (λ s bytes is n. ⊎_elim (λ n. off_label c p dev at s block bytes sv one is (b is) n) (λ n. off_put p dev at s block bytes one (b is) n) n)
      (λ ne s bytes is n. away_from dev at d s block ne);
  soft = λ d. by_device (λ e. (s : ℕ) (bytes : List ℕ) → p.member e ≡ true → NeedsSoft p e s bytes → Softly e s bytes) dev d
      (λ s bytes is n. by_sector (λ s. NeedsSoft p dev s bytes → Softly dev s bytes) at s
      (λ n. let same = again is bytes n in inr (same.0, first_is ∙ same.1))
      (λ ne n. inl (outside_one dev at dev s block one (off_one at s ne))) n)
      (λ ne s bytes is n. inl (away_from dev at d s block ne));
  true_to = λ r d k cell i is at_cell top aimed. one_there dev at d (data_start + cell.sector) block long one aimed
      ∙ (let there = there_is dev at d (data_start + cell.sector) block one aimed in
      (b (ap p.member there.0 ∙ is)).true_to r k cell i at_cell (ap p.in_top there.0 ∙ top) (sym there.1));
  known = λ d place is inside aimed. absurd (true_not_false (touches call d (place_at (p.size d) place)) aimed
      (by_device (λ e. p.member e ≡ true → touches call e (place_at (p.size e) place) ≡ false) dev d
      (λ is. off_ring p dev at place block one inside (b is)) (λ ne is. away_from dev at d (place_at (p.size d) place) block ne) is));
}
  where
    call : Call
    call = Write dev at block fault

    Softly : (d s : ℕ) → List ℕ → Type 0
    Softly d s bytes = (touches call d s ≡ false) ⊎ (((p.sectors d s).damaged ≡ true) × (sector_of (s - at) block ≡ bytes))

    one : sectors_in block ≡ 1
    one = block_sectors block long

    by_sector : (P : ℕ → Type 0) (at s : ℕ) → P at → ((at ≢ s) → P s) → P s
    by_sector P at s here away = ⊎_elim {A = at ≡ s} {B = at ≢ s} (λ e. subst P e here) away (cases_eq at s)

    same_dev : (dev == dev) ≡ true
    same_dev = grind (arith, nat_tests)

    covers_one : (n : ℕ) → n ≡ 1 → covers at n at ≡ true
    covers_one n e = let a : nat_le at at ≡ true = grind (arith, nat_tests) in let b : nat_lt at (at + n) ≡ true = grind (arith, nat_tests) in rw (a, b) refl

    first_is : sector_of (at - at) block ≡ block
    first_is = one_there dev at dev at block long one (rw (same_dev, covers_one (sectors_in block) one) refl)

-- Two keys' places on one leaf are one where their sectors are.
one_place : (c : Codec) (p : Pool) (r : Rec) (d : ℕ) (a b : Cell) → Survives c p → p.member d ≡ true → IsIn r p.live → IsMapped p.room a → IsMapped p.room b
    → p.in_top d ≡ a.top → r.tops (p.guid d) ≡ b.top → data_start + a.sector ≡ data_start + b.sector → AreAtOne b a
one_place c p r d a b sv is i ma mb top in_top e = (b_home ∙ sym a_home, omega (arith, e))
  where
    a_home : a.top ≡ p.home d
    a_home = ⊎_elim (λ none. absurd (let some = top_some p.room a sv.roomy.no_top ma in omega (arith, some, none, top)))
        (λ home. sym top ∙ home) (sv.placed.in_tree d is)

    b_home : b.top ≡ p.home d
    b_home = ⊎_elim (λ none. absurd (let some = top_some p.room b sv.roomy.no_top mb in
        omega (arith, some, none, in_top))) (λ home. sym in_top ∙ home) (sv.placed.in_records r d i is)

same_place : (a b : Cell) (t : ℕ) → t ≡ a.top → t ≡ b.top → data_start + a.sector ≡ data_start + b.sector → AreAtOne b a
same_place a b t at bt e = (sym bt ∙ at, omega (arith, e))

-- A key that the frozen group has yet to write may be written to a leaf of its top: no live record stands there yet.
pub fresh_sparing : (c : Codec) (p : Pool) (k : Key) (cell : Cell) (dev : ℕ) → Survives c p → p.group.frozen ≡ true
    → p.group.flushed ≡ false → p.group.cells k ≡ Some cell
    → p.group.done k ≡ false → (p.member dev ≡ true → p.in_top dev ≡ cell.top) → AreSparing p (Writes dev (data_start + cell.sector) cell.block ∷ [])
fresh_sparing c p k cell dev sv frozen unflushed at undone top = write_spares c p dev (data_start + cell.sector) cell.block sv mapped.long
    (λ is. record {
      low = omega arith;
      high = place_between c p dev cell sv is mapped (⊎_elim (λ none. inl (sym (top is) ∙ none))
          (λ home. inr (sym (top is) ∙ home)) (sv.placed.in_tree dev is));
      no_put = λ bytes n. true_not_false (p.group.done k) (ap p.group.done (sym (put_one is bytes n).0) ∙ n.ended) undone;
      true_to = λ r j b i bt in_top e. absurd (not_live r j b i bt (same_place cell b (p.in_top dev) (top is) in_top (sym e)));
    })
    (λ is bytes n. soft is bytes n)
  where
    mapped : IsMapped p.room cell
    mapped = sv.one_key.group_mapped frozen k cell at

    not_live : (r : Rec) (j : Key) (b : Cell) → IsIn r p.live → r.cells j ≡ Some b → AreAtOne b cell → ⊥
    not_live r j b i bt one = true_not_false p.group.flushed
        (sv.come_to.begun_flushed frozen (sv.one_key.group_one frozen r j k b cell i bt at one).0) unflushed

    put_one : p.member dev ≡ true → (bytes : List ℕ) → (n : NeedsPut p dev (data_start + cell.sector) bytes) → AreOne n.k k n.cell cell
    put_one is bytes n = sv.one_key.group_apart frozen n.k k n.cell cell n.cell_is at (same_place cell n.cell (p.in_top dev) (top is) n.top_is n.at.sector_is)

    soft : p.member dev ≡ true → (bytes : List ℕ) → NeedsSoft p dev (data_start + cell.sector) bytes → ⊥
    soft is bytes (inl n) = not_live n.r n.k n.cell n.is_live n.cell_is
        (one_place c p n.r dev cell n.cell sv is n.is_live mapped (sv.one_key.mapped n.r n.k n.cell n.is_live n.cell_is) (top is) n.in_top n.at.sector_is)
    soft is bytes (inr (inl n)) = not_live p.reads n.k n.cell sv.order.reads_live n.cell_is
        (same_place cell n.cell (p.in_top dev) (top is) n.top_is n.at.sector_is)
    soft is bytes (inr (inr n)) = not_live p.reads n.k n.cell sv.order.reads_live n.cell_is
        (same_place cell n.cell (p.in_top dev) (top is) n.top_is n.at.sector_is)

-- At the place of a key that the pool reads, on a leaf of its top, stands no other live record's key, and none of the group.
record AtRead (p : Pool) (k : Key) (cell : Cell) (dev : ℕ) : Type 0 where
  block_at : IsBlockAt p dev (data_start + cell.sector) cell.block
  by_cell : (bytes : List ℕ) → (n : NeedsCell p.live (p.guid dev) (data_start + cell.sector) bytes) → n.cell ≡ cell
  by_read : (bytes : List ℕ) → (n : NeedsRead p.reads p.in_top p.owes dev (data_start + cell.sector) bytes) → n.cell ≡ cell
  by_scan : (bytes : List ℕ) → (n : NeedsScan p.scan p.reads p.in_top dev (data_start + cell.sector) bytes) → n.cell ≡ cell

at_read : (c : Codec) (p : Pool) (k : Key) (cell : Cell) (dev : ℕ) → Survives c p → p.reads.cells k ≡ Some cell
    → p.member dev ≡ true → p.in_top dev ≡ cell.top → AtRead p k cell dev
at_read c p k cell dev sv at is top = record {
  block_at = record {
    low = omega arith;
    high = place_between c p dev cell sv is mapped (⊎_elim (λ none. inl (sym top ∙ none)) (λ home. inr (sym top ∙ home)) (sv.placed.in_tree dev is));
    no_put = λ bytes n. not_group n.k n.cell n.is_frozen n.cell_is (same_place n.cell cell (p.in_top dev) n.top_is top (sym n.at.sector_is));
    true_to = λ r j b i bt in_top e. sym (ap (λ cell. cell.block)
        (sv.one_key.one r p.reads j k b cell i reads bt at (same_place cell b (p.in_top dev) top in_top (sym e))).1);
  };
  by_cell = λ bytes n. (sv.one_key.one n.r p.reads n.k k n.cell cell n.is_live reads n.cell_is at
      (one_place c p n.r dev cell n.cell sv is n.is_live mapped (sv.one_key.mapped n.r n.k n.cell n.is_live n.cell_is) top n.in_top n.at.sector_is)).1;
  by_read = λ bytes n. (sv.one_key.one p.reads p.reads n.k k n.cell cell reads reads n.cell_is at
      (same_place cell n.cell (p.in_top dev) top n.top_is n.at.sector_is)).1;
  by_scan = λ bytes n. (sv.one_key.one p.reads p.reads n.k k n.cell cell reads reads n.cell_is at
      (same_place cell n.cell (p.in_top dev) top n.top_is n.at.sector_is)).1;
}
  where
    reads : IsIn p.reads p.live
    reads = sv.order.reads_live

    mapped : IsMapped p.room cell
    mapped = sv.one_key.mapped p.reads k cell reads at

    not_group : (j : Key) (b : Cell) → p.group.frozen ≡ true → p.group.cells j ≡ Some b → AreAtOne cell b → ⊥
    not_group j b frozen bt one =
        let same = (sv.one_key.group_one frozen p.reads k j cell b reads at bt one).1.1 in
        let born = sv.one_key.group_births frozen j b bt in
        let old = sv.one_key.births p.reads k cell reads at in
        let above = sv.boards.reads_first frozen in omega (arith, born, old, above, ap (λ cell. cell.birth) same)

-- A key that the pool reads may be written again over a damaged sector.
pub heal_sparing : (c : Codec) (p : Pool) (k : Key) (cell : Cell) (dev : ℕ) (fault : Option Fault) → Survives c p → p.reads.cells k ≡ Some cell
    → (p.member dev ≡ true → (p.in_top dev ≡ cell.top) × ((p.sectors dev (data_start + cell.sector)).damaged ≡ true))
    → IsSparing p (Write dev (data_start + cell.sector) cell.block fault)
heal_sparing c p k cell dev fault sv at leaf = again_sparing c p dev (data_start + cell.sector) cell.block fault sv
    (sv.one_key.mapped p.reads k cell sv.order.reads_live at).long
    (λ is. (at_read c p k cell dev sv at is (leaf is).0).block_at)
    (λ is bytes n. ((leaf is).1, same is bytes n))
  where
    same : p.member dev ≡ true → (bytes : List ℕ) → NeedsSoft p dev (data_start + cell.sector) bytes → cell.block ≡ bytes
    same is bytes (inl n) = sym (n.at.bytes_are ∙ ap (λ cell. cell.block) ((at_read c p k cell dev sv at is (leaf is).0).by_cell bytes n))
    same is bytes (inr (inl n)) = sym (n.at.bytes_are ∙ ap (λ cell. cell.block) ((at_read c p k cell dev sv at is (leaf is).0).by_read bytes n))
    same is bytes (inr (inr n)) = sym (n.at.bytes_are ∙ ap (λ cell. cell.block) ((at_read c p k cell dev sv at is (leaf is).0).by_scan bytes n))

-- And to a leaf for which its birth is settled, where the scan that runs hasn't come past it there.
pub copy_sparing : (c : Codec) (p : Pool) (k : Key) (cell : Cell) (dev : ℕ) (fault : Option Fault) → Survives c p → p.reads.cells k ≡ Some cell
    → (p.member dev ≡ true → (p.in_top dev ≡ cell.top) × (p.settled dev cell.birth ≡ true)
    × (NeedsScan p.scan p.reads p.in_top dev (data_start + cell.sector) cell.block → ⊥))
    → IsSparing p (Write dev (data_start + cell.sector) cell.block fault)
copy_sparing c p k cell dev fault sv at leaf = again_sparing c p dev (data_start + cell.sector) cell.block fault sv
    (sv.one_key.mapped p.reads k cell sv.order.reads_live at).long
    (λ is. (at_read c p k cell dev sv at is (leaf is).0).block_at)
    (λ is bytes n. absurd (none is bytes n))
  where
    none : p.member dev ≡ true → (bytes : List ℕ) → NeedsSoft p dev (data_start + cell.sector) bytes → ⊥
    none is bytes (inl n) =
        let same = (at_read c p k cell dev sv at is (leaf is).0).by_cell bytes n in
        true_not_false (n.r.owes (p.guid dev) n.cell.birth)
        (subst (λ cell. n.r.owes (p.guid dev) cell.birth ≡ true) (sym same) (sv.unbroken.settled_live dev cell.birth is (leaf is).1 n.r n.is_live)) n.has
    none is bytes (inr (inl n)) =
        let same = (at_read c p k cell dev sv at is (leaf is).0).by_read bytes n in
        true_not_false (p.owes dev n.cell.birth) (subst (λ cell. p.owes dev cell.birth ≡ true) (sym same)
        (sv.unbroken.settled_still dev cell.birth is (leaf is).1)) n.has
    none is bytes (inr (inr n)) =
        let same = (at_read c p k cell dev sv at is (leaf is).0).by_scan bytes n in
        (leaf is).2 (subst (NeedsScan p.scan p.reads p.in_top dev (data_start + cell.sector)) (n.at.bytes_are ∙ ap (λ cell. cell.block) same) n)
