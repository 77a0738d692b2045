-- Moves that would lose data are refused.
use Rattle.std.proofs.Common.{
  ◌≡◌,
  ◌≢◌,
  ◌⊎◌,
  ℕ,
  ◌+◌,
  ◌-◌,
  ◌≤◌,
  ◌<◌,
  ◌==◌,
  ◌&&◌,
  nat_le,
  nat_lt,
  Bool,
  true,
  false,
  cond,
  List,
  [],
  ◌∷◌,
  length,
  Some,
  None,
  refl,
  sym,
  ap,
  ◌∙◌,
  subst,
  inl,
  inr,
  arith,
}
use Rattle.std.proofs.lemmas.Bool.Decides.{nat_tests}
use Rattle.mp_base.specs.declared.place.Key.{Key}
use Rattle.bank_core.specs.Disk.{Sector, Nothing, Written, Write, Noted, covers, sectors_in, sector_of, hurt, effect}
use Rattle.bank_core.specs.Standing.{touches}
use Rattle.bank_core.proofs.Blocks.{block_sectors}
use Rattle.label_store.specs.declared.uberblock.Uberblock.{Uberblock}
use Rattle.label_store.specs.Records.{place_at}
use Rattle.label_store.specs.Rounds.{uberblock_of}
use Rattle.label_store.specs.Plans.{blank_uberblock}
use Rattle.label_store.specs.Uberblock.{IsInRange, uberblock_bytes}
use Rattle.label_store.proofs.Places.{length-uberblock, uberblock_sectors}
use Rattle.txg_history.specs.Events.{Calls, Freezes, Begins, Passes, Clears}
use Rattle.txg_history.specs.Groups.{Logs}
use Rattle.txg_history.specs.Moves.{WasCopied, Mays, puts}
use Rattle.txg_history.specs.Needs.{Keeps}
use Rattle.txg_history.specs.Pages.{Codec}
use Rattle.txg_history.specs.Places.{IsFree}
use Rattle.txg_history.specs.Pools.{Pool, drawn, seat}
use Rattle.txg_history.specs.Records.{Rec, Cell, Cells, IsIn, AreAtOne, number_of, data_start}
use Rattle.txg_history.specs.Survival.{IsAmong, Survives}
use Rattle.txg_history.proofs.Listing.{same_cell}
use Rattle.txg_history.proofs.Logging.{true_not_false}
use Rattle.txg_history.proofs.Placing.{place_safe}
use Rattle.txg_history.proofs.RoundParts.{one_there}

-- A place of a live record isn't given to another key.
pub no_reuse : (c : Codec) (p : Pool) (cells : Cells) (board : ℕ → Bool) (r : Rec) (j k : Key) (a b : Cell)
    → Survives c p → IsIn r p.live → r.cells j ≡ Some a → cells k ≡ Some b
    → AreAtOne a b → Mays c p (Freezes cells board ∷ []) → ⊥
no_reuse c p cells board r j k a b sv i at bt one mays = place_safe c p sv r j a i at
    (subst (λ t. IsFree p t a.sector) (sym one.0) (subst (λ s. IsFree p b.top s) (sym one.1) (mays.0.free k b bt)))

-- A round doesn't begin before the flush turn has ended.
pub no_early_round : (c : Codec) (p : Pool) (q : Rec) → p.group.flushed ≡ false → Mays c p (Begins q ∷ []) → ⊥
no_early_round c p q unflushed mays = true_not_false p.group.flushed mays.0.flushed unflushed

-- Nor does one where a top has no leaf on the board, so that its keys would be acknowledged and stand nowhere.
pub no_empty_board : (c : Codec) (p : Pool) (q : Rec) (d : ℕ) → p.member d ≡ true → 1 ≤ p.in_top d
    → ((e : ℕ) → p.member e ≡ true → p.in_top e ≡ p.in_top d → p.group.board e ≡ false) → Mays c p (Begins q ∷ []) → ⊥
no_empty_board c p q d is leaf none mays =
    let on = mays.0.boards d is leaf in
    true_not_false (p.group.board on.d) on.on_board (none on.d on.is_member on.top_is)

-- Nor is an uberblock written whose record no round began.
pub no_early_uberblock : (c : Codec) (p : Pool) (d place : ℕ) (u : Uberblock) (noted : Noted) → p.member d ≡ true → place < 128 → IsInRange u → 1 ≤ u.number.0
    → ((r : Rec) → IsIn r (drawn p) → number_of r ≢ u.number.0) → noted.call ≡ Write d (place_at (p.size d) place)
    (uberblock_bytes u) None → Mays c p (Calls noted ∷ []) → ⊥
no_early_uberblock c p d place u noted is inside range some none call mays = of
    (mays.0.known d place is inside touched u (record { in_range = range; bytes = put }))
  where
    at : ℕ
    at = place_at (p.size d) place

    one : sectors_in (uberblock_bytes u) ≡ 1
    one = uberblock_sectors u range.sum

    same_dev : (d == d) ≡ true
    same_dev = grind (arith, nat_tests)

    covers_one : (n : ℕ) → n ≡ 1 → covers at n at ≡ true
    covers_one n e = let low : nat_le at at ≡ true = grind (arith, nat_tests) in let high : nat_lt at
        (at + n) ≡ true = grind (arith, nat_tests) in rw (low, high) refl

    aimed : ((d == d) && covers at (sectors_in (uberblock_bytes u)) at) ≡ true
    aimed = rw (same_dev, covers_one (sectors_in (uberblock_bytes u)) one) refl

    touched : touches noted.call d at ≡ true
    touched = ap (λ call. touches call d at) call ∙ aimed

    put : puts noted.call at ≡ uberblock_bytes u
    put = ap (λ call. puts call at) call ∙ one_there d at d at (uberblock_bytes u) (length-uberblock u range.sum) one aimed

    of : ((r : Rec) × IsIn r (drawn p) × (u ≡ uberblock_of r.commit (seat p d))) ⊎ (u ≡ blank_uberblock p.pool (p.guid d)) → ⊥
    of (inl drawn_one) = none drawn_one.0 drawn_one.1 (sym (ap (λ u. u.number.0) drawn_one.2))
    of (inr blank) = omega (arith, some, ap (λ u. u.number.0) blank)

-- A scan doesn't come past a key that an eligible leaf owes, and that it neither copied nor put into the leaf's SCRUB log.
pub no_skipped_key : (c : Codec) (p : Pool) (k : Key) (cell : Cell) (scrub : Logs) (d : ℕ) → p.member d ≡ true
    → p.scan.eligible d ≡ true → p.reads.cells k ≡ Some cell
    → p.in_top d ≡ cell.top → p.owes d cell.birth ≡ true → scrub d cell.birth ≡ false
    → (IsAmong cell.block (p.copies d (data_start + cell.sector)) → ⊥)
    → Mays c p (Passes k scrub ∷ []) → ⊥
no_skipped_key c p k cell scrub d is eligible at top owed clean never mays =
    of (subst (λ cell. (p.owes d cell.birth ≡ false) ⊎ ((scrub d cell.birth ≡ true) ⊎ WasCopied p d cell)) same
    (mays.0.each d is eligible (top ∙ ap (λ cell. cell.top) (sym same))))
  where
    same : mays.0.cell ≡ cell
    same = same_cell mays.0.cell cell (sym mays.0.cell_is ∙ at)

    of : (p.owes d cell.birth ≡ false) ⊎ ((scrub d cell.birth ≡ true) ⊎ WasCopied p d cell) → ⊥
    of (inl lacks) = true_not_false (p.owes d cell.birth) owed lacks
    of (inr (inl failed)) = true_not_false (scrub d cell.birth) failed clean
    of (inr (inr copied)) = never copied.written

still_sound : (noted : Noted) (d s : ℕ) (x : Sector) → noted.damage d s ≡ false → x.damaged ≡ false → (hurt (noted.damage d s) x).damaged ≡ false
still_sound noted d s x clean sound = ap (λ t. cond t true x.damaged) clean ∙ sound

-- Nor does its end clear a log before what was copied to the leaf is flushed.
pub no_early_clear : (c : Codec) (p : Pool) (k : Key) (cell : Cell) (d : ℕ) (noted : Noted) → p.member d ≡ true
    → p.reads.cells k ≡ Some cell → p.in_top d ≡ cell.top
    → p.scan.passed k ≡ true → cell.birth ≤ p.scan.hi → p.scan.scrub d cell.birth ≡ false → length cell.block ≡ 4096
    → noted.call ≡ Write d (data_start + cell.sector) cell.block None → noted.damage d
    (data_start + cell.sector) ≡ false → (p.sectors d (data_start + cell.sector)).damaged ≡ false
    → Mays c p (Calls noted ∷ Clears d ∷ []) → ⊥
no_early_clear c p k cell d noted is at top passed low clean long call undamaged sound mays = of
    (mays.1.0.kept (data_start + cell.sector) cell.block is (record {
      running = mays.1.0.running;
      is_eligible = mays.1.0.is_eligible;
      k = k;
      cell = cell;
      cell_is = at;
      top_is = top;
      is_passed = passed;
      low = low;
      not_scrubbed = clean;
      at = record { sector_is = refl; bytes_are = refl };
    }))
  where
    s : ℕ
    s = data_start + cell.sector

    x : Sector
    x = hurt (noted.damage d s) (p.sectors d s)

    same_dev : (d == d) ≡ true
    same_dev = grind (arith, nat_tests)

    covers_one : (n : ℕ) → n ≡ 1 → covers s n s ≡ true
    covers_one n e = let low : nat_le s s ≡ true = grind (arith, nat_tests) in let high : nat_lt s
        (s + n) ≡ true = grind (arith, nat_tests) in rw (low, high) refl

    aimed : ((d == d) && covers s (sectors_in cell.block) s) ≡ true
    aimed = rw (same_dev, covers_one (sectors_in cell.block) (block_sectors cell.block long)) refl

    written : (effect noted.call d s x).pending ≡ Written (sector_of (s - s) cell.block)
    written = ap (λ call. (effect call d s x).pending) call ∙ ap
        (λ t. (cond t (record {
          stable = x.stable;
          pending = Written
              (sector_of (s - s) cell.block);
          damaged = x.damaged;
        }) x).pending) aimed

    whole : (effect noted.call d s x).damaged ≡ false
    whole = ap (λ call. (effect call d s x).damaged) call
        ∙ (ap (λ t. (cond t (record {
          stable = x.stable;
          pending = Written
              (sector_of (s - s) cell.block);
          damaged = x.damaged;
        }) x).damaged) aimed ∙ still_sound noted d s
        (p.sectors d s) undamaged sound)

    never : (bytes : List ℕ) → Written bytes ≡ Nothing → ⊥
    never bytes e = cc

    of : Keeps (effect noted.call d s x) cell.block → ⊥
    of (inl k) = never (sector_of (s - s) cell.block) (sym written ∙ k.1)
    of (inr k) = true_not_false (effect noted.call d s x).damaged k.0 whole
