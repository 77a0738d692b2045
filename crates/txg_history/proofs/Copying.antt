-- A write that answered Ok is a copy of a scan's step, behind calls that put nothing there.
use Rattle.std.proofs.Common.{
  ◌≡◌,
  ℕ,
  ◌+◌,
  ◌-◌,
  ◌==◌,
  ◌&&◌,
  nat_le,
  nat_lt,
  Bool,
  true,
  false,
  cond,
  List,
  [],
  ◌∷◌,
  length,
  Some,
  None,
  refl,
  sym,
  subst,
  inl,
  inr,
  arith,
}
use Rattle.std.proofs.lemmas.Bool.Decides.{nat_tests}
use Rattle.bank_core.specs.Disk.{Call, Read, Write, Flush, Admit, Eject, Noted, covers, sectors_in, sector_of}
use Rattle.bank_core.specs.Standing.{Untouched}
use Rattle.bank_core.proofs.Blocks.{block_sectors}
use Rattle.txg_history.specs.Events.{as_events}
use Rattle.txg_history.specs.Moves.{WasCopied}
use Rattle.txg_history.specs.Pools.{Pool, noted_copies, copies_after, pool_after}
use Rattle.txg_history.specs.Records.{Cell, data_start}
use Rattle.txg_history.specs.Survival.{IsAmong}
use Rattle.txg_history.proofs.Folding.{calls_after}
use Rattle.txg_history.proofs.RoundParts.{first_bytes}
use Rattle.txg_history.proofs.Showing.{copy_lands}

among_cond : (t : Bool) (b x : List ℕ) (l : List (List ℕ)) → IsAmong b l → IsAmong b (cond t (x ∷ l) l)
among_cond true b x l i = inr i
among_cond false b x l i = i

-- what was copied is so behind more calls
call_copies : (call : Call) (copies : ℕ → ℕ → List (List ℕ)) (d s : ℕ) (b : List ℕ) → IsAmong b (copies d s) → IsAmong b (noted_copies call copies d s)
call_copies (Read dev at bytes fault) copies d s b i = i
call_copies (Write dev at bytes None) copies d s b i =
    among_cond ((dev == d) && covers at (sectors_in bytes) s) b (sector_of (s - at) bytes) (copies d s) i
call_copies (Write dev at bytes (Some fault)) copies d s b i = i
call_copies (Flush dev fault) copies d s b i = i
call_copies (Admit dev holds) copies d s b i = i
call_copies (Eject dev) copies d s b i = i

calls_copies : (made : List Noted) (copies : ℕ → ℕ → List (List ℕ)) (d s : ℕ) (b : List ℕ) → IsAmong b (copies d s) → IsAmong b (copies_after made copies d s)
calls_copies [] copies d s b i = i
calls_copies (noted ∷ made) copies d s b i = calls_copies made (noted_copies noted.call copies) d s b (call_copies noted.call copies d s b i)

-- a write of a block that answered Ok puts it there
write_copies : (d s : ℕ) (block : List ℕ) (copies : ℕ → ℕ → List (List ℕ)) → length block ≡ 4096
    → IsAmong block (noted_copies (Write d s block None) copies d s)
write_copies d s block copies long = subst (λ t. IsAmong block (cond t (sector_of (s - s) block ∷ copies d s) (copies d s))) (sym aimed)
    (inl (sym (first_bytes (s - s) block long (omega arith))))
  where
    covers_one : (n : ℕ) → n ≡ 1 → covers s n s ≡ true
    covers_one n e =
        let low : nat_le s s ≡ true = grind (arith, nat_tests) in
        let high : nat_lt s (s + n) ≡ true = grind (arith, nat_tests) in rw (low, high) refl

    same_dev : (d == d) ≡ true
    same_dev = grind (arith, nat_tests)

    aimed : ((d == d) && covers s (sectors_in block) s) ≡ true
    aimed = rw (same_dev, covers_one (sectors_in block) (block_sectors block long)) refl

pub step_copies : (p : Pool) (noted : Noted) (made : List Noted) (d : ℕ) (cell : Cell)
    → noted.call ≡ Write d (data_start + cell.sector) cell.block None → length cell.block ≡ 4096
    → Untouched made d (data_start + cell.sector) → WasCopied (pool_after (as_events (noted ∷ made)) p) d cell
step_copies p noted made d cell call long u = subst (λ q. WasCopied q d cell) (sym (calls_after (noted ∷ made) p)) (record {
  written = calls_copies made (noted_copies noted.call p.copies) d (data_start + cell.sector) cell.block
      (subst (λ call. IsAmong cell.block (noted_copies call p.copies d (data_start + cell.sector))) (sym call)
      (write_copies d (data_start + cell.sector) cell.block p.copies long));
  is_copied = copy_lands noted made d (data_start + cell.sector) cell.block p.sectors call long u;
})
