-- A good leaf of a page has it, and says so where it is read.
use Rattle.std.proofs.Common.{◌≡◌, ◌≢◌, ◌⊎◌, ℕ, ◌+◌, ◌≤◌, Bool, false, List, Option, Some, None, refl, ap, ◌∙◌, inl, inr}
use Rattle.sha2.specs.Sha256.{sha256}
use Rattle.txg_history.specs.Events.{Known}
use Rattle.txg_history.specs.Moves.{ReadsTrue}
use Rattle.txg_history.specs.Pages.{Codec}
use Rattle.txg_history.specs.Pools.{Pool}
use Rattle.txg_history.specs.Premises.{HasGoodLeaf, HasGoodPages, IsSearched}
use Rattle.txg_history.specs.Reads.{IsKeptAt}
use Rattle.txg_history.specs.Records.{Rec, Cell, IsIn, key, data_start}
use Rattle.txg_history.specs.Survival.{Survives}
use Rattle.txg_history.proofs.Logging.{true_not_false}
use Rattle.txg_history.proofs.Showing.{kept_clean}
use Rattle.mp_base.specs.declared.place.Key.{Key}

pub good_kept : (p : Pool) (r : Rec) (k : Key) (cell : Cell) (answering : ℕ → Bool) → IsIn r p.live
    → r.cells k ≡ Some cell → (good : HasGoodLeaf p r cell answering)
    → IsKeptAt p good.d (data_start + cell.sector) cell.block
good_kept p r k cell answering i at good =
    inl
    (record {
      r = r;
      is_live = i;
      k = k;
      cell = cell;
      cell_is = at;
      in_top = good.top_is;
      has = good.has;
      at = record { sector_is = refl; bytes_are = refl };
    })

-- Where each page has a good leaf, each is found.
pub good_found : (c : Codec) (p : Pool) (r : Rec) (answering : Key → ℕ → Bool) (known : Known) (found : Key → Option (List ℕ)) → Survives c p → IsIn r p.live
    → HasGoodPages p r answering → ReadsTrue p.sectors known → IsSearched p r answering known found
    → (level index : ℕ) (cell : Cell) → 1 ≤ level → level ≤ 3 → r.cells (key level index) ≡ Some cell
    → (bytes : List ℕ) × (found (key level index) ≡ Some bytes) × (sha256 bytes ≡ sha256 cell.block)
good_found c p r answering known found sv live pages true_to searched level index cell low high at = of (found (key level index)) refl
  where
    good : HasGoodLeaf p r cell (answering (key level index))
    good = pages level index cell low high at

    right : (bytes : List ℕ) → known good.d (data_start + cell.sector) ≡ Some bytes → bytes ≡ cell.block
    right bytes shown =
        let clean = kept_clean c p good.d (data_start + cell.sector) cell.block sv good.is_member
        (good_kept p r (key level index) cell (answering (key level index)) live at good) good.unhurt in
        true_to good.d (data_start + cell.sector) bytes shown (record { still = clean.1; sound = good.unhurt }) ∙ clean.0

    not_missed : (answering (key level index) good.d ≡ false) ⊎ ((bytes : List ℕ) × (known good.d (data_start + cell.sector) ≡ Some bytes)
        × (sha256 bytes ≢ sha256 cell.block)) → ⊥
    not_missed (inl silent) = true_not_false (answering (key level index) good.d) good.answers silent
    not_missed (inr (bytes, shown, other)) = other (ap sha256 (right bytes shown))

    of : (one : Option (List ℕ)) → found (key level index) ≡ one
        → (bytes : List ℕ) × (found (key level index) ≡ Some bytes) × (sha256 bytes ≡ sha256 cell.block)
    of None e = absurd (not_missed (searched.missed (key level index) cell good.d at e good.is_member good.top_is))
    of (Some bytes) e = (bytes, e, searched.summed (key level index) cell bytes at e)
