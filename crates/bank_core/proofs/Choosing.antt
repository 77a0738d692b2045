-- What a buffer shows by choice.
use Rattle.std.proofs.Common.{◌≡◌, ◌≢◌, ℕ, ◌+◌, List, arith, sym, subst, below_more}
use Rattle.bank_core.specs.declared.moment.ImageChoice.{ImageChoice}
use Rattle.bank_core.specs.Disk.{Sector, sector_of}
use Rattle.bank_core.specs.Image.{IsChosen, ShowsChosen}

-- one more sector is shown
pub chosen_more : (how : ImageChoice) (sectors : ℕ → Sector) (old new : List ℕ) (i : ℕ) → ShowsChosen how sectors i old
    → IsChosen how (sectors i) (sector_of i new) → ((j : ℕ) → j ≢ i → sector_of j new ≡ sector_of j old) → ShowsChosen how sectors (i + 1) new
chosen_more how sectors old new i before here others =
    below_more (λ j. IsChosen how (sectors j) (sector_of j new)) i
    (λ j lt. let apart : j ≢ i = omega arith in subst (IsChosen how (sectors j)) (sym (others j apart)) (before j lt)) here

-- what is shown of a view is shown of the sector that it views
pub chosen_here : (how : ImageChoice) (x y : Sector) (bytes : List ℕ) → x ≡ y → IsChosen how x bytes → IsChosen how y bytes
chosen_here how x y bytes e chosen = subst (λ s. IsChosen how s bytes) e chosen
