-- What a buffer shows, one sector after another.
use Rattle.std.proofs.Common.{◌≡◌, ◌≢◌, ℕ, ◌+◌, List, arith, sym, ap, ◌∙◌, subst, below_more}
use Rattle.bank_core.specs.Disk.{Sector, IsClean, sector_of}
use Rattle.bank_core.specs.View.{view_of, Shows, ShowsClean}
use Rattle.bank_core.specs.declared.view.Shown.{Shown}
use Rattle.bank_core.specs.declared.view.Shown.TheVariants as shown
use Rattle.bank_core.specs.declared.view.View.{View}

pub clean_none : (sectors : ℕ → Sector) (bytes : List ℕ) → ShowsClean sectors 0 bytes
clean_none sectors bytes = λ i lt. absurd (omega arith)

held_here : (what : Shown) (view : View) (x : Sector) (bytes : List ℕ)
    → view_of view ≡ x → what ≡ shown.Held view.stable → Shows what bytes → bytes ≡ x.stable
held_here what view x bytes is held shows = subst (λ s. Shows s bytes) held shows ∙ ap (λ s. s.stable) is

-- one more sector is shown
pub clean_more : (sectors : ℕ → Sector) (old new : List ℕ) (i : ℕ) (what : Shown) (view : View)
    → ShowsClean sectors i old → view_of view ≡ sectors i → (IsClean (view_of view) → what ≡ shown.Held view.stable)
    → Shows what (sector_of i new) → ((j : ℕ) → j ≢ i → sector_of j new ≡ sector_of j old) → ShowsClean sectors (i + 1) new
clean_more sectors old new i what view before is held shows others =
    below_more (λ j. IsClean (sectors j) → sector_of j new ≡ (sectors j).stable) i
    (λ j lt clean. let apart : j ≢ i = omega arith in others j apart ∙ before j lt clean)
    (λ clean. held_here what view (sectors i) (sector_of i new) is (held (subst IsClean (sym is) clean)) shows)
