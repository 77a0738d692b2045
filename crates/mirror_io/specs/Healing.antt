-- What the rewriting of wrong copies, one after another, did with a bank.
use Rattle.std.specs.Prelude.{◌≡◌, ℕ, false, Bool, ◌&&◌, List, [], ◌∷◌, map}
use Rattle.std.specs.List.{filter}
use Rattle.bank_core.specs.Asks.{asks_of}
use Rattle.bank_core.specs.BankView.{BankView}
use Rattle.bank_core.specs.Calls.{Makes}
use Rattle.bank_core.specs.Disk.{Noted}
use Rattle.mirror_io.specs.declared.copies.CopyOf.{CopyOf}
use Rattle.mirror_io.specs.declared.copies.CopySeen.{CopySeen}
use Rattle.mirror_io.specs.Copies.{is_due}
use Rattle.mirror_io.specs.Reading.{AreOn, Shows}
use Rattle.mirror_io.specs.Reads.{rewrites}
use Rattle.mirror_io.specs.Seen.{seen_after, copy_shown, is_mismatch}

-- the copy is rewritten, where it showed this
abbrev pub is_rewritten : CopySeen → CopyOf → Bool
is_rewritten known copy = is_due false copy && is_mismatch known

-- A copy was rewritten where it has to be.
pub record HealsCopy (copy : CopyOf) (at : ℕ) (block : List ℕ) (known known' : CopySeen) (old new : BankView)
    : Type 0 where
  pub made : List Noted
  pub bank : Makes made old new
  pub asks : asks_of made ≡ rewrites at block (filter (is_rewritten known) (copy ∷ []))
  pub shown : (test : List ℕ → Bool) → known' ≡ seen_after test copy.dev known made
  pub on : AreOn copy.dev made
  pub idle : is_due false copy ≡ false → made ≡ []

-- So were these of the copies.
pub record Heals (copies some : List CopyOf) (at : ℕ) (block : List ℕ) (known known' : List CopySeen)
    (old new : BankView) : Type 0 where
  pub made : List Noted
  pub bank : Makes made old new
  pub asks : (test : List ℕ → Bool) (before : List Noted) → known ≡ map (copy_shown test before) copies
      → asks_of made ≡ rewrites at block (filter (λ copy. is_rewritten (copy_shown test before copy) copy) some)
  pub shown : (test : List ℕ → Bool) → Shows test copies made known known'
