-- What a copy is said to have done has its cause.
use Rattle.std.specs.Prelude.{◌≡◌, ℕ, Bool, true, false}
use Rattle.mp_base.specs.Outside.{Rose}
use Rattle.mirror_io.specs.declared.copies.CopyOf.{CopyOf}
use Rattle.mirror_io.specs.declared.copies.CopySeen.{CopySeen}
use Rattle.mirror_io.specs.declared.copies.CopySeen.TheVariants as seen

-- By the counts of the devices before and after the call. Where no copy served, each was not readable, failed or gave
-- other bytes. A copy that should have been rewritten, and wasn't, had its count rise as well.
abbrev pub IsCause : (served : Bool) → (before after : ℕ → ℕ) → CopyOf → CopySeen → Type 0
IsCause served before after copy seen.NotReadable = copy.readable ≡ false
IsCause served before after copy seen.NotTried = (copy.readable ≡ true) × (served ≡ true)
IsCause served before after copy seen.Failed = (copy.readable ≡ true) × Rose (before copy.dev) (after copy.dev)
IsCause served before after copy seen.Mismatch =
    (copy.readable ≡ true) × (served ≡ true → copy.lacks ≡ false → Rose (before copy.dev) (after copy.dev))
IsCause served before after copy seen.Good = (copy.readable ≡ true) × (served ≡ true)
IsCause served before after copy seen.Healed = (copy.readable ≡ true) × (served ≡ true)
