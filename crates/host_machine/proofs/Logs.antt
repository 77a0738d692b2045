-- Logs as a record has them: the ranges of their groups.
use Rattle.std.proofs.Common.{◌≡◌, ℕ, ◌≤◌, ◌&&◌, Bool, true, false, refl, sym, ◌∙◌, arith}
use Rattle.std.proofs.lemmas.Bool.{and_from}
use Rattle.std.proofs.lemmas.Bool.Decides.{nat_tests}
use Rattle.group_set.specs.Ranges.{in_ranges, ranges_upto}
use Rattle.group_set.specs.Runs.{between}
use Rattle.group_set.proofs.Upto.{upto_has}
use Rattle.pool_core.proofs.Drawing.{IsWithin}

between_is : (n g : ℕ) → 1 ≤ g → g ≤ n → between 1 n g ≡ true
between_is n g low high = grind (arith, nat_tests)

and_none : (b : Bool) → (b && false) ≡ false
and_none true = refl
and_none false = refl

-- a log up to n is what its ranges up to n are
pub log_ranges : (log : ℕ → Bool) (n : ℕ) → IsWithin n log → (g : ℕ) → log g ≡ in_ranges (ranges_upto log n) g
log_ranges log n within g = sym (upto_has log n g ∙ by (log g) refl)
  where
    by : (has : Bool) → log g ≡ has → (between 1 n g && has) ≡ has
    by true e = let w = within g e in and_from (between 1 n g) true (between_is n g w.0 w.1) refl
    by false e = and_none (between 1 n g)
