-- Sets as callers see them.
use Rattle.std.proofs.Common.{◌≡◌, ℕ, ◌-◌, ◌^◌, ◌<◌, ◌≤◌, Bool, true, false, ◌&&◌, ◌||◌, nat_le, nat_lt, List, [], ◌∷◌, Option, Some, None, IfSome, length, get_or, take, drop, take_all, refl, ap, sym, ◌∙◌, arith}
use Rattle.std.specs.List.{list_all}
use Rattle.std.proofs.lemmas.Bool.Decides.{nat_tests}
use Rattle.group_set.specs.declared.run.Run.{Run}
use Rattle.group_set.specs.Runs.{spans, in_runs, between, AreRuns}
use Rattle.group_set.specs.Groups.{Groups, holds, IsWidened}
use Rattle.group_set.specs.Choice.{HullOf, IsLeastFrom}
use Rattle.group_set.proofs.Among.{or_true, spans_within}
use Rattle.group_set.proofs.Maximal.{group_range}

below-step : (b : Bool) (g h : ℕ) → (b ≡ true → 1 ≤ h) → (b && between 0 (g - 1) h) ≡ (b && nat_lt h g)
below-step true g h range = let one : 1 ≤ h = range refl in grind (arith, nat_tests)
below-step false g h range = refl

-- no group is 0, so those up to the one before `g` are those below it
pub below_cut : (runs : List Run) (g h : ℕ) → AreRuns runs → (in_runs runs h && between 0 (g - 1) h) ≡ (in_runs runs h && nat_lt h g)
below_cut runs g h are = below-step (in_runs runs h) g h (λ is. (group_range runs h are is).0)

from-step : (b : Bool) (g h top : ℕ) → (b ≡ true → h ≤ top) → (b && between g top h) ≡ (b && nat_le g h)
from-step true g h top range = let last : h ≤ top = range refl in grind (arith, nat_tests)
from-step false g h top range = refl

-- no group is above 2^62, so a greater end cuts nothing
pub from_cut : (runs : List Run) (g h top : ℕ) → AreRuns runs → 2 ^ 62 ≤ top → (in_runs runs h && between g top h) ≡ (in_runs runs h && nat_le g h)
from_cut runs g h top are high = from-step (in_runs runs h) g h top (λ is. (let r = (group_range runs h are is).1 in omega arith))

-- one run from the least to the greatest group
pub IsWidened-hull : (old new : Groups) (hull : Run) → HullOf old.runs hull → new.runs ≡ hull ∷ [] → IsWidened old new
unfolding holds
IsWidened-hull old new hull found is = record {
  between = λ a g b in_a in_b low high. ap (λ runs. in_runs runs g) is ∙ or_true (spans hull g) false (let l = found.above a in_a in let r = found.below b in_b in grind (arith, nat_tests));
  only = λ g h. (let inside = spans_within hull g (grind (arith, nat_tests, sym (ap (λ runs. in_runs runs g) is) ∙ h)) in
      (hull.low, hull.high, found.low, found.high, inside.0, inside.1));
}

-- the least group found is one from 1 to 2^62
pub least_range : (runs : List Run) (from : ℕ) (found : Option ℕ) → AreRuns runs → IsLeastFrom (in_runs runs) from found → IfSome found (λ g. (1 ≤ g) × (g ≤ 2 ^ 62))
least_range runs from None are none = tt
least_range runs from (Some g) are found = group_range runs g are found.holds

-- the groups of the first set, met with the others
pub covered_step : (sets : List Groups) (d : Groups) (empty : Bool) (n g : ℕ) → empty ≡ false → 0 < length sets → length sets - 1 ≤ n
    → ((empty || holds (get_or sets 0 d) g) && list_all (λ set. holds set g) (take n (drop 1 sets))) ≡ list_all (λ set. holds set g) sets
covered_step [] d empty n g none some long = absurd (omega arith)
covered_step (set ∷ sets) d empty n g none some long =
    ap (λ b. (b || holds set g) && list_all (λ set. holds set g) (take n sets)) none
    ∙ ap (λ rest. holds set g && list_all (λ set. holds set g) rest) (take_all n sets (omega arith))
