-- Where no copy of a page was good, what is said of each copy is what its leaf showed in these reads.
use Rattle.std.proofs.Common.{◌≡◌, ℕ, Bool, true, false, cond, List, [], ◌∷◌, map, None, refl, sym, ap₂, inl, inr}
use Rattle.std.specs.List.{AllByRecursion}
use Rattle.bank_core.specs.Calls.{device_of}
use Rattle.bank_core.specs.Disk.{Noted}
use Rattle.mirror_io.specs.declared.copies.CopyOf.{CopyOf}
use Rattle.mirror_io.specs.declared.copies.CopySeen.{CopySeen}
use Rattle.mirror_io.specs.declared.copies.CopySeen.TheVariants as seen
use Rattle.mirror_io.specs.Copies.{AreApart, tries}
use Rattle.mirror_io.specs.Reads.{AreTried}
use Rattle.mirror_io.specs.Seen.{is_outcome, sees, seen_after, copy_shown}
use Rattle.mirror_io.proofs.Causing.{all_readable}
use Rattle.mirror_io.proofs.Reading.{Next, next_on, next_rest}
use Rattle.mirror_io.proofs.Showing.{other_device, same_device}
use Rattle.mirror_io.proofs.Wrong.{Away, tries_distinct}
use Rattle.pool_moves.specs.Showing.{ReadFailed, Mismatched, failed_on, leaf_shown}
use Rattle.open_pool.specs.Pages.{leaf_saw}

-- what is said of a copy that was read
abbrev IsTold : List Noted → CopyOf → Type 0
IsTold made copy = leaf_saw (seen_after (is_outcome None) copy.dev seen.NotTried made) ≡ cond (failed_on made copy.dev) ReadFailed Mismatched

-- reads of other devices show nothing of this one
quiet : (dev at : ℕ) (Good : List ℕ → Type 0) (copies : List CopyOf) (made : List Noted) (wrong : List CopyOf) (known : CopySeen) → Away dev copies
    → AreTried at Good copies made wrong None → (failed_on made dev ≡ false) × (seen_after (is_outcome None) dev known made ≡ known)
quiet dev at Good [] made wrong known away tried = rw tried.0 (refl, refl)
quiet dev at Good (copy ∷ copies) [] wrong known away tried = absurd tried
quiet dev at Good (copy ∷ copies) (noted ∷ made) wrong known away tried =
    let rest = next_rest at Good copy noted copies made wrong tried in
    rw (other_device (device_of noted.call) copy.dev dev (next_on at Good copy noted copies made wrong None tried) (λ e. away.0 (sym e)))
    (quiet dev at Good copies made rest.0 known away.1 rest.1)

told_more : (noted : Noted) (made : List Noted) (dev : ℕ) (copies : List CopyOf) → device_of noted.call ≡ dev → Away dev copies
    → AllByRecursion (IsTold made) copies → AllByRecursion (IsTold (noted ∷ made)) copies
told_more noted made dev [] on away all = tt
told_more noted made dev (copy ∷ copies) on away all =
    (rw (other_device (device_of noted.call) dev copy.dev on away.0) all.0, told_more noted made dev copies on away.1 all.1)

-- so it is of each where no two have one device
abbrev AreDistinct : List CopyOf → Type 0
AreDistinct [] = Unit {0}
AreDistinct (copy ∷ copies) = Away copy.dev copies × AreDistinct copies

all_told : (at : ℕ) (Good : List ℕ → Type 0) (copies : List CopyOf) (made : List Noted) (wrong : List CopyOf) → AreDistinct copies
    → AreTried at Good copies made wrong None → AllByRecursion (IsTold made) copies
all_told at Good [] made wrong distinct tried = tt
all_told at Good (copy ∷ copies) [] wrong distinct tried = absurd tried
all_told at Good (copy ∷ copies) (noted ∷ made) wrong distinct tried =
    let rest = next_rest at Good copy noted copies made wrong tried in
    (here tried, told_more noted made copy.dev copies on distinct.0 (all_told at Good copies made rest.0 distinct.1 rest.1))
  where
    on : device_of noted.call ≡ copy.dev
    on = next_on at Good copy noted copies made wrong None tried

    still : (known : CopySeen) → (failed_on made copy.dev ≡ false) × (seen_after (is_outcome None) copy.dev known made ≡ known)
    still known = let rest = next_rest at Good copy noted copies made wrong tried in quiet copy.dev at Good copies made rest.0 known distinct.0 rest.1

    here : Next at Good copy noted copies made wrong None → IsTold (noted ∷ made) copy
    here (inl (fails, rest)) = rw (on, same_device copy.dev, (still (sees (is_outcome None) seen.NotTried noted.call)).1, fails.gives.is) refl
    here (inr (inl (others, bytes, gave, is, rest))) =
        let is_still = still (sees (is_outcome None) seen.NotTried noted.call) in
        rw (on, same_device copy.dev, is_still.1, gave.gives.is, is_still.0) refl
    here (inr (inr (bytes, gave, none, right, is))) = absurd (cc)

told_one : (made : List Noted) (copy : CopyOf) → (copy.readable ≡ true → IsTold made copy)
    → leaf_saw (copy_shown (is_outcome None) made copy) ≡ leaf_shown made copy
told_one made copy told = by copy.readable refl
  where
    by : (t : Bool) → copy.readable ≡ t → leaf_saw (copy_shown (is_outcome None) made copy) ≡ leaf_shown made copy
    by true is = rw is (told is)
    by false is = rw is refl

pub leaves_shown : (at : ℕ) (Good : List ℕ → Type 0) (copies : List CopyOf) (made : List Noted) (wrong : List CopyOf) → AreApart copies
    → AreTried at Good (tries copies) made wrong None
    → map leaf_saw (map (copy_shown (is_outcome None) made) copies) ≡ map (leaf_shown made) copies
leaves_shown at Good copies made wrong apart tried =
    each copies (all_readable (IsTold made) copies (all_told at Good (tries copies) made wrong (tries_distinct copies apart) tried))
  where
    each : (copies : List CopyOf) → AllByRecursion (λ copy. copy.readable ≡ true → IsTold made copy) copies
        → map leaf_saw (map (copy_shown (is_outcome None) made) copies) ≡ map (leaf_shown made) copies
    each [] all = refl
    each (copy ∷ copies) all = ap₂ (λ a b. a ∷ b) (told_one made copy all.0) (each copies all.1)
