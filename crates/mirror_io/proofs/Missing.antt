-- Reads of which none was good: each copy failed, or gave other bytes.
use Rattle.std.proofs.Common.{◌≡◌, ℕ, ◌==◌, Bool, true, false, cond, List, [], ◌∷◌, None, refl, subst, inl, inr}
use Rattle.std.specs.List.{AllByRecursion}
use Rattle.std.proofs.lemmas.Option.{none-some}
use Rattle.bank_core.specs.Calls.{device_of}
use Rattle.bank_core.specs.Disk.{Noted}
use Rattle.mirror_io.specs.declared.copies.CopyOf.{CopyOf}
use Rattle.mirror_io.specs.declared.copies.CopySeen.{CopySeen}
use Rattle.mirror_io.specs.declared.copies.CopySeen.TheVariants as seen
use Rattle.mirror_io.specs.Reading.{Tells, AllTold}
use Rattle.mirror_io.specs.Reads.{AreTried}
use Rattle.mirror_io.specs.Seen.{sees, seen_after}
use Rattle.mirror_io.proofs.Causing.{all_by}
use Rattle.mirror_io.proofs.Reading.{Next, next_on, next_rest, is_not_test}
use Rattle.mirror_io.proofs.Showing.{same_device}

abbrev pub is_spent : CopySeen → Bool
is_spent seen.Failed = true
is_spent seen.Mismatch = true
is_spent seen.NotTried = false
is_spent seen.NotReadable = false
is_spent seen.Good = false
is_spent seen.Healed = false

-- the first read shows that its copy is of no use
next_spent : (test : List ℕ → Bool) (at : ℕ) (Good : List ℕ → Type 0) (copy : CopyOf) (noted : Noted) (more : List CopyOf) (made : List Noted) (wrong : List CopyOf) (s : CopySeen)
    → Tells test Good noted.call → Next at Good copy noted more made wrong None → is_spent (sees test s noted.call) ≡ true
next_spent test at Good copy noted more made wrong s tells (inl (failed, rest)) = rw failed.gives.is refl
next_spent test at Good copy noted more made wrong s tells (inr (inl (others, bytes, differs, is, rest))) =
    rw (differs.gives.is, is_not_test test Good bytes (subst (Tells test Good) differs.gives.is tells) differs.is) refl
next_spent test at Good copy noted more made wrong s tells (inr (inr (bytes, serves, none, right, is))) = absurd (none-some bytes is)

spent_still : (test : List ℕ → Bool) (at : ℕ) (Good : List ℕ → Type 0) (dev : ℕ) (copies : List CopyOf) (made : List Noted) (wrong : List CopyOf) (s : CopySeen)
    → AllTold test Good made → AreTried at Good copies made wrong None → is_spent s ≡ true → is_spent (seen_after test dev s made) ≡ true
spent_still test at Good dev [] made wrong s told r spent = rw r.0 spent
spent_still test at Good dev (copy ∷ copies) [] wrong s told r spent = absurd r
spent_still test at Good dev (copy ∷ copies) (noted ∷ made) wrong s told r spent =
    let rest = next_rest at Good copy noted copies made wrong r in
    spent_still test at Good dev copies made rest.0 _ told.1 rest.1 (go (device_of noted.call == dev))
  where
    go : (t : Bool) → is_spent (cond t (sees test s noted.call) s) ≡ true
    go true = next_spent test at Good copy noted copies made wrong s told.0 r
    go false = spent

pub all_spent : (test : List ℕ → Bool) (at : ℕ) (Good : List ℕ → Type 0) (copies : List CopyOf) (made : List Noted) (wrong : List CopyOf)
    → AllTold test Good made → AreTried at Good copies made wrong None
    → AllByRecursion (λ copy. (s : CopySeen) → is_spent (seen_after test copy.dev s made) ≡ true) copies
all_spent test at Good [] made wrong told r = tt
all_spent test at Good (copy ∷ copies) [] wrong told r = absurd r
all_spent test at Good (copy ∷ copies) (noted ∷ made) wrong told r =
    let rest = next_rest at Good copy noted copies made wrong r in (
      here,
      all_by (λ copy. (s : CopySeen) → is_spent (seen_after test copy.dev s made) ≡ true)
          (λ copy. (s : CopySeen) → is_spent (seen_after test copy.dev s (noted ∷ made)) ≡ true) copies
          (λ x p s. p (cond (device_of noted.call == x.dev) (sees test s noted.call) s)) (all_spent test at Good copies made rest.0 told.1 rest.1),
    )
  where
    here : (s : CopySeen) → is_spent (seen_after test copy.dev s (noted ∷ made)) ≡ true
    here s =
        let rest = next_rest at Good copy noted copies made wrong r in
        rw (next_on at Good copy noted copies made wrong None r, same_device copy.dev)
        (spent_still test at Good copy.dev copies made rest.0 (sees test s noted.call) told.1 rest.1
        (next_spent test at Good copy noted copies made wrong s told.0 r))
