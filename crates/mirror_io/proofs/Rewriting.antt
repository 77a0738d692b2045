-- Rewritten copies: what the writes show of them, and their causes.
use Rattle.std.proofs.Common.{◌≡◌, ℕ, ◌==◌, Bool, true, false, cond, List, [], ◌∷◌, Option, Some, None, refl, sym, ap, ◌∙◌, subst, arith}
use Rattle.std.specs.List.{AllByRecursion}
use Rattle.mp_base.specs.Outside.{Rose}
use Rattle.bank_core.specs.declared.bank.Fault.{Fault}
use Rattle.bank_core.specs.Asks.{Ask, Writes, asks_of, ask_of}
use Rattle.bank_core.specs.Calls.{AllCaused, device_of, fault_of}
use Rattle.bank_core.specs.Disk.{Call, Read, Write, Flush, Admit, Eject, Noted}
use Rattle.bank_core.proofs.Composing.{caused_counts}
use Rattle.mirror_io.specs.declared.copies.CopyOf.{CopyOf}
use Rattle.mirror_io.specs.declared.copies.CopySeen.{CopySeen}
use Rattle.mirror_io.specs.declared.copies.CopySeen.TheVariants as seen
use Rattle.mirror_io.specs.Reads.{rewrites}
use Rattle.mirror_io.specs.Seen.{sees, seen_after}
use Rattle.mirror_io.proofs.Causing.{all_by, rose_from}
use Rattle.mirror_io.proofs.Showing.{same_device, other_device}
use Rattle.mirror_io.proofs.Wrong.{Away}

pub written : (call : Call) (dev at : ℕ) (block : List ℕ) → ask_of call ≡ Writes dev at block → (fault : Option Fault) × (call ≡ Write dev at block fault)
written (Read d a bytes fault) dev at block e = absurd (cc)
written (Write d a bytes fault) dev at block e = (fault, cc)
written (Flush d fault) dev at block e = absurd (cc)
written (Admit d holds) dev at block e = absurd (cc)
written (Eject d) dev at block e = absurd (cc)

pub first_ask : (a b : Ask) (xs ys : List Ask) → a ∷ xs ≡ b ∷ ys → a ≡ b
first_ask a b xs ys e = cc

pub later_asks : (a b : Ask) (xs ys : List Ask) → a ∷ xs ≡ b ∷ ys → xs ≡ ys
later_asks a b xs ys e = cc

-- writes to other devices show nothing of this one
pub seen-unwritten : (test : List ℕ → Bool) (dev at : ℕ) (block : List ℕ) (copies : List CopyOf) (made : List Noted) (s : CopySeen)
    → asks_of made ≡ rewrites at block copies → Away dev copies → seen_after test dev s made ≡ s
seen-unwritten test dev at block [] [] s e away = refl
seen-unwritten test dev at block [] (noted ∷ made) s e away = absurd (cc)
seen-unwritten test dev at block (copy ∷ copies) [] s e away = absurd (cc)
seen-unwritten test dev at block (copy ∷ copies) (noted ∷ made) s e away =
    let one = written noted.call copy.dev at block (first_ask _ _ _ _ e) in
    rw (other_device (device_of noted.call) copy.dev dev (ap device_of one.1) (λ e. away.0 (sym e)))
    (seen-unwritten test dev at block copies made s (later_asks _ _ _ _ e) away.1)

-- a mismatch behind writes was one before
still_mismatch : (test : List ℕ → Bool) (s : CopySeen) (dev at : ℕ) (block : List ℕ) (fault : Option Fault) → sees test s (Write dev at block fault) ≡ seen.Mismatch
    → (s ≡ seen.Mismatch) × (other : Fault) × (fault ≡ Some other)
still_mismatch test s dev at block None e = absurd (cc)
still_mismatch test s dev at block (Some fault) e = (e, fault, refl)

pub was_mismatch : (test : List ℕ → Bool) (dev at : ℕ) (block : List ℕ) (copies : List CopyOf) (made : List Noted) (s : CopySeen)
    → asks_of made ≡ rewrites at block copies → seen_after test dev s made ≡ seen.Mismatch → s ≡ seen.Mismatch
was_mismatch test dev at block [] [] s e is = is
was_mismatch test dev at block [] (noted ∷ made) s e is = absurd (cc)
was_mismatch test dev at block (copy ∷ copies) [] s e is = absurd (cc)
was_mismatch test dev at block (copy ∷ copies) (noted ∷ made) s e is =
    go (device_of noted.call == dev) (was_mismatch test dev at block copies made _ (later_asks _ _ _ _ e) is)
  where
    go : (t : Bool) → cond t (sees test s noted.call) s ≡ seen.Mismatch → s ≡ seen.Mismatch
    go false same = same
    go true shows =
        let one = written noted.call copy.dev at block (first_ask _ _ _ _ e) in
        (still_mismatch test s copy.dev at block one.0 (sym (ap (sees test s) one.1) ∙ shows)).0

-- A copy that was to be rewritten, and still is a mismatch, had its count rise.
pub all_rose : (test : List ℕ → Bool) (at : ℕ) (block : List ℕ) (copies : List CopyOf) (made : List Noted) (f g : ℕ → ℕ) → asks_of made ≡ rewrites at block copies
    → AllCaused made f g → AllByRecursion (λ copy. (s : CopySeen) → seen_after test copy.dev s made ≡ seen.Mismatch → Rose (f copy.dev) (g copy.dev)) copies
all_rose test at block [] made f g e caused = tt
all_rose test at block (copy ∷ copies) [] f g e caused = absurd (cc)
all_rose test at block (copy ∷ copies) (noted ∷ made) f g e caused =
    let between = caused.0 in (
      here,
      all_by (λ x. (s : CopySeen) → seen_after test x.dev s made ≡ seen.Mismatch → Rose (between x.dev) (g x.dev))
          (λ x. (s : CopySeen) → seen_after test x.dev s (noted ∷ made) ≡ seen.Mismatch → Rose (f x.dev) (g x.dev)) copies
          (λ x p s is. rose_from (f x.dev) (between x.dev) (g x.dev) (g x.dev) (caused.1.counts x.dev)
          (p (cond (device_of noted.call == x.dev) (sees test s noted.call) s) is) (omega arith))
          (all_rose test at block copies made between g (later_asks _ _ _ _ e) caused.2),
    )
  where
    one : (fault : Option Fault) × (noted.call ≡ Write copy.dev at block fault)
    one = written noted.call copy.dev at block (first_ask _ _ _ _ e)

    here : (s : CopySeen) → seen_after test copy.dev s (noted ∷ made) ≡ seen.Mismatch → Rose (f copy.dev) (g copy.dev)
    here s is =
        let on : device_of noted.call ≡ copy.dev = ap device_of one.1 in
        let was : sees test s noted.call ≡ seen.Mismatch =
        was_mismatch test copy.dev at block copies made (sees test s noted.call) (later_asks _ _ _ _ e) (rw (on, same_device copy.dev) at is) in
        let failed = still_mismatch test s copy.dev at block one.0 (sym (ap (sees test s) one.1) ∙ was) in
        rose_from (f copy.dev) (f copy.dev) (caused.0 copy.dev) (g copy.dev) (omega arith)
        (subst (λ d. Rose (f d) (caused.0 d)) on (caused.1.cause failed.1 (ap fault_of one.1 ∙ failed.2)))
        (caused_counts made caused.0 g caused.2 copy.dev)
