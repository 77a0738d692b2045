-- Tests that tell which bytes are good: on the calls of a read they all show the same.
use Rattle.std.proofs.Common.{true≢false, ◌≡◌, ℕ, ◌==◌, Bool, true, false, cond, List, [], ◌∷◌, ◌++◌, map, Option, Some, None, refl, sym, ap, ap₂, ◌∙◌, subst, inl, inr}
use Rattle.std.proofs.lemmas.Slice.Eq.{bytes_eq-Decides}
use Rattle.sha2.specs.Sha256.{sha256}
use Rattle.bank_core.specs.Asks.{asks_of}
use Rattle.bank_core.specs.Calls.{device_of}
use Rattle.bank_core.specs.Disk.{Call, Read, Write, Flush, Admit, Eject, Noted}
use Rattle.mirror_io.specs.declared.copies.CopyOf.{CopyOf}
use Rattle.mirror_io.specs.declared.copies.CopySeen.{CopySeen}
use Rattle.mirror_io.specs.Reading.{Tells, AllTold}
use Rattle.mirror_io.specs.Reads.{AreTried, HasSum, rewrites}
use Rattle.mirror_io.specs.Seen.{has_sum, is_outcome, sees, seen_after, copy_shown}
use Rattle.mirror_io.proofs.Reading.{Next, tried_good, none_left}
use Rattle.mirror_io.proofs.Rewriting.{written, first_ask, later_asks}

-- Calls, and then more.
pub told_both : (test : List ℕ → Bool) (Good : List ℕ → Type 0) (first second : List Noted) → AllTold test Good first → AllTold test Good second
    → AllTold test Good (first ++ second)
told_both test Good [] second a b = b
told_both test Good (noted ∷ first) second a b = (a.0, told_both test Good first second a.1 b)

-- writes tell nothing
pub writes_told : (test : List ℕ → Bool) (Good : List ℕ → Type 0) (at : ℕ) (block : List ℕ) (copies : List CopyOf) (made : List Noted)
    → asks_of made ≡ rewrites at block copies → AllTold test Good made
writes_told test Good at block [] [] e = tt
writes_told test Good at block [] (noted ∷ made) e = absurd (cc)
writes_told test Good at block (copy ∷ copies) [] e = absurd (cc)
writes_told test Good at block (copy ∷ copies) (noted ∷ made) e =
    let one = written noted.call copy.dev at block (first_ask _ _ _ _ e) in
    (subst (Tells test Good) (sym one.1) tt, writes_told test Good at block copies made (later_asks _ _ _ _ e))

-- the sum of bytes tells whether they have the sum
pub sum_told : (sum : List ℕ) (made : List Noted) → AllTold (has_sum sum) (HasSum sum) made
sum_told sum [] = tt
sum_told sum (noted ∷ made) = (one noted.call, sum_told sum made)
  where
    one : (call : Call) → Tells (has_sum sum) (HasSum sum) call
    one (Read dev at bytes None) = ((bytes_eq-Decides (sha256 bytes) sum).0, (bytes_eq-Decides (sha256 bytes) sum).1)
    one (Read dev at bytes (Some fault)) = tt
    one (Write dev at bytes fault) = tt
    one (Flush dev fault) = tt
    one (Admit dev holds) = tt
    one (Eject dev) = tt

-- What a read answered tells which of its bytes were good.
told_by : (test : List ℕ → Bool) (at : ℕ) (Good : List ℕ → Type 0) (copies : List CopyOf) (made : List Noted) (wrong : List CopyOf) (outcome : Option (List ℕ))
    → ((bytes : List ℕ) → test bytes ≡ true → Good bytes) → ((bytes : List ℕ) → outcome ≡ Some bytes → test bytes ≡ true)
    → AreTried at Good copies made wrong outcome → AllTold test Good made
told_by test at Good [] made wrong outcome only all tried = subst (AllTold test Good) (sym tried.0) tt
told_by test at Good (copy ∷ copies) [] wrong outcome only all tried = absurd tried
told_by test at Good (copy ∷ copies) (noted ∷ made) wrong outcome only all tried =
    go tried (λ wrong rest. told_by test at Good copies made wrong outcome only all rest)
  where
    go : Next at Good copy noted copies made wrong outcome → ((wrong : List CopyOf) → AreTried at Good copies made wrong outcome → AllTold test Good made)
        → AllTold test Good (noted ∷ made)
    go (inl (failed, rest)) more = (subst (Tells test Good) (sym failed.gives.is) tt, more wrong rest)
    go (inr (inl (others, bytes, gave, is, rest))) more =
        (subst (Tells test Good) (sym gave.gives.is) (only bytes, (λ good. absurd (gave.is good))), more others rest)
    go (inr (inr (bytes, gave, none, right, is))) more =
        (subst (Tells test Good) (sym gave.gives.is) (only bytes, (λ good. all bytes is)), none_left (AllTold test Good) none tt)

pub outcome_told : (at : ℕ) (Good : List ℕ → Type 0) (copies : List CopyOf) (made : List Noted) (wrong : List CopyOf) (outcome : Option (List ℕ))
    → AreTried at Good copies made wrong outcome → AllTold (is_outcome outcome) Good made
outcome_told at Good copies made wrong None tried =
    told_by (is_outcome None) at Good copies made wrong None (λ bytes is. absurd (true≢false (sym is))) (λ bytes is. absurd (cc)) tried
outcome_told at Good copies made wrong (Some block) tried =
    told_by (is_outcome (Some block)) at Good copies made wrong (Some block)
    (λ bytes is. subst Good (sym ((bytes_eq-Decides bytes block).0 is)) (tried_good at Good copies made wrong block tried))
    (λ bytes is. (bytes_eq-Decides bytes block).1 (let same : bytes ≡ block = cc in same)) tried

-- Two tests of which both tell.
alike : (s t : Bool) → (s ≡ true → t ≡ true) → (t ≡ true → s ≡ true) → s ≡ t
alike true t there back = sym (there refl)
alike false true there back = back refl
alike false false there back = refl

sees_same : (test other : List ℕ → Bool) (Good : List ℕ → Type 0) (call : Call) (s : CopySeen) → Tells test Good call → Tells other Good call
    → sees test s call ≡ sees other s call
sees_same test other Good (Read dev at bytes None) s a b =
    rw (alike (test bytes) (other bytes) (λ is. b.1 (a.0 is)) (λ is. a.1 (b.0 is))) refl
sees_same test other Good (Read dev at bytes (Some fault)) s a b = refl
sees_same test other Good (Write dev at bytes None) s a b = refl
sees_same test other Good (Write dev at bytes (Some fault)) s a b = refl
sees_same test other Good (Flush dev fault) s a b = refl
sees_same test other Good (Admit dev holds) s a b = refl
sees_same test other Good (Eject dev) s a b = refl

seen_same : (test other : List ℕ → Bool) (Good : List ℕ → Type 0) (dev : ℕ) (made : List Noted) (s : CopySeen) → AllTold test Good made
    → AllTold other Good made → seen_after test dev s made ≡ seen_after other dev s made
seen_same test other Good dev [] s a b = refl
seen_same test other Good dev (noted ∷ made) s a b =
    ap (λ x. seen_after test dev (cond (device_of noted.call == dev) x s) made) (sees_same test other Good noted.call s a.0 b.0)
    ∙ seen_same test other Good dev made _ a.1 b.1

pub shown_same : (test other : List ℕ → Bool) (Good : List ℕ → Type 0) (made : List Noted) (copies : List CopyOf) → AllTold test Good made
    → AllTold other Good made → map (copy_shown test made) copies ≡ map (copy_shown other made) copies
shown_same test other Good made [] a b = refl
shown_same test other Good made (copy ∷ copies) a b = ap₂ (λ x y. x ∷ y) (one copy.readable refl) (shown_same test other Good made copies a b)
  where
    one : (t : Bool) → copy.readable ≡ t → copy_shown test made copy ≡ copy_shown other made copy
    one true is = rw is (seen_same test other Good copy.dev made _ a b)
    one false is = rw is refl
