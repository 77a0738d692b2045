-- Reads of copies, and then of more.
use Rattle.std.proofs.Common.{◌≡◌, ℕ, Bool, true, false, List, [], ◌∷◌, ◌++◌, Option, Some, None, refl, sym, ap, subst, inl, inr, ◌⊎◌}
use Rattle.std.specs.Prelude.{◌↔◌}
use Rattle.std.proofs.lemmas.Option.{none-some}
use Rattle.bank_core.specs.Calls.{device_of}
use Rattle.bank_core.specs.Disk.{Noted}
use Rattle.mirror_io.specs.declared.copies.CopyOf.{CopyOf}
use Rattle.mirror_io.specs.Reading.{AllTold}
use Rattle.mirror_io.specs.Reads.{Fails, GivesSome, AreTried}

-- what may come of the first copy
abbrev pub Next : (at : ℕ) → (Good : List ℕ → Type 0) → CopyOf → Noted → List CopyOf → List Noted → List CopyOf → Option (List ℕ) → Type 0
Next at Good copy noted more made wrong outcome =
    (Fails copy at noted.call × AreTried at Good more made wrong outcome)
    ⊎ (((others : List CopyOf) × (bytes : List ℕ) × GivesSome copy at (λ bytes. Good bytes → ⊥) bytes noted.call
    × (wrong ≡ copy ∷ others) × AreTried at Good more made others outcome)
    ⊎ ((bytes : List ℕ) × GivesSome copy at Good bytes noted.call × (made ≡ []) × (wrong ≡ []) × (outcome ≡ Some bytes)))

-- none of the first copies was good, and then more were read
pub tried_more : (at : ℕ) (Good : List ℕ → Type 0) (first second : List CopyOf) (made made' : List Noted) (wrong wrong' : List CopyOf) (outcome : Option (List ℕ))
    → AreTried at Good first made wrong None → AreTried at Good second made' wrong' outcome
    → AreTried at Good (first ++ second) (made ++ made') (wrong ++ wrong') outcome
tried_more at Good [] second made made' wrong wrong' outcome a b = rw (a.0, a.1) b
tried_more at Good (copy ∷ first) second [] made' wrong wrong' outcome a b = absurd a
tried_more at Good (copy ∷ first) second (noted ∷ made) made' wrong wrong' outcome a b =
    go a (λ wrong. λ a. tried_more at Good first second made made' wrong wrong' outcome a b)
  where
    go : Next at Good copy noted first made wrong None
        → ((wrong : List CopyOf) → AreTried at Good first made wrong None → AreTried at Good (first ++ second) (made ++ made') (wrong ++ wrong') outcome)
        → Next at Good copy noted (first ++ second) (made ++ made') (wrong ++ wrong') outcome
    go (inl (failed, rest)) more = inl (failed, more wrong rest)
    go (inr (inl (others, bytes, differs, is, rest))) more = inr (inl (others ++ wrong', bytes, differs, ap (λ l. l ++ wrong') is, more others rest))
    go (inr (inr (bytes, serves, none, right, is))) more = absurd (none-some bytes is)

-- one of the first copies was good
pub tried_stop : (at : ℕ) (Good : List ℕ → Type 0) (first second : List CopyOf) (made : List Noted) (wrong : List CopyOf) (block : List ℕ)
    → AreTried at Good first made wrong (Some block) → AreTried at Good (first ++ second) made wrong (Some block)
tried_stop at Good [] second made wrong block a = absurd (none-some block (sym a.2))
tried_stop at Good (copy ∷ first) second [] wrong block a = absurd a
tried_stop at Good (copy ∷ first) second (noted ∷ made) wrong block a =
    go a (λ wrong. λ a. tried_stop at Good first second made wrong block a)
  where
    go : Next at Good copy noted first made wrong (Some block)
        → ((wrong : List CopyOf) → AreTried at Good first made wrong (Some block) → AreTried at Good (first ++ second) made wrong (Some block))
        → Next at Good copy noted (first ++ second) made wrong (Some block)
    go (inl (failed, rest)) more = inl (failed, more wrong rest)
    go (inr (inl (others, bytes, differs, is, rest))) more = inr (inl (others, bytes, differs, is, more others rest))
    go (inr (inr (bytes, serves, none, right, is))) more = inr (inr (bytes, serves, none, right, is))

-- in each case the call is on the copy's device
pub next_on : (at : ℕ) (Good : List ℕ → Type 0) (copy : CopyOf) (noted : Noted) (more : List CopyOf) (made : List Noted) (wrong : List CopyOf) (outcome : Option (List ℕ))
    → Next at Good copy noted more made wrong outcome → device_of noted.call ≡ copy.dev
next_on at Good copy noted more made wrong outcome (inl (failed, rest)) = ap device_of failed.gives.is
next_on at Good copy noted more made wrong outcome (inr (inl (others, bytes, differs, is, rest))) = ap device_of differs.gives.is
next_on at Good copy noted more made wrong outcome (inr (inr (bytes, serves, none, right, is))) = ap device_of serves.gives.is

-- a fact of no calls
pub none_left : (P : List Noted → Type 0) {made : List Noted} → made ≡ [] → P [] → P made
none_left P is p = subst P (sym is) p

pub same_block : (a b : List ℕ) → Some a ≡ Some b → a ≡ b
same_block a b e = cc

-- the bytes that come out of it are good
pub tried_good : (at : ℕ) (Good : List ℕ → Type 0) (copies : List CopyOf) (made : List Noted) (wrong : List CopyOf) (block : List ℕ)
    → AreTried at Good copies made wrong (Some block) → Good block
tried_good at Good [] made wrong block r = absurd (none-some block (sym r.2))
tried_good at Good (copy ∷ copies) [] wrong block r = absurd r
tried_good at Good (copy ∷ copies) (noted ∷ made) wrong block r = go r (λ wrong' rest. tried_good at Good copies made wrong' block rest)
  where
    go : Next at Good copy noted copies made wrong (Some block) → ((wrong' : List CopyOf) → AreTried at Good copies made wrong' (Some block) → Good block)
        → Good block
    go (inl (failed, rest)) more = more wrong rest
    go (inr (inl (others, bytes, differs, is, rest))) more = more others rest
    go (inr (inr (bytes, serves, none, right, is))) more = subst Good (sym (same_block block bytes is)) serves.is

-- where none was, the first read shows that its copy is of no use
pub next_rest : (at : ℕ) (Good : List ℕ → Type 0) (copy : CopyOf) (noted : Noted) (more : List CopyOf) (made : List Noted) (wrong : List CopyOf)
    → Next at Good copy noted more made wrong None → (wrong' : List CopyOf) × AreTried at Good more made wrong' None
next_rest at Good copy noted more made wrong (inl (failed, rest)) = (wrong, rest)
next_rest at Good copy noted more made wrong (inr (inl (others, bytes, differs, is, rest))) = (others, rest)
next_rest at Good copy noted more made wrong (inr (inr (bytes, serves, none, right, is))) = absurd (none-some bytes is)

-- What a test tells of calls, and then of more.
pub told_first : (test : List ℕ → Bool) (Good : List ℕ → Type 0) (first second : List Noted) → AllTold test Good (first ++ second) → AllTold test Good first
told_first test Good [] second told = tt
told_first test Good (noted ∷ first) second told = (told.0, told_first test Good first second told.1)

pub told_behind : (test : List ℕ → Bool) (Good : List ℕ → Type 0) (first second : List Noted) → AllTold test Good (first ++ second) → AllTold test Good second
told_behind test Good [] second told = told
told_behind test Good (noted ∷ first) second told = told_behind test Good first second told.1

-- and of bytes
pub is_test : (test : List ℕ → Bool) (Good : List ℕ → Type 0) (bytes : List ℕ) → (test bytes ≡ true) ↔ Good bytes → Good bytes → test bytes ≡ true
is_test test Good bytes tells good = tells.1 good

pub is_not_test : (test : List ℕ → Bool) (Good : List ℕ → Type 0) (bytes : List ℕ) → (test bytes ≡ true) ↔ Good bytes → (Good bytes → ⊥) → test bytes ≡ false
is_not_test test Good bytes tells other = go (test bytes) refl
  where
    go : (t : Bool) → test bytes ≡ t → test bytes ≡ false
    go true is = absurd (other (tells.0 is))
    go false is = is
