-- Which copies were wrong, by what the calls of a read show of them.
use Rattle.std.proofs.Common.{true≢false, ◌≡◌, ◌≢◌, ℕ, zero, suc, ◌<◌, ◌&&◌, Bool, true, false, List, [], ◌∷◌, ◌++◌, length, get_or, Option, refl, sym, ap, ap₂, ◌∙◌, subst, append-nil, inl, inr, arith}
use Rattle.std.specs.Prelude.{not}
use Rattle.std.specs.List.{AllByRecursion, filter}
use Rattle.std.proofs.lemmas.List.Elements.{filter-append}
use Rattle.bank_core.specs.Calls.{device_of}
use Rattle.bank_core.specs.Disk.{Noted}
use Rattle.mirror_io.specs.declared.copies.CopyOf.{CopyOf}
use Rattle.mirror_io.specs.declared.copies.CopySeen.{CopySeen}
use Rattle.mirror_io.specs.declared.copies.CopySeen.TheVariants as seen
use Rattle.mirror_io.specs.Copies.{is_due, tries, AreApart}
use Rattle.mirror_io.specs.Healing.{is_rewritten}
use Rattle.mirror_io.specs.Reading.{Tells, AllTold}
use Rattle.mirror_io.specs.Reads.{AreTried}
use Rattle.mirror_io.specs.Seen.{sees, seen_after, copy_shown, is_mismatch}
use Rattle.mirror_io.proofs.Reading.{Next, next_on, is_test, is_not_test}
use Rattle.mirror_io.proofs.Showing.{other_device, due_readable, same_device}

-- this device is none of theirs
abbrev pub Away : ℕ → List CopyOf → Type 0
Away dev copies = AllByRecursion (λ copy. dev ≢ copy.dev) copies

-- no two of them have one device
abbrev AreDistinct : List CopyOf → Type 0
AreDistinct [] = Unit {0}
AreDistinct (copy ∷ copies) = Away copy.dev copies × AreDistinct copies

away_due : (dev : ℕ) (owing : Bool) (copies : List CopyOf) → ((k : ℕ) (d : CopyOf) → k < length copies → (get_or copies k d).readable ≡ true → dev ≢ (get_or copies k d).dev)
    → Away dev (filter (is_due owing) copies)
away_due dev owing [] apart = tt
away_due dev owing (copy ∷ copies) apart =
    go (is_due owing copy) refl (away_due dev owing copies (λ k d lt. apart (suc k) d (omega arith)))
  where
    go : (t : Bool) → is_due owing copy ≡ t → Away dev (filter (is_due owing) copies) → Away dev (filter (is_due owing) (copy ∷ copies))
    go true is rest = rw is (apart zero copy (omega arith) (due_readable owing copy is), rest)
    go false is rest = rw is rest

away_more : (dev : ℕ) (xs ys : List CopyOf) → Away dev xs → Away dev ys → Away dev (xs ++ ys)
away_more dev [] ys a b = b
away_more dev (x ∷ xs) ys a b = (a.0, away_more dev xs ys a.1 b)

away_insert : (dev : ℕ) (copy : CopyOf) (xs ys : List CopyOf) → dev ≢ copy.dev → Away dev (xs ++ ys) → Away dev (xs ++ copy ∷ ys)
away_insert dev copy [] ys here rest = (here, rest)
away_insert dev copy (x ∷ xs) ys here rest = (rest.0, away_insert dev copy xs ys here rest.1)

distinct_insert : (copy : CopyOf) (xs ys : List CopyOf) → Away copy.dev (xs ++ ys) → AreDistinct (xs ++ ys) → AreDistinct (xs ++ copy ∷ ys)
distinct_insert copy [] ys away d = (away, d)
distinct_insert copy (x ∷ xs) ys away d =
    (away_insert x.dev copy xs ys (λ e. away.0 (sym e)) d.0, distinct_insert copy xs ys away.1 d.1)

not_both : (copy : CopyOf) → is_due false copy ≡ true → is_due true copy ≡ false
not_both copy e = go copy.readable copy.lacks refl refl
  where
    go : (r l : Bool) → copy.readable ≡ r → copy.lacks ≡ l → is_due true copy ≡ false
    go false l is is' = rw is refl
    go true false is is' = rw (is, is') refl
    go true true is is' = absurd (true≢false (sym e ∙ rw (is, is') refl))

apart_tail : (copy : CopyOf) (copies : List CopyOf) → AreApart (copy ∷ copies) → AreApart copies
apart_tail copy copies apart i j d less lt = apart (suc i) (suc j) d (omega arith) (omega arith)

pub tries_distinct : (copies : List CopyOf) → AreApart copies → AreDistinct (tries copies)
tries_distinct [] apart = tt
tries_distinct (copy ∷ copies) apart =
    go (is_due false copy) refl (is_due true copy) refl (tries_distinct copies (apart_tail copy copies apart))
  where
    away : copy.readable ≡ true → Away copy.dev (tries copies)
    away is = away_more copy.dev (filter (is_due false) copies) (filter (is_due true) copies)
        (away_due copy.dev false copies (λ k d lt. apart zero (suc k) d (omega arith) (omega arith) is))
        (away_due copy.dev true copies (λ k d lt. apart zero (suc k) d (omega arith) (omega arith) is))

    go : (t : Bool) → is_due false copy ≡ t → (u : Bool) → is_due true copy ≡ u → AreDistinct (tries copies) → AreDistinct (tries (copy ∷ copies))
    go true is u is' d = rw (is, not_both copy is) (away (due_readable false copy is), d)
    go false is true is' d = rw (is, is') (distinct_insert copy (filter (is_due false) copies) (filter (is_due true) copies) (away (due_readable true copy is')) d)
    go false is false is' d = rw (is, is') d

-- whether the calls show other bytes of the copy
abbrev differed : (test : List ℕ → Bool) → List Noted → CopyOf → Bool
differed test made copy = is_mismatch (seen_after test copy.dev seen.NotTried made)

-- reads of other devices show nothing of this one
seen-away : (dev at : ℕ) (test : List ℕ → Bool) (Good : List ℕ → Type 0) (copies : List CopyOf) (made : List Noted) (wrong : List CopyOf) (outcome : Option (List ℕ)) (known : CopySeen)
    → Away dev copies → AreTried at Good copies made wrong outcome → seen_after test dev known made ≡ known
seen-away dev at test Good [] made wrong outcome known away r = rw r.0 refl
seen-away dev at test Good (copy ∷ copies) [] wrong outcome known away r = absurd r
seen-away dev at test Good (copy ∷ copies) (noted ∷ made) wrong outcome known away r =
    rw (other_device (device_of noted.call) copy.dev dev (next_on at Good copy noted copies made wrong outcome r) (λ e. away.0 (sym e)))
    (go r (λ wrong' outcome' rest. seen-away dev at test Good copies made wrong' outcome' known away.1 rest))
  where
    go : Next at Good copy noted copies made wrong outcome
        → ((wrong' : List CopyOf) (outcome' : Option (List ℕ)) → AreTried at Good copies made wrong' outcome' → seen_after test dev known made ≡ known)
        → seen_after test dev known made ≡ known
    go (inl (failed, rest)) more = more wrong outcome rest
    go (inr (inl (others, bytes, differs, is, rest))) more = more others outcome rest
    go (inr (inr (bytes, serves, none, right, is))) more = rw none refl

-- a read of another device changes nothing for these
differed_behind : (test : List ℕ → Bool) (dev : ℕ) (noted : Noted) (made : List Noted) (copies : List CopyOf) → device_of noted.call ≡ dev → Away dev copies
    → filter (differed test (noted ∷ made)) copies ≡ filter (differed test made) copies
differed_behind test dev noted made [] on away = refl
differed_behind test dev noted made (copy ∷ copies) on away =
    rw (other_device (device_of noted.call) dev copy.dev on away.0, differed_behind test dev noted made copies on away.1) refl

none_differed : (test : List ℕ → Bool) (copies : List CopyOf) → filter (differed test []) copies ≡ []
none_differed test [] = refl
none_differed test (copy ∷ copies) = none_differed test copies

-- the wrong copies are those that showed other bytes
wrong_differed : (at : ℕ) (test : List ℕ → Bool) (Good : List ℕ → Type 0) (copies : List CopyOf) (made : List Noted) (wrong : List CopyOf) (outcome : Option (List ℕ)) → AreDistinct copies
    → AllTold test Good made → AreTried at Good copies made wrong outcome → wrong ≡ filter (differed test made) copies
wrong_differed at test Good [] made wrong outcome d told r = r.1
wrong_differed at test Good (copy ∷ copies) [] wrong outcome d told r = absurd r
wrong_differed at test Good (copy ∷ copies) (noted ∷ made) wrong outcome d told r =
    go r (λ wrong' rest. wrong_differed at test Good copies made wrong' outcome d.1 told.1 rest)
  where
    on : device_of noted.call ≡ copy.dev
    on = next_on at Good copy noted copies made wrong outcome r

    behind : filter (differed test (noted ∷ made)) copies ≡ filter (differed test made) copies
    behind = differed_behind test copy.dev noted made copies on d.0

    here : (s : CopySeen) → sees test seen.NotTried noted.call ≡ s → (wrong' : List CopyOf) (outcome' : Option (List ℕ)) → AreTried at Good copies made wrong' outcome'
        → differed test (noted ∷ made) copy ≡ is_mismatch s
    here s shows wrong' outcome' rest =
        rw (on, same_device copy.dev, shows) (ap is_mismatch (seen-away copy.dev at test Good copies made wrong' outcome' s d.0 rest))

    go : Next at Good copy noted copies made wrong outcome → ((wrong' : List CopyOf) → AreTried at Good copies made wrong' outcome → wrong' ≡ filter (differed test made) copies)
        → wrong ≡ filter (differed test (noted ∷ made)) (copy ∷ copies)
    go (inl (failed, rest)) more =
        rw (here seen.Failed (ap (sees test seen.NotTried) failed.gives.is) wrong outcome rest, behind) (more wrong rest)
    go (inr (inl (others, bytes, differs, is, rest))) more =
        rw (here seen.Mismatch (ap (sees test seen.NotTried) differs.gives.is ∙ rw (is_not_test test Good bytes (subst (Tells test Good) differs.gives.is told.0) differs.is) refl) others outcome rest, behind, is)
        (ap (λ l. copy ∷ l) (more others rest))
    go (inr (inr (bytes, serves, none, right, is))) more =
        right ∙ sym (ap (λ m. filter (differed test (noted ∷ m)) (copy ∷ copies)) none ∙ none_left)
      where
        none_after : filter (differed test (noted ∷ [])) copies ≡ []
        none_after = differed_behind test copy.dev noted [] copies on d.0 ∙ none_differed test copies

        none_left : filter (differed test (noted ∷ [])) (copy ∷ copies) ≡ []
        none_left = rw (on, same_device copy.dev, serves.gives.is, is_test test Good bytes (subst (Tells test Good) serves.gives.is told.0) serves.is) none_after

-- Of those that are due, the ones that are rewritten.
filters : (n p d q : CopyOf → Bool) → ((copy : CopyOf) → q copy ≡ (d copy && p copy)) → ((copy : CopyOf) → d copy ≡ true → n copy ≡ true) → (copies : List CopyOf)
    → filter n (filter p (filter d copies)) ≡ filter q copies
filters n p d q same all [] = refl
filters n p d q same all (copy ∷ copies) = go (d copy) refl (p copy) refl (filters n p d q same all copies)
  where
    go : (t : Bool) → d copy ≡ t → (u : Bool) → p copy ≡ u → filter n (filter p (filter d copies)) ≡ filter q copies
        → filter n (filter p (filter d (copy ∷ copies))) ≡ filter q (copy ∷ copies)
    go false is u is' rest = rw (same copy, is) rest
    go true is false is' rest = rw (same copy, is, is') rest
    go true is true is' rest = rw (same copy, is, is', all copy is) (ap (λ l. copy ∷ l) rest)

filters_none : (n p d : CopyOf → Bool) → ((copy : CopyOf) → d copy ≡ true → n copy ≡ false) → (copies : List CopyOf) → filter n (filter p (filter d copies)) ≡ []
filters_none n p d none [] = refl
filters_none n p d none (copy ∷ copies) = go (d copy) refl (p copy) refl (filters_none n p d none copies)
  where
    go : (t : Bool) → d copy ≡ t → (u : Bool) → p copy ≡ u → filter n (filter p (filter d copies)) ≡ [] → filter n (filter p (filter d (copy ∷ copies))) ≡ []
    go false is u is' rest = rw is rest
    go true is false is' rest = rw (is, is') rest
    go true is true is' rest = rw (is, is', none copy is) rest

lacks_not : (copy : CopyOf) → is_due false copy ≡ true → not copy.lacks ≡ true
lacks_not copy e = go copy.readable copy.lacks refl refl
  where
    go : (r l : Bool) → copy.readable ≡ r → copy.lacks ≡ l → not copy.lacks ≡ true
    go false l is is' = absurd (true≢false (sym e ∙ rw is refl))
    go true false is is' = rw is' refl
    go true true is is' = absurd (true≢false (sym e ∙ rw (is, is') refl))

lacks_it : (copy : CopyOf) → is_due true copy ≡ true → not copy.lacks ≡ false
lacks_it copy e = go copy.readable copy.lacks refl refl
  where
    go : (r l : Bool) → copy.readable ≡ r → copy.lacks ≡ l → not copy.lacks ≡ false
    go false l is is' = absurd (true≢false (sym e ∙ rw is refl))
    go true false is is' = absurd (true≢false (sym e ∙ rw (is, is') refl))
    go true true is is' = rw is' refl

rewritten_is : (test : List ℕ → Bool) (made : List Noted) (copy : CopyOf) → is_rewritten (copy_shown test made copy) copy ≡ (is_due false copy && differed test made copy)
rewritten_is test made copy = go copy.readable refl
  where
    go : (t : Bool) → copy.readable ≡ t → is_rewritten (copy_shown test made copy) copy ≡ (is_due false copy && differed test made copy)
    go true is = rw is refl
    go false is = rw is refl

-- the wrong copies whose leaves have the block, in tree order
pub wrong_rewritten : (at : ℕ) (test : List ℕ → Bool) (Good : List ℕ → Type 0) (copies : List CopyOf) (made : List Noted) (wrong : List CopyOf) (outcome : Option (List ℕ)) → AreApart copies
    → AllTold test Good made → AreTried at Good (tries copies) made wrong outcome
    → filter (λ copy. not copy.lacks) wrong ≡ filter (λ copy. is_rewritten (copy_shown test made copy) copy) copies
wrong_rewritten at test Good copies made wrong outcome apart told r =
    let n : CopyOf → Bool = λ copy. not copy.lacks in
    let p : CopyOf → Bool = differed test made in
    let first = filter (is_due false) copies in
    let second = filter (is_due true) copies in
    ap (filter n) (wrong_differed at test Good (tries copies) made wrong outcome (tries_distinct copies apart) told r)
    ∙ ap (filter n) (filter-append p first second) ∙ filter-append n (filter p first) (filter p second)
    ∙ ap₂ (λ a b. a ++ b) (filters n p (is_due false) (λ copy. is_rewritten (copy_shown test made copy) copy) (rewritten_is test made) lacks_not copies)
    (filters_none n p (is_due true) lacks_it copies)
    ∙ append-nil _
