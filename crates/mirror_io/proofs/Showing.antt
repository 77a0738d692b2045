-- What calls, one after another, show of the copies.
use Rattle.std.proofs.Common.{true≢false, ◌≡◌, ◌≢◌, ℕ, zero, suc, ◌<◌, ◌==◌, Bool, true, false, List, [], ◌∷◌, ◌++◌, map, length, get_or, set, refl, sym, ap, ap₂, ◌∙◌, arith, append_assoc, append-nil, inl, inr, ◌⊎◌}
use Rattle.std.proofs.Math.ListN.{get_or-map}
use Rattle.bank_core.specs.Calls.{device_of}
use Rattle.bank_core.specs.Disk.{Noted}
use Rattle.mirror_io.specs.declared.copies.CopyOf.{CopyOf}
use Rattle.mirror_io.specs.declared.copies.CopySeen.{CopySeen}
use Rattle.mirror_io.specs.declared.copies.CopySeen.TheVariants as seen
use Rattle.mirror_io.specs.Copies.{AreApart, is_due}
use Rattle.mirror_io.specs.Reading.{AreOn, Shows}
use Rattle.mirror_io.specs.Seen.{seen_after, copy_shown}

pub seen-more : (test : List ℕ → Bool) (dev : ℕ) (first second : List Noted) (before : CopySeen)
    → seen_after test dev before (first ++ second) ≡ seen_after test dev (seen_after test dev before first) second
seen-more test dev [] second before = refl
seen-more test dev (noted ∷ first) second before = seen-more test dev first second _

pub other_device : (a b c : ℕ) → a ≡ b → b ≢ c → a == c ≡ false
other_device a b c is apart = grind arith

-- calls on one device show nothing of another one
pub seen-elsewhere : (test : List ℕ → Bool) (here dev : ℕ) (before : CopySeen) (made : List Noted) → AreOn here made → here ≢ dev
    → seen_after test dev before made ≡ before
seen-elsewhere test here dev before [] on apart = refl
seen-elsewhere test here dev before (noted ∷ made) on apart =
    rw (other_device (device_of noted.call) here dev on.0 apart) (seen-elsewhere test here dev before made on.1 apart)

map-same : (f g : CopyOf → CopySeen) (copies : List CopyOf) (d : CopyOf)
    → ((j : ℕ) → j < length copies → g (get_or copies j d) ≡ f (get_or copies j d)) → map f copies ≡ map g copies
map-same f g [] d same = refl
map-same f g (copy ∷ copies) d same =
    ap₂ (λ a b. a ∷ b) (sym (same zero (omega arith))) (map-same f g copies d (λ j lt. same (suc j) (omega arith)))

-- a list that is made from the copies, with one place made anew
map-set : (f g : CopyOf → CopySeen) (copies : List CopyOf) (i : ℕ) (s : CopySeen) (d : CopyOf) → i < length copies
    → g (get_or copies i d) ≡ s → ((j : ℕ) → j < length copies → j ≢ i → g (get_or copies j d) ≡ f (get_or copies j d))
    → set (map f copies) i s ≡ map g copies
map-set f g [] i s d lt here others = absurd (omega arith)
map-set f g (copy ∷ copies) zero s d lt here others =
    ap₂ (λ a b. a ∷ b) (sym here) (map-same f g copies d (λ j lt'. others (suc j) (omega arith) (omega arith)))
map-set f g (copy ∷ copies) (suc i) s d lt here others =
    ap₂ (λ a b. a ∷ b) (sym (others zero (omega arith) (omega arith)))
    (map-set f g copies i s d (omega arith) here (λ j lt' ne. others (suc j) (omega arith) (omega arith)))

pub shows_none : (test : List ℕ → Bool) (copies : List CopyOf) (known : List CopySeen) → Shows test copies [] known known
shows_none test copies known before is = is ∙ ap (λ made. map (copy_shown test made) copies) (sym (append-nil before))

pub shows_more : (test : List ℕ → Bool) (copies : List CopyOf) (first second : List Noted) (a b c : List CopySeen)
    → Shows test copies first a b → Shows test copies second b c → Shows test copies (first ++ second) a c
shows_more test copies first second a b c one other before is =
    other (before ++ first) (one before is) ∙ ap (λ made. map (copy_shown test made) copies) (append_assoc before first second)

-- behind calls on its own device, of a copy that has some only where it is readable
seen-here : (test : List ℕ → Bool) (copy : CopyOf) (before made : List Noted) → (copy.readable ≡ false → made ≡ [])
    → copy_shown test (before ++ made) copy ≡ seen_after test copy.dev (copy_shown test before copy) made
seen-here test copy before made idle = go copy.readable refl
  where
    go : (t : Bool) → copy.readable ≡ t → copy_shown test (before ++ made) copy ≡ seen_after test copy.dev (copy_shown test before copy) made
    go true is = rw is (seen-more test copy.dev before made seen.NotTried)
    go false is = rw (is, idle is) refl

-- behind calls on another copy's device
seen-there : (test : List ℕ → Bool) (here copy : CopyOf) (before made : List Noted) → AreOn here.dev made → (here.readable ≡ false → made ≡ [])
    → (here.readable ≡ true → copy.readable ≡ true → here.dev ≢ copy.dev) → copy_shown test (before ++ made) copy ≡ copy_shown test before copy
seen-there test here copy before made on idle apart = go here.readable refl copy.readable refl
  where
    go : (t : Bool) → here.readable ≡ t → (u : Bool) → copy.readable ≡ u → copy_shown test (before ++ made) copy ≡ copy_shown test before copy
    go false is u is' = rw (idle is, append-nil before) refl
    go true is false is' = rw is' refl
    go true is true is' = rw is' (seen-more test copy.dev before made seen.NotTried ∙ seen-elsewhere test here.dev copy.dev _ made on (apart is is'))

trichotomy : (i j : ℕ) → (i < j) ⊎ ((i ≡ j) ⊎ (j < i))
trichotomy i j = grind arith

pub got_there : {X : Type 0} (xs : List X) (i : ℕ) (d e : X) → i < length xs → get_or xs i d ≡ get_or xs i e
got_there [] i d e lt = absurd (omega arith)
got_there (x ∷ xs) zero d e lt = refl
got_there (x ∷ xs) (suc i) d e lt = got_there xs i d e (omega arith)

apart_from : (copies : List CopyOf) (d : CopyOf) (i j : ℕ) → AreApart copies → i < length copies → j < length copies → j ≢ i
    → (get_or copies i d).readable ≡ true → (get_or copies j d).readable ≡ true → (get_or copies i d).dev ≢ (get_or copies j d).dev
apart_from copies d i j apart lt lt' ne is is' = go (trichotomy i j)
  where
    go : (i < j) ⊎ ((i ≡ j) ⊎ (j < i)) → (get_or copies i d).dev ≢ (get_or copies j d).dev
    go (inl less) = apart i j d less lt' is is'
    go (inr (inl same)) = absurd (ne (sym same))
    go (inr (inr more)) = λ e. apart j i d more lt is' is (sym e)

-- calls on one copy's device, and what they show put into its place
pub shows_at : (test : List ℕ → Bool) (copies : List CopyOf) (known : List CopySeen) (made : List Noted) (i : ℕ) (d : CopyOf) (e s : CopySeen) → i < length copies
    → AreApart copies → AreOn (get_or copies i d).dev made → ((get_or copies i d).readable ≡ false → made ≡ [])
    → s ≡ seen_after test (get_or copies i d).dev (get_or known i e) made → i < length known → Shows test copies made known (set known i s)
shows_at test copies known made i d e s lt apart on idle is within before are =
    let here = get_or copies i d in
    let knew : get_or known i e ≡ copy_shown test before here =
    got_there known i e (copy_shown test before d) within ∙ ap (λ l. get_or l i (copy_shown test before d)) are ∙ get_or-map (copy_shown test before) copies i d in
    ap (λ l. set l i s) are ∙
    map-set (copy_shown test before) (copy_shown test (before ++ made)) copies i s d lt
    (seen-here test here before made idle ∙ sym (is ∙ ap (λ k. seen_after test here.dev k made) knew))
    (λ j lt' ne. seen-there test here (get_or copies j d) before made on idle (λ r r'. apart_from copies d i j apart lt lt' ne r r'))

pub not_readable : (owing : Bool) (copy : CopyOf) → copy.readable ≡ false → is_due owing copy ≡ false
not_readable false copy e = rw e refl
not_readable true copy e = rw e refl

pub same_device : (dev : ℕ) → dev == dev ≡ true
same_device dev = grind arith

pub due_readable : (owing : Bool) (copy : CopyOf) → is_due owing copy ≡ true → copy.readable ≡ true
due_readable owing copy e = go copy.readable refl
  where
    go : (t : Bool) → copy.readable ≡ t → copy.readable ≡ true
    go true is = is
    go false is = absurd (true≢false (sym e ∙ not_readable owing copy is))
