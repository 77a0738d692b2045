-- Which calls a read makes on the device of each copy: a read at most, and behind one that gave wrong bytes a write.
use Rattle.std.proofs.Common.{◌≡◌, ◌≢◌, ◌⊎◌, inl, inr, ℕ, ◌==◌, Bool, true, false, not, cond, List, [], ◌∷◌, ◌++◌, Option, Some, None, is_some, refl, sym, ap, ap₂, ◌∙◌, subst}
use Rattle.std.specs.List.{AllByRecursion, filter}
use Rattle.std.proofs.lemmas.Bool.{ne_eqb}
use Rattle.sha2.specs.Sha256.{sha256}
use Rattle.bank_core.specs.declared.bank.Fault.{Fault}
use Rattle.bank_core.specs.Asks.{asks_of}
use Rattle.bank_core.specs.Calls.{device_of}
use Rattle.bank_core.specs.Disk.{Call, Read, Write, Noted}
use Rattle.mirror_io.specs.declared.copies.CopyOf.{CopyOf}
use Rattle.mirror_io.specs.Mirror.{IsHealed}
use Rattle.mirror_io.specs.Reads.{Fails, Differs, Serves, IsReads, rewrites, heals}
use Rattle.mirror_io.proofs.Rewriting.{written, first_ask, later_asks}
use Rattle.mirror_io.proofs.Wrong.{Away}
use Rattle.open_pool.proofs.NumbersApart.{itself}

-- the calls on a device
abbrev pub calls_on : ℕ → List Noted → List Call
calls_on d [] = []
calls_on d (noted ∷ made) = cond (device_of noted.call == d) (noted.call ∷ calls_on d made) (calls_on d made)

pub on_both : (d : ℕ) (first second : List Noted) → calls_on d (first ++ second) ≡ calls_on d first ++ calls_on d second
on_both d [] second = refl
on_both d (noted ∷ first) second = by (device_of noted.call == d) (on_both d first second)
  where
    by : (t : Bool) → calls_on d (first ++ second) ≡ calls_on d first ++ calls_on d second
        → cond t (noted.call ∷ calls_on d (first ++ second)) (calls_on d (first ++ second)) ≡ cond t (noted.call ∷ calls_on d first) (calls_on d first) ++ calls_on d second
    by true same = ap (λ l. noted.call ∷ l) same
    by false same = same

on_here : (d : ℕ) (noted : Noted) (made : List Noted) → device_of noted.call ≡ d → calls_on d (noted ∷ made) ≡ noted.call ∷ calls_on d made
on_here d noted made on = ap (λ b. cond b (noted.call ∷ calls_on d made) (calls_on d made)) (ap (λ n. n == d) on ∙ itself d)

on_other : (d : ℕ) (noted : Noted) (made : List Noted) → (device_of noted.call ≡ d → ⊥) → calls_on d (noted ∷ made) ≡ calls_on d made
on_other d noted made off = ap (λ b. cond b (noted.call ∷ calls_on d made) (calls_on d made)) (ne_eqb (device_of noted.call) d off)

-- no two have one device
abbrev pub OwnDevices : List CopyOf → Type 0
OwnDevices [] = Unit {0}
OwnDevices (copy ∷ copies) = Away copy.dev copies × OwnDevices copies

-- Writes of copies.
on_unwritten : (d at : ℕ) (block : List ℕ) (copies : List CopyOf) (made : List Noted) → asks_of made ≡ rewrites at block copies → Away d copies → calls_on d made ≡ []
on_unwritten d at block [] [] e away = refl
on_unwritten d at block [] (noted ∷ made) e away = absurd (cc)
on_unwritten d at block (copy ∷ copies) [] e away = absurd (cc)
on_unwritten d at block (copy ∷ copies) (noted ∷ made) e away =
    let one = written noted.call copy.dev at block (first_ask _ _ _ _ e) in
    on_other d noted made (λ on. away.0 (sym on ∙ ap device_of one.1)) ∙ on_unwritten d at block copies made (later_asks _ _ _ _ e) away.1

away_filtered : (d : ℕ) (p : CopyOf → Bool) (copies : List CopyOf) → Away d copies → Away d (filter p copies)
away_filtered d p [] away = tt
away_filtered d p (copy ∷ copies) away = by (p copy) (away_filtered d p copies away.1)
  where
    by : (t : Bool) → Away d (filter p copies) → Away d (cond t (copy ∷ filter p copies) (filter p copies))
    by true rest = (away.0, rest)
    by false rest = rest

-- what is done on the device of a wrong copy
abbrev pub IsMended : (at : ℕ) → Option (List ℕ) → List Noted → CopyOf → Type 0
IsMended at None made copy = calls_on copy.dev made ≡ []
IsMended at (Some block) made copy = cond copy.lacks (calls_on copy.dev made ≡ [])
    ((fault : Option Fault) × (calls_on copy.dev made ≡ Write copy.dev at block fault ∷ []))

mended_behind : (at : ℕ) (block : List ℕ) (noted : Noted) (made : List Noted) (copies : List CopyOf) → Away (device_of noted.call) copies
    → AllByRecursion (IsMended at (Some block) made) copies → AllByRecursion (IsMended at (Some block) (noted ∷ made)) copies
mended_behind at block noted made [] away all = tt
mended_behind at block noted made (copy ∷ copies) away all = (
  by copy.lacks all.0,
  mended_behind at block noted made copies away.1 all.1,
)
  where
    by : (t : Bool) → cond t (calls_on copy.dev made ≡ []) ((fault : Option Fault) × (calls_on copy.dev made ≡ Write copy.dev at block fault ∷ []))
        → cond t (calls_on copy.dev (noted ∷ made) ≡ []) ((fault : Option Fault) × (calls_on copy.dev (noted ∷ made) ≡ Write copy.dev at block fault ∷ []))
    by true none = on_other copy.dev noted made away.0 ∙ none
    by false some = (some.0, on_other copy.dev noted made away.0 ∙ some.1)

all_mended : (at : ℕ) (block : List ℕ) (wrong : List CopyOf) (made : List Noted) → OwnDevices wrong → asks_of made ≡ heals at block wrong
    → AllByRecursion (IsMended at (Some block) made) wrong
all_mended at block [] made own e = tt
all_mended at block (copy ∷ wrong) made own e = by copy.lacks refl made e (λ made e. all_mended at block wrong made own.1 e)
  where
    by : (t : Bool) → copy.lacks ≡ t → (made : List Noted)
        → asks_of made ≡ rewrites at block (cond (not t) (copy ∷ filter (λ copy. not copy.lacks) wrong) (filter (λ copy. not copy.lacks) wrong))
        → ((made : List Noted) → asks_of made ≡ heals at block wrong → AllByRecursion (IsMended at (Some block) made) wrong)
        → AllByRecursion (IsMended at (Some block) made) (copy ∷ wrong)
    by true is made e more = (
      subst (λ b. cond b (calls_on copy.dev made ≡ []) ((fault : Option Fault) × (calls_on copy.dev made ≡ Write copy.dev at block fault ∷ []))) (sym is)
          (on_unwritten copy.dev at block (filter (λ copy. not copy.lacks) wrong) made e (away_filtered copy.dev (λ copy. not copy.lacks) wrong own.0)),
      more made e,
    )
    by false is [] e more = absurd (cc)
    by false is (noted ∷ made) e more =
        let one = written noted.call copy.dev at block (first_ask _ _ _ _ e) in
        let on : device_of noted.call ≡ copy.dev = ap device_of one.1 in
        let rest = later_asks _ _ _ _ e in (
          subst (λ b. cond b (calls_on copy.dev (noted ∷ made) ≡ []) ((fault : Option Fault) × (calls_on copy.dev (noted ∷ made) ≡ Write copy.dev at block fault ∷ []))) (sym is) (
            one.0,
            on_here copy.dev noted made on ∙ ap₂ (λ a b. a ∷ b) one.1
                (on_unwritten copy.dev at block (filter (λ copy. not copy.lacks) wrong) made rest (away_filtered copy.dev (λ copy. not copy.lacks) wrong own.0)),
          ),
          mended_behind at block noted made wrong (subst (λ d. Away d wrong) (sym on) own.0) (more made rest),
        )

none_mended : (at : ℕ) (wrong : List CopyOf) (made : List Noted) → made ≡ [] → AllByRecursion (IsMended at None made) wrong
none_mended at [] made none = tt
none_mended at (copy ∷ wrong) made none = (ap (calls_on copy.dev) none, none_mended at wrong made none)

pub wrong_mended : (at : ℕ) (outcome : Option (List ℕ)) (wrong : List CopyOf) (made : List Noted) → OwnDevices wrong → IsHealed at outcome wrong made
    → AllByRecursion (IsMended at outcome made) wrong
wrong_mended at (Some block) wrong made own healed = all_mended at block wrong made own healed
wrong_mended at None wrong made own healed = none_mended at wrong made healed

pub away_mended : (d at : ℕ) (outcome : Option (List ℕ)) (wrong : List CopyOf) (made : List Noted) → Away d wrong → IsHealed at outcome wrong made
    → calls_on d made ≡ []
away_mended d at (Some block) wrong made away healed =
    on_unwritten d at block (filter (λ copy. not copy.lacks) wrong) made healed (away_filtered d (λ copy. not copy.lacks) wrong away)
away_mended d at None wrong made away healed = ap (calls_on d) healed

-- Reads.
abbrev pub Next : (at : ℕ) → (sum : List ℕ) → CopyOf → Noted → List CopyOf → List Noted → List CopyOf → Option (List ℕ) → Type 0
Next at sum copy noted more made wrong outcome =
    (Fails copy at noted.call × IsReads at sum more made wrong outcome)
    ⊎ (((others : List CopyOf) × Differs copy at sum noted.call × (wrong ≡ copy ∷ others) × IsReads at sum more made others outcome)
    ⊎ ((bytes : List ℕ) × Serves copy at sum bytes noted.call × (made ≡ []) × (wrong ≡ []) × (outcome ≡ Some bytes)))

next_on : (at : ℕ) (sum : List ℕ) (copy : CopyOf) (noted : Noted) (more : List CopyOf) (made : List Noted) (wrong : List CopyOf) (outcome : Option (List ℕ))
    → Next at sum copy noted more made wrong outcome → device_of noted.call ≡ copy.dev
next_on at sum copy noted more made wrong outcome (inl (failed, rest)) = ap device_of failed.gives.is
next_on at sum copy noted more made wrong outcome (inr (inl (others, differs, is, rest))) = ap device_of differs.gives.is
next_on at sum copy noted more made wrong outcome (inr (inr (bytes, serves, none, right, is))) = ap device_of serves.gives.is

-- a device that is none of theirs isn't read, and is none of the wrong ones'
pub on_unread : (d at : ℕ) (sum : List ℕ) (copies : List CopyOf) (made : List Noted) (wrong : List CopyOf) (outcome : Option (List ℕ)) → Away d copies
    → IsReads at sum copies made wrong outcome → (calls_on d made ≡ []) × Away d wrong
on_unread d at sum [] made wrong outcome away r = (ap (calls_on d) r.0, subst (Away d) (sym r.1) tt)
on_unread d at sum (copy ∷ copies) [] wrong outcome away r = absurd r
on_unread d at sum (copy ∷ copies) (noted ∷ made) wrong outcome away r =
    by r (λ wrong outcome rest. on_unread d at sum copies made wrong outcome away.1 rest)
  where
    off : calls_on d (noted ∷ made) ≡ calls_on d made
    off = on_other d noted made (λ on. away.0 (sym on ∙ next_on at sum copy noted copies made wrong outcome r))

    by : Next at sum copy noted copies made wrong outcome
        → ((wrong : List CopyOf) (outcome : Option (List ℕ)) → IsReads at sum copies made wrong outcome → (calls_on d made ≡ []) × Away d wrong)
        → (calls_on d (noted ∷ made) ≡ []) × Away d wrong
    by (inl (failed, rest)) more = let m = more wrong outcome rest in (off ∙ m.0, m.1)
    by (inr (inl (others, differs, is, rest))) more = let m = more others outcome rest in (off ∙ m.0, subst (Away d) (sym is) (away.0, m.1))
    by (inr (inr (bytes, serves, none, right, is))) more = (off ∙ ap (calls_on d) none, subst (Away d) (sym right) tt)

pub wrong_own : (at : ℕ) (sum : List ℕ) (copies : List CopyOf) (made : List Noted) (wrong : List CopyOf) (outcome : Option (List ℕ)) → OwnDevices copies
    → IsReads at sum copies made wrong outcome → OwnDevices wrong
wrong_own at sum [] made wrong outcome own r = subst OwnDevices (sym r.1) tt
wrong_own at sum (copy ∷ copies) [] wrong outcome own r = absurd r
wrong_own at sum (copy ∷ copies) (noted ∷ made) wrong outcome own r =
    by r (λ wrong rest. wrong_own at sum copies made wrong outcome own.1 rest)
  where
    by : Next at sum copy noted copies made wrong outcome → ((wrong : List CopyOf) → IsReads at sum copies made wrong outcome → OwnDevices wrong) → OwnDevices wrong
    by (inl (failed, rest)) more = more wrong rest
    by (inr (inl (others, differs, is, rest))) more =
        subst OwnDevices (sym is) ((on_unread copy.dev at sum copies made others outcome own.0 rest).1, more others rest)
    by (inr (inr (bytes, serves, none, right, is))) more = subst OwnDevices (sym right) tt

-- The calls of the whole read on one device, by what the copy there is: none where another was good before it; one that failed;
-- one that gave other bytes, with the rewriting; or the one that was good. Without a good one each copy was read.
pub data OnCopy (at : ℕ) (sum : List ℕ) (outcome : Option (List ℕ)) (mended : List Noted) (copy : CopyOf) (reads : List Call) : Type 0 where
  Untried : (some : is_some outcome ≡ true) (none : reads ≡ []) (still : calls_on copy.dev mended ≡ []) → OnCopy at sum outcome mended copy reads
  Failing : (fault : Fault) (bytes : List ℕ) (one : reads ≡ Read copy.dev at bytes (Some fault) ∷ []) (still : calls_on copy.dev mended ≡ [])
      → OnCopy at sum outcome mended copy reads
  Wrong : (bytes : List ℕ) (other : sha256 bytes ≢ sum) (one : reads ≡ Read copy.dev at bytes None ∷ []) (then : IsMended at outcome mended copy)
      → OnCopy at sum outcome mended copy reads
  Good : (bytes : List ℕ) (same : sha256 bytes ≡ sum) (some : is_some outcome ≡ true) (one : reads ≡ Read copy.dev at bytes None ∷ [])
      (still : calls_on copy.dev mended ≡ []) → OnCopy at sum outcome mended copy reads

-- where a copy's read is made first, those behind it have their own calls still
behind_one : (at : ℕ) (sum : List ℕ) (outcome : Option (List ℕ)) (mended : List Noted) (noted : Noted) (made : List Noted) (copies : List CopyOf)
    → Away (device_of noted.call) copies → AllByRecursion (λ copy. OnCopy at sum outcome mended copy (calls_on copy.dev made)) copies
    → AllByRecursion (λ copy. OnCopy at sum outcome mended copy (calls_on copy.dev (noted ∷ made))) copies
behind_one at sum outcome mended noted made [] away all = tt
behind_one at sum outcome mended noted made (copy ∷ copies) away all =
    (subst (OnCopy at sum outcome mended copy) (sym (on_other copy.dev noted made away.0)) all.0, behind_one at sum outcome mended noted made copies away.1 all.1)

all_untried : (at : ℕ) (sum : List ℕ) (outcome : Option (List ℕ)) (mended made : List Noted) (copies : List CopyOf) → is_some outcome ≡ true → made ≡ []
    → AllByRecursion (λ copy. calls_on copy.dev mended ≡ []) copies → AllByRecursion (λ copy. OnCopy at sum outcome mended copy (calls_on copy.dev made)) copies
all_untried at sum outcome mended made [] some none still = tt
all_untried at sum outcome mended made (copy ∷ copies) some none still =
    (Untried some (ap (calls_on copy.dev) none) still.0, all_untried at sum outcome mended made copies some none still.1)

-- on the devices of copies that aren't wrong nothing is rewritten
abbrev pub AreStill : List Noted → List CopyOf → List CopyOf → Type 0
AreStill mended wrong copies = AllByRecursion (λ copy. Away copy.dev wrong → calls_on copy.dev mended ≡ []) copies

still_others : (mended : List Noted) (first : CopyOf) (others copies : List CopyOf) → Away first.dev copies → AreStill mended (first ∷ others) copies
    → AreStill mended others copies
still_others mended first others [] away still = tt
still_others mended first others (copy ∷ copies) away still =
    ((λ off. still.0 ((λ e. away.0 (sym e)), off)), still_others mended first others copies away.1 still.1)

still_all : (mended : List Noted) (wrong copies : List CopyOf) → wrong ≡ [] → AreStill mended wrong copies
    → AllByRecursion (λ copy. calls_on copy.dev mended ≡ []) copies
still_all mended wrong [] none still = tt
still_all mended wrong (copy ∷ copies) none still = (still.0 (subst (Away copy.dev) (sym none) tt), still_all mended wrong copies none still.1)

-- So each copy that is tried has its calls.
pub all_on : (at : ℕ) (sum : List ℕ) (copies : List CopyOf) (made : List Noted) (wrong : List CopyOf) (outcome : Option (List ℕ)) (mended : List Noted)
    → OwnDevices copies → IsReads at sum copies made wrong outcome → AllByRecursion (IsMended at outcome mended) wrong → AreStill mended wrong copies
    → AllByRecursion (λ copy. OnCopy at sum outcome mended copy (calls_on copy.dev made)) copies
all_on at sum [] made wrong outcome mended own r then still = tt
all_on at sum (copy ∷ copies) [] wrong outcome mended own r then still = absurd r
all_on at sum (copy ∷ copies) (noted ∷ made) wrong outcome mended own r then still =
    by r (λ wrong rest then still. all_on at sum copies made wrong outcome mended own.1 rest then still)
  where
    on : device_of noted.call ≡ copy.dev
    on = next_on at sum copy noted copies made wrong outcome r

    first : (wrong' : List CopyOf) (outcome' : Option (List ℕ)) → IsReads at sum copies made wrong' outcome' → calls_on copy.dev (noted ∷ made) ≡ noted.call ∷ []
    first wrong' outcome' rest = on_here copy.dev noted made on ∙ ap (λ l. noted.call ∷ l) (on_unread copy.dev at sum copies made wrong' outcome' own.0 rest).0

    later : AllByRecursion (λ copy. OnCopy at sum outcome mended copy (calls_on copy.dev made)) copies
        → AllByRecursion (λ copy. OnCopy at sum outcome mended copy (calls_on copy.dev (noted ∷ made))) copies
    later all = behind_one at sum outcome mended noted made copies (subst (λ d. Away d copies) (sym on) own.0) all

    by : Next at sum copy noted copies made wrong outcome
        → ((wrong : List CopyOf) → IsReads at sum copies made wrong outcome → AllByRecursion (IsMended at outcome mended) wrong → AreStill mended wrong copies
        → AllByRecursion (λ copy. OnCopy at sum outcome mended copy (calls_on copy.dev made)) copies)
        → AllByRecursion (λ copy. OnCopy at sum outcome mended copy (calls_on copy.dev (noted ∷ made))) (copy ∷ copies)
    by (inl (failed, rest)) more = (
      Failing failed.fault failed.bytes (first wrong outcome rest ∙ ap (λ c. c ∷ []) failed.gives.is)
          (still.0 (on_unread copy.dev at sum copies made wrong outcome own.0 rest).1),
      later (more wrong rest then still.1),
    )
    by (inr (inl (others, differs, is, rest))) more =
        let mine = subst (AllByRecursion (IsMended at outcome mended)) is then in (
          Wrong differs.bytes differs.other (first others outcome rest ∙ ap (λ c. c ∷ []) differs.gives.is) mine.0,
          later (more others rest mine.1 (still_others mended copy others copies own.0 (subst (λ w. AreStill mended w copies) is still.1))),
        )
    by (inr (inr (bytes, serves, none, right, is))) more = (
      Good bytes serves.same (ap is_some is) (on_here copy.dev noted made on ∙ ap₂ (λ a b. a ∷ b) serves.gives.is (ap (calls_on copy.dev) none))
          (still.0 (subst (Away copy.dev) (sym right) tt)),
      later (all_untried at sum outcome mended made copies (ap is_some is) none (still_all mended wrong copies right still.1)),
    )

pub all_still : (at : ℕ) (outcome : Option (List ℕ)) (wrong : List CopyOf) (mended : List Noted) (copies : List CopyOf) → IsHealed at outcome wrong mended
    → AreStill mended wrong copies
all_still at outcome wrong mended [] healed = tt
all_still at outcome wrong mended (copy ∷ copies) healed =
    ((λ off. away_mended copy.dev at outcome wrong mended off healed), all_still at outcome wrong mended copies healed)
