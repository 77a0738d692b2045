-- Copies that are tried, one after another.
use Rattle.std.proofs.Common.{true≢false, ◌≡◌, ℕ, ◌+◌, ◌<◌, Bool, true, false, List, [], ◌∷◌, ◌++◌, length, take, drop, get_or, set, Option, Some, None, Result, Ok, Err, is_err, refl, sym, ap, ◌∙◌, subst, inl, inr, arith}
use Rattle.std.specs.List.{filter}
use Rattle.std.proofs.lemmas.List.{take_more, take-append-drop}
use Rattle.std.proofs.lemmas.List.Elements.{filter-append}
use Rattle.bank_core.specs.declared.bank.Fault.{Fault}
use Rattle.bank_core.specs.BankView.{BankView}
use Rattle.bank_core.specs.Calls.{Called}
use Rattle.bank_core.specs.Disk.{Read}
use Rattle.bank_core.specs.Story.{fault_in}
use Rattle.mirror_io.specs.declared.copies.CopyOf.{CopyOf}
use Rattle.mirror_io.specs.declared.copies.CopySeen.{CopySeen}
use Rattle.mirror_io.specs.declared.copies.CopySeen.TheVariants as seen
use Rattle.mirror_io.specs.Copies.{is_due, AreApart}
use Rattle.mirror_io.specs.Reads.{AreTried}
use Rattle.mirror_io.specs.Reading.{ReadsCopy, TriesCopy, Tries, IsShown, Tells, outcome_of}
use Rattle.mirror_io.specs.Seen.{sees, is_good}
use Rattle.bank_core.proofs.Framing.{makes_none, makes_more, makes_one}
use Rattle.mirror_io.proofs.Reading.{tried_more, tried_stop, told_first, told_behind, is_test, is_not_test}
use Rattle.mirror_io.proofs.Showing.{shows_none, shows_more, shows_at, not_readable, same_device}

-- One copy: what its read shows of it.
pub copy_read : {Good : List ℕ → Type 0} {dev at : ℕ} {bytes : List ℕ} {shown : CopySeen} {fault : Option Fault} {old new : BankView} → length bytes ≡ 4096
    → IsShown Good bytes fault shown → Called (Read dev at bytes fault) old new → ReadsCopy Good dev at bytes shown old new
copy_read {Good} {dev} {at} {bytes} {shown} {fault} {old} {new} whole is called =
    let one = makes_one called in
    record { fault = fault; damage = one.damage; bank = one.makes; whole = whole; is = is }

pub failed_copy : (Good : List ℕ → Type 0) (r : Result (Unit {0}) Fault) (bytes : List ℕ) → is_err r ≡ true → IsShown Good bytes (fault_in r) seen.Failed
failed_copy Good (Ok done) bytes e = absurd (cc)
failed_copy Good (Err fault) bytes e = refl

pub other_copy : (Good : List ℕ → Type 0) (r : Result (Unit {0}) Fault) (bytes : List ℕ) → is_err r ≡ false → (Good bytes → ⊥)
    → IsShown Good bytes (fault_in r) seen.Mismatch
other_copy Good (Ok done) bytes e other = inr (other, refl)
other_copy Good (Err fault) bytes e other = absurd (cc)

pub good_copy : (Good : List ℕ → Type 0) (r : Result (Unit {0}) Fault) (bytes : List ℕ) → is_err r ≡ false → Good bytes
    → IsShown Good bytes (fault_in r) seen.Good
good_copy Good (Ok done) bytes e good = inl (good, refl)
good_copy Good (Err fault) bytes e good = absurd (cc)

-- A copy that was read, as the one of a list.
wrong_of : CopyOf → CopySeen → List CopyOf
wrong_of copy seen.Mismatch = copy ∷ []
wrong_of copy seen.NotTried = []
wrong_of copy seen.NotReadable = []
wrong_of copy seen.Failed = []
wrong_of copy seen.Good = []
wrong_of copy seen.Healed = []

read_one : (copy : CopyOf) (at : ℕ) (Good : List ℕ → Type 0) (bytes : List ℕ) (fault : Option Fault) (damage : ℕ → ℕ → Bool) (shown : CopySeen)
    → length bytes ≡ 4096 → IsShown Good bytes fault shown
    → AreTried at Good (copy ∷ []) (record { call = Read copy.dev at bytes fault; damage = damage } ∷ []) (wrong_of copy shown) (outcome_of (is_good shown) bytes)
unfolding wrong_of
read_one copy at Good bytes (Some fault) damage shown whole is =
    rw is (inl (record { fault = fault; bytes = bytes; gives = record { whole = whole; is = refl } }, (refl, refl, refl)))
read_one copy at Good bytes None damage shown whole (inl (good, is)) =
    rw is (inr (inr (bytes, record { gives = record { whole = whole; is = refl }; is = good }, refl, refl, refl)))
read_one copy at Good bytes None damage shown whole (inr (other, is)) =
    rw is (inr (inl ([], bytes, record { gives = record { whole = whole; is = refl }; is = other }, refl, (refl, refl, refl))))

-- each test that tells which bytes are good shows the same
shown_sees : (test : List ℕ → Bool) (Good : List ℕ → Type 0) (dev at : ℕ) (bytes : List ℕ) (fault : Option Fault) (known shown : CopySeen)
    → Tells test Good (Read dev at bytes fault) → IsShown Good bytes fault shown → shown ≡ sees test known (Read dev at bytes fault)
shown_sees test Good dev at bytes (Some fault) known shown tells is = is
shown_sees test Good dev at bytes None known shown tells (inl (good, is)) = is ∙ rw (is_test test Good bytes tells good) refl
shown_sees test Good dev at bytes None known shown tells (inr (other, is)) = is ∙ rw (is_not_test test Good bytes tells other) refl

pub not_due : {Good : List ℕ → Type 0} {copy : CopyOf} {owing : Bool} {at : ℕ} {known : CopySeen} {bank : BankView} → is_due owing copy ≡ false
    → TriesCopy Good copy owing at None known known bank bank
not_due {Good} {copy} {owing} {at} {known} {bank} e = record {
  made = [];
  wrong = [];
  bank = makes_none;
  is_tried = rw e (refl, refl, refl);
  shown = λ test told. refl;
  on = tt;
  idle = λ _. refl;
}

pub due : {Good : List ℕ → Type 0} {copy : CopyOf} {owing : Bool} {at : ℕ} {bytes : List ℕ} {known shown : CopySeen} {old new : BankView} (good : Bool)
    → is_due owing copy ≡ true → good ≡ is_good shown → ReadsCopy Good copy.dev at bytes shown old new
    → TriesCopy Good copy owing at (outcome_of good bytes) known shown old new
due {Good} {copy} {owing} {at} {bytes} {known} {shown} {old} {new} good e is r = record {
  made = record { call = Read copy.dev at bytes r.fault; damage = r.damage } ∷ [];
  wrong = wrong_of copy shown;
  bank = r.bank;
  is_tried = rw (e, is) (read_one copy at Good bytes r.fault r.damage shown r.whole r.is);
  shown = λ test told. rw (same_device copy.dev) (shown_sees test Good copy.dev at bytes r.fault known shown told.0 r.is);
  on = (refl, tt);
  idle = λ not. absurd (true≢false (sym e ∙ not));
}

-- Some of the copies, and then more.
pub tries_none : {Good : List ℕ → Type 0} {copies : List CopyOf} {at : ℕ} {known : List CopySeen} {bank : BankView}
    → Tries Good copies at [] None known known bank bank
tries_none {Good} {copies} {at} {known} {bank} = record {
  made = [];
  wrong = [];
  bank = makes_none;
  is_tried = (refl, refl, refl);
  shown = λ test told. shows_none test copies known;
}

pub tries_more : {Good : List ℕ → Type 0} {copies : List CopyOf} {at : ℕ} {first second : List CopyOf} {outcome : Option (List ℕ)} {a b c : List CopySeen}
    {old mid new : BankView}
    → Tries Good copies at first None a b old mid → Tries Good copies at second outcome b c mid new → Tries Good copies at (first ++ second) outcome a c old new
tries_more {Good} {copies} {at} {first} {second} {outcome} {a} {b} {c} one other = record {
  made = one.made ++ other.made;
  wrong = one.wrong ++ other.wrong;
  bank = makes_more one.bank other.bank;
  is_tried = tried_more at Good first second one.made other.made one.wrong other.wrong outcome one.is_tried other.is_tried;
  shown = λ test told. shows_more test copies one.made other.made a b c (one.shown test (told_first test Good one.made other.made told))
      (other.shown test (told_behind test Good one.made other.made told));
}

pub tries_stop : {Good : List ℕ → Type 0} {copies : List CopyOf} {at : ℕ} {first : List CopyOf} (second : List CopyOf) {bytes : List ℕ} {a b : List CopySeen}
    {old new : BankView}
    → Tries Good copies at first (Some bytes) a b old new → Tries Good copies at (first ++ second) (Some bytes) a b old new
tries_stop {Good} {copies} {at} {first} second {bytes} one = record {
  made = one.made;
  wrong = one.wrong;
  bank = one.bank;
  is_tried = tried_stop at Good first second one.made one.wrong bytes one.is_tried;
  shown = one.shown;
}

-- the copy at one place
pub tries_at : {Good : List ℕ → Type 0} {copies : List CopyOf} {owing : Bool} {at : ℕ} {outcome : Option (List ℕ)} {known : List CopySeen} {old new : BankView}
    (i : ℕ) (d : CopyOf) (e s : CopySeen) → i < length copies → i < length known → AreApart copies
    → TriesCopy Good (get_or copies i d) owing at outcome (get_or known i e) s old new
    → Tries Good copies at (filter (is_due owing) (get_or copies i d ∷ [])) outcome known (set known i s) old new
tries_at {Good} {copies} {owing} {at} {outcome} {known} i d e s lt within apart t = record {
  made = t.made;
  wrong = t.wrong;
  bank = t.bank;
  is_tried = t.is_tried;
  shown = λ test told. shows_at test copies known t.made i d e s lt apart t.on (λ not. t.idle (not_readable owing (get_or copies i d) not))
      (t.shown test told) within;
}

-- the first copies, and the next one
pub tries_next : {Good : List ℕ → Type 0} {copies : List CopyOf} {owing : Bool} {at : ℕ} {outcome : Option (List ℕ)} {first known : List CopySeen}
    {old mid new : BankView}
    (i : ℕ) (d : CopyOf) (e s : CopySeen) → i < length copies → length known ≡ length copies → AreApart copies
    → Tries Good copies at (filter (is_due owing) (take i copies)) None first known old mid
    → TriesCopy Good (get_or copies i d) owing at outcome (get_or known i e) s mid new
    → Tries Good copies at (filter (is_due owing) (take (i + 1) copies)) outcome first (set known i s) old new
tries_next {Good} {copies} {owing} i d e s lt paired apart one t =
    rw (take_more copies i d lt, filter-append (is_due owing) (take i copies) (get_or copies i d ∷ []))
    (tries_more one (tries_at i d e s lt (omega arith) apart t))

-- the copies behind a good one
pub tries_behind : {Good : List ℕ → Type 0} {copies : List CopyOf} (owing : Bool) {at : ℕ} {bytes : List ℕ} {first known : List CopySeen} {old new : BankView}
    (i : ℕ) → Tries Good copies at (filter (is_due owing) (take i copies)) (Some bytes) first known old new
    → Tries Good copies at (filter (is_due owing) copies) (Some bytes) first known old new
tries_behind {Good} {copies} owing {at} {bytes} {first} {known} {old} {new} i t =
    subst (λ due. Tries Good copies at due (Some bytes) first known old new)
    (sym (filter-append (is_due owing) (take i copies) (drop i copies)) ∙ ap (filter (is_due owing)) (take-append-drop i copies))
    (tries_stop (filter (is_due owing) (drop i copies)) t)
