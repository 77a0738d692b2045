-- A read of a block, and what is said of each copy.
use Rattle.std.proofs.Common.{true≢false, ◌≡◌, ◌≢◌, ℕ, ◌+◌, ◌<◌, Bool, true, false, Option, List, [], ◌∷◌, ◌++◌, map, length, take, get_or, set, Contains, Some, None, refl, sym, ap, ◌∙◌, subst, arith, append-nil}
use Rattle.std.specs.List.{AllZip, filter}
use Rattle.std.proofs.lemmas.List.{take_more, take_more_set, map-append}
use Rattle.mp_base.specs.Outside.{Rose}
use Rattle.bank_core.specs.Asks.{asks_of}
use Rattle.bank_core.specs.BankView.{BankView}
use Rattle.bank_core.specs.Calls.{Makes}
use Rattle.bank_core.specs.Disk.{Noted}
use Rattle.bank_core.proofs.Composing.{caused_counts, caused_split}
use Rattle.bank_core.proofs.Framing.{makes_more}
use Rattle.mirror_io.specs.declared.copies.CopyOf.{CopyOf}
use Rattle.mirror_io.specs.declared.copies.CopySeen.{CopySeen}
use Rattle.mirror_io.specs.declared.copies.CopySeen.TheVariants as seen
use Rattle.mirror_io.specs.Causes.{IsCause}
use Rattle.mirror_io.specs.Copies.{tries, AreApart}
use Rattle.mirror_io.specs.Healing.{Heals, is_rewritten}
use Rattle.mirror_io.specs.Mirror.{ReadsGood}
use Rattle.mirror_io.specs.Reading.{Tries, AllTold}
use Rattle.mirror_io.specs.Reads.{rewrites}
use Rattle.mirror_io.specs.Seen.{is_outcome, seen_after, copy_shown, unread}
use Rattle.mirror_io.proofs.Causing.{all_readable, all_by, all_filtered, all_zipped, failed_rose, seen_readable, rose_from}
use Rattle.mirror_io.proofs.Missing.{is_spent, all_spent}
use Rattle.mirror_io.proofs.Rewriting.{seen-unwritten, was_mismatch, all_rose}
use Rattle.mirror_io.proofs.Serving.{some_by, some_good, some_readable, some_contained}
use Rattle.mirror_io.proofs.Showing.{seen-more}
use Rattle.mirror_io.proofs.Telling.{outcome_told}
use Rattle.mirror_io.proofs.Wrong.{Away, wrong_rewritten}

pub cleared_next : (copies : List CopyOf) (known : List CopySeen) (i : ℕ) (d : CopyOf) → i < length copies → length known ≡ length copies
    → take i known ≡ map unread (take i copies) → take (i + 1) (set known i (unread (get_or copies i d))) ≡ map unread (take (i + 1) copies)
cleared_next copies known i d lt paired e =
    take_more_set known i (unread (get_or copies i d)) (omega arith) ∙ ap (λ l. l ++ unread (get_or copies i d) ∷ []) e
    ∙ sym (map-append unread (take i copies) (get_or copies i d ∷ [])) ∙ ap (map unread) (sym (take_more copies i d lt))

-- no copy was good
pub none_read : {Good : List ℕ → Type 0} {copies : List CopyOf} {at : ℕ} {known shown : List CopySeen} {old new : BankView} → known ≡ map unread copies
    → Tries Good copies at (tries copies) None known shown old new → ReadsGood Good copies at shown None old new
none_read {Good} {copies} {at} {known} {shown} {old} {new} clear t = record {
  reads = t.made;
  rewrites = [];
  wrong = t.wrong;
  bank = subst (λ made. Makes made old new) (sym (append-nil t.made)) t.bank;
  is_tried = t.is_tried;
  is_healed = refl;
  shown = t.shown (is_outcome None) (outcome_told at Good (tries copies) t.made t.wrong None t.is_tried) [] clear
      ∙ ap (λ made. map (copy_shown (is_outcome None) made) copies) (sym (append-nil t.made));
}

-- one was
pub one_read : {Good : List ℕ → Type 0} {copies : List CopyOf} {at : ℕ} {bytes : List ℕ} {known known' shown : List CopySeen} {old mid new : BankView}
    → AreApart copies → known ≡ map unread copies
    → Tries Good copies at (tries copies) (Some bytes) known known' old mid → Heals copies copies at bytes known' shown mid new
    → ReadsGood Good copies at shown (Some bytes) old new
one_read {Good} {copies} {at} {bytes} {known} {known'} {shown} {old} {mid} {new} apart clear t h = record {
  reads = t.made;
  rewrites = h.made;
  wrong = t.wrong;
  bank = makes_more t.bank h.bank;
  is_tried = t.is_tried;
  is_healed = h.asks test t.made after
      ∙ ap (rewrites at bytes) (sym (wrong_rewritten at test Good copies t.made t.wrong (Some bytes) apart told t.is_tried));
  shown = h.shown test t.made after;
}
  where
    test : List ℕ → Bool
    test = is_outcome (Some bytes)

    told : AllTold test Good t.made
    told = outcome_told at Good (tries copies) t.made t.wrong (Some bytes) t.is_tried

    after : known' ≡ map (copy_shown test t.made) copies
    after = t.shown test told [] clear

-- what was read, and which bytes were good, is told by the outcome
reads_told : {Good : List ℕ → Type 0} {copies : List CopyOf} {at : ℕ} {shown : List CopySeen} {outcome : Option (List ℕ)} {old new : BankView}
    → (r : ReadsGood Good copies at shown outcome old new) → AllTold (is_outcome outcome) Good r.reads
reads_told {Good} {copies} {at} {outcome = outcome} r = outcome_told at Good (tries copies) r.reads r.wrong outcome r.is_tried

-- the copies that were rewritten, in tree order
healed_are : {Good : List ℕ → Type 0} {copies : List CopyOf} {at : ℕ} {bytes : List ℕ} {shown : List CopySeen} {old new : BankView} → AreApart copies
    → (r : ReadsGood Good copies at shown (Some bytes) old new)
    → asks_of r.rewrites ≡ rewrites at bytes (filter (λ copy. is_rewritten (copy_shown (is_outcome (Some bytes)) r.reads copy) copy) copies)
healed_are {Good} {copies} {at} {bytes} apart r =
    r.is_healed ∙ ap (rewrites at bytes)
    (wrong_rewritten at (is_outcome (Some bytes)) Good copies r.reads r.wrong (Some bytes) apart (reads_told r) r.is_tried)

good_stays : (test : List ℕ → Bool) (made : List Noted) (copy : CopyOf) → seen_after test copy.dev seen.NotTried made ≡ seen.Good
    → is_rewritten (copy_shown test made copy) copy ≡ false
good_stays test made copy good = go copy.readable copy.lacks refl refl
  where
    go : (r l : Bool) → copy.readable ≡ r → copy.lacks ≡ l → is_rewritten (copy_shown test made copy) copy ≡ false
    go false l is is' = rw is refl
    go true true is is' = rw (is, is') refl
    go true false is is' = rw (is, is', good) refl

-- a good copy isn't rewritten, and its device is none of those that are
good_away : (test : List ℕ → Bool) (dev : ℕ) (made : List Noted) (copies : List CopyOf) → ((s : CopySeen) → seen_after test dev s made ≡ seen.Good)
    → Away dev (filter (λ copy. is_rewritten (copy_shown test made copy) copy) copies)
good_away test dev made [] good = tt
good_away test dev made (copy ∷ copies) good = go (is_rewritten (copy_shown test made copy) copy) refl (good_away test dev made copies good)
  where
    not_healed : dev ≡ copy.dev → is_rewritten (copy_shown test made copy) copy ≡ false
    not_healed same = good_stays test made copy (subst (λ d. seen_after test d seen.NotTried made ≡ seen.Good) same (good seen.NotTried))

    go : (t : Bool) → is_rewritten (copy_shown test made copy) copy ≡ t → Away dev (filter (λ copy. is_rewritten (copy_shown test made copy) copy) copies)
        → Away dev (filter (λ copy. is_rewritten (copy_shown test made copy) copy) (copy ∷ copies))
    go true is rest = rw is ((λ same. true≢false (sym is ∙ not_healed same)), rest)
    go false is rest = rw is rest

seen_both : (test : List ℕ → Bool) (copy : CopyOf) (reads writes : List Noted) → copy.readable ≡ true
    → copy_shown test (reads ++ writes) copy ≡ seen_after test copy.dev (seen_after test copy.dev seen.NotTried reads) writes
seen_both test copy reads writes is = rw is (seen-more test copy.dev reads writes seen.NotTried)

pub one_good : {Good : List ℕ → Type 0} {copies : List CopyOf} {at : ℕ} {bytes : List ℕ} {shown : List CopySeen} {old new : BankView} → AreApart copies
    → ReadsGood Good copies at shown (Some bytes) old new → Contains shown seen.Good
one_good {Good} {copies} {at} {bytes} apart r =
    subst (λ l. Contains l seen.Good) (sym r.shown)
    (some_contained (copy_shown test (r.reads ++ r.rewrites)) seen.Good copies
    (some_by (λ x. (x.readable ≡ true) × ((s : CopySeen) → seen_after test x.dev s r.reads ≡ seen.Good)) (λ x. copy_shown test (r.reads ++ r.rewrites) x ≡ seen.Good) copies
    (λ x p. seen_both test x r.reads r.rewrites p.0
    ∙ seen-unwritten test x.dev at bytes (filter (λ copy. is_rewritten (copy_shown test r.reads copy) copy) copies) r.rewrites _ (healed_are apart r)
    (good_away test x.dev r.reads copies p.1) ∙ p.1 seen.NotTried)
    (some_readable (λ x. (s : CopySeen) → seen_after test x.dev s r.reads ≡ seen.Good) copies
    (some_good test at Good (tries copies) r.reads r.wrong bytes (reads_told r) r.is_tried))))
  where
    test : List ℕ → Bool
    test = is_outcome (Some bytes)

-- What is known of one copy gives its cause.
record Known (served : Bool) (f g : ℕ → ℕ) (copy : CopyOf) (s : CopySeen) : Type 0 where
  readable : s ≢ seen.NotReadable
  failed : s ≡ seen.Failed → Rose (f copy.dev) (g copy.dev)
  spent : served ≡ false → is_spent s ≡ true
  unhealed : s ≡ seen.Mismatch → served ≡ true → copy.lacks ≡ false → Rose (f copy.dev) (g copy.dev)

served_unless : (served : Bool) (s : CopySeen) → (served ≡ false → is_spent s ≡ true) → is_spent s ≡ false → served ≡ true
served_unless true s spent not = refl
served_unless false s spent not = absurd (true≢false (sym (spent refl) ∙ not))

cause_known : (served : Bool) (f g : ℕ → ℕ) (copy : CopyOf) (s : CopySeen) → copy.readable ≡ true → Known served f g copy s → IsCause served f g copy s
cause_known served f g copy seen.NotReadable is k = absurd (k.readable refl)
cause_known served f g copy seen.NotTried is k = (is, served_unless served seen.NotTried k.spent refl)
cause_known served f g copy seen.Failed is k = (is, k.failed refl)
cause_known served f g copy seen.Mismatch is k = (is, k.unhealed refl)
cause_known served f g copy seen.Good is k = (is, served_unless served seen.Good k.spent refl)
cause_known served f g copy seen.Healed is k = (is, served_unless served seen.Healed k.spent refl)

seen_read : (test : List ℕ → Bool) (made : List Noted) (copy : CopyOf) → copy.readable ≡ true → copy_shown test made copy ≡ seen_after test copy.dev seen.NotTried made
seen_read test made copy is = rw is refl

seen_unreadable : (test : List ℕ → Bool) (made : List Noted) (copy : CopyOf) → copy.readable ≡ false → copy_shown test made copy ≡ seen.NotReadable
seen_unreadable test made copy is = rw is refl

cause_seen : (served : Bool) (f g : ℕ → ℕ) (test : List ℕ → Bool) (made : List Noted) (copy : CopyOf)
    → (copy.readable ≡ true → Known served f g copy (seen_after test copy.dev seen.NotTried made)) → IsCause served f g copy (copy_shown test made copy)
cause_seen served f g test made copy k = go copy.readable refl
  where
    go : (t : Bool) → copy.readable ≡ t → IsCause served f g copy (copy_shown test made copy)
    go false is = subst (IsCause served f g copy) (sym (seen_unreadable test made copy is)) is
    go true is = subst (IsCause served f g copy) (sym (seen_read test made copy is)) (cause_known served f g copy (seen_after test copy.dev seen.NotTried made) is (k is))

pub missed_causes : {Good : List ℕ → Type 0} {copies : List CopyOf} {at : ℕ} {shown : List CopySeen} {old new : BankView} → ReadsGood Good copies at shown None old new
    → AllZip (IsCause false old.faults new.faults) copies shown
missed_causes {Good} {copies} {at} {old = old} {new = new} r =
    let test : List ℕ → Bool = is_outcome None in
    let made = r.reads ++ r.rewrites in
    let just : made ≡ r.reads = ap (λ l. r.reads ++ l) r.is_healed ∙ append-nil r.reads in
    subst (λ l. AllZip (IsCause false old.faults new.faults) copies l) (sym r.shown)
    (all_zipped (IsCause false old.faults new.faults) (copy_shown test made) copies
    (all_by (λ x. x.readable ≡ true → (s : CopySeen) → is_spent (seen_after test x.dev s r.reads) ≡ true) (λ x. IsCause false old.faults new.faults x (copy_shown test made x)) copies
    (λ x spent. cause_seen false old.faults new.faults test made x (λ is. record {
      readable = seen_readable test x.dev made seen.NotTried (λ e. cc);
      failed = failed_rose test x.dev (old.faults x.dev) made seen.NotTried old.faults new.faults (omega arith) r.bank.calls.caused (λ e. absurd (cc));
      spent = λ _. subst (λ m. is_spent (seen_after test x.dev seen.NotTried m) ≡ true) (sym just) (spent is seen.NotTried);
      unhealed = λ _ e. absurd (true≢false (sym e));
    }))
    (all_readable (λ x. (s : CopySeen) → is_spent (seen_after test x.dev s r.reads) ≡ true) copies (all_spent test at Good (tries copies) r.reads r.wrong (reads_told r) r.is_tried))))

due_first : (copy : CopyOf) (s : CopySeen) → copy.readable ≡ true → copy.lacks ≡ false → s ≡ seen.Mismatch → is_rewritten s copy ≡ true
due_first copy s is has mismatch = rw (is, has, mismatch) refl

pub served_causes : {Good : List ℕ → Type 0} {copies : List CopyOf} {at : ℕ} {bytes : List ℕ} {shown : List CopySeen} {old new : BankView} → AreApart copies → ReadsGood Good copies at shown (Some bytes) old new
    → AllZip (IsCause true old.faults new.faults) copies shown
served_causes {Good} {copies} {at} {bytes} {old = old} {new = new} apart r =
    let test : List ℕ → Bool = is_outcome (Some bytes) in
    let made = r.reads ++ r.rewrites in
    let q : CopyOf → Bool = λ copy. is_rewritten (copy_shown test r.reads copy) copy in
    let split = caused_split r.reads r.rewrites old.faults new.faults r.bank.calls.caused in
    let between = split.0 in
    let P : CopyOf → Type 0 = λ x. (s : CopySeen) → seen_after test x.dev s r.rewrites ≡ seen.Mismatch → Rose (between x.dev) (new.faults x.dev) in
    subst (λ l. AllZip (IsCause true old.faults new.faults) copies l) (sym r.shown)
    (all_zipped (IsCause true old.faults new.faults) (copy_shown test made) copies
    (all_by (λ x. q x ≡ true → P x) (λ x. IsCause true old.faults new.faults x (copy_shown test made x)) copies
    (λ x rose. cause_seen true old.faults new.faults test made x (λ is. record {
      readable = seen_readable test x.dev made seen.NotTried (λ e. cc);
      failed = failed_rose test x.dev (old.faults x.dev) made seen.NotTried old.faults new.faults (omega arith) r.bank.calls.caused (λ e. absurd (cc));
      spent = λ e. absurd (true≢false e);
      unhealed = λ mismatch _ has.
          let late : seen_after test x.dev (seen_after test x.dev seen.NotTried r.reads) r.rewrites ≡ seen.Mismatch = sym (seen-more test x.dev r.reads r.rewrites seen.NotTried) ∙ mismatch in
          let early = was_mismatch test x.dev at bytes (filter q copies) r.rewrites (seen_after test x.dev seen.NotTried r.reads) (healed_are apart r) late in
          let known : copy_shown test r.reads x ≡ seen.Mismatch = rw is early in
          rose_from (old.faults x.dev) (between x.dev) (new.faults x.dev) (new.faults x.dev) (caused_counts r.reads old.faults between split.1 x.dev)
          (rose (due_first x (copy_shown test r.reads x) is has known) (seen_after test x.dev seen.NotTried r.reads) late) (omega arith);
    }))
    (all_filtered P q copies (all_rose test at bytes (filter q copies) r.rewrites between new.faults (healed_are apart r) split.2))))
